use Rattle.std.proofs.Common.{inl, inr, ap}
use Rattle.lvish_board.proofs.Knowing.{less_known}
use Rattle.lvish_board.proofs.newest.Newest.set.Goals as goal

pub returns-clause-set : goal.returns-clause-set
returns-clause-set g c =
    let set = rw c.copy.ensures at c.put_at.ensures in
    rw (← c.self.view_is) (elim c.stamp-stamp.ensures [
      | inl given ↦ rw (ap (λ s. s.value) given.0) at set
      | inr none ↦ less_known _ _ _ _ (rw none.0 at set)
    ])
