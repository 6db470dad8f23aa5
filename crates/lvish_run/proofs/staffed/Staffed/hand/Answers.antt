use Rattle.std.proofs.Common.{subst, refl}
use Rattle.lvish_run.specs.Crew.{MakesBy}
use Rattle.lvish_run.proofs.Made.{by_hand, still_ours}
use Rattle.lvish_run.proofs.staffed.Staffed.hand.Goals as goal

pub invariant_of-self : goal.invariant_of-self
invariant_of-self g c =
    still_ours g.B.Staff.workers c.number-number.result _ _ c.number-number.ensures.ours
    (by_hand _ _ _ _ _ _ _ _ _ _ (c.hand_into-came.ensures.comes _ refl)) c.self.invariant

pub returns : goal.returns
returns g c =
    subst (λ w. MakesBy w c.args.self.now.trace c.hand_into-came.new.self.trace) c.number-number.ensures.number
    (subst (λ s. MakesBy c.number-number.result s.trace c.hand_into-came.new.self.trace) c.self.view_is
    (by_hand _ _ _ _ _ _ _ _ _ _ (c.hand_into-came.ensures.comes _ refl)))
