use Rattle.std.proofs.Common.{◌≡◌, ◌↔◌, ℕ, Option, Some, None, IsTrue, MatchOption, is_some, refl}
use Rattle.std.specs.Prelude.{slice_get, List}
use Rattle.lvish_calculus.specs.Handing.{IsAmong}
use Rattle.lvish_board.specs.Seated.{indices_of}
use Rattle.lvish_board.proofs.Seating.{index_among, stands_among}
use Rattle.lvish_board.proofs.by_index.ByIndex.has.Goals as goal

has_of : {V : Type 0} (i : ℕ) (es : List (ℕ × V)) (o : Option ℕ) → MatchOption o (IsAmong i (indices_of es) → ⊥) (λ k. (v : V) × (slice_get es k ≡ Some (i, v))) → IsTrue (is_some o) ↔ IsAmong i (indices_of es)
has_of i es None none = (λ z. absurd (cc z), λ a. absurd (none a))
has_of i es (Some k) there = (λ z. index_among (i, there.0) es (stands_among es k (i, there.0) there.1), λ a. refl)

pub returns : goal.returns
returns g c = rw c.is_some.ensures (has_of c.args.index c.args.self.now c.find.result c.find.ensures)
