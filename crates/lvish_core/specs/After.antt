-- Where tasks stand after a step.
use Rattle.std.specs.Prelude.{◌≡◌, List, Some}
use Rattle.lvish_core.specs.Vocabulary.{Label, Act, Stepped, Made, Moved}
use Rattle.lvish_calculus.specs.Machine.{Machine}
use Rattle.lvish_names.specs.Names.{Name}
use Rattle.lvish_core.specs.Changes.{IsMoved, local_of}
use Rattle.lvish_core.specs.Core.{CoreView, state, IsRunTo, IsStep}

module _ {S E R A L : Type 0} (P : Type 0) (M : Machine S E R A L) where
  -- a task that hasn't ended keeps its local state at every step but its own
  abbrev pub OthersStay : Type 0
  OthersStay = (c d : CoreView P S E L) (xs : List (Label E)) (l : Label E) (said : Stepped) → IsRunTo M c xs → IsStep M c l d said
      → (t : Name E) (at : L) → local_of ((state M c).tasks t) ≡ Some at → (l ≡ Act t → ⊥) → local_of ((state M d).tasks t) ≡ Some at

  -- a task that a step makes is in the local state that the step says
  abbrev pub StartsAsSaid : Type 0
  StartsAsSaid = (c d : CoreView P S E L) (l : Label E) (said : Stepped) (moved : Moved E L) → IsStep M c l d said → IsMoved M (state M c) l moved
      → (m : Made E L) → moved.made ≡ Some m → local_of ((state M d).tasks m.name) ≡ Some m.local
