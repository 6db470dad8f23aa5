-- A core's steps by the labels of a trace.
use Rattle.std.specs.Prelude.{◌≡◌, ◌⊎◌, ◌&&◌, ℕ, Bool, false, List, [], ◌++◌, length, Some, slice_get}
use Rattle.std.specs.declared.cmp.Ordering.{Ordering}
use Rattle.lvish_calculus.specs.declared.label.Label.{Label}
use Rattle.lvish_calculus.specs.declared.label.Label.TheVariants.{Act, Hand}
use Rattle.lvish_names.specs.Names.{same_name, same_handler}
use Rattle.lvish_calculus.specs.Machine.{Machine}
use Rattle.lvish_calculus.specs.Calculus.{Running, start}
use Rattle.lvish_core.specs.declared.fault.Stepped.{Stepped}
use Rattle.lvish_core.specs.declared.limits.TheConstants.{MOST_PROGRAM_STEPS}
use Rattle.lvish_core.specs.Core.{CoreView, CanTake, IsRunTo, IsStep}
use Rattle.lvish_core.specs.Labels.{AreLabels}
use Rattle.lvish_run.specs.Picked.{IsPicked}

-- the test of labels, over one of events
abbrev pub same_label : {E : Type 0} → (E → E → Bool) → Label E → Label E → Bool
same_label eq (Act t) (Act u) = same_name eq t u
same_label eq (Act t) (Hand k f) = false
same_label eq (Hand h e) (Act u) = false
same_label eq (Hand h e) (Hand k f) = same_handler eq h k && eq e f

module _ {P S E R A L : Type 0} (M : Machine S E R A L) where
  -- the core can't take the label, or has made as many steps as a core makes at most
  abbrev pub CantGo : CoreView P S E L → Label E → Type 0
  CantGo c l = (CanTake M c l → ⊥) ⊎ (c.steps ≡ MOST_PROGRAM_STEPS)

-- one step with the label, which has this place among those that the core can take
pub record IsPickedStep {P S E R A L : Type 0} (cmp : E → E → Ordering) (M : Machine S E R A L) (old : CoreView P S E L) (l : Label E) (n : ℕ) (new : CoreView P S E L) : Type 0 where
  pub all : List (Label E)
  pub labels : AreLabels cmp M old all
  pub at : slice_get all n ≡ Some l
  pub said : Stepped
  pub step : IsStep M old l new said

-- the core has made the first steps of the run, and the picks name them
pub record IsWalkedTo {P S E R A L : Type 0} (cmp : E → E → Ordering) (M : Machine S E R A L) (p : P) (all : List (Label E)) (c : CoreView P S E L) (picks : List ℕ) : Type 0 where
  pub taken : List (Label E)
  pub left : List (Label E)
  pub split : all ≡ taken ++ left
  pub program : c.program ≡ p
  pub steps : c.steps ≡ length taken
  pub count : length picks ≡ length taken
  pub leads : IsRunTo M c taken
  pub picked : IsPicked cmp M picks [] (Running (start M)) taken
