-- What a noted step stands for.
use Rattle.std.specs.Prelude.{◌≡◌, ℕ, Bool, true, false, if◌then◌else◌, refl}
use Rattle.lvish_trace.specs.declared.packed_step.Step.{Step}
use Rattle.lvish_trace.specs.declared.packed_step.Step.TheVariants.{Act as ActStep, Hand as HandStep}

-- a step, and the worker that made it
pub record PackedView : Type 0 where
  pub worker : ℕ
  pub step : Step

-- the index of a step's task
abbrev pub index_of : Step → ℕ
index_of (ActStep i) = i
index_of (HandStep i) = i

-- whether a step is a handing
abbrev pub is_hand : Step → Bool
is_hand (ActStep i) = false
is_hand (HandStep i) = true

-- the step of the task at the index, a handing or an act
abbrev pub step_at : Bool → ℕ → Step
step_at hands i = if hands then HandStep i else ActStep i

-- its index is this one
pub index_back : (hands : Bool) (i : ℕ) → index_of (step_at hands i) ≡ i
index_back true i = refl
index_back false i = refl

-- and it is a handing just where it was made one
pub hand_back : (hands : Bool) (i : ℕ) → is_hand (step_at hands i) ≡ hands
hand_back true i = refl
hand_back false i = refl
