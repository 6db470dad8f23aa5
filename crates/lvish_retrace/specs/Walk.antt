-- The walk of a core by the labels of a trace.
use Rattle.std.specs.Prelude.{◌≡◌, ◌≤◌, ◌⊎◌, ℕ, Bool, true, false, List, [], ◌∷◌, ◌++◌, Option, Some, None, length, slice_get}
use Rattle.lvish_calculus.specs.declared.label.Label.{Label}
use Rattle.lvish_calculus.specs.declared.label.Label.TheVariants.{Act, Hand}
use Rattle.lvish_calculus.specs.Machine.{Machine}
use Rattle.lvish_calculus.specs.Calculus.{Task, Configuration, Running, IsRun, start}
use Rattle.lvish_calculus.specs.Handing.{HandsOldestFirst, IsAmong}
use Rattle.lvish_names.specs.Names.{Name, handed}
use Rattle.lvish_variable.specs.declared.entry.Entry.{Entry}
use Rattle.lvish_variable.specs.Variable.{VariableView as Variable}
use Rattle.lvish_core.specs.declared.fault.Stepped.{Stepped}
use Rattle.lvish_core.specs.declared.limits.TheConstants.{MOST_PROGRAM_STEPS}
use Rattle.lvish_core.specs.Core.{CoreView, CanTake, IsRunTo, IsStep}
use Rattle.lvish_core.specs.Tasks.{IsAt}
use Rattle.lvish_retrace.specs.declared.bringer.Bringer.{Bringer}
use Rattle.lvish_retrace.specs.declared.told_step.ToldStep.{ToldStep}
use Rattle.lvish_retrace.specs.Brought.{AreBringers, IsBringer, entry_of}

-- a run of as many steps as a core makes at most, in which each event is handed in the order of its introduction
pub record IsCoreRun {S E R A L : Type 0} (M : Machine S E R A L) (xs : List (Label E)) : Type 0 where
  pub last : Configuration S E L
  pub run : IsRun M (Running (start M)) xs last
  pub core : HandsOldestFirst M xs
  pub within : length xs ≤ MOST_PROGRAM_STEPS

-- the task that acts, or that a handing starts
abbrev pub actor : {E : Type 0} → Label E → Name E
actor (Act t) = t
actor (Hand h e) = handed h.adder h.number e

-- each label has its step, told of the task that acts or begins
pub record AreSteps {E L : Type 0} (tasks : List (Name E × Task L)) (xs : List (Label E)) (steps : List ToldStep) : Type 0 where
  pub count : length steps ≡ length xs
  pub each : (k : ℕ) (s : ToldStep) (l : Label E) → slice_get steps k ≡ Some s → slice_get xs k ≡ Some l → IsAt tasks s.task (actor l)

module _ {P S E R A L : Type 0} (M : Machine S E R A L) where
  -- the core can't take the label, or has made as many steps as a core makes at most
  abbrev pub CantGo : CoreView P S E L → Label E → Type 0
  CantGo c l = (CanTake M c l → ⊥) ⊎ (c.steps ≡ MOST_PROGRAM_STEPS)

  -- the core made a step with the label, and no variable came or went
  pub record IsGrown (old : CoreView P S E L) (l : Label E) (new : CoreView P S E L) (said : Stepped) : Type 0 where
    pub step : IsStep M old l new said
    pub count : length new.table.variables ≡ length old.table.variables

  -- the core made such a step, or can't
  abbrev pub StepsOrStops : CoreView P S E L → Label E → CoreView P S E L → Bool → Type 0
  StepsOrStops old l new true = (said : Stepped) × IsGrown old l new said
  StepsOrStops old l new false = CantGo old l

  -- the puts are those that brought what the new core's logs have more than the old one's, by the step of this number
  pub record IsNoted (old : CoreView P S E L) (new : CoreView P S E L) (number : ℕ) (more : List (Bringer E)) : Type 0 where
    -- no variable came or went
    pub count : length new.table.variables ≡ length old.table.variables
    -- a noted put has an entry behind those that the log had
    pub each : (b : Bringer E) → IsAmong b more → (b.step ≡ number) × ((x y : Variable S E) → slice_get old.table.variables b.variable ≡ Some x → slice_get new.table.variables b.variable ≡ Some y
        → (k : ℕ) × (length x.log ≤ k) × (slice_get y.log k ≡ Some (entry_of b)))
    -- of a variable that is there
    pub there : (b : Bringer E) → IsAmong b more → (x : Variable S E) × (slice_get old.table.variables b.variable ≡ Some x)
    -- and each such entry was noted
    pub all : (v : ℕ) (x y : Variable S E) → slice_get old.table.variables v ≡ Some x → slice_get new.table.variables v ≡ Some y → (k : ℕ) (e : Entry E) → length x.log ≤ k → slice_get y.log k ≡ Some e
        → (b : Bringer E) × IsAmong b more × (b.variable ≡ v) × (b.event ≡ e.event)

  -- one step with the label, and what it brought is noted behind the puts bs, as that of the step of this number
  pub record IsMade (old : CoreView P S E L) (l : Label E) (new : CoreView P S E L) (number : ℕ) (bs bs1 : List (Bringer E)) : Type 0 where
    pub said : Stepped
    pub step : IsStep M old l new said
    pub more : List (Bringer E)
    pub brought : bs1 ≡ bs ++ more
    pub noted : IsNoted old new number more

  -- the step is made and noted, or can't be made
  abbrev pub MakesOrStops : CoreView P S E L → Label E → CoreView P S E L → ℕ → List (Bringer E) → List (Bringer E) → Option Stepped → Type 0
  MakesOrStops old l new number bs bs1 (Some said) = IsMade old l new number bs bs1
  MakesOrStops old l new number bs bs1 None = CantGo old l

  -- the step is made, noted and told
  pub record IsToldStep (old : CoreView P S E L) (l : Label E) (new : CoreView P S E L) (number : ℕ) (bs bs1 : List (Bringer E)) (steps steps1 : List ToldStep) : Type 0 where
    pub made : IsMade old l new number bs bs1
    pub told : ToldStep
    pub one_more : steps1 ≡ steps ++ told ∷ []
    pub at : IsAt new.table.tasks told.task (actor l)

  -- the step is told, or can't be made
  abbrev pub TellsOrStops : CoreView P S E L → Label E → CoreView P S E L → ℕ → List (Bringer E) → List (Bringer E) → List ToldStep → List ToldStep → Bool → Type 0
  TellsOrStops old l new number bs bs1 steps steps1 true = IsToldStep old l new number bs bs1 steps steps1
  TellsOrStops old l new number bs bs1 steps steps1 false = CantGo old l

  -- the core has made the first steps of the labels, they are told, and what they brought is noted
  pub record IsWalkedTo (p : P) (all : List (Label E)) (number : ℕ) (c : CoreView P S E L) (bs : List (Bringer E)) (steps : List ToldStep) : Type 0 where
    pub taken : List (Label E)
    pub left : List (Label E)
    pub split : all ≡ taken ++ left
    pub count : length taken ≡ number
    pub program : c.program ≡ p
    pub steps_made : c.steps ≡ length taken
    pub leads : IsRunTo M c taken
    pub each : (b : Bringer E) → IsAmong b bs → IsBringer M taken b
    pub noted : (v : ℕ) (x : Variable S E) → slice_get c.table.variables v ≡ Some x → (k : ℕ) (e : Entry E) → slice_get x.log k ≡ Some e → (b : Bringer E) × IsAmong b bs × (b.variable ≡ v) × (b.event ≡ e.event)
    pub told : AreSteps c.table.tasks taken steps

  -- the core, of this program, has made all the labels, which are told, and the puts are those that brought the events
  pub record IsTold (p : P) (xs : List (Label E)) (c : CoreView P S E L) (bs : List (Bringer E)) (steps : List ToldStep) : Type 0 where
    pub program : c.program ≡ p
    pub leads : IsRunTo M c xs
    pub brought : AreBringers M c.table.variables xs bs
    pub told : AreSteps c.table.tasks xs steps

  -- all the labels are told, or they are no core run
  abbrev pub TellsAllOrNone : P → List (Label E) → CoreView P S E L → List (Bringer E) → List ToldStep → Bool → Type 0
  TellsAllOrNone p xs c bs steps true = IsTold p xs c bs steps
  TellsAllOrNone p xs c bs steps false = IsCoreRun M xs → ⊥
