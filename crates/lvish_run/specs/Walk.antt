-- A run that a board has made so far by one worker, and its report.
use Rattle.std.specs.Prelude.{◌≡◌, ◌⊎◌, ◌≤◌, ◌%◌, ℕ, Bool, true, false, List, [], ◌∷◌, ◌++◌, map, length, Option, Some, None, IsSome, slice_get}
use Rattle.std.specs.List.{AllByRecursion}
use Rattle.std.specs.declared.cmp.Ordering.{Ordering}
use Rattle.std.specs.declared.cmp.Ordering.TheVariants.{Less}
use Rattle.lvish_calculus.specs.declared.label.Label.{Label}
use Rattle.lvish_calculus.specs.declared.label.Label.TheVariants.{Act, Hand}
use Rattle.lvish_calculus.specs.Machine.{Machine}
use Rattle.lvish_calculus.specs.Calculus.{Running, start}
use Rattle.lvish_names.specs.Names.{Name, Handler}
use Rattle.lvish_calculus.specs.Live.{HasLive}
use Rattle.lvish_variable.specs.Variable.{VariableView as Variable}
use Rattle.lvish_core.specs.Core.{CoreView, state, CanTake, IsNext, IsRunTo}
use Rattle.lvish_core.specs.Labels.{label_cmp, AreLabels}
use Rattle.lvish_trace.specs.declared.trace_entry.TraceEntry.{TraceEntry}
use Rattle.lvish_board.specs.Acts.{entry_of}
use Rattle.lvish_board.specs.declared.work.Work.{Work}
use Rattle.lvish_board.specs.declared.step_work.StepWork.{StepWork}
use Rattle.lvish_board.specs.Listed.{IsListed, work_of}
use Rattle.lvish_board.specs.Stand.{TaskStand}
use Rattle.lvish_trace.specs.Traced.{labels_of}
use Rattle.lvish_board.specs.Board.{Standing}
use Rattle.lvish_board.specs.Woken.{IsParkedBeside}
use Rattle.lvish_report.specs.declared.report.FinalState.{FinalState}
use Rattle.lvish_trace.specs.declared.outcome.Outcome.{Outcome}
use Rattle.lvish_trace.specs.declared.outcome.Outcome.TheVariants.{Ended, Error as ErrorOutcome, Budget}
use Rattle.lvish_run.specs.Honest.{AreFinalStates}
use Rattle.lvish_run.specs.Picked.{IsPicked}
use Rattle.lvish_run.specs.Agenda.{Agenda, open_in, IsBeside}

-- the core can take no label
abbrev pub IsStuck : {P S E R A L : Type 0} → Machine S E R A L → CoreView P S E L → Type 0
IsStuck {P} {S} {E} M c = (l : Label E) → CanTake M c l → ⊥

-- of the labels that the core can take, l is the one whose number is the pick modulo their count
pub record IsDrawn {P S E R A L : Type 0} (cmp : E → E → Ordering) (M : Machine S E R A L) (c : CoreView P S E L) (n : ℕ) (l : Label E) : Type 0 where
  pub all : List (Label E)
  pub labels : AreLabels cmp M c all
  pub chosen : slice_get all (n % length all) ≡ Some l

-- of the labels that the core can take, l is the first
pub record IsFirstEnabled {P S E R A L : Type 0} (cmp : E → E → Ordering) (M : Machine S E R A L) (c : CoreView P S E L) (l : Label E) : Type 0 where
  pub can : CanTake M c l
  pub before : (m : Label E) → CanTake M c m → (m ≡ l) ⊎ (label_cmp cmp l m ≡ Less)

-- l is the label that a pick names, and the first where there is none
abbrev pub IsTaken : {P S E R A L : Type 0} → (E → E → Ordering) → Machine S E R A L → CoreView P S E L → Option ℕ → Label E → Type 0
IsTaken cmp M c (Some n) l = IsDrawn cmp M c n l
IsTaken cmp M c None l = IsFirstEnabled cmp M c l

-- the first worker made a step with this label
abbrev pub IsEntered : {P S E L : Type 0} → Standing P S E L → Label E → Standing P S E L → Type 0
IsEntered old l new = new.trace ≡ old.trace ++ entry_of 0 l ∷ []

-- no step was made
pub record IsIdle {P S E L : Type 0} (old new : Standing P S E L) : Type 0 where
  pub trace : new.trace ≡ old.trace
  pub core : new.core ≡ old.core

-- a step with this label was made, which left this work
pub record IsMade {P' P B S L R A W E Ans : Type 0} (cmp : E → E → Ordering) (M : Machine S E R Ans L) (old : Standing P' S E L) (l : Label E) (new : Standing P' S E L) (ws : List (Work P B S L R A W E)) : Type 0 where
  pub entered : IsEntered old l new
  pub listed : IsListed cmp M old l new ws

-- the task's step wasn't made: the board is over, or the task is blocked and was parked
pub record IsPassed {P S E R A L : Type 0} (M : Machine S E R A L) (old : Standing P S E L) (p : TaskStand E L) (new : Standing P S E L) : Type 0 where
  pub idle : IsIdle old new
  pub why : IsSome new.over ⊎ ((CanTake M old.core (Act p.task) → ⊥) × IsParkedBeside old.parked p new.parked)

-- what a task's request led to: the work that its step left
abbrev pub IsTried : {P' P B S L R A W E Ans : Type 0} → (E → E → Ordering) → Machine S E R Ans L → Standing P' S E L → TaskStand E L → Option (StepWork P B S L R A W E) → Standing P' S E L → Type 0
IsTried cmp M old p (Some ws) new = IsMade cmp M old (Act p.task) new (work_of ws)
IsTried cmp M old p None new = IsPassed M old p new

-- what a handler for which something comes next led to: the work that its handing left, or none, because the board is over
abbrev pub IsTriedHand : {P' P B S L R A W E Ans : Type 0} → (E → E → Ordering) → Machine S E R Ans L → Standing P' S E L → Handler E → Option (StepWork P B S L R A W E) → Standing P' S E L → Type 0
IsTriedHand {E = E} cmp M old h (Some ws) new = (e : E) → IsNext M.event_same old.core.table h e → IsMade cmp M old (Hand h e) new (work_of ws)
IsTriedHand cmp M old h None new = IsIdle old new × IsSome new.over

-- whether the task's step was made: where it wasn't, the board is over, or the task is blocked
abbrev pub IsActed : {P S E R A L : Type 0} → Machine S E R A L → Standing P S E L → Name E → Bool → Standing P S E L → Type 0
IsActed M old t true new = CanTake M old.core (Act t) × IsEntered old (Act t) new
IsActed M old t false new = IsIdle old new × (IsSome new.over ⊎ (CanTake M old.core (Act t) → ⊥))

-- whether the handing was made: where it wasn't, the board is over
abbrev pub IsHandTurn : {P S E L : Type 0} → Standing P S E L → Label E → Bool → Standing P S E L → Type 0
IsHandTurn old l true new = IsEntered old l new
IsHandTurn old l false new = IsIdle old new × IsSome new.over

-- the handler is the first that can be handed something, and no label of a task comes before; the agenda has all that may be done but for it
pub record IsFirstHandler {P S E R A L : Type 0} (cmp : E → E → Ordering) (M : Machine S E R A L) (s : Standing P S E L) (h : Handler E) (a : Agenda E L) : Type 0 where
  pub event : E
  pub next : IsNext M.event_same s.core.table h event
  pub lowest : IsFirstEnabled cmp M s.core (Hand h event)
  pub beside : IsBeside M s None (Some h) (open_in cmp a)

-- one turn: the step that the pick names; or none, because the board is over or no label can be taken
abbrev pub IsTurn : {P S E R A L : Type 0} → (E → E → Ordering) → Machine S E R A L → Option ℕ → Standing P S E L → Bool → Standing P S E L → Type 0
IsTurn {E = E} cmp M pick old true new = (l : Label E) × IsTaken cmp M old.core pick l × IsEntered old l new
IsTurn cmp M pick old false new = IsIdle old new × (IsSome new.over ⊎ IsStuck M old.core)

-- the steps of the trace led a core of the program from the start to c
pub record IsWalk {P S E R A L : Type 0} (cmp : E → E → Ordering) (M : Machine S E R A L) (p : P) (picks : List ℕ) (c : CoreView P S E L) (trace : List (TraceEntry E)) : Type 0 where
  pub program : c.program ≡ p
  pub steps : c.steps ≡ length trace
  pub leads : IsRunTo M c (labels_of trace)
  pub picked : IsPicked cmp M picks [] (Running (start M)) (labels_of trace)
  pub workers : AllByRecursion (λ e. e.worker ≡ 0) trace

-- such steps, until no label can be taken or the budget is used up
pub record IsWalked {P S E R A L : Type 0} (cmp : E → E → Ordering) (M : Machine S E R A L) (p : P) (picks : List ℕ) (budget : ℕ) (c : CoreView P S E L) (trace : List (TraceEntry E)) : Type 0 where
  pub walk : IsWalk cmp M p picks c trace
  pub within : length trace ≤ budget
  pub stopped : (length trace ≡ budget) ⊎ IsStuck M c

-- a variable's state and mark
abbrev pub final_state : {S E : Type 0} → Variable S E → FinalState S
final_state x = record { content = x.state; frozen = x.frozen }

-- the states and marks of these variables
abbrev pub AreStatesOf : {S E : Type 0} → List (Variable S E) → List (FinalState S) → Type 0
AreStatesOf variables states = states ≡ map final_state variables

-- how a core's steps came out: it can take no label, or one; or its last step gave this error
abbrev pub IsHow : {P S E R A L : Type 0} → Machine S E R A L → CoreView P S E L → Outcome E → Type 0
IsHow M c Ended = (c.fault ≡ None) × IsStuck M c
IsHow {E = E} M c Budget = (c.fault ≡ None) × ((l : Label E) × CanTake M c l)
IsHow M c (ErrorOutcome kind v t) = c.fault ≡ Some (record { kind = kind; variable = v; task = t })

-- the states of a core whose steps came out like this and the number of its tasks that haven't ended, none after an error
abbrev pub IsAccount : {P S E R A L : Type 0} → Machine S E R A L → ℕ → CoreView P S E L → Outcome E → List (FinalState S) → ℕ → Type 0
IsAccount M variables c (ErrorOutcome kind v t) states blocked = (states ≡ []) × (blocked ≡ 0)
IsAccount M variables c Ended states blocked = AreFinalStates variables (state M c) states × HasLive (state M c) blocked
IsAccount M variables c Budget states blocked = AreFinalStates variables (state M c) states × HasLive (state M c) blocked
