-- What a handler's step takes and leaves.
use Rattle.std.specs.Prelude.{◌≡◌, Some, None, Result, MatchResult, length, slice_get}
use Rattle.lvish_core.specs.Vocabulary.{MOST_PROGRAM_STEPS, Hand, Stepped, StepFault, NotEnabled, Full, Memory, Moved, HandlerPlace}
use Rattle.lvish_calculus.specs.Machine.{Machine}
use Rattle.lvish_names.specs.Names.{Handler, handed}
use Rattle.lvish_variable.specs.Variable.{VariableView as Variable}
use Rattle.lvish_handlers.specs.Handlers.{HandlersView as Handlers, next_of}
use Rattle.lvish_core.specs.Places.{post_of}
use Rattle.lvish_core.specs.Tasks.{IsAt}
use Rattle.lvish_core.specs.Core.{CoreView, CanTake, state}
use Rattle.lvish_core.specs.Acts.{IsMoving}

-- h was handed the event that came next for it, and the task that handles it stands behind all others
pub record IsHanded {P S E R A L : Type 0} (M : Machine S E R A L) (old : CoreView P S E L) (h : Handler E) (new : CoreView P S E L) (said : Stepped) (moved : Moved E L) : Type 0 where
  pub event : E
  pub moving : IsMoving M old (Hand h event) new said moved
  pub started : IsAt new.table.tasks (length old.table.tasks) (handed h.adder h.number event)

-- why no event is handed to h: what holds of the step with each event
abbrev pub IsNotHanded : {P S E R A L : Type 0} → Machine S E R A L → CoreView P S E L → Handler E → StepFault → Type 0
IsNotHanded {E = E} M c h NotEnabled = (e : E) → CanTake M c (Hand h e) → ⊥
IsNotHanded {E = E} M c h Full = (e : E) × CanTake M c (Hand h e) × (c.steps ≡ MOST_PROGRAM_STEPS)
IsNotHanded M c h Memory = Unit {0}

-- there is no error, and e comes next for h, which is at this place
pub record IsHanding {P S E R A L : Type 0} (M : Machine S E R A L) (c : CoreView P S E L) (h : Handler E) (p : HandlerPlace) (e : E) : Type 0 where
  pub no_fault : c.fault ≡ None
  pub post : (state M c).handlers h ≡ Some (post_of p)
  pub own : M.pool_variable p.pool ≡ Some p.variable
  pub at : Variable S E
  pub at_is : slice_get c.table.variables p.variable ≡ Some at
  pub beside : Handlers E
  pub beside_is : slice_get c.table.handlers p.variable ≡ Some beside
  pub next : next_of M.event_same at.log beside.held h ≡ Some e

-- h was handed e, and the task that handles it stands behind all others; or memory was refused and the core is as it was
abbrev pub Hands : {P S E R A L : Type 0} → Machine S E R A L → CoreView P S E L → Handler E → E → CoreView P S E L → Result (Stepped × Moved E L) StepFault → Type 0
Hands M old h e new r = MatchResult r (λ s. IsMoving M old (Hand h e) new s.0 s.1 × IsAt new.table.tasks (length old.table.tasks) (handed h.adder h.number e)) (λ f. (f ≡ Memory) × (new ≡ old))
