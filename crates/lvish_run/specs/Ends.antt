-- Scripts whose runs always end.
use Rattle.std.specs.Prelude.{◌≡◌, ◌≤◌, ◌↔◌, ◌⊎◌, ℕ, false, List, [], length, Option, Some}
use Rattle.std.specs.declared.cmp.Ordering.{Ordering}
use Rattle.lvish_compound.specs.contracts.event.EventOrd.TheImpl.{ghosts as event_order}
use Rattle.lvish_calculus.specs.declared.label.Label.{Label}
use Rattle.lvish_calculus.specs.Machine.{Machine}
use Rattle.lvish_calculus.specs.Calculus.{State as Standing, Running, IsEnd, start}
use Rattle.lvish_calculus.specs.Laws.{Reaches, NeverErrs}
use Rattle.lvish_syntax.specs.declared.script.Script.{Script}
use Rattle.lvish_task.specs.CodeOf.{IsScriptCodeOf}
use Rattle.lvish_task.specs.Freezing.{has_freeze}
use Rattle.lvish_task.specs.declared.script_code.ScriptCode.{ScriptCode}
use Rattle.lvish_alike.specs.Layered.{IsLayered}
use Rattle.lvish_run.specs.Picked.{IsPicked}
use Rattle.lvish_run.specs.Scripts.{script_machine}

-- the run without picks, which takes the first enabled label at each step, ends without an error after this many steps
pub record EndsAfter {S E R A L : Type 0} (cmp : E → E → Ordering) (M : Machine S E R A L) (n : ℕ) : Type 0 where
  pub labels : List (Label E)
  pub last : Standing S E L
  pub first : IsPicked cmp M [] [] (Running (start M)) labels
  pub reached : Reaches M labels last
  pub end : IsEnd M last
  pub steps : length labels ≡ n

-- the number of steps is n exactly where the run without picks ends without an error after n steps, within the budget
abbrev pub IsEndWithoutPicks : Script → ℕ → Option ℕ → Type 0
IsEndWithoutPicks script budget end = (n : ℕ) → (end ≡ Some n) ↔ (EndsAfter event_order.cmp (script_machine script) n × (n ≤ budget))

-- no run errs, and none is longer
pub record AlwaysEnds {S E R A L : Type 0} (M : Machine S E R A L) (n : ℕ) : Type 0 where
  pub never_errs : NeverErrs M
  pub longest : (ys : List (Label E)) (b : Standing S E L) → Reaches M ys b → length ys ≤ n

-- after how many steps at most all runs of a script end, as far as one run within the budget shows it of scripts for which it is shown
pub record IsBoundIf (shown : Type 0) (script : Script) (budget : ℕ) (bound : Option ℕ) : Type 0 where
  -- the bound is n exactly where it is shown, and the run without picks ends without an error after n steps, within the budget
  pub exact : (n : ℕ) → (bound ≡ Some n) ↔ (shown × EndsAfter event_order.cmp (script_machine script) n × (n ≤ budget))
  -- and then no run of the script errs, and none is longer
  pub always : (n : ℕ) → bound ≡ Some n → AlwaysEnds (script_machine script) n

-- of scripts without a line `freeze`
abbrev pub IsBound : Script → ℕ → Option ℕ → Type 0
IsBound script budget bound = IsBoundIf (has_freeze script ≡ false) script budget bound

-- the code of the script freezes each variable after all that write to it
abbrev pub FreezesInTime : Script → Type 0
FreezesInTime script = (c : ScriptCode) × IsScriptCodeOf script c × IsLayered c.flat

-- and of these
abbrev pub IsAlikeBound : Script → ℕ → Option ℕ → Type 0
IsAlikeBound script budget bound = IsBoundIf ((has_freeze script ≡ false) ⊎ FreezesInTime script) script budget bound

-- what either of the two says
abbrev pub IsAnyBound : Script → ℕ → Option ℕ → Type 0
IsAnyBound script budget bound = IsBound script budget bound ⊎ IsAlikeBound script budget bound
