-- Scripts of which all ends are alike.
use Rattle.std.specs.Prelude.{◌≡◌, ◌↔◌, ℤ, codes, Bool, true}
use Rattle.lvish_compound.specs.declared.any.Any.{Any}
use Rattle.lvish_compound.specs.declared.any_read.AnyRead.{AnyRead}
use Rattle.lvish_compound.specs.declared.event.Event.{Event}
use Rattle.lvish_calculus.specs.Machine.{Machine}
use Rattle.lvish_syntax.specs.declared.script.Script.{Script}
use Rattle.lvish_task.specs.Meaning.{LocalState, procedure}
use Rattle.lvish_task.specs.contracts.meaning.ScriptScriptMeaning.TheImpl.{ghosts as meaning}
use Rattle.lvish_alike.specs.Lines.{names, starts, freezes}
use Rattle.lvish_alike.specs.OneEnd.{HasOneEnd}
use Rattle.lvish_alike.specs.Reaching.{Outline, HasOneOrder}

-- a script's machine, in which a task is what is left of its nested statements
abbrev pub machine_of_script : Script → Machine Any Event AnyRead ℤ LocalState
machine_of_script script = meaning.machine script

-- what the procedures of a script name, start and freeze
abbrev pub outline : Script → Outline
outline script = record { main = procedure script (codes "main"); names = names script; starts = starts script; freezes = freezes script }

-- whether all ends of a script are alike, as far as its lines show it
pub record ShowsAlike (script : Script) (alike : Bool) : Type 0 where
  -- it is said exactly where tasks freeze one variable at most, or no task but main freezes
  pub exact : (alike ≡ true) ↔ HasOneOrder (outline script)
  -- and then all ends without an error are the same
  pub ends : alike ≡ true → HasOneEnd (machine_of_script script)
