-- What the report of a script's run says.
use Rattle.std.specs.Prelude.{ℕ, ℤ, List, [], length}
use Rattle.lvish_compound.specs.declared.any.Any.{Any}
use Rattle.lvish_compound.specs.declared.any_read.AnyRead.{AnyRead}
use Rattle.lvish_compound.specs.declared.event.Event.{Event}
use Rattle.lvish_calculus.specs.Machine.{Machine}
use Rattle.lvish_calculus.specs.Calculus.{Running, start}
use Rattle.lvish_calculus.specs.Handing.{IsWellHanded}
use Rattle.lvish_syntax.specs.declared.script.Script.{Script}
use Rattle.lvish_task.specs.Meaning.{LocalState}
use Rattle.lvish_task.specs.contracts.meaning.ScriptScriptMeaning.TheImpl.{ghosts as meaning}
use Rattle.lvish_compound.specs.contracts.event.EventOrd.TheImpl.{ghosts as event_order}
use Rattle.lvish_report.specs.declared.report.Report.{Report}
use Rattle.lvish_run.specs.Alike.{IsAlike}
use Rattle.lvish_run.specs.Honest.{IsHonest}
use Rattle.lvish_run.specs.Least.{IsLeast, IsClosedEnd}
use Rattle.lvish_trace.specs.Traced.{labels_of}
use Rattle.lvish_run.specs.Picked.{IsPicked}
use Rattle.lvish_report.specs.Text.{variables_of}

-- a script's machine, in which a task is what is left of its nested statements
abbrev pub script_machine : Script → Machine Any Event AnyRead ℤ LocalState
script_machine script = meaning.machine script

-- an honest report of a run of a script by this many workers, within the budget
pub record IsRunBy (script : Script) (workers budget : ℕ) (r : Report Any Event) : Type 0 where
  pub honest : IsHonest (script_machine script) (length (variables_of script.declarations)) workers budget r
  -- each handler is handed each event at most once, one task's in the order of its puts, none after the freeze, at the freeze and at an end exactly those below the state
  pub handed : IsWellHanded (script_machine script) (labels_of r.trace)
  -- if it is of an end, all ends that freeze variables in its order are the same
  pub alike : IsAlike (script_machine script) (length (variables_of script.declarations)) r
  -- its contents are at or below those of each model of the script's statements with what its run froze
  pub least : IsLeast (script_machine script) r
  -- if it is of an end that no task leaves at a freeze of a frozen variable, its contents are closed
  pub closed : IsClosedEnd (script_machine script) r

-- an honest report of the run of a script that takes, at each step, the label that its pick names
pub record IsPickedRun (script : Script) (picks : List ℕ) (budget : ℕ) (r : Report Any Event) : Type 0 where
  pub honest : IsHonest (script_machine script) (length (variables_of script.declarations)) 1 budget r
  pub picked : IsPicked event_order.cmp (script_machine script) picks [] (Running (start (script_machine script))) (labels_of r.trace)
  -- each handler is handed each event at most once, one task's in the order of its puts, none after the freeze, at the freeze and at an end exactly those below the state
  pub handed : IsWellHanded (script_machine script) (labels_of r.trace)
  -- if it is of an end, all ends that freeze variables in its order are the same
  pub alike : IsAlike (script_machine script) (length (variables_of script.declarations)) r
  -- its contents are at or below those of each model of the script's statements with what its run froze
  pub least : IsLeast (script_machine script) r
  -- if it is of an end that no task leaves at a freeze of a frozen variable, its contents are closed
  pub closed : IsClosedEnd (script_machine script) r
