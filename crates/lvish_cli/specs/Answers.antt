-- What the program answers to an order and the bytes of a script, and with which status.
use Rattle.std.specs.Prelude.{◌≡◌, ◌≤◌, ◌⊎◌, ℕ, Bool, true, false, List}
use Rattle.lvish_syntax.specs.declared.script.Script.{Script}
use Rattle.lvish_checks.specs.declared.script_fault.ScriptFault.{ScriptFault}
use Rattle.lvish_script.specs.Spells.{Spells, IsTextRefused}
use Rattle.lvish_run.specs.declared.fault.RunFault.{RunFault}
use Rattle.lvish_run.specs.declared.fault.RunFault.TheVariants as run
use Rattle.lvish_run.specs.declared.scripts.RunMeaning as runs
use Rattle.lvish_cli.specs.declared.order.Order.{Order}
use Rattle.lvish_cli.specs.declared.order.Order.TheVariants.{Check, Run, Pick, Try, Why, Graph, Format}
use Rattle.lvish_cli.specs.declared.status.Status.{Status}
use Rattle.lvish_cli.specs.Checked.{IsCheckAnswer}
use Rattle.lvish_cli.specs.Derivations.{IsWhyAnswer}
use Rattle.lvish_cli.specs.Graphs.{IsGraphAnswer}
use Rattle.lvish_cli.specs.Layouts.{IsFormatAnswer}
use Rattle.lvish_cli.specs.Orders.{asks_format, asks_json}
use Rattle.lvish_cli.specs.Refusals.{IsRefusalAnswer}
use Rattle.lvish_cli.specs.Runs.{IsRunAnswer, IsPickAnswer}
use Rattle.lvish_cli.specs.Tries.{IsTryAnswer}

-- the answers, by what contracts say of a script's runs
module _ (of : runs.Ghosts Script) where
  -- the answer to an order about a script
  abbrev pub IsScriptAnswer : Script → Order → Status → List ℕ → Type 0
  IsScriptAnswer script (Check asked) status text = IsCheckAnswer of script asked status text
  IsScriptAnswer script (Run asked) status text = IsRunAnswer of.is_run script asked status text
  IsScriptAnswer script (Pick asked) status text = IsPickAnswer of.is_picked_run script asked status text
  IsScriptAnswer script (Try asked) status text = IsTryAnswer script asked status text
  IsScriptAnswer script (Why asked) status text = IsWhyAnswer of.is_picked_run script asked status text
  IsScriptAnswer script (Graph asked) status text = IsGraphAnswer script asked status text
  IsScriptAnswer script Format status text = ⊥

  -- the answer to an order about the bytes of a script: about the script that they spell, or their first fault
  abbrev pub IsAnswerAbout : Order → List ℕ → Status → List ℕ → Type 0
  IsAnswerAbout order input status text = ((script : Script) × Spells input script × IsScriptAnswer script order status text) ⊎ ((e : ScriptFault) × IsTextRefused input e × IsRefusalAnswer e (asks_json order) status text)

  -- the answer to an order about any bytes, or about a script
  abbrev pub IsAnswerIf : (formats : Bool) → Order → List ℕ → Status → List ℕ → Type 0
  IsAnswerIf true order input status text = IsFormatAnswer input status text
  IsAnswerIf false order input status text = IsAnswerAbout order input status text

  -- the answer to an order about bytes
  abbrev pub IsAnswer : Order → List ℕ → Status → List ℕ → Type 0
  IsAnswer order input status text = IsAnswerIf (asks_format order) order input status text

-- the order asks for a run by at least this many workers
abbrev pub AsksWorkers : ℕ → Order → Type 0
AsksWorkers least (Check asked) = ⊥
AsksWorkers least (Run asked) = least ≤ asked.workers
AsksWorkers least (Pick asked) = ⊥
AsksWorkers least (Try asked) = ⊥
AsksWorkers least (Why asked) = ⊥
AsksWorkers least (Graph asked) = ⊥
AsksWorkers least Format = ⊥

-- a fault that an order about a script can meet: a thread can be missing where there are two workers, nothing stops them, and their report tells of one run
abbrev pub CanMeet : Order → RunFault → Type 0
CanMeet order run.NoThread = AsksWorkers 2 order
CanMeet order run.Memory = Unit {0}
CanMeet order run.Stopped = ⊥
CanMeet order run.Mixed = ⊥

-- why there is no answer to an order about bytes: for want of memory, or since they spell a script whose run met this fault
abbrev pub IsUnanswered : Order → List ℕ → RunFault → Type 0
IsUnanswered order input fault = (fault ≡ run.Memory) ⊎ ((script : Script) × Spells input script × CanMeet order fault)
