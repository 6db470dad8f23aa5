-- What the program does with a reader and a writer, by the status with which it ends.
use Rattle.std.specs.Prelude.{◌≡◌, ℕ, List, Option, IfSome}
use Rattle.std.specs.Io.KnownBytes.{Appends, Keeps}
use Rattle.lvish_syntax.specs.declared.script.Script.{Script}
use Rattle.lvish_script.specs.Spells.{Spells}
use Rattle.lvish_run.specs.declared.fault.RunFault.{RunFault}
use Rattle.lvish_run.specs.declared.fault.RunFault.TheVariants as run
use Rattle.lvish_run.specs.declared.scripts.RunMeaning as runs
use Rattle.lvish_cli.specs.declared.order.Order.{Order}
use Rattle.lvish_cli.specs.declared.status.Status.{Status}
use Rattle.lvish_cli.specs.declared.status.Status.TheVariants.{Done, Blocked, Differ, Absent, Usage, Unreadable, Refused, Error, Budget, Memory, NoThread, Stopped, Mixed, Unwritten}
use Rattle.lvish_cli.specs.Answers.{IsAnswer, CanMeet}
use Rattle.lvish_cli.specs.Orders.{AsksEvent}
use Rattle.lvish_cli.specs.Streams.{TakesFront, text_seen}

module _ (of : runs.Ghosts Script) (order : Order) (given : Option (List ℕ)) where
  -- the text answers the bytes that were read, which are those that the reader gave
  pub record IsAnswerTo (status : Status) (text : List ℕ) : Type 0 where
    pub input : List ℕ
    pub read : IfSome given (λ bytes. input ≡ text_seen bytes)
    pub answer : IsAnswer of order input status text

  module _ (old new : Option (List ℕ)) where
    -- the answer was written, and nothing else
    abbrev pub WritesAnswer : Status → Type 0
    WritesAnswer status = (text : List ℕ) × IsAnswerTo status text × Appends old new text

    -- the writer failed after a front of the answer
    abbrev pub WritesFront : Type 0
    WritesFront = (status : Status) × (text : List ℕ) × IsAnswerTo status text × TakesFront old new text

    -- nothing was written, since the run of the script that was read met this fault
    abbrev pub WritesNothing : RunFault → Type 0
    WritesNothing fault = (input : List ℕ) × IfSome given (λ bytes. input ≡ text_seen bytes) × ((script : Script) × Spells input script) × CanMeet order fault × Keeps old new

    -- from a reader that gives `given`, the writer comes from `old` to `new`
    abbrev pub Performs : Status → Type 0
    Performs Done = WritesAnswer Done
    Performs Blocked = WritesAnswer Blocked
    Performs Differ = WritesAnswer Differ
    Performs Absent = WritesAnswer Absent
    Performs (Usage text) = AsksEvent order × WritesAnswer (Usage text)
    Performs Unreadable = Keeps old new
    Performs Refused = WritesAnswer Refused
    Performs Error = WritesAnswer Error
    Performs Budget = WritesAnswer Budget
    Performs Memory = Keeps old new
    Performs NoThread = WritesNothing run.NoThread
    Performs Stopped = ⊥
    Performs Mixed = WritesNothing run.Mixed
    Performs Unwritten = WritesFront
