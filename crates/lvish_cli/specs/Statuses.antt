-- The statuses with which the program ends, and what it says on standard error.
use Rattle.std.specs.Prelude.{ℕ, List, Option, None, Some, codes, string_bytes}
use Rattle.lvish_run.specs.declared.fault.RunFault.{RunFault}
use Rattle.lvish_run.specs.declared.fault.RunFault.TheVariants as run
use Rattle.lvish_cli.specs.Lines.{text_line}
use Rattle.lvish_cli.specs.declared.status.Status.{Status}
use Rattle.lvish_cli.specs.declared.status.Status.TheVariants.{Done, Blocked, Differ, Absent, Usage, Unreadable, Refused, Error, Budget, Memory, NoThread, Stopped, Mixed, Unwritten}

-- the exit status of the process
abbrev pub status_number : Status → ℕ
status_number Done = 0
status_number Blocked = 1
status_number Differ = 1
status_number Absent = 1
status_number (Usage text) = 2
status_number Unreadable = 3
status_number Refused = 4
status_number Error = 5
status_number Budget = 6
status_number Memory = 7
status_number NoThread = 8
status_number Stopped = 8
status_number Mixed = 8
status_number Unwritten = 8

-- what goes to standard error
abbrev pub status_message : Status → Option (List ℕ)
status_message Done = None
status_message Blocked = None
status_message Differ = None
status_message Absent = None
status_message (Usage text) = Some (string_bytes text)
status_message Unreadable = Some (text_line (codes "unreadable"))
status_message Refused = None
status_message Error = None
status_message Budget = None
status_message Memory = Some (text_line (codes "memory"))
status_message NoThread = Some (text_line (codes "nothread"))
status_message Stopped = Some (text_line (codes "stopped"))
status_message Mixed = Some (text_line (codes "mixed"))
status_message Unwritten = None

-- how the program ends where a run by workers gave no report
abbrev pub fault_status : RunFault → Status
fault_status run.NoThread = NoThread
fault_status run.Memory = Memory
fault_status run.Stopped = Stopped
fault_status run.Mixed = Mixed
