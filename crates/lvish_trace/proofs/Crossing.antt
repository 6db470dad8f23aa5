-- A noted step and an outcome may go to another thread.
use denote.Param.Send.{IsSend, IsSync, sendable}
use denote.RattleType.{RattleType}
use Rattle.std.specs.contracts.option.Option as Option
use Rattle.lvish_names.proofs.Crossing.{name_send}
use Rattle.lvish_names.specs.contracts.task_name.TaskName as TaskName
use Rattle.lvish_trace.specs.contracts.packed_step.PackedStep as PackedStep
use Rattle.lvish_trace.specs.contracts.outcome.Outcome as Outcome

pub noted_send : IsSend PackedStep.the_row
noted_send = search sendable depth 24

-- how a run is over, if it is
module _ (E : RattleType) (s : IsSend E) (y : IsSync E) where
  name : IsSend (TaskName.the_row E)
  name = name_send E s y

  pub over_send : IsSend (Option.the_row (Outcome.the_row E))
  over_send = search (name, sendable) depth 24
