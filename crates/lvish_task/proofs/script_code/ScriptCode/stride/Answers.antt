use Rattle.std.proofs.Common.{sym, ◌∙◌}
use Rattle.lvish_task.proofs.Strides.{without_events}
use Rattle.lvish_task.proofs.script_code.ScriptCode.stride.Goals as goal

pub returns-clause-same : goal.returns-clause-same
returns-clause-same c = c.stride-reached.ensures.same c.args.self.now.flat c.args.local.now (without_events c.args.local.now.top.events (sym c.if-not-is_empty.false ∙ c.is_empty.ensures)) (sym c.instructions-instructions.ensures.value)
