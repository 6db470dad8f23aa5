use Rattle.std.proofs.Common.{ap, not, ◌∙◌}
use Rattle.lvish_core.proofs.Numbering.{none_after}
use Rattle.lvish_core.proofs.pools.pools_of.Goals as goal

pub returns-then-is_none : goal.returns-then-is_none
returns-then-is_none g c = none_after (g.P.Program.functions c.args.program.now).pool_variable (g.met.P.Program.lawful c.args.program.now).in_a_row c.loop-pool.pool c.pool_variable.result c.pool_variable.ensures
    (c.is_none.ensures ∙ ap not c.if-is_none.true)
