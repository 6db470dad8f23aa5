use Rattle.std.proofs.Common.{refl}
use Rattle.lvish_graph.specs.Text.{pool_line}
use Rattle.lvish_graph.proofs.Loops.{joined_more}
use Rattle.lvish_graph.proofs.text.push_deeds.Goals as goal

pub loop-pool-preserved : goal.loop-pool-preserved
loop-pool-preserved c =
    joined_more (pool_line c.args.script.now c.args.deeds.now) c.as_slice-pool-items.result.now c.loop-pool.pool-index c.pool-item.result c.loop-pool-test.true c.pool-item.is
    _ _ _ _ c.loop-pool.invariant c.in_ok-push_pool_line.ensures refl
