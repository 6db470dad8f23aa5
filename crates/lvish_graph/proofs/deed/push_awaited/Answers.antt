use Rattle.std.proofs.Common.{ap}
use Rattle.lvish_syntax.specs.Words.{Word}
use Rattle.lvish_graph.specs.declared.deed.Deed.TheVariants.{Does}
use Rattle.lvish_graph.specs.declared.verb.Verb.TheVariants.{Awaits}
use Rattle.lvish_graph.proofs.Loops.{mapped_more}
use Rattle.lvish_graph.proofs.deed.push_awaited.Goals as goal

pub loop-pool-preserved : goal.loop-pool-preserved
loop-pool-preserved c =
    mapped_more (λ (p : Word). Does Awaits p) c.args.pools.now c.loop-pool.pool-index c.pool-item.result c.loop-pool-test.true c.pool-item.is
    _ _ _ _ c.loop-pool.invariant c.in_ok-push.ensures.items (ap (λ (p : Word). Does Awaits p) c.copy.ensures)
