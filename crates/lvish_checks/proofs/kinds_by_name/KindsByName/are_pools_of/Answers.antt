use Rattle.std.proofs.Common.{◌∙◌, sym, ap}
use Rattle.lvish_syntax.specs.Sound.{is_pool_of}
use Rattle.lvish_checks.proofs.Tested.{all_more, all_fail, all_pass}
use Rattle.lvish_checks.proofs.kinds_by_name.KindsByName.are_pools_of.Goals as goal

pub returns-then-not-is_pool_of : goal.returns-then-not-is_pool_of
returns-then-not-is_pool_of c = λ ds known. all_fail (is_pool_of ds c.args.variable.now) c.args.pools.now c.loop-pool.pool-index c.pool-item.result c.loop-pool-test.true (ap (is_pool_of ds c.args.variable.now) (sym c.pool-item.is) ∙ sym (c.is_pool_of.ensures ds known) ∙ c.if-not-is_pool_of.true) (c.loop-pool.invariant ds known)

pub loop-pool-preserved : goal.loop-pool-preserved
loop-pool-preserved c = λ ds known. all_more (is_pool_of ds c.args.variable.now) c.args.pools.now c.loop-pool.pool-index c.pool-item.result c.loop-pool-test.true (ap (is_pool_of ds c.args.variable.now) (sym c.pool-item.is) ∙ sym (c.is_pool_of.ensures ds known) ∙ c.if-not-is_pool_of.false) (c.loop-pool.invariant ds known)

pub returns : goal.returns
returns c = λ ds known. all_pass (is_pool_of ds c.args.variable.now) c.args.pools.now c.loop-pool.pool-index c.loop-pool-test.false (c.loop-pool.invariant ds known)
