use Rattle.std.proofs.Common.{◌∙◌, sym, ap}
use Rattle.lvish_checks.specs.Checks.{has_pool}
use Rattle.lvish_checks.proofs.Tested.{all_more, all_fail, all_pass}
use Rattle.lvish_checks.proofs.check.unknown_name.are_pools.Goals as goal

pub returns-then-not-contains : goal.returns-then-not-contains
returns-then-not-contains c = λ lines known. all_fail (λ p. has_pool p lines) c.args.names.now c.loop-name.name-index c.name-item.result c.loop-name-test.true (ap (λ p. has_pool p lines) (sym c.name-item.is) ∙ sym (known c.name-item.result) ∙ sym c.contains.ensures ∙ c.if-not-contains.true) (c.loop-name.invariant lines known)

pub loop-name-preserved : goal.loop-name-preserved
loop-name-preserved c = λ lines known. all_more (λ p. has_pool p lines) c.args.names.now c.loop-name.name-index c.name-item.result c.loop-name-test.true (ap (λ p. has_pool p lines) (sym c.name-item.is) ∙ sym (known c.name-item.result) ∙ sym c.contains.ensures ∙ c.if-not-contains.false) (c.loop-name.invariant lines known)

pub returns : goal.returns
returns c = λ lines known. all_pass (λ p. has_pool p lines) c.args.names.now c.loop-name.name-index c.loop-name-test.false (c.loop-name.invariant lines known)
