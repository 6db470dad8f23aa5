use Rattle.std.proofs.Common.{◌∙◌, ap}
use Rattle.lvish_code.specs.Numbering.{name_number}
use Rattle.lvish_code.specs.InScope.{names_in}
use Rattle.lvish_code.proofs.Loops.{mapped_more, mapped_all}
use Rattle.lvish_code.proofs.scope.Scope.pools.Goals as goal

pub loop-name-preserved : goal.loop-name-preserved
loop-name-preserved c = mapped_more (name_number (names_in c.args.self.now).pools) c.args.names.now c.loop-name.name-index c.loop-name.pools.items c.loop-name.invariant c.name-item.result _ _ c.loop-name-test.true (c.pool.ensures ∙ ap (name_number (names_in c.args.self.now).pools) c.name-item.is) c.in_ok-push.ensures.items

pub returns : goal.returns
returns c = c.new.ensures ∙ mapped_all (name_number (names_in c.args.self.now).pools) c.args.names.now c.loop-name.name-index c.loop-name.pools.items c.loop-name.invariant c.loop-name-test.false
