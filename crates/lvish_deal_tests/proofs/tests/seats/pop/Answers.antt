use Rattle.std.proofs.Math.ListN.{length-set}
use Rattle.lvish_deal.proofs.Wholes.{whole_set}
use Rattle.lvish_deal_tests.proofs.tests.seats.pop.Goals as goal

pub returns : goal.returns
returns c = (whole_set c.args.seats.now.items c.args.at c.index_mut.result.now c.pop.new.self c.requires.0 c.index_mut.ensures.value c.pop.ensures.same.0 c.pop.ensures.same.1 c.requires.1, length-set _ _ _)
