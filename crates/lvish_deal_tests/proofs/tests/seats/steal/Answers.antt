use Rattle.std.proofs.Common.{arith, ◌∙◌}
use Rattle.std.proofs.Math.ListN.{length-set}
use Rattle.lvish_deal.proofs.Wholes.{whole_set, seat_is}
use Rattle.lvish_deal_tests.proofs.tests.seats.steal.Goals as goal

pub steal-requires-clause-among : goal.steal-requires-clause-among
steal-requires-clause-among c =
    let is = seat_is c.args.seats.now.items c.args.at c.index_mut.result.now c.requires.0 c.index_mut.ensures.value c.requires.3 in
    let long = is.0 in
    let inside = c.requires.1 in
    omega arith

pub steal-requires-clause-other : goal.steal-requires-clause-other
steal-requires-clause-other c =
    let is = seat_is c.args.seats.now.items c.args.at c.index_mut.result.now c.requires.0 c.index_mut.ensures.value c.requires.3 in
    λ e. c.requires.2 (e ∙ is.1)

pub returns : goal.returns
returns c = (whole_set c.args.seats.now.items c.args.at c.index_mut.result.now c.steal.new.self c.requires.0 c.index_mut.ensures.value c.steal.ensures.same.0 c.steal.ensures.same.1 c.requires.3, length-set _ _ _)
