use Rattle.std.proofs.Common.{length, ap, ◌∙◌}
use Rattle.std.proofs.lemmas.List.{length-map}
use Rattle.crossbeam_deque.specs.Handles.{worker_deque}
use Rattle.lvish_deal.specs.Deals.{deques}
use Rattle.lvish_deal.proofs.Wholes.{whole_if_ok}
use Rattle.lvish_deal.proofs.dealing.deal.Goals as goal

pub returns-clause-whole : goal.returns-clause-whole
returns-clause-whole g c =
    let names = c.in_ok-rows.ensures.1 in
    let long = c.in_ok-owners.ensures.0 in
    whole_if_ok c.seats.result (deques c.rows.new.owners.items) c.args.n (ap length names ∙ length-map _ worker_deque ∙ long) c.requires.some c.seats.ensures
