use Rattle.lvish_lattice.proofs.Rows.{two_rise}
use Rattle.lvish_lattice.proofs.row.Row.of_two.Goals as goal

pub of-requires : goal.of-requires
of-requires g c = rw (c.in_ok-push-2.ensures.items, c.in_ok-push.ensures.items, c.in_ok-items.ensures.items) (two_rise g.V.Ord.cmp c.args.first c.args.second c.requires)
