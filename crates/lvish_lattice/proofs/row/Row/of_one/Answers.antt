use Rattle.lvish_lattice.specs.Ascending.{one_rises}
use Rattle.lvish_lattice.proofs.row.Row.of_one.Goals as goal

pub of-requires : goal.of-requires
of-requires g c = rw (c.in_ok-push.ensures.items, c.in_ok-items.ensures.items) (one_rises g.V.Ord.cmp c.args.x)
