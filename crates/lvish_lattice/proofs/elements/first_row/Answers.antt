use Rattle.std.proofs.Common.{◌∙◌}
use Rattle.lvish_lattice.proofs.Several.{put_first_row}
use Rattle.lvish_lattice.proofs.elements.first_row.Goals as goal

pub returns : goal.returns
returns g c = c.in_ok-of.ensures ∙ put_first_row g.V.Ord.cmp c.args.values.items
