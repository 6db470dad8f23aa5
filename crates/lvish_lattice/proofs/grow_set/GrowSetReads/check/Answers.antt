use Rattle.lvish_lattice.specs.laws.MembersLaws.{sets_checked}
use Rattle.lvish_lattice.proofs.grow_set.GrowSetReads.check.Goals as goal

pub returns : goal.returns
returns g c =
    let checked = sets_checked g.met.V.Ord.total c.args.read.now in
    let one = rw c.listed.ensures at c.has_one_value.ensures in
    ((λ h. checked.0 (one.0 h)), λ h. one.1 (checked.1 h))
