use Rattle.lvish_lattice.specs.laws.MaxCounterLaws.{counters_checked}
use Rattle.lvish_lattice.proofs.max_counter.MaxCounterReads.check.Goals as goal

pub returns : goal.returns
returns c =
    let checked = counters_checked c.args.read.now in
    let one = rw c.listed.ensures at c.has_one_value.ensures in
    ((λ h. checked.0 (one.0 h)), λ h. one.1 (checked.1 h))
