use Rattle.std.specs.BTreeSet.{IsFromIterResult}
use Rattle.std.proofs.lemmas.Iterator.{YieldsList-from_slice}
use Rattle.std.proofs.lemmas.Iterator.Adapters.{fact_from_collect}
use Rattle.std.proofs.lemmas.Iterator.Consumers.{YieldsList-at, YieldsList-from_copied}
use Rattle.lvish_facts.specs.Names.{by_bytes}
use Rattle.lvish_facts.proofs.sorting.set_of.Goals as goal

pub returns : goal.returns
returns c =
    let all = YieldsList-from_copied (YieldsList-at c.copied.ensures.source (YieldsList-from_slice c.args.names.now c.iter.ensures.rest)) in
    fact_from_collect (λ names set. IsFromIterResult by_bytes names set) c.collect.result c.collect.ensures.ran all
