use Rattle.std.proofs.lemmas.Result.{IfOk-weaker}
use Rattle.lvish_lattice.specs.Ascending.{ties_are_same}
use Rattle.lvish_lattice.specs.GrowSet.{items_ascend}
use Rattle.lvish_facts.proofs.Gatherings.{is_gathered}
use Rattle.lvish_facts.proofs.gathering.gather.Goals as goal

pub returns : goal.returns
returns g c =
    let v = g.met.V in
    IfOk-weaker c.of.result _ _ (λ s members. is_gathered v.Ord.total (ties_are_same g.V.Ord.cmp v.Plain.identical v.Ord.matches_eq) s c.args.values.now (items_ascend s) members) c.of.ensures
