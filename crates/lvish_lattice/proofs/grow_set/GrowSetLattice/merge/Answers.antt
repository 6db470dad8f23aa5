use Rattle.std.proofs.Common.{◌∙◌, ap, sym, true}
use Rattle.std.proofs.lemmas.Result.{err_from_is_err_and}
use Rattle.std.specs.Set.{sorted_merge}
use Rattle.lvish_lattice.specs.Ascending.{ties_are_same}
use Rattle.lvish_lattice.specs.GrowSet.{same_set, merged_to}
use Rattle.lvish_lattice.proofs.Puts.{stays_rising, all_stay_rising}
use Rattle.lvish_lattice.proofs.grow_set.GrowSetLattice.merge.Goals as goal

pub invariant_of-self : goal.invariant_of-self
invariant_of-self g c = record { ascending = stays_rising g.met.V.Ord.total c.in-Some.x c.args.self.now.items _ c.put.result c.put.ensures.put c.put.ensures.refused c.args.self.now.ascending }

pub returns-in_err-put-clause-refused : goal.returns-in_err-put-clause-refused
returns-in_err-put-clause-refused g c = let p = err_from_is_err_and c.from_residual.result c.from_residual.ensures.1 in rw p.1 (same_set _ _ c.in_err-put.ensures.refused)

pub returns-in-Some-clause-merged : goal.returns-in-Some-clause-merged
returns-in-Some-clause-merged g c =
    let v = g.met.V in
    merged_to v.Ord.total (ties_are_same g.V.Ord.cmp v.Plain.identical v.Ord.matches_eq) _ c.args.self.now c.args.put.now
    (c.in_ok-put.ensures.put ∙ ap (λ xs. sorted_merge g.V.Ord.cmp true xs c.args.self.now.items) (sym c.in-Some.ensures))

pub invariant_of-self-2 : goal.invariant_of-self-2
invariant_of-self-2 g c = record { ascending = all_stay_rising g.met.V.Ord.total c.args.put.now.items c.args.self.now.items _ c.put_all.result c.put_all.ensures.put c.put_all.ensures.refused c.args.put.now.ascending c.args.self.now.ascending }

pub returns-in_err-put_all-clause-refused : goal.returns-in_err-put_all-clause-refused
returns-in_err-put_all-clause-refused g c = let p = err_from_is_err_and c.from_residual-in_err-put_all.result c.from_residual-in_err-put_all.ensures.1 in rw p.1 (same_set _ _ c.in_err-put_all.ensures.refused)

pub returns-clause-merged : goal.returns-clause-merged
returns-clause-merged g c =
    let v = g.met.V in
    merged_to v.Ord.total (ties_are_same g.V.Ord.cmp v.Plain.identical v.Ord.matches_eq) _ c.args.self.now c.args.put.now c.in_ok-put_all.ensures.put
