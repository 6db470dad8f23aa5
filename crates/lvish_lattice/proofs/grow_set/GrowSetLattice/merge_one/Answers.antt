use Rattle.std.proofs.Common.{◌∙◌, true, refl, ap, sym}
use Rattle.std.proofs.lemmas.Bool.{not-true}
use Rattle.std.proofs.lemmas.Result.{err_from_is_err_and}
use Rattle.std.specs.Set.{sorted_merge, is_member}
use Rattle.lvish_lattice.specs.Ascending.{ties_are_same}
use Rattle.lvish_lattice.specs.GrowSet.{same_set, merged_to, items_of, set_fresh}
use Rattle.lvish_lattice.proofs.Puts.{stays_rising, held_brings, missing_brings, not_added}
use Rattle.lvish_lattice.proofs.grow_set.GrowSetLattice.merge_one.Goals as goal

pub invariant_of-self : goal.invariant_of-self
invariant_of-self g c = record { ascending = stays_rising g.met.V.Ord.total c.in-Some.x c.args.self.now.items _ c.put.result c.put.ensures.put c.put.ensures.refused c.args.self.now.ascending }

pub returns-in_err-put-clause-refused : goal.returns-in_err-put-clause-refused
returns-in_err-put-clause-refused g c = let p = err_from_is_err_and c.from_residual.result c.from_residual.ensures.1 in rw p.1 (same_set _ _ c.in_err-put.ensures.refused)

pub returns-then-branch-clause-merged : goal.returns-then-branch-clause-merged
returns-then-branch-clause-merged g c =
    let v = g.met.V in
    let same = ties_are_same g.V.Ord.cmp v.Plain.identical v.Ord.matches_eq in
    let m = is_member g.V.PartialEq.eq (items_of c.args.self.now) in (
      merged_to v.Ord.total same _ c.args.self.now c.args.put.now (c.in_ok-put.ensures.put ∙ ap (λ xs. sorted_merge g.V.Ord.cmp true xs c.args.self.now.items) (sym c.in-Some.ensures)),
      rw (set_fresh v.Ord.total g.V.PartialEq.eq v.Ord.matches_eq same c.args.self.now c.args.put.now) (missing_brings m c.in-Some.x (items_of c.args.put.now) (m c.in-Some.x) c.in-Some.ensures refl (not-true _ (sym c.in_ok-put.ensures.added ∙ c.if-branch.true))),
    )

pub returns-else-branch-clause-merged : goal.returns-else-branch-clause-merged
returns-else-branch-clause-merged g c =
    let v = g.met.V in
    let same = ties_are_same g.V.Ord.cmp v.Plain.identical v.Ord.matches_eq in
    let m = is_member g.V.PartialEq.eq (items_of c.args.self.now) in (
      merged_to v.Ord.total same _ c.args.self.now c.args.put.now (c.in_ok-put.ensures.put ∙ ap (λ xs. sorted_merge g.V.Ord.cmp true xs c.args.self.now.items) (sym c.in-Some.ensures)),
      rw (set_fresh v.Ord.total g.V.PartialEq.eq v.Ord.matches_eq same c.args.self.now c.args.put.now) (held_brings m c.in-Some.x (items_of c.args.put.now) (m c.in-Some.x) c.in-Some.ensures refl (not_added _ _ c.in_ok-put.ensures.added c.if-branch.false)),
    )
