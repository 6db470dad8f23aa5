use Rattle.std.proofs.Common.{◌∙◌, ap, sym, subst}
use Rattle.std.specs.Set.{is_member}
use Rattle.std.specs.List.Sorted.{IsStrictlySortedBy}
use Rattle.lvish_lattice.specs.Ascending.{ties_are_same}
use Rattle.lvish_lattice.proofs.Rows.{search_has_by, put_again, not_there_by}
use Rattle.lvish_lattice.proofs.row.Row.has.Goals as goal

pub returns-clause-member : goal.returns-clause-member
returns-clause-member g c =
    let v = g.met.V in
    let rises : IsStrictlySortedBy g.V.Ord.cmp c.as_slice-items.result.now = subst (IsStrictlySortedBy g.V.Ord.cmp) (sym c.as_slice-items.ensures.same) c.as_slice-items.ensures.ascending in
    c.is_ok.ensures.value
    ∙ search_has_by v.Ord.total (ties_are_same g.V.Ord.cmp v.Plain.identical v.Ord.matches_eq) g.V.PartialEq.eq v.Ord.matches_eq c.args.x c.as_slice-items.result.now c.binary_search.result rises c.binary_search.ensures.bound c.binary_search.ensures.position
    ∙ ap (λ xs. is_member g.V.PartialEq.eq xs c.args.x) c.as_slice-items.ensures.same

pub returns-clause-put : goal.returns-clause-put
returns-clause-put g c =
    let v = g.met.V in
    λ h. put_again v.Ord.total (ties_are_same g.V.Ord.cmp v.Plain.identical v.Ord.matches_eq) g.V.PartialEq.eq v.Ord.matches_eq c.args.x c.args.self.now c.as_slice-items.ensures.ascending (sym (returns-clause-member g c) ∙ h)

pub returns-then-ends_below-clause-member : goal.returns-then-ends_below-clause-member
returns-then-ends_below-clause-member g c =
    let v = g.met.V in
    not_there_by v.Ord.total (ties_are_same g.V.Ord.cmp v.Plain.identical v.Ord.matches_eq) g.V.PartialEq.eq v.Ord.matches_eq c.args.x c.args.self.now c.as_slice-items.ensures.ascending (c.ends_below.ensures.0 c.if-ends_below.true)
