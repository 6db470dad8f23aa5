use Rattle.std.proofs.Common.{◌≡◌, ◌∙◌, ◌∷◌, ◌++◌, ◌+◌, [], ap, sym, subst, take, take_all, arith}
use Rattle.std.proofs.lemmas.List.{take_more}
use Rattle.std.specs.Ordering.{eq_by_cmp}
use Rattle.std.specs.Set.{is_member}
use Rattle.std.specs.List.Sorted.{IsStrictlySortedBy}
use Rattle.lvish_lattice.specs.Ascending.{merge_rises, one_rises, nothing_rises, ties_are_same}
use Rattle.lvish_lattice.proofs.Puts.{put_more, members_there}
use Rattle.lvish_lattice.proofs.elements.Elements.of.Goals as goal

pub loop-x-init : goal.loop-x-init
loop-x-init g c =
    let R = g.V.Ord.cmp in
    record { ascending = subst (IsStrictlySortedBy R) (sym c.new-elements.ensures) (nothing_rises R); members = λ q. ap (λ es. is_member (eq_by_cmp R) es q) c.new-elements.ensures }

pub loop-x-preserved : goal.loop-x-preserved
loop-x-preserved g c =
    let v = g.met.V in
    let R = g.V.Ord.cmp in
    let values = c.args.values.now in
    let i = c.loop-x.x-index in
    let x = c.x-item.result in
    let more : take (i + 1) values ≡ take i values ++ x ∷ [] = take_more values i x c.loop-x-test.true ∙ ap (λ y. take i values ++ y ∷ []) (sym c.x-item.is) in
    let put = c.in_ok-put.ensures.put in
    record {
      ascending = subst (IsStrictlySortedBy R) (sym put) (merge_rises v.Ord.total (x ∷ []) c.loop-x.elements (one_rises R x) c.loop-x.invariant.ascending);
      members = λ q. ap (λ es. is_member (eq_by_cmp R) es q) put ∙ put_more v.Ord.total x (take i values) c.loop-x.elements c.loop-x.invariant.members q ∙ ap (λ es. is_member (eq_by_cmp R) es q) (sym more);
    }

pub returns-clause-ascending : goal.returns-clause-ascending
returns-clause-ascending g c = c.loop-x.invariant.ascending

pub returns-clause-members : goal.returns-clause-members
returns-clause-members g c =
    let v = g.met.V in
    let R = g.V.Ord.cmp in
    let values = c.args.values.now in
    let same = ties_are_same R v.Plain.identical v.Ord.matches_eq in
    let all : take c.loop-x.x-index values ≡ values = take_all _ values (omega (arith, c.loop-x-test.false)) in
    let members : (q : g.row.V.Denot) → is_member (eq_by_cmp R) c.loop-x.elements q ≡ is_member (eq_by_cmp R) values q = λ q. c.loop-x.invariant.members q ∙ ap (λ es. is_member (eq_by_cmp R) es q) all in
    λ x. (members_there v.Ord.total same c.loop-x.elements values members x, members_there v.Ord.total same values c.loop-x.elements (λ q. sym (members q)) x)
