use Rattle.std.proofs.Common.{◌≡◌, ◌∙◌, ◌∷◌, ◌++◌, ◌+◌, [], not, ◌&&◌, true, ap, sym, subst, refl, take, take_all, arith}
use Rattle.std.proofs.lemmas.List.{take_more}
use Rattle.std.specs.Set.{sorted_merge}
use Rattle.std.specs.List.Sorted.{IsStrictlySortedBy}
use Rattle.lvish_lattice.specs.Ascending.{merge_rises, one_rises, ties_are_same}
use Rattle.lvish_lattice.specs.Elements.{has}
use Rattle.lvish_lattice.proofs.Several.{one_comes, all_came, taken_back}
use Rattle.lvish_lattice.proofs.trees.put_all_in_tree.Goals as goal

pub loop-x-init : goal.loop-x-init
loop-x-init g c = record { ascending = c.requires.ascending; with = λ q. refl }

pub loop-x-preserved : goal.loop-x-preserved
loop-x-preserved g c =
    let v = g.met.V in
    let R = g.V.Ord.cmp in
    let values = c.args.missing.now in
    let i = c.loop-x.x-index in
    let x = c.x-item.result in
    let held = c.loop-x.tree.keys in
    let more : take (i + 1) values ≡ take i values ++ x ∷ [] = take_more values i x c.loop-x-test.true ∙ ap (λ y. take i values ++ y ∷ []) (sym c.x-item.is) in
    let put : c.put_in_tree.new.tree.keys ≡ sorted_merge R true (x ∷ []) held = c.in_default.ensures.put in
    record {
      ascending = subst (IsStrictlySortedBy R) (sym put) (merge_rises v.Ord.total (x ∷ []) held (one_rises R x) c.loop-x.invariant.ascending);
      with = one_comes v.Ord.total x (take i values) (take (i + 1) values) c.args.tree.now.keys held c.put_in_tree.new.tree.keys more put c.loop-x.invariant.with;
    }

pub returns-in-Err-clause-refused : goal.returns-in-Err-clause-refused
returns-in-Err-clause-refused g c =
    let v = g.met.V in
    let R = g.V.Ord.cmp in
    let left : c.take_out.new.tree.keys ≡ c.args.tree.now.keys = taken_back v.Ord.total (ties_are_same R v.Plain.identical v.Ord.matches_eq) c.loop-x.x-index c.args.missing.now c.args.tree.now.keys c.loop-x.tree.keys c.take_out.new.tree.keys
    c.requires.ascending c.take_out.ensures.ascending c.requires.apart c.loop-x.invariant.with
    (λ q. c.take_out.ensures.others q ∙ ap (λ t. has R t.keys q && not (has R c.args.missing.now q)) c.in-Err.ensures.refused) in
    λ i. record { keys = left i }

pub returns-clause-put : goal.returns-clause-put
returns-clause-put g c =
    let v = g.met.V in
    let R = g.V.Ord.cmp in
    let values = c.args.missing.now in
    let all : take c.loop-x.x-index values ≡ values = take_all _ values (omega (arith, c.loop-x-test.false)) in
    all_came v.Ord.total (ties_are_same R v.Plain.identical v.Ord.matches_eq) (take c.loop-x.x-index values) values c.args.tree.now.keys c.loop-x.tree.keys all c.requires.values c.requires.ascending c.loop-x.invariant.ascending c.loop-x.invariant.with
