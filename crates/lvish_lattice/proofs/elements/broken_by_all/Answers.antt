use Rattle.std.proofs.Common.{◌∙◌, ap, true}
use Rattle.std.specs.Set.{sorted_merge}
use Rattle.lvish_lattice.specs.Ascending.{ties_are_same, same_members}
use Rattle.lvish_lattice.proofs.elements.broken_by_all.Goals as goal

pub returns : goal.returns
returns g c =
    let v = g.met.V in
    let R = g.V.Ord.cmp in
    let made = c.in_ok-tree.ensures.made in
    ap (λ t. t.keys) c.in_ok-new.ensures.ok ∙ c.in_ok-put_all_in_tree.ensures.put ∙ ap (sorted_merge R true c.args.missing.now) (same_members v.Ord.total (ties_are_same R v.Plain.identical v.Ord.matches_eq) _ _ made.1 c.tree_of_row.ensures.ascending made.0)
