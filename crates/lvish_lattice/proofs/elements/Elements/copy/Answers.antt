use Rattle.std.proofs.Common.{◌∙◌, ap, sym}
use Rattle.lvish_lattice.specs.Ascending.{ties_are_same, same_members}
use Rattle.lvish_lattice.specs.Elements.{elements}
use Rattle.lvish_lattice.proofs.elements.Elements.copy.Goals as goal

pub returns-in_ok-new-in-Tree : goal.returns-in_ok-new-in-Tree
returns-in_ok-new-in-Tree g c =
    let v = g.met.V in
    let made = c.in_ok-tree-in-Tree.ensures.made in
    ap (λ t. t.keys) c.in_ok-new-in-Tree.ensures.ok ∙ same_members v.Ord.total (ties_are_same g.V.Ord.cmp v.Plain.identical v.Ord.matches_eq) _ _ made.1 c.tree_copy.ensures.ascending made.0 ∙ ap (λ t. t.keys) c.deref.ensures ∙ ap elements (sym c.in-Tree.is) ∙ c.self.view_is
