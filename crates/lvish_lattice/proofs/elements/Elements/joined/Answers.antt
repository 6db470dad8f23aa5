use Rattle.std.proofs.Common.{◌∙◌, ap, true}
use Rattle.std.specs.Set.{sorted_merge}
use Rattle.lvish_lattice.specs.Ascending.{merge_swaps, ties_are_same}
use Rattle.lvish_lattice.proofs.elements.Elements.joined.Goals as goal

pub returns : goal.returns
returns g c =
    let v = g.met.V in
    let xs = c.args.self.now in
    let ys = c.args.other.now in
    c.in_ok-put_all-2.ensures.put ∙ ap (sorted_merge g.V.Ord.cmp true ys) c.in_ok-joined-2.ensures ∙ merge_swaps v.Ord.total (ties_are_same g.V.Ord.cmp v.Plain.identical v.Ord.matches_eq) ys xs c.requires.second c.requires.first
