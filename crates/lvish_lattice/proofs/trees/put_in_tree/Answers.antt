use Rattle.std.proofs.Common.{◌∙◌, ap}
use Rattle.std.specs.BTreeSet.{insert_key}
use Rattle.lvish_lattice.specs.Ascending.{ties_are_same}
use Rattle.lvish_lattice.proofs.Puts.{insert_is_merge}
use Rattle.lvish_lattice.proofs.trees.put_in_tree.Goals as goal

pub returns-clause-put : goal.returns-clause-put
returns-clause-put g c =
    let v = g.met.V in
    c.in_ok-added.ensures.keys ∙ ap (insert_key g.V.Ord.cmp c.args.tree.now.keys) c.new.ensures ∙ insert_is_merge (ties_are_same g.V.Ord.cmp v.Plain.identical v.Ord.matches_eq) c.args.x c.args.tree.now.keys
