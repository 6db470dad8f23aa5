use Rattle.lvish_lattice.specs.Ascending.{ties_are_same}
use Rattle.lvish_lattice.proofs.Several.{all_pushed}
use Rattle.lvish_lattice.proofs.row.Row.push_all.Goals as goal

pub invariant_of-self-2 : goal.invariant_of-self-2
invariant_of-self-2 g c =
    let v = g.met.V in
    (all_pushed v.Ord.total (ties_are_same g.V.Ord.cmp v.Plain.identical v.Ord.matches_eq) c.args.values.now c.self.inside.items.value.items c.args.self.now c.extend_from_slice.new.self.items c.self.view_is (rw c.deref_mut.ensures.value at c.in_ok-extend_from_slice.ensures.items) c.self.invariant c.requires.ascending c.requires.behind).0

pub returns-clause-put : goal.returns-clause-put
returns-clause-put g c =
    let v = g.met.V in
    (all_pushed v.Ord.total (ties_are_same g.V.Ord.cmp v.Plain.identical v.Ord.matches_eq) c.args.values.now c.self.inside.items.value.items c.args.self.now c.extend_from_slice.new.self.items c.self.view_is (rw c.deref_mut.ensures.value at c.in_ok-extend_from_slice.ensures.items) c.self.invariant c.requires.ascending c.requires.behind).1
