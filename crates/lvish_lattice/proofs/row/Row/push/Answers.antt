use Rattle.std.proofs.Common.{not, ap, subst}
use Rattle.std.specs.List.Sorted.{IsStrictlySortedBy}
use Rattle.lvish_lattice.specs.Ascending.{ties_are_same}
use Rattle.lvish_lattice.proofs.Rows.{pushed, not_there_by}
use Rattle.lvish_lattice.proofs.row.Row.push.Goals as goal

pub invariant_of-self-2 : goal.invariant_of-self-2
invariant_of-self-2 g c = (pushed g.met.V.Ord.total c.args.x c.self.inside.items.value.items c.args.self.now c.push.new.self.items c.self.view_is (rw c.deref_mut.ensures.value at c.in_ok-push.ensures.items) c.self.invariant c.requires).0

pub returns-clause-put : goal.returns-clause-put
returns-clause-put g c = (pushed g.met.V.Ord.total c.args.x c.self.inside.items.value.items c.args.self.now c.push.new.self.items c.self.view_is (rw c.deref_mut.ensures.value at c.in_ok-push.ensures.items) c.self.invariant c.requires).1

pub returns-clause-added : goal.returns-clause-added
returns-clause-added g c =
    let v = g.met.V in
    ap not (not_there_by v.Ord.total (ties_are_same g.V.Ord.cmp v.Plain.identical v.Ord.matches_eq) g.V.PartialEq.eq v.Ord.matches_eq c.args.x c.args.self.now (subst (IsStrictlySortedBy g.V.Ord.cmp) c.self.view_is c.self.invariant) c.requires)
