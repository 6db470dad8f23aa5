use Rattle.std.proofs.Common.{◌∙◌, ap, subst, map}
use Rattle.std.specs.List.Sorted.{IsStrictlySortedBy}
use Rattle.lvish_lattice.specs.Ascending.{ties_are_same}
use Rattle.lvish_compound.specs.Blocks.{flat}
use Rattle.lvish_compound.specs.Keyed.{key}
use Rattle.lvish_compound.proofs.Blocks.{sound_full}
use Rattle.lvish_compound.proofs.tree.Tree.iter.Goals as goal

pub of_blocks-requires-clause-full : goal.of_blocks-requires-clause-full
of_blocks-requires-clause-full g c = rw c.iter.ensures.rest (sound_full g.K.Ord.cmp g.K.Key.high g.met.K.Ord.total (ties_are_same g.K.Ord.cmp g.met.K.Plain.identical g.met.K.Ord.matches_eq) g.met.K.Key.rises c.self.inside.blocks.entries c.self.invariant.0)

pub of_blocks-requires-clause-counted : goal.of_blocks-requires-clause-counted
of_blocks-requires-clause-counted g c = rw c.iter.ensures.rest c.self.invariant.2

pub returns-clause-same : goal.returns-clause-same
returns-clause-same g c = c.of_blocks.ensures ∙ ap flat c.iter.ensures.rest ∙ c.self.view_is

pub returns-clause-ascending : goal.returns-clause-ascending
returns-clause-ascending g c = subst (λ es. IsStrictlySortedBy g.K.Ord.cmp (map key es)) c.self.view_is c.self.invariant.1
