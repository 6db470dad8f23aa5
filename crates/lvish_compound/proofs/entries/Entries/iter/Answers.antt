use Rattle.std.proofs.Common.{◌∙◌, ap, sym, subst, map}
use Rattle.std.specs.List.Sorted.{IsStrictlySortedBy}
use Rattle.lvish_compound.specs.Keyed.{key}
use Rattle.lvish_compound.specs.Stored.{entries}
use Rattle.lvish_compound.proofs.Few.{few_rises}
use Rattle.lvish_compound.proofs.entries.Entries.iter.Goals as goal

pub returns-in-Few-None-clause-ascending : goal.returns-in-Few-None-clause-ascending
returns-in-Few-None-clause-ascending g c = subst (λ es. IsStrictlySortedBy g.K.Ord.cmp (map key es)) (ap entries (sym c.in-Few-None.is) ∙ c.self.view_is) (few_rises g.K.Ord.cmp c.in-Few-None.field-0)

pub returns-in-Few-Some-clause-ascending : goal.returns-in-Few-Some-clause-ascending
returns-in-Few-Some-clause-ascending g c = subst (λ es. IsStrictlySortedBy g.K.Ord.cmp (map key es)) (ap entries (sym c.in-Few-Some.is) ∙ c.self.view_is) (few_rises g.K.Ord.cmp c.in-Few-Some.field-0)

pub returns-in-Tree-clause-same : goal.returns-in-Tree-clause-same
returns-in-Tree-clause-same g c = c.of_tree.ensures ∙ c.iter.ensures.same ∙ ap entries (sym c.in-Tree.is) ∙ c.self.view_is

pub returns-in-Tree-clause-ascending : goal.returns-in-Tree-clause-ascending
returns-in-Tree-clause-ascending g c = subst (λ es. IsStrictlySortedBy g.K.Ord.cmp (map key es)) (ap entries (sym c.in-Tree.is) ∙ c.self.view_is) c.iter.ensures.ascending
