use Rattle.std.proofs.Common.{◌≡◌, rules, ◌∙◌, is_lt}
use Rattle.std.specs.List.{zip}
use Rattle.std.proofs.lemmas.List.MinMax.{ranks_by}
use Rattle.std.proofs.lemmas.Fn.{always_returns_same}
use Rattle.lvish_names.specs.NameOrder.{name_cmp}
use Rattle.lvish_names.specs.laws.OrderLaws.{name_ties, name_equiv, name_total}
use Rattle.lvish_names.proofs.NameLaws.{same_name-true}
use Rattle.lvish_core.specs.Tasks.{entries_at}
use Rattle.lvish_core.proofs.Indexing.{once}
use Rattle.lvish_core.proofs.Ordered.{sorted_tasks, sorted_names}
use Rattle.lvish_core.proofs.tasks.Tasks.in_order.Goals as goal

-- what is listed are the tasks
all : (g : _) (c : goal.After-sort_unstable_by g) → entries_at c.in_ok-tasks.tasks.items ≡ zip c.self.inside.names.items c.self.inside.stages.items
all g c = c.in_ok-tasks.ensures ∙ (λ i. zip (c.deref.ensures.value i) (c.deref-2.ensures.value i))

pub returns-clause-all : goal.returns-clause-all
returns-clause-all g c = rw (← c.self.view_is)
    (sorted_tasks g.E.PartialEq.eq (name_equiv g.met.E.Eq.laws) _ (once _ (name_equiv g.met.E.Eq.laws) _ _ _ _ c.self.invariant) c.in_ok-tasks.tasks.items c.sort_unstable_by.new.self.items (all g c) c.sort_unstable_by.ensures.permutation
    (same_name-true g.met.E.Plain.identical))

pub returns-clause-ascending : goal.returns-clause-ascending
returns-clause-ascending g c =
    sorted_names g.E.PartialEq.eq (name_equiv g.met.E.Eq.laws) _ (once _ (name_equiv g.met.E.Eq.laws) _ _ _ _ c.self.invariant) c.in_ok-tasks.tasks.items c.sort_unstable_by.new.self.items (all g c) c.sort_unstable_by.ensures.permutation
    g.E.Ord.cmp (name_total g.met.E.Ord.total) (name_ties g.E.Ord.cmp g.met.E.Ord.matches_eq)
    (c.sort_unstable_by.ensures.sorted (λ x y. is_lt (name_cmp g.E.Ord.cmp x.0.now y.0.now)) (ranks_by (name_total g.met.E.Ord.total) (λ r. r.0.now)) (always_returns_same _ _ _ (λ a r after called. search rules)))
