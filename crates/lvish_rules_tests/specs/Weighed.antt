-- A walk through a graph whose moves are said to take long.
use Rattle.std.proofs.Common.{ℤ, zero}
use Rattle.lvish_rules.specs.Reach.{no_graph, reaching, reaching_named}
use Rattle.lvish_rules.specs.Rules.{RuleSet, NamesRelations}
use Rattle.lvish_rules_tests.specs.declared.weighed.Weighed.{Weighed}

-- the rules of its graph
abbrev pub weighed : {S : Type 0} → (ℤ → S) → Weighed → RuleSet S ℤ
weighed only w = reaching only w.graph

-- some walk
pub no_walk : Weighed
no_walk = record { graph = no_graph; statements = zero }

pub weighed_named : {S : Type 0} (only : ℤ → S) (w : Weighed) → NamesRelations (weighed only w)
weighed_named only w = reaching_named only w.graph
