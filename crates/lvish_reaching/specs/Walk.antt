-- The rules of a walk through a graph.
use Rattle.std.specs.Prelude.{◌≡◌, ◌<◌, zero, suc, List, [], ◌∷◌, Contains}
use Rattle.std.proofs.Common.{arith, subst, inl, inr}
use Rattle.lvish_rules.specs.declared.moves.Move.{Move}
use Rattle.lvish_rules.specs.declared.moves.Move.TheVariants.{Put, Watch}
use Rattle.lvish_rules.specs.Rules.{RuleSet, relation_of, NamesRelations}
use Rattle.lvish_rules.specs.Reach.{of_two}
use Rattle.lvish_facts.specs.declared.node.Node.{Node}
use Rattle.lvish_reaching.specs.Graphs.{GraphView, root_node, successors}

-- the graph of no nodes
pub no_graph : GraphView
no_graph = record { names = []; next = [] }

-- the root is reached, and so are the successors of what is, all of a node's at once
abbrev pub walking : {S : Type 0} → (List Node → S) → GraphView → RuleSet S Node
walking gather g = record {
  relations = 1;
  first = Put 0 (gather (root_node ∷ [])) ∷ Watch 0 0 ∷ [];
  fired = λ watch n. Put 0 (gather (successors g n)) ∷ [];
}

-- ---- moves name the one relation

pub of_one : {X : Type 0} (a x : X) → Contains (a ∷ []) x → a ≡ x
of_one a x (zero, h, e) = e
of_one a x (suc k, h, e) = absurd (omega (arith, h))

pub walking_named : {S : Type 0} (gather : List Node → S) (g : GraphView) → NamesRelations (walking gather g)
walking_named {S = S} gather g = record {
  first = λ m h. elim (of_two (Put 0 (gather (root_node ∷ []))) (Watch 0 0) m h) [
    | inl e ↦ subst (λ (x : Move S). relation_of x < 1) e (omega arith)
    | inr e ↦ subst (λ (x : Move S). relation_of x < 1) e (omega arith)
  ];
  fired = λ watch n m h. subst (λ (x : Move S). relation_of x < 1) (of_one (Put 0 (gather (successors g n))) m h) (omega arith);
}
