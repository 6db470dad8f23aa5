-- The listing of what was computed answers the input.
use Rattle.std.proofs.Common.{◌≡◌, ℕ, Bool, true, List, Some, Contains, ◌↔◌, slice_get, subst}
use Rattle.lvish_rules.specs.Answer.{HasExactly, HasOnly}
use Rattle.lvish_facts.specs.declared.node.Node.{Node}
use Rattle.lvish_facts.specs.Names.{Word}
use Rattle.lvish_reaching.specs.Edges.{edges_of, IsReachable}
use Rattle.lvish_reaching.specs.Graphs.{GraphView, IsGraphOf}
use Rattle.lvish_reaching.specs.Walk.{walking}
use Rattle.lvish_reaching.specs.Answers.{IsListing, IsAnswer}
use Rattle.lvish_reaching.proofs.Walks.{holds_reached, reached_holds, one_name, reached_name, name_reached}

module _ {S : Type 0} (gather : List Node → S) (events : S → List Node) (members : (ns : List Node) (n : Node) → Contains (events (gather ns)) n ↔ Contains ns n) (input : List ℕ) (root : Word) (g : GraphView)
    (is : IsGraphOf g root (edges_of input)) (states : List S) (set : S) (there : slice_get states 0 ≡ Some set) where
  pub is_answer : (text : List ℕ) (count : ℕ) (whole : Bool) → IsListing g (events set) text count
      → HasOnly events (walking gather g) states → (whole ≡ true → HasExactly events (walking gather g) states)
      → IsAnswer input root whole text count
  is_answer text count whole l only exactly = record {
    names = l.names;
    spelled = l.spelled;
    counted = l.counted;
    rising = l.rising;
    sound = λ name c.
        let n = (l.of_nodes name).0 c in
        let holds = only.each 0 set there n.0 n.1 in
        let r = reached_name g root (edges_of input) is n.0 (holds_reached gather events members g 0 n.0 holds) in
        subst (IsReachable (edges_of input) root) (one_name g root (edges_of input) is n.0 r.0 name r.1 n.2) r.2;
    exact = λ w name h.
        let n = name_reached g root (edges_of input) is name h in
        let e = exactly w in
        (l.of_nodes name).1 (n.0, (e.each 0 set there n.0).1 (reached_holds gather events members g n.0 n.2), n.1);
  }
