-- What follows from the rules of a walk is what successors lead to; what they lead to is what edges reach.
use Rattle.std.proofs.Common.{◌≡◌, ◌↔◌, inl, inr, ℕ, List, [], ◌∷◌, Some, Contains, refl, sym, ◌∙◌, subst, arith}
use Rattle.lvish_rules.specs.declared.moves.Move.{Move}
use Rattle.lvish_rules.specs.declared.moves.Move.TheVariants.{Put, Watch}
use Rattle.lvish_rules.specs.Rules.{Follows, at_first, fires, Holds}
use Rattle.lvish_rules.specs.Reach.{of_two}
use Rattle.lvish_facts.specs.declared.node.Node.{Node}
use Rattle.lvish_facts.specs.Names.{Word, IsNamed}
use Rattle.lvish_reaching.specs.Edges.{Edge, IsReachable, itself, along}
use Rattle.lvish_reaching.specs.Graphs.{GraphView, root_node, successors, IsGraphOf, IsReached, at_root, onward}
use Rattle.lvish_reaching.specs.Walk.{walking, of_one}

module _ {S : Type 0} (gather : List Node → S) (events : S → List Node) (members : (ns : List Node) (n : Node) → Contains (events (gather ns)) n ↔ Contains ns n) (g : GraphView) where
  -- a put puts only what is reached
  abbrev IsSound : Move S → Type 0
  IsSound (Put r d) = (n : Node) → Contains (events d) n → IsReached g n
  IsSound (Watch r w) = Unit {0}

  put_sound : (ns : List Node) → ((n : Node) → Contains ns n → IsReached g n) → (m : Move S) → Put 0 (gather ns) ≡ m → IsSound m
  put_sound ns h m e = subst IsSound e (λ n c. h n ((members ns n).0 c))

  sound : {m : Move S} → Follows events (walking gather g) m → IsSound m
  sound {m = m} (at_first h) = elim (of_two (Put 0 (gather (root_node ∷ []))) (Watch 0 0) m h) [
    | inl e ↦ put_sound (root_node ∷ []) (λ n c. subst (IsReached g) (of_one root_node n c) at_root) m e
    | inr e ↦ subst IsSound e (tt {0})
  ]
  sound {m = m} (fires r w d e watch put below h) =
      put_sound (successors g e) (λ n c. onward (sound put e below) c) m (of_one (Put 0 (gather (successors g e))) m h)

  watched : Follows events (walking gather g) (Watch 0 0)
  watched = at_first (1, omega arith, refl)

  pub reached_holds : (n : Node) → IsReached g n → Holds events (walking gather g) 0 n
  reached_holds n at_root = (gather (root_node ∷ []), at_first (0, omega arith, refl), (members (root_node ∷ []) root_node).1 (0, omega arith, refl))
  reached_holds n (onward {from = from} r c) =
      let p = reached_holds from r in
      (gather (successors g from), fires 0 0 p.0 from watched p.1 p.2 (0, omega arith, refl), (members (successors g from) n).1 c)

  pub holds_reached : (r : ℕ) (n : Node) → Holds events (walking gather g) r n → IsReached g n
  holds_reached r n h = sound h.1 n h.2

same_number : (a b : Node) → a.number ≡ b.number → a ≡ b
same_number a b h = λ i. record { number = h i }

module _ (g : GraphView) (root : Word) (edges : List Edge) (is : IsGraphOf g root edges) where
  -- the names of a node are the same
  pub one_name : (n : Node) (v w : Word) → IsNamed g.names n v → IsNamed g.names n w → v ≡ w
  one_name n v w h k = let e : ◌≡◌ {A = _} (Some v) (Some w) = sym h ∙ k in cc

  pub reached_name : (n : Node) → IsReached g n → (name : Word) × IsNamed g.names n name × IsReachable edges root name
  reached_name n at_root = (root, is.root_first, itself)
  reached_name n (onward {from = from} r c) =
      let f = reached_name from r in
      let s = is.sound from n c in
      (s.edge.1, s.to_named, along (subst (IsReachable edges root) (one_name from f.0 s.edge.0 f.1 s.from_named) f.2) s.listed)

  pub name_reached : (name : Word) → IsReachable edges root name → (n : Node) × IsNamed g.names n name × IsReached g n
  name_reached name itself = (root_node, is.root_first, at_root)
  name_reached name (along {from = from} r c) =
      let f = name_reached from r in
      let s = is.complete (from, name) c in
      let e : f.0 ≡ s.from = same_number f.0 s.from (is.once f.0.number s.from.number from f.1 s.from_named) in
      (s.to, s.to_named, onward (subst (IsReached g) e f.2) s.there)
