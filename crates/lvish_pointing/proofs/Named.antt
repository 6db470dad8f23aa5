-- Solutions over names, and what is held of nodes.
use Rattle.std.proofs.Common.{◌≡◌, ◌<◌, ◌↔◌, List, [], Option, Some, None, length, map, slice_get, refl, sym, ◌∙◌, ap, subst}
use Rattle.std.specs.Prelude.{unwrap_or}
use Rattle.std.proofs.lemmas.Option.{slice_get-get_or}
use Rattle.lvish_rules.specs.Reach.{of_map, in_map}
use Rattle.lvish_facts.specs.declared.node.Node.{Node}
use Rattle.lvish_facts.specs.Names.{Word, IsEachOnce}
use Rattle.lvish_pointing.specs.declared.fact.Kind.{Kind}
use Rattle.lvish_pointing.specs.declared.fact.Kind.TheVariants.{Address, Copy, Load, Store}
use Rattle.lvish_pointing.specs.declared.fact.Fact.{Fact}
use Rattle.lvish_pointing.specs.Solutions.{IsMetAs, IsMet, Solves}
use Rattle.lvish_pointing.specs.Numbers.{name_at, named, AreInside, inside_is}

-- relations that are the same meet the same constraints
pub same_met : {N : Type 0} (P Q : N → N → Type 0) → ((a b : N) → P a b ↔ Q a b) → (kind : Kind) (p q : N) → IsMetAs P kind p q → IsMetAs Q kind p q
same_met P Q same Address p x met = (same p x).0 met
same_met P Q same Copy p q met = λ x h. (same p x).0 (met x ((same q x).1 h))
same_met P Q same Load p q met = λ x y h k. (same p y).0 (met x y ((same q x).1 h) ((same x y).1 k))
same_met P Q same Store p q met = λ x y h k. (same x y).0 (met x y ((same p x).1 h) ((same q y).1 k))

module _ (names : List Word) where
  -- nodes of these names are held
  pub record IsOf (held : Node → Node → Type 0) (a b : Word) : Type 0 where
    pub pointer : Node
    pub target : Node
    pub pointer_inside : pointer.number < length names
    pub target_inside : target.number < length names
    pub pointer_named : name_at names pointer ≡ a
    pub target_named : name_at names target ≡ b
    pub is_held : held pointer target

module _ (names : List Word) (facts : List (Fact Node)) where
  abbrev name : Node → Word
  name n = name_at names n

  -- what is met of names is met of nodes by their names
  met_by_names : (P : Word → Word → Type 0) (kind : Kind) (p q : Node) → IsMetAs P kind (name p) (name q) → IsMetAs (λ a b. P (name a) (name b)) kind p q
  met_by_names P Address p x met = met
  met_by_names P Copy p q met = λ x h. met (name x) h
  met_by_names P Load p q met = λ x y h k. met (name x) (name y) h k
  met_by_names P Store p q met = λ x y h k. met (name x) (name y) h k

  pub solved_by_names : (P : Word → Word → Type 0) → Solves P (map (named names) facts) → Solves (λ a b. P (name a) (name b)) facts
  solved_by_names P solves f c = met_by_names P f.kind f.left f.right (solves (named names f) (in_map (named names) facts f c))

  module _ (once : IsEachOnce names) (inside : AreInside (length names) facts) where
    there : (n : Node) → n.number < length names → slice_get names n.number ≡ Some (name n)
    there n h = by (slice_get names n.number) refl
      where
        by : (o : Option Word) → slice_get names n.number ≡ o → slice_get names n.number ≡ Some (unwrap_or (slice_get names n.number) [])
        by (Some w) z = z ∙ ap (λ o. Some (unwrap_or o [])) (sym z)
        by None z = let g = slice_get-get_or names n.number [] h in let q : ⊥ = cc in absurd q

    pub one_node : (m n : Node) → m.number < length names → n.number < length names → name m ≡ name n → m ≡ n
    one_node m n h k e =
        let same : m.number ≡ n.number = once m.number n.number (name m) (there m h) (there n k ∙ ap Some (sym e)) in
        λ i. record { number = same i }

    module _ (held : Node → Node → Type 0) (held_inside : (p x : Node) → held p x → (p.number < length names) × (x.number < length names)) where
      abbrev Of : Word → Word → Type 0
      Of = IsOf names held

      is_of : (p x : Node) → held p x → Of (name p) (name x)
      is_of p x h = let lt = held_inside p x h in record { pointer = p; target = x; pointer_inside = lt.0; target_inside = lt.1; pointer_named = refl; target_named = refl; is_held = h }

      -- what nodes of these names are is what this node is
      pointed : (p : Node) → p.number < length names → (b : Word) → (o : Of (name p) b) → held p o.target
      pointed p lt b o = subst (λ n. held n o.target) (one_node o.pointer p o.pointer_inside lt o.pointer_named) o.is_held

      to_name : (p x : Node) (b : Word) → name x ≡ b → held p x → Of (name p) b
      to_name p x b e h = subst (Of (name p)) e (is_of p x h)

      met_of_names : (kind : Kind) (p q : Node) → p.number < length names → q.number < length names → IsMetAs held kind p q → IsMetAs Of kind (name p) (name q)
      met_of_names Address p x h k met = is_of p x met
      met_of_names Copy p q h k met = λ b o. to_name p o.target b o.target_named (met o.target (pointed q k b o))
      met_of_names Load p q h k met = λ a b o r.
          let x : Node = o.target in
          let second : held x r.target = subst (λ n. held n r.target) (one_node r.pointer x r.pointer_inside o.target_inside (r.pointer_named ∙ sym o.target_named)) r.is_held in
          to_name p r.target b r.target_named (met x r.target (pointed q k a o) second)
      met_of_names Store p q h k met = λ a b o r.
          let x : Node = o.target in
          subst (λ w. Of w b) o.target_named (to_name x r.target b r.target_named (met x r.target (pointed p h a o) (pointed q k b r)))

      pub solves_names : Solves held facts → Solves Of (map (named names) facts)
      solves_names solves f c =
          let g = of_map (named names) facts f c in
          let lt = inside_is (length names) facts g.0 inside g.1 in
          subst (IsMet Of) g.2 (met_of_names g.0.kind g.0.left g.0.right lt.0 lt.1 (solves g.0 g.1))
