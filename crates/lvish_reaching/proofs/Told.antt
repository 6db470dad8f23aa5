-- The names of nodes, one after the other.
use Rattle.std.proofs.Common.{◌≡◌, ◌↔◌, inl, inr, List, [], ◌∷◌, ◌++◌, Some, None, Contains, slice_get, refl, sym, ◌∙◌, ap, subst, arith}
use Rattle.std.specs.Borrow.{Bor}
use Rattle.std.proofs.lemmas.List.{map-append}
use Rattle.std.proofs.lemmas.List.Elements.{Contains-append_left, Contains-append_right, Contains-append_cases}
use Rattle.lvish_facts.specs.declared.node.Node.{Node}
use Rattle.lvish_facts.specs.Names.{Word, IsNamed, names_in}
use Rattle.lvish_reaching.specs.Walk.{of_one}

module _ (names : List Word) where
  -- these are the names of these nodes
  abbrev pub AreTold : List (Bor Word) → List Node → Type 0
  AreTold refs nodes = (w : Word) → Contains (names_in refs) w ↔ ((n : Node) × Contains nodes n × IsNamed names n w)

  pub none_told : AreTold [] []
  none_told w = (λ c. absurd (omega (arith, c.1)), λ n. absurd (omega (arith, n.1.1)))

  same_name : (node n : Node) (v w : Word) → node ≡ n → IsNamed names node v → IsNamed names n w → v ≡ w
  same_name node n v w e h k = let both : ◌≡◌ {A = _} (Some v) (Some w) = sym h ∙ ap (λ m. slice_get names m.number) e ∙ k in cc

  pub told_more : (refs : List (Bor Word)) (nodes : List Node) (node : Node) (name : Bor Word)
      → IsNamed names node name.now → AreTold refs nodes → AreTold (refs ++ name ∷ []) (nodes ++ node ∷ [])
  told_more refs nodes node name named is w =
      let split : names_in (refs ++ name ∷ []) ≡ names_in refs ++ name.now ∷ [] = map-append (λ ref. ref.now) refs (name ∷ []) in (
        λ c. elim (Contains-append_cases (names_in refs) (name.now ∷ []) w (subst (λ (l : List Word). Contains l w) split c)) [
          | inl d ↦ let n = (is w).0 d in (n.0, Contains-append_left nodes (node ∷ []) n.0 n.1, n.2)
          | inr d ↦ (node, Contains-append_right nodes (node ∷ []) node (0, omega arith, refl), subst (IsNamed names node) (of_one name.now w d) named)
        ],
        λ n. subst (λ (l : List Word). Contains l w) (sym split) (elim (Contains-append_cases nodes (node ∷ []) n.0 n.1) [
          | inl d ↦ Contains-append_left (names_in refs) (name.now ∷ []) w ((is w).1 (n.0, d, n.2))
          | inr d ↦ Contains-append_right (names_in refs) (name.now ∷ []) w (subst (Contains (name.now ∷ [])) (same_name node n.0 name.now w (of_one node n.0 d) named n.2) (0, omega arith, refl))
        ]),
      )

  pub told_none : (refs : List (Bor Word)) (nodes : List Node) (node : Node) → slice_get names node.number ≡ None
      → AreTold refs nodes → AreTold refs (nodes ++ node ∷ [])
  told_none refs nodes node none is w = (
    λ c. let n = (is w).0 c in (n.0, Contains-append_left nodes (node ∷ []) n.0 n.1, n.2),
    λ n. elim (Contains-append_cases nodes (node ∷ []) n.0 n.1) [
      | inl d ↦ (is w).1 (n.0, d, n.2)
      | inr d ↦ let both : ◌≡◌ {A = _} None (Some w) = sym none ∙ ap (λ m. slice_get names m.number) (of_one node n.0 d) ∙ n.2 in absurd cc
    ],
  )
