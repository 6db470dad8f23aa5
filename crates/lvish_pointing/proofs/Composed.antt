-- The rows of an answer are who points to whom in every solution.
use Rattle.std.proofs.Common.{◌≡◌, ◌<◌, ℕ, Bool, true, List, Contains, length, map, sym, subst, ◌∷◌, []}
use Rattle.std.specs.List.Sorted.{IsStrictlySortedBy}
use Rattle.std.specs.Ordering.{nat_cmp}
use Rattle.std.specs.Cmp.Lexicographic.{slice_cmp}
use Rattle.std.proofs.lemmas.Cmp.{nat_list_cmp_total}
use Rattle.lvish_rules.specs.Answer.{HasOnly, HasExactly}
use Rattle.lvish_facts.specs.declared.node.Node.{Node}
use Rattle.lvish_facts.specs.Nodes.{node_cmp}
use Rattle.lvish_facts.specs.Names.{Word}
use Rattle.lvish_pointing.specs.declared.fact.Fact.{Fact}
use Rattle.lvish_pointing.specs.Solutions.{IsSolution, IsInEvery}
use Rattle.lvish_pointing.specs.Numbers.{name_at, named, AreInside}
use Rattle.lvish_pointing.specs.Pointing.{pointing}
use Rattle.lvish_pointing.specs.Answers.{Row, Says, IsOrdered, IsAnswer, lines_with, pointed}
use Rattle.lvish_pointing.specs.Facts.{facts_of}
use Rattle.lvish_pointing.specs.Rows.{rows_of}
use Rattle.lvish_pointing.proofs.Least.{Held, held_within, held_inside, held_solves}
use Rattle.lvish_pointing.proofs.Rising.{one_number}
use Rattle.lvish_pointing.proofs.Named.{IsOf, solved_by_names, solves_names, same_met}
use Rattle.lvish_pointing.proofs.Listed.{pairs_of, says_pairs, pairs_say, says_held, held_says, rows_rise, rows_ordered}

module _ {S : Type 0} (only : Node → S) (items : S → List Node) (one : (x : Node) → items (only x) ≡ x ∷ []) (names : List Word) (names_rise : IsStrictlySortedBy (slice_cmp nat_cmp) names) (facts : List (Fact Node)) (inside : AreInside (length names) facts) (states : List S) where
  abbrev held : Node → Node → Type 0
  held = Held only items one (length names) facts inside

  abbrev rows : List Row
  rows = rows_of items names states (length names)

  both_inside : (p x : Node) → held p x → (p.number < length names) × (x.number < length names)
  both_inside = held_inside only items one (length names) facts inside

  target_inside : (p x : Node) → held p x → x.number < length names
  target_inside p x h = (both_inside p x h).1

  module _ (has : HasOnly items (pointing only (length names) facts) states) where
    -- what rows say is in every solution
    pub rows_sound : (p x : Word) → Says rows p x → IsInEvery (map (named names) facts) p x
    rows_sound p x says pairs solves =
        let o = says_held items names states has.count held target_inside (λ k s e n c. has.each k s e n c) p x says in
        let c = held_within only items one (length names) facts inside (λ a b. Contains pairs (name_at names a, name_at names b)) (solved_by_names names facts (λ a b. Contains pairs (a, b)) solves) o.pointer o.target o.is_held in
        subst (λ q. Contains pairs (q, x)) o.pointer_named (subst (λ q. Contains pairs (name_at names o.pointer, q)) o.target_named c)

    pub each_ordered : ((s : S) → IsStrictlySortedBy node_cmp (items s)) → (r : Row) → Contains rows r → IsOrdered r
    each_ordered ascend = rows_ordered items names states names_rise ascend (λ k s e n c. target_inside (record { number = k }) n (has.each k s e n c))

  module _ (has : HasExactly items (pointing only (length names) facts) states) where
    of_rows : (p x : Word) → Says rows p x → IsOf names held p x
    of_rows = says_held items names states has.count held target_inside (λ k s e n c. (has.each k s e n).0 c)

    to_rows : (p x : Word) → IsOf names held p x → Says rows p x
    to_rows = held_says items names states has.count held (λ k s e n h. (has.each k s e n).1 h)

    -- the pairs of the rows are a solution
    rows_solve : IsSolution (pairs_of rows) (map (named names) facts)
    rows_solve f c =
        let met = solves_names names facts (λ i j w p q. one_number nat_list_cmp_total names names_rise i j w p q) inside held both_inside (held_solves only items one (length names) facts inside) f c in
        same_met (IsOf names held) (λ p x. Contains (pairs_of rows) (p, x)) (λ p x. (λ o. says_pairs rows p x (to_rows p x o), λ d. of_rows p x (pairs_say rows p x d))) f.kind f.left f.right met

    -- what is in every solution is said
    pub rows_exact : (p x : Word) → IsInEvery (map (named names) facts) p x → Says rows p x
    rows_exact p x every = pairs_say rows p x (every (pairs_of rows) rows_solve)

  -- the text of the rows is an answer to the input
  pub is_answer : (input text : List ℕ) (count : ℕ) (is_whole : Bool) → map (named names) facts ≡ facts_of input
      → text ≡ lines_with rows → count ≡ pointed rows → ((s : S) → IsStrictlySortedBy node_cmp (items s))
      → HasOnly items (pointing only (length names) facts) states → (is_whole ≡ true → HasExactly items (pointing only (length names) facts) states) → IsAnswer input is_whole text count
  is_answer input text count is_whole is spelled counted ascend has all = record {
    rows = rows;
    spelled = spelled;
    counted = counted;
    rising = rows_rise items names states names_rise;
    ordered = each_ordered has ascend;
    sound = λ p x says. subst (λ (fs : List (Fact Word)). IsInEvery fs p x) is (rows_sound has p x says);
    exact = λ whole p x every. rows_exact (all whole) p x (subst (λ (fs : List (Fact Word)). IsInEvery fs p x) (sym is) every);
  }

-- the same, for facts over as many names
pub answered : {S : Type 0} (only : Node → S) (items : S → List Node) → ((x : Node) → items (only x) ≡ x ∷ [])
    → ((s : S) → IsStrictlySortedBy node_cmp (items s)) → (names : List Word)
    → IsStrictlySortedBy (slice_cmp nat_cmp) names
    → (count : ℕ) → count ≡ length names → (facts : List (Fact Node)) → AreInside count facts → (states : List S) (input text : List ℕ) (many : ℕ) (is_whole : Bool) → map (named names) facts ≡ facts_of input → text ≡ lines_with (rows_of items names states (length names)) → many ≡ pointed (rows_of items names states (length names))
    → HasOnly items (pointing only count facts) states → (is_whole ≡ true → HasExactly items (pointing only count facts) states) → IsAnswer input is_whole text many
answered only items one ascend names rise count same facts inside states input text many is_whole is spelled counted has all =
    is_answer only items one names rise facts (subst (λ n. AreInside n facts) same inside) states input text many is_whole is spelled counted ascend
    (subst (λ n. HasOnly items (pointing only n facts) states) same has) (λ w. subst (λ n. HasExactly items (pointing only n facts) states) same (all w))
