-- The rows of an answer say what is held.
use Rattle.std.proofs.Common.{◌≡◌, ◌<◌, ◌≤◌, inl, inr, ℕ, zero, suc, Bool, true, false, nat_lt, List, [], ◌∷◌, ◌++◌, Option, Some, None, Ordering, Contains, length, map, slice_get, refl, sym, ◌∙◌, ap, subst, arith}
use Rattle.std.specs.Prelude.{◌==◌, cond, unwrap_or}
use Rattle.std.specs.List.{flat_map}
use Rattle.std.specs.List.Sorted.{IsStrictlySortedBy}
use Rattle.std.specs.Ordering.{nat_cmp, on}
use Rattle.std.specs.declared.cmp.Ordering.TheVariants.{Less, Equal, Greater}
use Rattle.std.specs.Cmp.Lexicographic.{slice_cmp}
use Rattle.std.proofs.lemmas.Bool.{ltb-true, ltb-false}
use Rattle.std.proofs.lemmas.List.Elements.{Contains-append_cases, Contains-append_left, Contains-append_right}
use Rattle.lvish_rules.specs.Reach.{of_map, in_map}
use Rattle.lvish_facts.specs.declared.node.Node.{Node}
use Rattle.lvish_facts.specs.Nodes.{node_cmp}
use Rattle.lvish_facts.specs.Names.{Word}
use Rattle.lvish_pointing.specs.Numbers.{name_at}
use Rattle.lvish_pointing.specs.Answers.{Row, IsOrdered, Says}
use Rattle.lvish_pointing.specs.Rows.{row_of, row_at, rows_of}
use Rattle.lvish_pointing.specs.PointingLaws.{of_one}
use Rattle.lvish_pointing.proofs.Rising.{found, rises, one_sorted, none_sorted, both_sorted, map_sorted}
use Rattle.lvish_pointing.proofs.Named.{IsOf}

-- ---- pairs of rows

abbrev pairs_on : Row → List (Word × Word)
pairs_on row = map (λ x. (row.pointer, x)) row.targets

-- each pointer with each name that its row has
abbrev pub pairs_of : List Row → List (Word × Word)
pairs_of rows = flat_map pairs_on rows

pub says_pairs : (rows : List Row) (p x : Word) → Says rows p x → Contains (pairs_of rows) (p, x)
says_pairs rows p x s = among rows s.there
  where
    of_row : Contains (pairs_on s.row) (p, x)
    of_row = subst (λ q. Contains (pairs_on s.row) (q, x)) s.of (in_map (λ y. (s.row.pointer, y)) s.row.targets x s.names)

    among : (rows : List Row) → Contains rows s.row → Contains (pairs_of rows) (p, x)
    among [] c = absurd (omega (arith, c.1))
    among (r ∷ rows) (zero, h, e) = Contains-append_left (pairs_on r) (pairs_of rows) (p, x) (subst (λ (q : Row). Contains (pairs_on q) (p, x)) (sym e) of_row)
    among (r ∷ rows) (suc k, h, e) = Contains-append_right (pairs_on r) (pairs_of rows) (p, x) (among rows (k, omega (arith, h), e))

pub pairs_say : (rows : List Row) (p x : Word) → Contains (pairs_of rows) (p, x) → Says rows p x
pairs_say [] p x c = absurd (omega (arith, c.1))
pairs_say (r ∷ rows) p x c = elim (Contains-append_cases (pairs_on r) (pairs_of rows) (p, x) c) [
  | inl d ↦
      let m = of_map (λ y. (r.pointer, y)) r.targets (p, x) d in
      let a : r.pointer ≡ p = ap (λ (q : Word × Word). q.0) m.2 in
      let b : m.0 ≡ x = ap (λ (q : Word × Word). q.1) m.2 in
      record { row = r; there = (0, omega arith, refl); of = a; names = subst (λ y. Contains r.targets y) b m.1 }
  | inr d ↦
      let s = pairs_say rows p x d in
      record { row = s.row; there = (suc s.there.0, omega (arith, s.there.1), s.there.2); of = s.of; names = s.names }
]

module _ {S : Type 0} (items : S → List Node) (names : List Word) (states : List S) where
  abbrev at : ℕ → List Row
  at k = row_at items names k (slice_get states k)

  abbrev rows : ℕ → List Row
  rows k = rows_of items names states k

  rows_there : (k : ℕ) (r : Row) → Contains (rows k) r → (i : ℕ) × (i < k) × Contains (at i) r
  rows_there zero r c = absurd (omega (arith, c.1))
  rows_there (suc k) r c = elim (Contains-append_cases (rows k) (at k) r c) [
    | inl d ↦ let g = rows_there k r d in (g.0, omega (arith, g.1), g.2)
    | inr d ↦ (k, omega arith, d)
  ]

  rows_here : (k i : ℕ) (r : Row) → i < k → Contains (at i) r → Contains (rows k) r
  rows_here zero i r h c = absurd (omega (arith, h))
  rows_here (suc k) i r h c = by (nat_lt i k) refl (λ lt. rows_here k i r lt c)
    where
      by : (b : Bool) → nat_lt i k ≡ b → (i < k → Contains (rows k) r) → Contains (rows k ++ at k) r
      by true z before = Contains-append_left (rows k) (at k) r (before (ltb-true i k z))
      by false z before =
          let same : i ≡ k = omega (arith, h, ltb-false i k z) in
          Contains-append_right (rows k) (at k) r (subst (λ j. Contains (at j) r) same c)

  -- the row is that of the relation of this number
  record IsRow (i : ℕ) (r : Row) : Type 0 where
    state : S
    there : slice_get states i ≡ Some state
    pointer : r.pointer ≡ name_at names (record { number = i })
    targets : r.targets ≡ map (name_at names) (items state)
    some : items state ≡ [] → ⊥

  row_is : (i : ℕ) (r : Row) → Contains (at i) r → IsRow i r
  row_is i r c = by (slice_get states i) refl c
    where
      with : (s : S) → slice_get states i ≡ Some s → (ns : List Node) → items s ≡ ns → Contains (row_of names (record { number = i }) ns) r → IsRow i r
      with s z [] e c = absurd (omega (arith, c.1))
      with s z (n ∷ ns) e c =
          let is = of_one _ r c in
          record {
            state = s;
            there = z;
            pointer = ap (λ (q : Row). q.pointer) (sym is);
            targets = ap (λ (q : Row). q.targets) (sym is) ∙ ap (map (name_at names)) (sym e);
            some = λ no. let q : ◌≡◌ {A = List Node} (n ∷ ns) [] = sym e ∙ no in absurd (cc q);
          }

      by : (o : Option S) → slice_get states i ≡ o → Contains (row_at items names i o) r → IsRow i r
      by None z c = absurd (omega (arith, c.1))
      by (Some s) z c = with s z (items s) refl c

  -- a row of this number says that it points to the node
  abbrev Has : ℕ → Node → List Row → Type 0
  Has i n rs = (r : Row) × Contains rs r × (r.pointer ≡ name_at names (record { number = i })) × Contains r.targets (name_at names n)

  -- where the relation has the node, there is a row that says so
  at_has : (i : ℕ) (s : S) (n : Node) → slice_get states i ≡ Some s → Contains (items s) n → (r : Row) × Contains (at i) r × (r.pointer ≡ name_at names (record { number = i })) × Contains r.targets (name_at names n)
  at_has i s n e c = subst (λ (o : Option S). Has i n (row_at items names i o)) (sym e) (with (items s) c)
    where
      with : (ns : List Node) → Contains ns n → Has i n (row_of names (record { number = i }) ns)
      with [] c = absurd (omega (arith, c.1))
      with (m ∷ ns) c = (_, (0, omega arith, refl), refl, in_map (name_at names) (m ∷ ns) n c)

  -- ---- what rows say is what is held

  module _ (count : length states ≡ length names) (held : Node → Node → Type 0) where
    -- the relations have only what is held
    abbrev pub HaveOnly : Type 0
    HaveOnly = (k : ℕ) (s : S) → slice_get states k ≡ Some s → (n : Node) → Contains (items s) n → held (record { number = k }) n

    -- the relations have all that is held
    abbrev pub HaveAll : Type 0
    HaveAll = (k : ℕ) (s : S) → slice_get states k ≡ Some s → (n : Node) → held (record { number = k }) n → Contains (items s) n

    abbrev pub all_rows : List Row
    all_rows = rows (length names)

    module _ (held_inside : (p x : Node) → held p x → x.number < length names) where
      pub says_held : HaveOnly → (p x : Word) → Says all_rows p x → IsOf names held p x
      says_held only p x s =
          let t = rows_there (length names) s.row s.there in
          let r = row_is t.0 s.row t.2 in
          let n = of_map (name_at names) (items r.state) x (subst (λ ns. Contains ns x) r.targets s.names) in
          let h = only t.0 r.state r.there n.0 n.1 in
          record {
            pointer = record { number = t.0 };
            target = n.0;
            pointer_inside = t.1;
            target_inside = held_inside (record { number = t.0 }) n.0 h;
            pointer_named = sym r.pointer ∙ s.of;
            target_named = n.2;
            is_held = h;
          }

    pub held_says : HaveAll → (p x : Word) → IsOf names held p x → Says all_rows p x
    held_says all p x o =
        let there = found states o.pointer.number (subst (λ n. o.pointer.number < n) (sym count) o.pointer_inside) in
        let r = at_has o.pointer.number there.0 o.target there.1 (all o.pointer.number there.0 there.1 o.target o.is_held) in
        record {
          row = r.0;
          there = rows_here (length names) o.pointer.number r.0 o.pointer_inside r.1;
          of = r.2 ∙ o.pointer_named;
          names = subst (λ w. Contains r.0.targets w) o.target_named r.3;
        }

  -- ---- rows are in the order of names

  module _ (names_rise : IsStrictlySortedBy (slice_cmp nat_cmp) names) where
    abbrev by_pointer : Row → Row → Ordering
    by_pointer = on (λ (row : Row). row.pointer) (slice_cmp nat_cmp)

    named_there : (k : ℕ) → k < length names → slice_get names k ≡ Some (name_at names (record { number = k }))
    named_there k h = let f = found names k h in f.1 ∙ ap (λ o. Some (unwrap_or o [])) (sym f.1)

    names_rise_at : (i j : ℕ) → i < j → j < length names → slice_cmp nat_cmp (name_at names (record { number = i })) (name_at names (record { number = j })) ≡ Less
    names_rise_at i j h k = rises (slice_cmp nat_cmp) names names_rise i j _ _ h (named_there i (omega (arith, h, k))) (named_there j k)

    at_sorted : (k : ℕ) → IsStrictlySortedBy by_pointer (at k)
    at_sorted k = by (slice_get states k)
      where
        of_nodes : (ns : List Node) → IsStrictlySortedBy by_pointer (row_of names (record { number = k }) ns)
        of_nodes [] = none_sorted by_pointer
        of_nodes (n ∷ ns) = one_sorted by_pointer _

        by : (o : Option S) → IsStrictlySortedBy by_pointer (row_at items names k o)
        by None = none_sorted by_pointer
        by (Some s) = of_nodes (items s)

    rows_sorted : (k : ℕ) → k ≤ length names → IsStrictlySortedBy by_pointer (rows k)
    rows_sorted zero h = none_sorted by_pointer
    rows_sorted (suc k) h = both_sorted by_pointer (rows k) (at k) (rows_sorted k (omega (arith, h))) (at_sorted k) (λ x y c d.
        let i = rows_there k x c in
        let low = row_is i.0 x i.2 in
        let high = row_is k y d in
        let less = names_rise_at i.0 k i.1 (omega (arith, h)) in
        subst (λ p. slice_cmp nat_cmp p y.pointer ≡ Less) (sym low.pointer) (subst (λ p. slice_cmp nat_cmp (name_at names (record { number = i.0 })) p ≡ Less) (sym high.pointer) less))

    pub rows_rise : IsStrictlySortedBy by_pointer (rows (length names))
    rows_rise = rows_sorted (length names) (omega arith)

    pub rows_ordered : ((s : S) → IsStrictlySortedBy node_cmp (items s))
        → ((k : ℕ) (s : S) → slice_get states k ≡ Some s → (n : Node) → Contains (items s) n
        → n.number < length names) → (r : Row) → Contains (rows (length names)) r → IsOrdered r
    rows_ordered ascend inside r c =
        let t = rows_there (length names) r c in
        let is = row_is t.0 r t.2 in
        record {
          some = λ no. is.some (none_mapped (items is.state) (sym is.targets ∙ no));
          rising = subst (λ ns. IsStrictlySortedBy (slice_cmp nat_cmp) ns) (sym is.targets) (map_sorted node_cmp (slice_cmp nat_cmp) (name_at names) (items is.state) (ascend is.state) (λ a b g d less.
              names_rise_at a.number b.number (node_less a b less) (inside t.0 is.state is.there b d)));
        }
      where
        none_mapped : (ns : List Node) → map (name_at names) ns ≡ [] → ns ≡ []
        none_mapped [] e = refl
        none_mapped (n ∷ ns) e = absurd (cc e)

        only_less : (c d : Bool) → cond c Less (cond d Equal Greater) ≡ Less → c ≡ true
        only_less true d e = refl
        only_less false true e = absurd (cc e)
        only_less false false e = absurd (cc e)

        node_less : (a b : Node) → node_cmp a b ≡ Less → a.number < b.number
        node_less a b e = ltb-true a.number b.number (only_less (nat_lt a.number b.number) (a.number == b.number) e)
