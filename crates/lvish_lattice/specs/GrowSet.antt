-- Sets that only grow, and what makes them a lattice.
use Rattle.std.specs.Prelude.{◌≡◌, ◌↔◌, Bool, true, false, not, List, [], Option, Some, None, option_and_then, is_some, unwrap_or, filter, refl}
use Rattle.std.proofs.Common.{sym, ◌∙◌, ap, subst}
use mathlib.Core.HLevel.{Σ_prop_path}
use Rattle.std.specs.Cmp.{IsTotalOrder, IsEquivalence, on_equiv}
use Rattle.std.specs.Cmp.Lexicographic.{pointwise}
use Rattle.std.proofs.lemmas.Cmp.{lists_equiv}
use Rattle.std.specs.Set.{is_member, sorted_merge, IsUnion}
use Rattle.std.specs.Ordering.{is_eq}
use Rattle.std.specs.declared.cmp.Ordering.TheVariants.{Equal}
use Rattle.lvish_lattice.specs.Lattice.{IsIdentity, IsJoin, HasEvents, fresh_of}
use Rattle.std.specs.List.Sorted.{IsStrictlySortedBy, IsStrictlySortedBy-prop}
use Rattle.lvish_lattice.specs.Ascending.{is_ascending, nothing_rises, same_items, rises_by_test, test_rises, merge_rises, merge_swaps, merge_regroups, merge_same, union_by, beyond_by}
use Rattle.std.specs.declared.cmp.Ord as ord
use Rattle.std.specs.declared.cmp.PartialEq as partial_eq
use Rattle.std.specs.declared.cmp.PartialOrd as partial_ord
use Rattle.lvish_lattice.specs.declared.grow_set.GrowSet.{GrowSet}

module _ {V : Type 0} {o : ord.Ghosts V} {e : partial_eq.Ghosts V} {p : partial_ord.Ghosts V} where
  -- two sets of the same elements are the same
  pub same_set : (a b : GrowSet V o e p) → a.items ≡ b.items → a ≡ b
  same_set a b h =
      let pairs : ◌≡◌ {A = (xs : List V) × IsStrictlySortedBy o.cmp xs} (a.items, a.ascending) (b.items, b.ascending) = Σ_prop_path (λ xs. IsStrictlySortedBy-prop o.cmp xs) h in
      λ i. record { items = (pairs i).0; ascending = (pairs i).1 }

  -- the elements, ascending
  abbrev pub items_of : GrowSet V o e p → List V
  items_of s = s.items

  pub items_ascend : (s : GrowSet V o e p) → IsStrictlySortedBy o.cmp (items_of s)
  items_ascend s = s.ascending

  -- the set of an ascending list
  abbrev pub set_with : (xs : List V) → IsStrictlySortedBy o.cmp xs → GrowSet V o e p
  set_with xs h = record { items = xs; ascending = h }

  abbrev pub empty : GrowSet V o e p
  empty = set_with [] (nothing_rises o.cmp)

  -- whether two sets have the same items
  abbrev pub alike : (V → V → Bool) → GrowSet V o e p → GrowSet V o e p → Bool
  alike eq a b = pointwise eq a.items b.items

  pub alike_equiv : {eq : V → V → Bool} → IsEquivalence eq → IsEquivalence (alike eq)
  alike_equiv laws = on_equiv items_of (lists_equiv laws)

  pub alike_identical : {eq : V → V → Bool} → IsIdentity eq → IsIdentity (alike eq)
  alike_identical same a b h = same_set a b (same_items same a.items b.items h)

  made : (xs : List V) (b : Bool) → is_ascending o.cmp xs ≡ b → Option (GrowSet V o e p)
  made xs true h = Some (set_with xs (rises_by_test o.cmp xs h))
  made xs false h = None

  -- the set with these items, where they ascend
  pub set_of : List V → Option (GrowSet V o e p)
  set_of xs = made xs (is_ascending o.cmp xs) refl

  is_made : (s : GrowSet V o e p) (b : Bool) (h : is_ascending o.cmp s.items ≡ b) → b ≡ true → made s.items b h ≡ Some s
  unfolding made
  is_made s true h t = ap Some (same_set _ s refl)
  is_made s false h t = absurd cc

  pub set_of-items : (s : GrowSet V o e p) → set_of s.items ≡ Some s
  unfolding set_of
  set_of-items s = is_made s (is_ascending o.cmp s.items) refl (test_rises o.cmp s.items s.ascending)

  -- the union of two sets
  abbrev pub joined : GrowSet V o e p → GrowSet V o e p → Option (GrowSet V o e p)
  joined a b = set_of (sorted_merge o.cmp true a.items b.items)

  module _ (total : IsTotalOrder o.cmp) where
    abbrev union : GrowSet V o e p → GrowSet V o e p → GrowSet V o e p
    union a b = set_with (sorted_merge o.cmp true a.items b.items) (merge_rises total _ _ a.ascending b.ascending)

    pub joined-union : (a b : GrowSet V o e p) → joined a b ≡ Some (union a b)
    joined-union a b = set_of-items (union a b)

    same_some : (a b : GrowSet V o e p) → Some a ≡ Some b → a ≡ b
    same_some a b h = cc

    pub is_join_of : (a b c : GrowSet V o e p) → joined a b ≡ Some c → sorted_merge o.cmp true a.items b.items ≡ c.items
    is_join_of a b c h = ap items_of (same_some (union a b) c (sym (joined-union a b) ∙ h))

    pub below_from : (a b : GrowSet V o e p) → (sorted_merge o.cmp true a.items b.items ≡ b.items) ↔ (joined a b ≡ Some b)
    below_from a b = ((λ h. ap set_of h ∙ set_of-items b), is_join_of a b b)

    pub union_is_joined : (s a b : GrowSet V o e p) → s.items ≡ sorted_merge o.cmp true a.items b.items → Some s ≡ joined a b
    union_is_joined s a b h = sym (ap set_of (sym h) ∙ set_of-items s)

    module _ (same : (x y : V) → o.cmp x y ≡ Equal → x ≡ y) where
      both_ways : (a b c : GrowSet V o e p) → option_and_then (λ x. joined x c) (joined a b) ≡ option_and_then (λ x. joined a x) (joined b c)
      both_ways a b c = ap (option_and_then (λ x. joined x c)) (joined-union a b) ∙ joined-union (union a b) c
          ∙ ap Some (same_set _ _ (merge_regroups total same _ _ a.ascending b.ascending _ c.ascending))
          ∙ sym (ap (option_and_then (λ x. joined a x)) (joined-union b c) ∙ joined-union a (union b c))

      pub merged_to : (s a b : GrowSet V o e p) → s.items ≡ sorted_merge o.cmp true b.items a.items → (true ≡ is_some (joined a b)) × (s ≡ unwrap_or (joined a b) a)
      merged_to s a b h =
          let j : Some s ≡ joined a b = union_is_joined s a b (h ∙ merge_swaps total same b.items a.items b.ascending a.ascending) in
          (ap is_some j, ap (λ r. unwrap_or r a) j)

      pub set_is_join : IsJoin empty joined
      set_is_join = record {
        unit = λ a. set_of-items a;
        idempotent = λ a. joined-union a a ∙ ap Some (same_set _ _ (merge_same total same _ a.ascending));
        commutative = λ a b. joined-union a b ∙ ap Some (same_set _ _ (merge_swaps total same _ _ a.ascending b.ascending)) ∙ sym (joined-union b a);
        associative = both_ways;
      }

    pub set_has_events : (eq : V → V → Bool) → ((x y : V) → eq x y ≡ is_eq (o.cmp x y)) → HasEvents empty joined eq o.cmp items_of
    set_has_events eq ties = record {
      none = refl;
      ascending = λ a. a.ascending;
      union = λ a b c h. subst (λ zs. IsUnion eq a.items b.items zs) (is_join_of a b c h) (union_by total eq ties a.items b.items);
      determine = same_set;
    }

    pub set_fresh : (eq : V → V → Bool) → ((x y : V) → eq x y ≡ is_eq (o.cmp x y)) → ((x y : V) → o.cmp x y ≡ Equal → x ≡ y) → (a b : GrowSet V o e p) → fresh_of joined eq items_of a b ≡ filter (λ x. not (is_member eq a.items x)) b.items
    set_fresh eq ties same a b = rw (joined-union a b) (beyond_by total same eq ties a.items b.items a.ascending b.ascending)
