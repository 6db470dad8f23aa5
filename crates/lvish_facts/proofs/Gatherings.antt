-- A gathered set has the listed values, and a set of them is gathered.
use Rattle.std.specs.Prelude.{◌≡◌, ◌↔◌, Bool, true, false, ◌||◌, List, [], ◌∷◌, Contains, unwrap_or, refl}
use Rattle.std.proofs.Common.{sym, ◌∙◌, ap, subst}
use Rattle.std.proofs.Math.Bool.{or-false}
use Rattle.std.proofs.lemmas.Map.Views.{Contains-from_any, list_any-from_Contains}
use Rattle.std.specs.declared.cmp.Ordering.{Ordering}
use Rattle.std.specs.declared.cmp.Ordering.TheVariants.{Equal}
use Rattle.std.specs.declared.cmp.Ord as ord
use Rattle.std.specs.declared.cmp.PartialEq as partial_eq
use Rattle.std.specs.declared.cmp.PartialOrd as partial_ord
use Rattle.std.specs.Ordering.{eq_by_cmp}
use Rattle.std.specs.Cmp.{IsTotalOrder, Equal-is, eq_by_cmp_equiv}
use Rattle.std.specs.Set.{is_member}
use Rattle.std.specs.List.Sorted.{IsStrictlySortedBy}
use Rattle.lvish_lattice.specs.declared.grow_set.GrowSet.{GrowSet}
use Rattle.lvish_lattice.specs.Ascending.{nothing_rises, one_rises, merge_rises, merge_has, same_members}
use Rattle.lvish_lattice.specs.GrowSet.{items_of, empty, set_of, set_with, set_of-items}
use Rattle.lvish_facts.specs.Gathered.{in_order, gathered}

same_truth : (a b : Bool) → (a ≡ true → b ≡ true) → (b ≡ true → a ≡ true) → a ≡ b
same_truth true b f g = sym (f refl)
same_truth false true f g = g refl
same_truth false false f g = refl

-- ---- lists in order

module _ {V : Type 0} {R : V → V → Ordering} (total : IsTotalOrder R) (same : (x y : V) → R x y ≡ Equal → x ≡ y) where
  there : (x : V) (xs : List V) → is_member (eq_by_cmp R) xs x ≡ true → Contains xs x
  there x xs h = Contains-from_any (λ a b t. same a b ((Equal-is (R a b)).0 t)) x xs h

  found : (x : V) (xs : List V) → Contains xs x → is_member (eq_by_cmp R) xs x ≡ true
  found x xs h = list_any-from_Contains (eq_by_cmp_equiv total) x xs h

  in_order_rises : (xs : List V) → IsStrictlySortedBy R (in_order R xs)
  unfolding in_order
  in_order_rises [] = nothing_rises R
  in_order_rises (x ∷ xs) = merge_rises total (x ∷ []) (in_order R xs) (one_rises R x) (in_order_rises xs)

  in_order_has : (xs : List V) (q : V) → is_member (eq_by_cmp R) (in_order R xs) q ≡ is_member (eq_by_cmp R) xs q
  unfolding in_order
  in_order_has [] q = refl
  in_order_has (x ∷ xs) q =
      merge_has total q (x ∷ []) (in_order R xs) ∙ ap (λ b. b || is_member (eq_by_cmp R) (in_order R xs) q) (or-false (eq_by_cmp R q x)) ∙ ap (λ b. eq_by_cmp R q x || b) (in_order_has xs q)

  in_order_contains : (xs : List V) (x : V) → Contains (in_order R xs) x ↔ Contains xs x
  in_order_contains xs x = (λ h. there x xs (sym (in_order_has xs x) ∙ found x _ h), λ h. there x _ (in_order_has xs x ∙ found x xs h))

  -- an ascending list that has the listed values and no others
  is_in_order : (ys xs : List V) → IsStrictlySortedBy R ys → ((x : V) → Contains ys x ↔ Contains xs x) → ys ≡ in_order R xs
  is_in_order ys xs rises h =
      let members : (q : V) → is_member (eq_by_cmp R) ys q ≡ is_member (eq_by_cmp R) (in_order R xs) q = λ q.
      same_truth _ _ (λ m. found q xs ((h q).0 (there q ys m))) (λ m. found q ys ((h q).1 (there q xs m))) ∙ sym (in_order_has xs q) in
      same_members total same ys (in_order R xs) rises (in_order_rises xs) members

-- ---- sets

pub gathered_contains : {V : Type 0} {o : ord.Ghosts V} (e : partial_eq.Ghosts V) (p : partial_ord.Ghosts V) → IsTotalOrder o.cmp → ((x y : V) → o.cmp x y ≡ Equal → x ≡ y) → (xs : List V) (x : V) → Contains (items_of (gathered {o = o} {e = e} {p = p} xs)) x ↔ Contains xs x
gathered_contains {V = V} {o = o} e p total same xs x =
    let set : GrowSet V o e p = set_with (in_order o.cmp xs) (in_order_rises total same xs) in
    let items : in_order o.cmp xs ≡ items_of (gathered {o = o} {e = e} {p = p} xs) = sym (ap (λ r. items_of (unwrap_or r empty)) (set_of-items set)) in
    subst (λ ys. Contains ys x ↔ Contains xs x) items (in_order_contains total same xs x)

module _ {V : Type 0} {o : ord.Ghosts V} {e : partial_eq.Ghosts V} {p : partial_ord.Ghosts V} (total : IsTotalOrder o.cmp) (same : (x y : V) → o.cmp x y ≡ Equal → x ≡ y) where
  -- a set that has the listed values and no others
  pub is_gathered : (s : GrowSet V o e p) (xs : List V) → IsStrictlySortedBy o.cmp (items_of s) → ((x : V) → Contains (items_of s) x ↔ Contains xs x) → s ≡ gathered xs
  is_gathered s xs rises h = ap (λ r. unwrap_or r empty) (sym (set_of-items s) ∙ ap set_of (is_in_order total same (items_of s) xs rises h))
