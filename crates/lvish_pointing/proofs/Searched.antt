-- A name that a sorted list has is found by a binary search.
use Rattle.std.proofs.Common.{◌≡◌, ◌<◌, ◌≤◌, ℕ, Bool, true, false, nat_lt, List, [], ◌∷◌, Ordering, Contains, length, map, refl, sym, ◌∙◌, ap, subst, arith}
use Rattle.std.specs.Prelude.{slice_index_or}
use Rattle.std.specs.declared.cmp.Ordering.TheVariants.{Less, Equal, Greater}
use Rattle.std.specs.Ordering.{ordering_index, ordering_reverse}
use Rattle.std.specs.Cmp.{IsTotalOrder}
use Rattle.std.specs.List.{AllByRecursion}
use Rattle.std.specs.List.Sorted.{IsStrictlySortedBy, IsNonDecreasingBy, IsPartitionPoint}
use Rattle.std.proofs.lemmas.Bool.{ltb-true, ltb-false}
use Rattle.std.proofs.lemmas.Option.{slice_get-get_or}
use Rattle.lvish_pointing.proofs.Rising.{rises}

-- a list whose values are sorted is sorted by its values
pub sorted_by : {X Y : Type 0} (c : Y → Y → Ordering) (f : X → Y) (xs : List X) → IsStrictlySortedBy c (map f xs) → IsStrictlySortedBy (λ a b. c (f a) (f b)) xs
unfolding IsStrictlySortedBy
sorted_by c f [] s = tt
sorted_by {X} c f (x ∷ xs) s = (first xs s.0, sorted_by c f xs s.1)
  where
    first : (ys : List X) → AllByRecursion (λ y. c (f x) y ≡ Less) (map f ys) → AllByRecursion (λ y. c (f x) (f y) ≡ Less) ys
    first [] all = tt
    first (y ∷ ys) all = (all.0, first ys all.1)

module _ {X : Type 0} (c : X → X → Ordering) (total : IsTotalOrder c) where
  -- what is above an element that is at least x is above x
  index_rises : (a b x : X) → c a b ≡ Less → ordering_index (c a x) ≤ ordering_index (c b x)
  index_rises a b x less = by (c a x) refl
    where
      above : c x b ≡ Less → (r : Ordering) → ordering_index r ≤ ordering_index (c b x)
      above h r = subst (λ q. ordering_index r ≤ ordering_index q) (sym (total.antisymm b x ∙ ap ordering_reverse h)) (most r)
        where
          most : (r : Ordering) → ordering_index r ≤ 2
          most Less = omega arith
          most Equal = omega arith
          most Greater = omega arith

      by : (r : Ordering) → c a x ≡ r → ordering_index (c a x) ≤ ordering_index (c b x)
      by Less e = subst (λ q. ordering_index q ≤ ordering_index (c b x)) (sym e) (omega arith)
      by Equal e = above (sym (total.congr a x b e) ∙ less) (c a x)
      by Greater e = above (total.trans x a b (total.antisymm x a ∙ ap ordering_reverse e) less) (c a x)

  rising_search : (xs : List X) → IsStrictlySortedBy c xs → (x : X) → IsNonDecreasingBy (λ y. ordering_index (c y x)) xs
  rising_search xs s x = λ i j d h k. by (nat_lt i j) i j d refl h k
    where
      by : (b : Bool) → (i j : ℕ) (d : X) → nat_lt i j ≡ b → i ≤ j → j < length xs
          → ordering_index (c (slice_index_or xs i d) x) ≤ ordering_index (c (slice_index_or xs j d) x)
      by true i j d z h k =
          index_rises (slice_index_or xs i d) (slice_index_or xs j d) x
          (rises c xs s i j _ _ (ltb-true i j z) (slice_get-get_or xs i d (omega (arith, ltb-true i j z, k))) (slice_get-get_or xs j d k))
      by false i j d z h k =
          let same : i ≡ j = omega (arith, h, ltb-false i j z) in
          subst (λ q. ordering_index (c (slice_index_or xs i d) x) ≤ ordering_index (c (slice_index_or xs q d) x)) same (omega arith)

  -- no place parts a sorted list at an element that it has
  pub never_parted : (xs : List X) → IsStrictlySortedBy c xs → (x y : X) → Contains xs y → c y x ≡ Equal → (i : ℕ)
      → (IsNonDecreasingBy (λ z. ordering_index (c z x)) xs → IsPartitionPoint (λ z. c z x ≡ Less) (λ z. c z x ≡ Greater) xs i) → ⊥
  never_parted xs s x y (k, h, e) tied i parts = by (nat_lt k i) refl (parts (rising_search xs s x))
    where
      at : c (slice_index_or xs k y) x ≡ Equal
      at = ap (λ z. c z x) e ∙ tied

      by : (b : Bool) → nat_lt k i ≡ b → IsPartitionPoint (λ z. c z x ≡ Less) (λ z. c z x ≡ Greater) xs i → ⊥
      by true z p = let q : ◌≡◌ {A = Ordering} Equal Less = sym at ∙ p.0 k y (omega arith) (ltb-true k i z) in cc q
      by false z p = let q : ◌≡◌ {A = Ordering} Equal Greater = sym at ∙ p.1 k y (ltb-false k i z) h in cc q
