-- Strictly sorted lists: their elements by number, and lists that are put together of them.
use Rattle.std.proofs.Common.{◌≡◌, ◌<◌, inl, inr, ℕ, zero, suc, Bool, true, false, nat_lt, List, [], ◌∷◌, ◌++◌, Some, Ordering, Contains, length, map, slice_get, refl, sym, ◌∙◌, subst, arith}
use Rattle.std.specs.declared.cmp.Ordering.TheVariants.{Less, Equal}
use Rattle.std.specs.List.{AllByRecursion}
use Rattle.std.specs.List.Sorted.{IsStrictlySortedBy}
use Rattle.std.specs.Cmp.{IsTotalOrder, tied_itself}
use Rattle.std.proofs.lemmas.Bool.{ltb-true, ltb-false}
use Rattle.std.proofs.lemmas.Option.{slice_get_within, get_or_from_slice_get}
use Rattle.std.proofs.lemmas.List.Elements.{All-contains, All-from_recursion, Contains-append_cases}

pub contained : {X : Type 0} (xs : List X) (k : ℕ) (x : X) → slice_get xs k ≡ Some x → Contains xs x
contained xs k x e = (k, slice_get_within xs k x e, get_or_from_slice_get xs k x x e)

-- an element stands at each number that is in range
pub found : {X : Type 0} (xs : List X) (k : ℕ) → k < length xs → (x : X) × (slice_get xs k ≡ Some x)
found [] k h = absurd (omega (arith, h))
found (x ∷ xs) zero h = (x, refl)
found (x ∷ xs) (suc k) h = found xs k (omega (arith, h))

-- what each element has, all have
pub all_have : {X : Type 0} (P : X → Type 0) (xs : List X) → ((x : X) → Contains xs x → P x) → AllByRecursion P xs
all_have P [] h = tt
all_have P (x ∷ xs) h = (h x (0, omega arith, refl), all_have P xs (λ y c. h y (suc c.0, omega (arith, c.1), c.2)))

each_has : {X : Type 0} (P : X → Type 0) (xs : List X) → AllByRecursion P xs → (x : X) → Contains xs x → P x
each_has P xs all x c = All-contains P xs x (All-from_recursion P xs all) c

module _ {X : Type 0} (c : X → X → Ordering) where
  -- an element is below those after it
  pub rises : (xs : List X) → IsStrictlySortedBy c xs → (i j : ℕ) (a b : X) → i < j → slice_get xs i ≡ Some a → slice_get xs j ≡ Some b → c a b ≡ Less
  unfolding IsStrictlySortedBy
  rises [] s i j a b h p q = absurd (cc p)
  rises (x ∷ xs) s zero zero a b h p q = absurd (omega (arith, h))
  rises (x ∷ xs) s zero (suc j) a b h p q =
      let is : x ≡ a = cc in
      subst (λ y. c y b ≡ Less) is (each_has (λ y. c x y ≡ Less) xs s.0 b (contained xs j b q))
  rises (x ∷ xs) s (suc i) zero a b h p q = absurd (omega (arith, h))
  rises (x ∷ xs) s (suc i) (suc j) a b h p q = rises xs s.1 i j a b (omega (arith, h)) p q

  pub one_sorted : (x : X) → IsStrictlySortedBy c (x ∷ [])
  unfolding IsStrictlySortedBy
  one_sorted x = (tt, tt)

  pub none_sorted : IsStrictlySortedBy c []
  unfolding IsStrictlySortedBy
  none_sorted = tt

  pub both_sorted : (xs ys : List X) → IsStrictlySortedBy c xs → IsStrictlySortedBy c ys
      → ((x y : X) → Contains xs x → Contains ys y → c x y ≡ Less) → IsStrictlySortedBy c (xs ++ ys)
  unfolding IsStrictlySortedBy
  both_sorted [] ys s t h = t
  both_sorted (x ∷ xs) ys s t h = (
    all_have (λ y. c x y ≡ Less) (xs ++ ys) (λ y g. elim (Contains-append_cases xs ys y g) [
      | inl d ↦ each_has (λ y. c x y ≡ Less) xs s.0 y d
      | inr d ↦ h x y (0, omega arith, refl) d
    ]),
    both_sorted xs ys s.1 t (λ a b g d. h a b (suc g.0, omega (arith, g.1), g.2) d),
  )

-- a list of what rises is strictly sorted
pub map_sorted : {X Y : Type 0} (c : X → X → Ordering) (d : Y → Y → Ordering) (f : X → Y) (xs : List X)
    → IsStrictlySortedBy c xs → ((a b : X) → Contains xs a → Contains xs b → c a b ≡ Less → d (f a) (f b) ≡ Less)
    → IsStrictlySortedBy d (map f xs)
unfolding IsStrictlySortedBy
map_sorted {X = X} {Y = Y} c d f [] s h = tt
map_sorted {X = X} {Y = Y} c d f (x ∷ xs) s h = (first xs s.0 (λ y g. h x y (0, omega arith, refl) (suc g.0, omega (arith, g.1), g.2)), map_sorted c d f xs s.1 (λ a b g e. h a b (suc g.0, omega (arith, g.1), g.2) (suc e.0, omega (arith, e.1), e.2)))
  where
    first : (ys : List X) → AllByRecursion (λ y. c x y ≡ Less) ys
        → ((y : X) → Contains ys y → c x y ≡ Less → d (f x) (f y) ≡ Less)
        → AllByRecursion (λ y. d (f x) y ≡ Less) (map f ys)
    first [] all g = tt
    first (y ∷ ys) all g = (g y (0, omega arith, refl) all.0, first ys all.1 (λ z e. g z (suc e.0, omega (arith, e.1), e.2)))

-- an element of a strictly sorted list has one number
pub one_number : {X : Type 0} {c : X → X → Ordering} → IsTotalOrder c → (xs : List X) → IsStrictlySortedBy c xs
    → (i j : ℕ) (x : X) → slice_get xs i ≡ Some x → slice_get xs j ≡ Some x → i ≡ j
one_number {X} {c} total xs s i j x p q = by (nat_lt i j) refl (nat_lt j i) refl
  where
    never : c x x ≡ Less → ⊥
    never e = let z : ◌≡◌ {A = Ordering} Less Equal = sym e ∙ tied_itself total x in absurd (cc z)

    by : (a : Bool) → nat_lt i j ≡ a → (b : Bool) → nat_lt j i ≡ b → i ≡ j
    by true y b z = absurd (never (rises c xs s i j x x (ltb-true i j y) p q))
    by false y true z = absurd (never (rises c xs s j i x x (ltb-true j i z) q p))
    by false y false z = omega (arith, ltb-false i j y, ltb-false j i z)
