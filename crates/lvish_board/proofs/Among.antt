-- What is among lists, and lists in which nothing comes twice.
use Rattle.std.proofs.Common.{◌≡◌, ◌⊎◌, inl, inr, Bool, true, false, List, [], ◌∷◌, ◌++◌, map, refl, sym, subst, append_assoc}
use Rattle.std.specs.Cmp.{IsEquivalence}
use Rattle.std.specs.List.{AllByRecursion, IsDistinct}
use Rattle.std.specs.List.Sorted.{IsPermutation}
use Rattle.std.proofs.lemmas.Bool.{both_ways, false_from_ne_true}
use Rattle.std.proofs.lemmas.List.Sorted.{Contains-permutation}
use Rattle.std.proofs.lemmas.Map.Keys.{IsDistinct-IsPermutation}
use Rattle.lvish_calculus.specs.Handing.{IsAmong, NoRepeats}
use Rattle.lvish_picture.proofs.Slots.{among, contained}
use Rattle.lvish_core.specs.laws.Lists.{all_always, among_first}
use Rattle.lvish_core.proofs.Listing.{all_at}

module _ {X : Type 0} where
  -- in two lists with one more between them
  pub at_middle : (z x : X) (xs ys : List X) → IsAmong z (xs ++ x ∷ ys) → (z ≡ x) ⊎ IsAmong z (xs ++ ys)
  at_middle z x [] ys i = i
  at_middle z x (w ∷ xs) ys (inl e) = inr (inl e)
  at_middle z x (w ∷ xs) ys (inr i) = elim (at_middle z x xs ys i) [
    | inl e ↦ inl e
    | inr j ↦ inr (inr j)
  ]

  pub in_middle : (z x : X) (xs ys : List X) → (z ≡ x) ⊎ IsAmong z (xs ++ ys) → IsAmong z (xs ++ x ∷ ys)
  in_middle z x [] ys i = i
  in_middle z x (w ∷ xs) ys (inl e) = inr (in_middle z x xs ys (inl e))
  in_middle z x (w ∷ xs) ys (inr (inl e)) = inl e
  in_middle z x (w ∷ xs) ys (inr (inr i)) = inr (in_middle z x xs ys (inr i))

  pub once_less : (x : X) (xs ys : List X) → NoRepeats (xs ++ x ∷ ys) → (IsAmong x (xs ++ ys) → ⊥) × NoRepeats (xs ++ ys)
  once_less x [] ys n = n
  once_less x (w ∷ xs) ys n =
      let r = once_less x xs ys n.1 in (
        λ i. elim i [
          | inl e ↦ n.0 (in_middle w x xs ys (inl (sym e)))
          | inr j ↦ r.0 j
        ],
        (λ j. n.0 (in_middle w x xs ys (inr j)), r.1),
      )

  pub once_more : (x : X) (xs ys : List X) → (IsAmong x (xs ++ ys) → ⊥) → NoRepeats (xs ++ ys) → NoRepeats (xs ++ x ∷ ys)
  once_more x [] ys a n = (a, n)
  once_more x (w ∷ xs) ys a n = (
    λ i. elim (at_middle w x xs ys i) [
      | inl e ↦ a (inl (sym e))
      | inr j ↦ n.0 j
    ],
    once_more x xs ys (λ i. a (inr i)) n.1,
  )

  -- one is moved from the second list to the end of the first
  pub once_moved : (x : X) (bs xs ys : List X) → NoRepeats (bs ++ (xs ++ x ∷ ys)) → NoRepeats ((bs ++ x ∷ []) ++ (xs ++ ys))
  once_moved x bs xs ys n =
      let r = once_less x (bs ++ xs) ys (subst (λ zs. NoRepeats zs) (sym (append_assoc bs xs (x ∷ ys))) n) in
      let same = append_assoc bs xs ys in
      subst (λ zs. NoRepeats zs) (sym (append_assoc bs (x ∷ []) (xs ++ ys)))
      (once_more x bs (xs ++ ys) (subst (λ zs. IsAmong x zs → ⊥) same r.0) (subst (λ zs. NoRepeats zs) same r.1))

  pub once_first : (xs ys : List X) → NoRepeats (xs ++ ys) → NoRepeats xs
  once_first [] ys n = tt
  once_first (x ∷ xs) ys n = (λ i. n.0 (among_first x xs ys i), once_first xs ys n.1)

  pub once_last : (xs ys : List X) → NoRepeats (xs ++ ys) → NoRepeats ys
  once_last [] ys n = n
  once_last (x ∷ xs) ys n = once_last xs ys n.1

  pub among_permuted : (x : X) (xs ys : List X) → IsPermutation xs ys → IsAmong x xs → IsAmong x ys
  among_permuted x xs ys p i = among ys x (Contains-permutation xs ys x p (contained xs x i))

-- a value is that of an element
pub of_map : {X Y : Type 0} (f : X → Y) (y : Y) (xs : List X) → IsAmong y (map f xs) → (x : X) × IsAmong x xs × (f x ≡ y)
of_map f y [] i = absurd i
of_map f y (x ∷ xs) (inl e) = (x, inl refl, sym e)
of_map f y (x ∷ xs) (inr i) = let r = of_map f y xs i in (r.0, inr r.1, r.2)

-- lists without repeats are those that a test of identity finds distinct: each of them is
module _ {X : Type 0} {eq : X → X → Bool} (exact : (x y : X) → eq x y ≡ true → x ≡ y) where
  differs : (x : X) (ys : List X) → (IsAmong x ys → ⊥) → AllByRecursion (λ y. eq x y ≡ false) ys
  differs x ys other = all_always (λ y. eq x y ≡ false) ys (λ y i. false_from_ne_true (eq x y) (λ e. other (subst (λ z. IsAmong z ys) (sym (exact x y e)) i)))

  pub distinct : (xs : List X) → NoRepeats xs → IsDistinct eq xs
  unfolding IsDistinct
  distinct [] n = tt
  distinct (x ∷ xs) n = (differs x xs n.0, distinct xs n.1)

module _ {X : Type 0} {eq : X → X → Bool} (laws : IsEquivalence eq) where
  -- and no other is
  pub once_distinct : (xs : List X) → IsDistinct eq xs → NoRepeats xs
  unfolding IsDistinct
  once_distinct [] d = tt
  once_distinct (x ∷ xs) d = (λ i. both_ways _ (all_at (λ y. eq x y ≡ false) xs d.0 x i) (laws.refl x), once_distinct xs d.1)

  -- in another order nothing repeats either
  pub once_permuted : ((x y : X) → eq x y ≡ true → x ≡ y) → (xs ys : List X) → IsPermutation xs ys → NoRepeats xs → NoRepeats ys
  once_permuted exact xs ys moved n = once_distinct ys (IsDistinct-IsPermutation eq laws.symm xs ys moved (distinct exact xs n))
