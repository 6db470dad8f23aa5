-- Picks without the zeros at their end name the same labels.
use Rattle.std.proofs.Common.{◌≡◌, ◌+◌, ◌<◌, ◌≤◌, ◌⊎◌, inl, inr, ℕ, suc, zero, List, [], ◌∷◌, ◌++◌, length, take, Option, Some, None, refl, sym, ap, ◌∙◌, subst, arith, Ordering, Less, length-append}
use Rattle.std.proofs.lemmas.Bool.{cases_lt}
use Rattle.std.proofs.lemmas.Option.{slice_get_past, none-some}
use Rattle.std.proofs.Math.Nat.{zero-mod}
use Rattle.std.specs.List.{slice_get}
use Rattle.std.specs.List.Sorted.{IsStrictlySortedBy}
use Rattle.lvish_calculus.specs.declared.label.Label.{Label}
use Rattle.lvish_calculus.specs.Machine.{Machine}
use Rattle.lvish_calculus.specs.Calculus.{Configuration, next}
use Rattle.lvish_calculus.specs.Handing.{IsAmong}
use Rattle.lvish_core.specs.Labels.{label_cmp}
use Rattle.lvish_core.proofs.Listing.{all_at}
use Rattle.lvish_calculus.proofs.Sound.{some_is}
use Rattle.lvish_run.specs.Picked.{ComesNext, IsChoice, IsFirst, IsNamed, IsPicked}
use Rattle.lvish_again.specs.Again.{IsCutOf, EndsInZero}

-- ---- lists

module _ {X : Type 0} where
  -- the first elements of a list, at their places
  taken_within : (n k : ℕ) (xs : List X) → k < n → slice_get (take n xs) k ≡ slice_get xs k
  taken_within zero k xs less = absurd (omega (arith, less))
  taken_within (suc n) k [] less = refl
  taken_within (suc n) zero (x ∷ xs) less = refl
  taken_within (suc n) (suc k) (x ∷ xs) less = taken_within n k xs (omega (arith, less))

  -- and none after them
  taken_past : (n k : ℕ) (xs : List X) → n ≤ k → slice_get (take n xs) k ≡ None
  taken_past zero k xs past = refl
  taken_past (suc n) k [] past = refl
  taken_past (suc n) zero (x ∷ xs) past = absurd (omega (arith, past))
  taken_past (suc n) (suc k) (x ∷ xs) past = taken_past n k xs (omega (arith, past))

  taken_length : (n : ℕ) (xs : List X) → n ≤ length xs → length (take n xs) ≡ n
  taken_length zero xs le = refl
  taken_length (suc n) [] le = absurd (omega (arith, le))
  taken_length (suc n) (x ∷ xs) le = ap suc (taken_length n xs (omega (arith, le)))

  -- the element behind a list
  last_there : (xs : List X) (x : X) → slice_get (xs ++ x ∷ []) (length xs) ≡ Some x
  last_there [] x = refl
  last_there (y ∷ xs) x = last_there xs x

module _ (picks : List ℕ) (n : ℕ) where
  -- after the first n picks there are zeros alone
  pub cut_of : ((k : ℕ) → n ≤ k → k < length picks → slice_get picks k ≡ Some 0) → IsCutOf picks (take n picks)
  cut_of zeros = record { each = λ k. by k (cases_lt k n) (cases_lt k (length picks)) }
    where
      by : (k : ℕ) → (k < n) ⊎ (n ≤ k) → (k < length picks) ⊎ (length picks ≤ k) → (slice_get (take n picks) k ≡ slice_get picks k) ⊎ ((slice_get picks k ≡ Some 0) × (slice_get (take n picks) k ≡ None))
      by k (inl less) z = inl (taken_within n k picks less)
      by k (inr past) (inl there) = inr (zeros k past there, taken_past n k picks past)
      by k (inr past) (inr none) = inl (taken_past n k picks past ∙ sym (slice_get_past picks k none))

  -- the last of the first n picks is no zero
  pub no_zero_last : n ≤ length picks → ((k : ℕ) → n ≡ k + 1 → slice_get picks k ≡ Some 0 → ⊥) → EndsInZero (take n picks) → ⊥
  no_zero_last le last z =
      let long : n ≡ length z.0 + 1 = sym (taken_length n picks le) ∙ ap length z.1 ∙ length-append z.0 (0 ∷ []) in
      let there : slice_get (take n picks) (length z.0) ≡ Some 0 = ap (λ xs. slice_get xs (length z.0)) z.1 ∙ last_there z.0 0 in
      last (length z.0) long (sym (taken_within n (length z.0) picks (omega (arith, long))) ∙ there)

-- ---- labels

module _ {S E R A L : Type 0} (cmp : E → E → Ordering) (M : Machine S E R A L) (xs : List (Label E)) (d : Configuration S E L) (l : Label E) where
  first_by : (all : List (Label E)) → IsStrictlySortedBy (label_cmp cmp) all → slice_get all 0 ≡ Some l → ((m : Label E) → IsAmong m all → ComesNext M xs d m) → ((m : Label E) → ComesNext M xs d m → IsAmong m all) → IsFirst cmp M xs d l
  unfolding IsStrictlySortedBy
  first_by [] ascending there comes among = absurd (none-some l there)
  first_by (k ∷ all) ascending there comes among =
      let same : k ≡ l = some_is there in
      record {
        comes = subst (λ m. ComesNext M xs d m) same (comes k (inl refl));
        before = λ m z. elim (among m z) [
          | inl e ↦ inl (e ∙ same)
          | inr i ↦ inr (subst (λ j. label_cmp cmp j m ≡ Less) same (all_at (λ y. label_cmp cmp k y ≡ Less) all ascending.0 m i))
        ];
      }

  -- the label of number 0 is the first
  first_of : IsChoice cmp M xs d 0 l → IsFirst cmp M xs d l
  first_of a = first_by a.all a.enabled.ascending (ap (λ k. slice_get a.all k) (sym (zero-mod (length a.all))) ∙ a.chosen) (λ m. (a.enabled.just m).0) (λ m. (a.enabled.just m).1)

  -- a pick that is left out was no other than the first label's
  named_cut : (o q : Option ℕ) → (q ≡ o) ⊎ ((o ≡ Some 0) × (q ≡ None)) → IsNamed cmp M xs d o l → IsNamed cmp M xs d q l
  named_cut o q (inl same) named = subst (λ n. IsNamed cmp M xs d n l) (sym same) named
  named_cut o q (inr z) named = subst (λ n. IsNamed cmp M xs d n l) (sym z.1) (first_of (subst (λ n. IsNamed cmp M xs d n l) z.0 named))

module _ {S E R A L : Type 0} (cmp : E → E → Ordering) (M : Machine S E R A L) (picks cut : List ℕ) (is : IsCutOf picks cut) where
  -- a run is the same without the zeros at the end of its picks
  pub picked_cut : (xs : List (Label E)) (d : Configuration S E L) (ls : List (Label E)) → IsPicked cmp M picks xs d ls → IsPicked cmp M cut xs d ls
  picked_cut xs d [] picked = tt
  picked_cut xs d (l ∷ ls) picked = (named_cut cmp M xs d l (slice_get picks (length xs)) (slice_get cut (length xs)) (is.each (length xs)) picked.0, picked_cut (xs ++ l ∷ []) (next M d l) ls picked.1)
