-- The run that picks name is one run.
use Rattle.std.proofs.Common.{◌≡◌, ◌≤◌, ◌%◌, ◌↔◌, ◌⊎◌, inl, inr, ℕ, List, [], ◌∷◌, ◌++◌, length, Option, Some, None, refl, sym, ap, ◌∙◌, subst, arith, Ordering, Less}
use Rattle.std.proofs.lemmas.Bool.{false≢true}
use Rattle.std.specs.List.{AllByRecursion, slice_get}
use Rattle.std.specs.List.Sorted.{IsStrictlySortedBy}
use Rattle.std.specs.Ordering.{ordering_reverse, is_lt}
use Rattle.std.specs.Cmp.{IsTotalOrder, on_total, then_total}
use Rattle.lvish_names.specs.laws.OrderLaws.{name_total, handler_total}
use Rattle.lvish_calculus.specs.declared.label.Label.{Label}
use Rattle.lvish_calculus.specs.declared.label.Label.TheVariants.{Act, Hand}
use Rattle.lvish_calculus.specs.Machine.{Machine}
use Rattle.lvish_calculus.specs.Calculus.{Configuration, Running, Error, IsRun, step}
use Rattle.lvish_names.specs.Names.{Handler}
use Rattle.lvish_calculus.specs.Handing.{IsAmong}
use Rattle.lvish_core.specs.Labels.{label_cmp}
use Rattle.lvish_core.proofs.Listing.{all_at}
use Rattle.lvish_run.specs.Picked.{IsChoice, IsFirst, IsNamed, IsPicked}

-- ---- ascending lists

module _ {K : Type 0} (c : K → K → Ordering) (apart : (x y : K) → c x y ≡ Less → c y x ≡ Less → ⊥) where
  -- the first of two ascending lists with the same elements
  heads : (x y : K) (xs ys : List K) → AllByRecursion (λ z. c x z ≡ Less) xs → AllByRecursion (λ z. c y z ≡ Less) ys → IsAmong x (y ∷ ys) → IsAmong y (x ∷ xs) → x ≡ y
  heads x y xs ys s t (inl e) j = e
  heads x y xs ys s t (inr i) (inl e) = sym e
  heads x y xs ys s t (inr i) (inr j) = absurd (apart x y (all_at (λ z. c x z ≡ Less) xs s y j) (all_at (λ z. c y z ≡ Less) ys t x i))

  -- the other elements of two such lists
  others : (x y z : K) (xs ys : List K) → x ≡ y → AllByRecursion (λ w. c x w ≡ Less) xs → IsAmong z xs → IsAmong z (y ∷ ys) → IsAmong z ys
  others x y z xs ys e s i (inl h) =
      let own : c x x ≡ Less = subst (λ w. c x w ≡ Less) (h ∙ sym e) (all_at (λ w. c x w ≡ Less) xs s z i) in
      absurd (apart x x own own)
  others x y z xs ys e s i (inr j) = j

  -- two ascending lists with the same elements are one
  pub one_list : (xs ys : List K) → IsStrictlySortedBy c xs → IsStrictlySortedBy c ys → ((x : K) → IsAmong x xs ↔ IsAmong x ys) → xs ≡ ys
  unfolding IsStrictlySortedBy
  one_list [] [] s t same = refl
  one_list [] (y ∷ ys) s t same = absurd ((same y).1 (inl refl))
  one_list (x ∷ xs) [] s t same = absurd ((same x).0 (inl refl))
  one_list (x ∷ xs) (y ∷ ys) s t same =
      let head : x ≡ y = heads x y xs ys s.0 t.0 ((same x).0 (inl refl)) ((same y).1 (inl refl)) in
      let rest : xs ≡ ys = one_list xs ys s.1 t.1 (λ z. (λ i. others x y z xs ys head s.0 i ((same z).0 (inr i)), λ i. others y x z ys xs (sym head) t.0 i ((same z).1 (inr i)))) in
      ap (λ w. w ∷ xs) head ∙ ap (λ l. y ∷ l) rest

-- ---- labels

module _ {E : Type 0} (cmp : E → E → Ordering) (o : IsTotalOrder cmp) where
  label_turned : (l k : Label E) → label_cmp cmp l k ≡ ordering_reverse (label_cmp cmp k l)
  label_turned (Act t) (Act u) = (name_total o).antisymm t u
  label_turned (Act t) (Hand h e) = refl
  label_turned (Hand h e) (Act t) = refl
  label_turned (Hand h e) (Hand k f) = (then_total (on_total (λ (p : Handler E × E). p.0) (handler_total o)) (on_total (λ (p : Handler E × E). p.1) o)).antisymm (h, e) (k, f)

  -- no two labels are each before the other
  pub labels_apart : (l k : Label E) → label_cmp cmp l k ≡ Less → label_cmp cmp k l ≡ Less → ⊥
  labels_apart l k one other = false≢true (ap is_lt (sym (label_turned l k ∙ ap ordering_reverse other) ∙ one))

-- ---- runs

module _ {S E R A L : Type 0} (cmp : E → E → Ordering) (o : IsTotalOrder cmp) (M : Machine S E R A L) where
  one_choice : (xs : List (Label E)) (d : Configuration S E L) (n : ℕ) (l k : Label E) → IsChoice cmp M xs d n l → IsChoice cmp M xs d n k → l ≡ k
  one_choice xs d n l k a b =
      let same : a.all ≡ b.all = one_list (label_cmp cmp) (labels_apart cmp o) a.all b.all a.enabled.ascending b.enabled.ascending
      (λ x. (λ i. (b.enabled.just x).1 ((a.enabled.just x).0 i), λ i. (a.enabled.just x).1 ((b.enabled.just x).0 i))) in
      let at : Some l ≡ Some k = sym a.chosen ∙ ap (λ ls. slice_get ls (n % length ls)) same ∙ b.chosen in
      cc

  one_first : (xs : List (Label E)) (d : Configuration S E L) (l k : Label E) → IsFirst cmp M xs d l → IsFirst cmp M xs d k → l ≡ k
  one_first xs d l k a b = by (a.before k b.comes) (b.before l a.comes)
    where
      by : (k ≡ l) ⊎ (label_cmp cmp l k ≡ Less) → (l ≡ k) ⊎ (label_cmp cmp k l ≡ Less) → l ≡ k
      by (inl e) z = sym e
      by (inr below) (inl e) = e
      by (inr below) (inr above) = absurd (labels_apart cmp o l k below above)

  one_named : (xs : List (Label E)) (d : Configuration S E L) (n : Option ℕ) (l k : Label E) → IsNamed cmp M xs d n l → IsNamed cmp M xs d n k → l ≡ k
  one_named xs d (Some n) l k a b = one_choice xs d n l k a b
  one_named xs d None l k a b = one_first xs d l k a b

  -- of two runs by the same picks, the longer one goes on from where the other leads
  pub goes_on : (picks : List ℕ) (xs : List (Label E)) (d : Configuration S E L) (ls ms : List (Label E)) (e f : Configuration S E L)
      → IsPicked cmp M picks xs d ls → IsPicked cmp M picks xs d ms → IsRun M d ls e → IsRun M d ms f → length ls ≤ length ms
      → (rest : List (Label E)) × (ms ≡ ls ++ rest) × IsRun M e rest f
  goes_on picks xs d [] ms e f p q r s le = (ms, refl, subst (λ x. IsRun M x ms f) r s)
  goes_on picks xs d (l ∷ ls) [] e f p q r s le = absurd (omega (arith, le))
  goes_on picks xs (Error kind v t) (l ∷ ls) (k ∷ ms) e f p q r s le = absurd r
  goes_on picks xs (Running c) (l ∷ ls) (k ∷ ms) e f p q r s le =
      let same : k ≡ l = one_named xs (Running c) (slice_get picks (length xs)) k l q.0 p.0 in
      let z = goes_on picks (xs ++ l ∷ []) (step M c l) ls ms e f p.1
      (subst (λ j. IsPicked cmp M picks (xs ++ j ∷ []) (step M c j) ms) same q.1) r.1 (subst (λ j. IsRun M (step M c j) ms f) same s.1) (omega (arith, le)) in
      (z.0, ap (λ j. j ∷ ms) same ∙ ap (λ js. l ∷ js) z.1, z.2)
