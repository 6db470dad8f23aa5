-- Which reads don't fit their place, and which numbers no counter holds.
use Rattle.std.specs.Prelude.{◌≡◌, ◌⊎◌, ◌↔◌, ℕ, ℤ, suc, pos, negsuc, Bool, true, false, ◌&&◌, nat_le, List, [], ◌∷◌, is_some, refl}
use Rattle.std.proofs.Common.{sym, ◌∙◌, ap, inl, inr, ⊎_elim, true≢false, arith}
use Rattle.std.specs.List.{list_all}
use Rattle.std.proofs.lemmas.List.Folds.{list_all_at}
use Rattle.lvish_compound.specs.Vocabulary.{Kind, Test, Place, HIGHEST_LEVEL, HIGHEST_TOTAL}
use Rattle.lvish_compound.specs.declared.kind.Kind.TheVariants as kind
use Rattle.lvish_compound.specs.declared.number_test.Test.TheVariants.{Any, In, At}
use Rattle.lvish_compound.specs.declared.place.Place.TheVariants as place
use Rattle.lvish_compound.specs.Numbers.{max_by, all_pass, is_level, are_levels, is_total, are_totals}
use Rattle.lvish_compound.specs.Places.{test_fits, fits_kind, is_side}
use Rattle.lvish_compound.specs.Refusals.{Mentions, IsBeyond, IsNoSide, IsBeyondCounters, IsBeyondTotal, IsBeyondTotals, IsReadRefused}

held_by : (n : ℕ) (t : Bool) (h : nat_le n HIGHEST_LEVEL ≡ t) → is_some (max_by n t h) ≡ t
held_by n true h = refl
held_by n false h = refl

beyond : (n : ℤ) → (is_level n ≡ false) ↔ IsBeyond n
beyond (pos n) = let same : is_level (pos n) ≡ nat_le n HIGHEST_LEVEL = held_by n (nat_le n HIGHEST_LEVEL) refl in
    (λ h. let few : nat_le n HIGHEST_LEVEL ≡ false = sym same ∙ h in inr (grind (arith, few)), λ w. same ∙ ⊎_elim (λ e. grind (arith, e)) (λ e. grind (arith, e)) w)
beyond (negsuc n) = (λ _. inl (omega arith), λ _. refl)

not_true : (b : Bool) → b ≡ true → b ≡ false → ⊥
not_true b t f = true≢false (sym t ∙ f)

-- a list of numbers by a test that some don't pass
module _ (test : ℤ → Bool) (Beyond : ℤ → Type 0) (where_beyond : (n : ℤ) → (test n ≡ false) ↔ Beyond n) where
  abbrev SomeBeyond : Test → Type 0
  SomeBeyond t = (n : ℤ) × Mentions t n × Beyond n

  list_beyond : (xs : List ℤ) → list_all test xs ≡ false → SomeBeyond (In xs)
  list_beyond [] h = absurd cc
  list_beyond (x ∷ xs) h = by_test (test x) refl (list_beyond xs)
    where
      by_test : (t : Bool) → test x ≡ t → (list_all test xs ≡ false → SomeBeyond (In xs)) → SomeBeyond (In (x ∷ xs))
      by_test false e rest = (x, (0, omega arith, refl), (where_beyond x).0 e)
      by_test true e rest = let w = rest (sym (ap (λ b. b && list_all test xs) e) ∙ h) in (w.0, (suc w.1.0, omega (arith, w.1.1), w.1.2), w.2)

  all_beyond : (t : Test) → (all_pass test t ≡ false) ↔ SomeBeyond t
  all_beyond Any = (λ h. absurd cc, λ w. absurd w.1)
  all_beyond (In xs) = (list_beyond xs, λ w. list_all_at test xs w.1.0 w.0 w.1.1 (ap test w.1.2 ∙ (where_beyond w.0).1 w.2))
  all_beyond (At m) = (λ h. (m, refl, (where_beyond m).0 h), λ w. ap test w.1 ∙ (where_beyond w.0).1 w.2)

pub tests_beyond : (t : Test) → (are_levels t ≡ false) ↔ IsBeyondCounters t
tests_beyond = all_beyond is_level IsBeyond beyond

past_total : (n : ℤ) → (is_total n ≡ false) ↔ IsBeyondTotal n
past_total (pos n) = (λ h. let few : nat_le n HIGHEST_TOTAL ≡ false = h in inr (grind (arith, few)), λ w. ⊎_elim (λ e. grind (arith, e)) (λ e. grind (arith, e)) w)
past_total (negsuc n) = (λ _. inl (omega arith), λ _. refl)

totals_beyond : (t : Test) → (are_totals t ≡ false) ↔ IsBeyondTotals t
totals_beyond = all_beyond is_total IsBeyondTotal past_total

no_side : (i : ℕ) → (is_side i ≡ false) ↔ IsNoSide i
no_side i = (λ h. (λ e. not_true (is_side i) (grind (arith, e)) h, λ e. not_true (is_side i) (grind (arith, e)) h), λ w. grind (arith, w.0, w.1))

abbrev IsRefusedKind : Kind → Test → Type 0
IsRefusedKind l t = (l ≡ kind.Map) ⊎ (l ≡ kind.Tally) ⊎ ((l ≡ kind.Max) × IsBeyondCounters t)

kinds_refused : (l : Kind) (t : Test) → (fits_kind l t ≡ false) ↔ IsRefusedKind l t
kinds_refused kind.Max t = (λ h. inr (inr (refl, (tests_beyond t).0 h)), ⊎_elim (λ e. absurd cc) (⊎_elim (λ e. absurd cc) (λ e. (tests_beyond t).1 e.1)))
kinds_refused kind.Map t = (λ _. inl refl, λ _. refl)
kinds_refused kind.Tally t = (λ _. inr (inl refl), λ _. refl)
kinds_refused l t = (λ h. absurd cc, ⊎_elim (λ e. absurd cc) (⊎_elim (λ e. absurd cc) (λ e. absurd (cc e.0))))

pub refused_where : (p : Place) (t : Test) → (test_fits p t ≡ false) ↔ IsReadRefused p t
refused_where place.Max t = tests_beyond t
refused_where (place.Amount k) t = tests_beyond t
refused_where place.Total t = totals_beyond t
refused_where (place.Side i l) t = by_side (is_side i) refl
  where
    by_side : (b : Bool) → is_side i ≡ b → ((b && fits_kind l t) ≡ false) ↔ (IsNoSide i ⊎ IsRefusedKind l t)
    by_side false e = (λ _. inl ((no_side i).0 e), λ _. refl)
    by_side true e = (λ h. inr ((kinds_refused l t).0 h), ⊎_elim (λ w. absurd (not_true (is_side i) e ((no_side i).1 w))) (kinds_refused l t).1)
refused_where p t = (λ h. absurd cc, λ w. absurd w)
