-- Rows: an element behind all others, and what a search finds.
use Rattle.std.specs.Prelude.{◌≡◌, Bool, true, false, ◌||◌, List, [], ◌∷◌, ◌++◌, refl, Contains, Result, Ok, Err, is_ok, nat_lt}
use Rattle.std.proofs.Common.{sym, ◌∙◌, ap, subst, arith, zero, suc, length, ◌<◌, ℕ}
use Rattle.std.specs.declared.cmp.Ordering.{Ordering}
use Rattle.std.specs.declared.cmp.Ordering.TheVariants.{Less, Equal, Greater}
use Rattle.std.specs.Ordering.{eq_by_cmp, is_eq, is_lt, ordering_reverse, match_ordering}
use Rattle.std.specs.Cmp.{IsTotalOrder, Equal-is, tied_itself, eq_by_cmp_equiv}
use Rattle.std.specs.Set.{is_member, sorted_merge}
use Rattle.std.specs.List.{AllByRecursion, HoldsAt}
use Rattle.std.specs.List.Sorted.{IsStrictlySortedBy, IsSorted, IsSortedBy, IsBinarySearchResult, IsSearchInRange, IsPartitionPoint}
use Rattle.std.proofs.lemmas.List.Elements.{All-cons, All-nil}
use Rattle.std.proofs.lemmas.List.Sorted.{searchable_from_sorted}
use Rattle.std.proofs.lemmas.Map.Views.{Contains-from_any, list_any-from_Contains}
use borrow.Author.Tests.{ltb-true, ltb-false}
use native.Mathlib.Numerals.{unary_clauses}
use Rattle.lvish_lattice.specs.Ascending.{merge_rises, merge_within, one_rises}
use Rattle.lvish_lattice.specs.Elements.{EndsBelow}

-- two in their order
pub two_rise : {K : Type 0} (R : K → K → Ordering) (x y : K) → R x y ≡ Less → IsStrictlySortedBy R (x ∷ y ∷ [])
unfolding IsStrictlySortedBy
two_rise R x y h = ((h, tt), (tt, tt))

module _ {K : Type 0} {R : K → K → Ordering} (o : IsTotalOrder R) where
  back_less : (x y : K) → R x y ≡ Less → R y x ≡ Greater
  back_less x y h = o.antisymm y x ∙ ap ordering_reverse h

  -- all are below this one
  abbrev pub AllBelow : K → List K → Type 0
  AllBelow x xs = AllByRecursion (λ y. R y x ≡ Less) xs

  pub all_below : (x : K) (xs : List K) → IsStrictlySortedBy R xs → EndsBelow R x xs → AllBelow x xs
  unfolding IsStrictlySortedBy
  all_below x [] s e = tt
  all_below x (y ∷ []) s e = (e, tt)
  all_below x (y ∷ z ∷ zs) s e = let rest = all_below x (z ∷ zs) s.1 (simp unary_clauses (simp unary_clauses at e)) in (o.trans y z x s.0.0 rest.0, rest)

  pub behind_all : (x : K) (xs : List K) → AllBelow x xs → sorted_merge R true (x ∷ []) xs ≡ xs ++ x ∷ []
  behind_all x [] h = refl
  behind_all x (y ∷ ys) h = ap (λ r. match_ordering r (x ∷ y ∷ ys) (x ∷ ys) (y ∷ sorted_merge R true (x ∷ []) ys)) (back_less y x h.0) ∙ ap (λ zs. y ∷ zs) (behind_all x ys h.1)

  put_behind : (x : K) (xs : List K) → IsStrictlySortedBy R xs → EndsBelow R x xs → sorted_merge R true (x ∷ []) xs ≡ xs ++ x ∷ []
  put_behind x xs s e = behind_all x xs (all_below x xs s e)

  -- an element behind all others is where a merge puts it
  pub pushed : (x : K) (inside held now : List K) → inside ≡ held → now ≡ inside ++ x ∷ [] → IsStrictlySortedBy R inside → EndsBelow R x held → IsStrictlySortedBy R now × (now ≡ sorted_merge R true (x ∷ []) held)
  pushed x inside held now view push s e =
      let rises = subst (IsStrictlySortedBy R) view s in
      let merged : now ≡ sorted_merge R true (x ∷ []) held = push ∙ ap (λ xs. xs ++ x ∷ []) view ∙ sym (put_behind x held rises e) in
      (subst (IsStrictlySortedBy R) (sym merged) (merge_rises o (x ∷ []) held (one_rises R x) rises), merged)

  -- an element behind all others isn't among them
  not_there : (x : K) (xs : List K) → AllBelow x xs → is_member (eq_by_cmp R) xs x ≡ false
  not_there x [] h = refl
  not_there x (y ∷ ys) h = ap (λ r. is_eq r || is_member (eq_by_cmp R) ys x) (back_less y x h.0) ∙ not_there x ys h.1

  pub behind_is_not_there : (x : K) (xs : List K) → IsStrictlySortedBy R xs → EndsBelow R x xs → is_member (eq_by_cmp R) xs x ≡ false
  behind_is_not_there x xs s e = not_there x xs (all_below x xs s e)

  no_test : (x y : K) → R x y ≡ Less → is_lt (R y x) ≡ false
  no_test x y h = ap is_lt (back_less x y h)

  sorted_later : (x : K) (xs : List K) → AllByRecursion (λ y. R x y ≡ Less) xs → IsSortedBy (λ a b. is_lt (R a b)) xs → IsSortedBy (λ a b. is_lt (R a b)) (x ∷ xs)
  sorted_later x [] b s k d l h = absurd (omega arith)
  sorted_later x (y ∷ ys) b s zero d l h = no_test x y b.0
  sorted_later x (y ∷ ys) b s (suc k) d l h = simp unary_clauses (simp unary_clauses at (s k d (omega arith) (omega arith)))

  -- ascending lists are sorted
  sorted_from_rising : (xs : List K) → IsStrictlySortedBy R xs → IsSorted R xs
  unfolding IsStrictlySortedBy
  sorted_from_rising [] s = λ k d l h. absurd (omega arith)
  sorted_from_rising (x ∷ xs) s = sorted_later x xs s.0 (sorted_from_rising xs s.1)

  -- what stands before and after the place of an element that the list does not have
  parted : (xs : List K) (x : K) (i : ℕ) → IsStrictlySortedBy R xs → IsBinarySearchResult (λ y. R y x) xs (Err i) → IsPartitionPoint (λ y. R y x ≡ Less) (λ y. R y x ≡ Greater) xs i
  parted xs x i s found = found (searchable_from_sorted o (λ y. y) xs x (sorted_from_rising xs s))

  not_tied : (x : K) → R x x ≡ Less → ⊥
  not_tied x h = absurd (cc (tied_itself o x))

  not_over : (x : K) → R x x ≡ Greater → ⊥
  not_over x h = absurd (cc (tied_itself o x))

  module _ (same : (x y : K) → R x y ≡ Equal → x ≡ y) where
    is_there : (x : K) (xs : List K) (i : ℕ) → i < length xs → HoldsAt (λ y. R y x ≡ Equal) xs i → is_member (eq_by_cmp R) xs x ≡ true
    is_there x xs i l h = list_any-from_Contains (eq_by_cmp_equiv o) x xs (i, l, same _ x (h x))

    -- a search finds the members
    search_has : (x : K) (xs : List K) (r : Result ℕ ℕ) → IsStrictlySortedBy R xs → IsSearchInRange r (length xs) → IsBinarySearchResult (λ y. R y x) xs r → is_ok r ≡ is_member (eq_by_cmp R) xs x
    search_has x xs (Ok i) s l found = sym (is_there x xs i l found)
    search_has x xs (Err i) s l found =
        elim (is_member (eq_by_cmp R) xs x) as (λ b. is_member (eq_by_cmp R) xs x ≡ b → false ≡ b) [
          | true ↦ λ m. absurd (nowhere (Contains-from_any (λ a b t. same a b ((Equal-is (R a b)).0 t)) x xs m))
          | false ↦ λ m. refl
        ] refl
      where
        nowhere : Contains xs x → ⊥
        nowhere p = elim (nat_lt p.0 i) as (λ b. nat_lt p.0 i ≡ b → ⊥) [
          | true ↦ λ t. not_tied x (subst (λ y. R y x ≡ Less) p.2 ((parted xs x i s found).0 p.0 x (omega arith) (ltb-true p.0 i t)))
          | false ↦ λ t. not_over x (subst (λ y. R y x ≡ Greater) p.2 ((parted xs x i s found).1 p.0 x (ltb-false p.0 i t) p.1))
        ] refl

-- by a test that holds where two elements tie
module _ {K : Type 0} {R : K → K → Ordering} (o : IsTotalOrder R) (same : (x y : K) → R x y ≡ Equal → x ≡ y) (eq : K → K → Bool) (ties : (x y : K) → eq x y ≡ is_eq (R x y)) where
  pub search_has_by : (x : K) (xs : List K) (r : Result ℕ ℕ) → IsStrictlySortedBy R xs → IsSearchInRange r (length xs) → IsBinarySearchResult (λ y. R y x) xs r → is_ok r ≡ is_member eq xs x
  search_has_by x xs r s l found = search_has o same x xs r s l found ∙ ap (λ (e : K → K → Bool). is_member e xs x) (λ i a b. sym (ties a b) i)

  pub not_there_by : (x : K) (xs : List K) → IsStrictlySortedBy R xs → EndsBelow R x xs → false ≡ is_member eq xs x
  not_there_by x xs s e = sym (behind_is_not_there o x xs s e) ∙ ap (λ (t : K → K → Bool). is_member t xs x) (λ i a b. sym (ties a b) i)

  -- an element that is there changes nothing
  pub put_again : (x : K) (xs : List K) → IsStrictlySortedBy R xs → is_member eq xs x ≡ true → sorted_merge R true (x ∷ []) xs ≡ xs
  put_again x xs s h = merge_within o same (x ∷ []) xs (one_rises R x) s (All-cons (λ y. is_member (eq_by_cmp R) xs y ≡ true) x [] (sym (ap (λ (e : K → K → Bool). is_member e xs x) (λ i a b. ties a b i)) ∙ h) (All-nil (λ y. is_member (eq_by_cmp R) xs y ≡ true)))
