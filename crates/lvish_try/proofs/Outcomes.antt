-- Lists of outcomes, each once, with how many of a list of runs came to it.
use Rattle.std.proofs.Common.{◌≡◌, ◌+◌, ◌⊎◌, inl, inr, ℕ, suc, zero, false, List, [], ◌∷◌, ◌++◌, length, get_or, Some, refl, sym, ap, ◌∙◌, subst, arith, cond}
use Rattle.std.proofs.Math.ListN.{set}
use Rattle.std.proofs.lemmas.Bool.{cases_Bool, cases_eq}
use Rattle.std.proofs.lemmas.Option.{none-some, slice_get_within, get_or_from_slice_get}
use Rattle.std.proofs.lemmas.List.Sums.{sum_by-cons, sum_by_push, sum_by-set}
use Rattle.std.proofs.lemmas.Slice.Eq.{bytes_eq-Decides}
use Rattle.std.specs.List.{slice_get, count_by, sum_by}
use Rattle.std.specs.Str.{bytes_eq}
use Rattle.lvish_calculus.proofs.Sound.{some_is}

-- ---- lists

module _ {X : Type 0} where
  -- an element of a longer list is the one that came, or was there
  pub in_push : (xs : List X) (y : X) (k : ℕ) (x : X) → slice_get (xs ++ y ∷ []) k ≡ Some x → (slice_get xs k ≡ Some x) ⊎ ((k ≡ length xs) × (y ≡ x))
  in_push [] y zero x at = inr (refl, some_is at)
  in_push [] y (suc k) x at = absurd (none-some x at)
  in_push (z ∷ xs) y zero x at = inl at
  in_push (z ∷ xs) y (suc k) x at = elim (in_push xs y k x at) [ inl a ↦ inl a | inr b ↦ inr (ap suc b.0, b.1) ]

  pub still_there : (xs ys : List X) (k : ℕ) (x : X) → slice_get xs k ≡ Some x → slice_get (xs ++ ys) k ≡ Some x
  still_there [] ys k x at = absurd (none-some x at)
  still_there (z ∷ xs) ys zero x at = at
  still_there (z ∷ xs) ys (suc k) x at = still_there xs ys k x at

  pub pushed_there : (xs : List X) (x : X) → slice_get (xs ++ x ∷ []) (length xs) ≡ Some x
  pushed_there [] x = refl
  pushed_there (y ∷ xs) x = pushed_there xs x

  -- an element of a list in which one was replaced is the one that came, or stood at another place
  pub in_set : (xs : List X) (i : ℕ) (y : X) (k : ℕ) (x : X) → slice_get (set xs i y) k ≡ Some x → ((k ≡ i) × (y ≡ x)) ⊎ ((k ≡ i → ⊥) × (slice_get xs k ≡ Some x))
  in_set [] i y k x at = absurd (none-some x at)
  in_set (z ∷ xs) zero y zero x at = inl (refl, some_is at)
  in_set (z ∷ xs) zero y (suc k) x at = inr ((λ e. omega (arith, e)), at)
  in_set (z ∷ xs) (suc i) y zero x at = inr ((λ e. omega (arith, e)), at)
  in_set (z ∷ xs) (suc i) y (suc k) x at = elim (in_set xs i y k x at) [ inl a ↦ inl (ap suc a.0, a.1) | inr b ↦ inr ((λ e. b.0 (omega (arith, e))), b.1) ]

  pub set_there : (xs : List X) (i : ℕ) (x y : X) → slice_get xs i ≡ Some x → slice_get (set xs i y) i ≡ Some y
  set_there [] i x y at = absurd (none-some x at)
  set_there (z ∷ xs) zero x y at = refl
  set_there (z ∷ xs) (suc i) x y at = set_there xs i x y at

  pub set_beside : (xs : List X) (i k : ℕ) (y : X) → (k ≡ i → ⊥) → slice_get (set xs i y) k ≡ slice_get xs k
  set_beside [] i k y other = refl
  set_beside (z ∷ xs) zero zero y other = absurd (other refl)
  set_beside (z ∷ xs) zero (suc k) y other = refl
  set_beside (z ∷ xs) (suc i) zero y other = refl
  set_beside (z ∷ xs) (suc i) (suc k) y other = set_beside xs i k y (λ e. other (ap suc e))

-- ---- counts

-- a test of two texts that aren't the same
other_texts : (xs ys : List ℕ) → (xs ≡ ys → ⊥) → bytes_eq xs ys ≡ false
other_texts xs ys other = elim (cases_Bool (bytes_eq xs ys)) [ inl is ↦ absurd (other ((bytes_eq-Decides xs ys).0 is)) | inr isnt ↦ isnt ]

module _ {R : Type 0} (text : R → List ℕ) where
  -- how many of the runs came to the outcome with this text
  abbrev pub came : List ℕ → List R → ℕ
  came t runs = count_by (λ r. bytes_eq (text r) t) runs

  pub one_more : (t : List ℕ) (runs : List R) (r : R) → text r ≡ t → came t (runs ++ r ∷ []) ≡ came t runs + 1
  one_more t runs r same = sum_by_push (λ x. cond (bytes_eq (text x) t) 1 0) runs r ∙ ap (λ b. came t runs + cond b 1 0) ((bytes_eq-Decides (text r) t).1 same)

  pub no_more : (t : List ℕ) (runs : List R) (r : R) → (text r ≡ t → ⊥) → came t (runs ++ r ∷ []) ≡ came t runs
  no_more t runs r other = sum_by_push (λ x. cond (bytes_eq (text x) t) 1 0) runs r ∙ ap (λ b. came t runs + cond b 1 0) (other_texts (text r) t other) ∙ omega arith

  -- none of the runs came to it
  pub none_came : (t : List ℕ) (runs : List R) → ((k : ℕ) (r : R) → slice_get runs k ≡ Some r → text r ≡ t → ⊥) → came t runs ≡ 0
  none_came t [] none = refl
  none_came t (r ∷ runs) none =
      let rest : came t runs ≡ 0 = none_came t runs (λ k. none (suc k)) in
      let here : bytes_eq (text r) t ≡ false = other_texts (text r) t (none 0 r refl) in
      sum_by-cons (λ x. cond (bytes_eq (text x) t) 1 0) r runs ∙ ap (λ b. cond b 1 0 + came t runs) here ∙ omega (arith, rest)

-- ---- outcomes

module _ {R F : Type 0} (text : R → List ℕ) (at : F → List ℕ) (times : F → ℕ) where
  -- each outcome has the number of the runs that came to it
  abbrev pub AreTimes : List R → List F → Type 0
  AreTimes runs found = (j : ℕ) (f : F) → slice_get found j ≡ Some f → times f ≡ came text (at f) runs

  -- no two are the same
  abbrev pub AreApart : List F → Type 0
  AreApart found = (j k : ℕ) (f g : F) → slice_get found j ≡ Some f → slice_get found k ≡ Some g → at f ≡ at g → j ≡ k

  -- each run came to one of them
  abbrev pub HaveAll : List R → List F → Type 0
  HaveAll runs found = (k : ℕ) (r : R) → slice_get runs k ≡ Some r → (j : ℕ) × (f : F) × (slice_get found j ≡ Some f) × (at f ≡ text r)

  module _ (runs : List R) (found : List F) (r : R) (are : AreTimes runs found) (apart : AreApart found) (all : HaveAll runs found) where
    -- another outcome's number stays
    others_times : ((j : ℕ) (f : F) → slice_get found j ≡ Some f → (at f ≡ text r → ⊥) → times f ≡ came text (at f) (runs ++ r ∷ []))
    others_times j f there other = are j f there ∙ sym (no_more text (at f) runs r (λ e. other (sym e)))

    module _ (i : ℕ) (f g : F) (there : slice_get found i ≡ Some f) (same : at f ≡ text r) (kept : at g ≡ at f) (more : times g ≡ times f + 1) where
      -- the run is counted at an outcome
      pub counted_times : AreTimes (runs ++ r ∷ []) (set found i g)
      counted_times j h stands = elim (in_set found i g j h stands) [
        | inl z ↦ subst (λ x. times x ≡ came text (at x) (runs ++ r ∷ [])) z.1
            (more ∙ ap (λ n. n + 1) (are i f there ∙ ap (λ t. came text t runs) (sym kept)) ∙ sym (one_more text (at g) runs r (sym (kept ∙ same))))
        | inr z ↦ others_times j h z.1 (λ e. z.0 (apart j i h f z.1 there (e ∙ sym same)))
      ]

      pub counted_apart : AreApart (set found i g)
      counted_apart j k x y one two e = by (in_set found i g j x one) (in_set found i g k y two)
        where
          by : ((j ≡ i) × (g ≡ x)) ⊎ ((j ≡ i → ⊥) × (slice_get found j ≡ Some x)) → ((k ≡ i) × (g ≡ y)) ⊎ ((k ≡ i → ⊥) × (slice_get found k ≡ Some y)) → j ≡ k
          by (inl a) (inl b) = a.0 ∙ sym b.0
          by (inl a) (inr b) = absurd (b.0 (sym (apart i k f y there b.1 (sym kept ∙ ap at a.1 ∙ e))))
          by (inr a) (inl b) = absurd (a.0 (apart j i x f a.1 there (e ∙ sym (ap at b.1) ∙ kept)))
          by (inr a) (inr b) = apart j k x y a.1 b.1 e

      pub counted_all : HaveAll (runs ++ r ∷ []) (set found i g)
      counted_all k q stands = elim (in_push runs r k q stands) [
        | inl old ↦ by (all k q old)
        | inr last ↦ (i, g, set_there found i f g there, kept ∙ same ∙ ap text last.1)
      ]
        where
          at_place : (q : R) (j : ℕ) (x : F) → slice_get found j ≡ Some x → at x ≡ text q → (j ≡ i) ⊎ (j ≡ i → ⊥) → (n : ℕ) × (y : F) × (slice_get (set found i g) n ≡ Some y) × (at y ≡ text q)
          at_place q j x stood e (inl here) =
              let one : x ≡ f = some_is (sym stood ∙ ap (λ n. slice_get found n) here ∙ there) in
              (i, g, set_there found i f g there, kept ∙ sym (ap at one) ∙ e)
          at_place q j x stood e (inr beside) = (j, x, set_beside found i j g beside ∙ stood, e)

          by : (j : ℕ) × (x : F) × (slice_get found j ≡ Some x) × (at x ≡ text q) → (n : ℕ) × (y : F) × (slice_get (set found i g) n ≡ Some y) × (at y ≡ text q)
          by (j, x, stood, e) = at_place q j x stood e (cases_eq j i)

      pub counted_sum : sum_by times (set found i g) ≡ sum_by times found + 1
      counted_sum =
          let z = sum_by-set times found i g f (slice_get_within found i f there) in
          let here : get_or found i f ≡ f = get_or_from_slice_get found i f f there in
          omega (arith, z, ap times here, more)

    module _ (f : F) (same : at f ≡ text r) (once : times f ≡ 1) (other : (k : ℕ) (g : F) → slice_get found k ≡ Some g → at g ≡ text r → ⊥) where
      -- no run before came to it
      none_before : came text (text r) runs ≡ 0
      none_before = none_came text (text r) runs (λ k q stands e. by k q e (all k q stands))
        where
          by : (k : ℕ) (q : R) → text q ≡ text r → (j : ℕ) × (x : F) × (slice_get found j ≡ Some x) × (at x ≡ text q) → ⊥
          by k q e (j, x, stood, is) = other j x stood (is ∙ e)

      -- the run came to an outcome that wasn't there
      pub added_times : AreTimes (runs ++ r ∷ []) (found ++ f ∷ [])
      added_times j h stands = elim (in_push found f j h stands) [
        | inl old ↦ others_times j h old (other j h old)
        | inr last ↦ subst (λ x. times x ≡ came text (at x) (runs ++ r ∷ [])) last.1
            (once ∙ ap (λ n. n + 1) (sym (ap (λ t. came text t runs) same ∙ none_before)) ∙ sym (one_more text (at f) runs r (sym same)))
      ]

      pub added_apart : AreApart (found ++ f ∷ [])
      added_apart j k x y one two e = by (in_push found f j x one) (in_push found f k y two)
        where
          by : (slice_get found j ≡ Some x) ⊎ ((j ≡ length found) × (f ≡ x)) → (slice_get found k ≡ Some y) ⊎ ((k ≡ length found) × (f ≡ y)) → j ≡ k
          by (inl a) (inl b) = apart j k x y a b e
          by (inl a) (inr b) = absurd (other j x a (e ∙ sym (ap at b.1) ∙ same))
          by (inr a) (inl b) = absurd (other k y b (sym e ∙ sym (ap at a.1) ∙ same))
          by (inr a) (inr b) = a.0 ∙ sym b.0

      pub added_all : HaveAll (runs ++ r ∷ []) (found ++ f ∷ [])
      added_all k q stands = elim (in_push runs r k q stands) [
        | inl old ↦ by (all k q old)
        | inr last ↦ (length found, f, pushed_there found f, same ∙ ap text last.1)
      ]
        where
          by : (j : ℕ) × (x : F) × (slice_get found j ≡ Some x) × (at x ≡ text q) → (n : ℕ) × (y : F) × (slice_get (found ++ f ∷ []) n ≡ Some y) × (at y ≡ text q)
          by (j, x, stood, e) = (j, x, still_there found (f ∷ []) j x stood, e)

      pub added_sum : sum_by times (found ++ f ∷ []) ≡ sum_by times found + 1
      added_sum = sum_by_push times found f ∙ ap (λ n. sum_by times found + n) once
