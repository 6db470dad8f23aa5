-- An element put into an ascending list, and lists that are walked element by element.
use Rattle.std.specs.Prelude.{◌≡◌, ◌↔◌, Bool, true, false, not, filter, ◌||◌, ◌&&◌, List, [], ◌∷◌, ◌++◌, All, refl, Contains, Result, Ok, Err, IfOk, IfErr, IsTrue}
use Rattle.std.proofs.Common.{sym, ◌∙◌, ap, subst, arith, suc}
use Rattle.std.proofs.Math.Bool.{or_comm}
use Rattle.std.specs.declared.cmp.Ordering.{Ordering}
use Rattle.std.specs.declared.cmp.Ordering.TheVariants.{Less, Equal, Greater}
use Rattle.std.specs.Ordering.{eq_by_cmp, is_eq, match_ordering}
use Rattle.std.specs.Cmp.{IsTotalOrder, Equal-is, eq_by_cmp_equiv}
use Rattle.std.specs.Set.{is_member, sorted_merge}
use Rattle.std.specs.List.{list_all}
use Rattle.std.specs.List.Sorted.{IsStrictlySortedBy}
use Rattle.std.specs.BTreeSet.{insert_key}
use Rattle.std.proofs.lemmas.List.Elements.{All-cons, All-nil}
use Rattle.std.proofs.lemmas.List.Folds.{list_any-append}
use Rattle.std.proofs.lemmas.Map.Views.{Contains-from_any, list_any-from_Contains}
use Rattle.lvish_lattice.specs.Ascending.{and_left, and_right, and_both, within_by, same_members, merge_has, merge_rises, one_rises}

-- a new key of a tree goes where a merge puts it
pub insert_is_merge : {K : Type 0} {R : K → K → Ordering} → ((x y : K) → R x y ≡ Equal → x ≡ y) → (x : K) (xs : List K) → insert_key R xs x ≡ sorted_merge R true (x ∷ []) xs
insert_is_merge same x [] = refl
insert_is_merge {R = R} same x (y ∷ ys) =
    elim (R x y) as (λ r. R x y ≡ r → match_ordering r (x ∷ y ∷ ys) (y ∷ ys) (y ∷ insert_key R ys x) ≡ match_ordering r (x ∷ y ∷ ys) (x ∷ ys) (y ∷ sorted_merge R true (x ∷ []) ys)) [
      | Less ↦ λ _. refl
      | Equal ↦ λ p i. sym (same x y p) i ∷ ys
      | Greater ↦ λ _. ap (λ zs. y ∷ zs) (insert_is_merge same x ys)
    ] refl

pub tail_rises : {K : Type 0} (R : K → K → Ordering) (x : K) (xs : List K) → IsStrictlySortedBy R (x ∷ xs) → IsStrictlySortedBy R xs
unfolding IsStrictlySortedBy
tail_rises R x xs s = s.1

module _ {K : Type 0} {R : K → K → Ordering} (o : IsTotalOrder R) where
  regrouped : (a b c : Bool) → ((a || b) || c) ≡ (b || ((a || false) || c))
  regrouped true true c = refl
  regrouped true false c = refl
  regrouped false true c = refl
  regrouped false false c = refl

  -- the first element of a list goes in before the others
  pub put_first : ((x y : K) → R x y ≡ Equal → x ≡ y) → (x : K) (xs ys : List K) → IsStrictlySortedBy R (x ∷ xs) → IsStrictlySortedBy R ys → sorted_merge R true xs (sorted_merge R true (x ∷ []) ys) ≡ sorted_merge R true (x ∷ xs) ys
  put_first same x xs ys s t = sym (same_members o same _ _ (merge_rises o (x ∷ xs) ys s t) (merge_rises o xs _ (tail_rises R x xs s) (merge_rises o (x ∷ []) ys (one_rises R x) t)) (λ q.
      merge_has o q (x ∷ xs) ys ∙ regrouped (eq_by_cmp R q x) (is_member (eq_by_cmp R) xs q) (is_member (eq_by_cmp R) ys q)
      ∙ sym (merge_has o q xs (sorted_merge R true (x ∷ []) ys) ∙ ap (λ b. is_member (eq_by_cmp R) xs q || b) (merge_has o q (x ∷ []) ys))))

-- a test of each element
module _ {K : Type 0} (p : K → Bool) where
  all_by_test : (xs : List K) → list_all p xs ≡ true → All (λ x. p x ≡ true) xs
  all_by_test [] h = All-nil (λ x. p x ≡ true)
  all_by_test (x ∷ xs) h = All-cons (λ y. p y ≡ true) x xs (and_left _ _ h) (all_by_test xs (and_right (p x) _ h))

  test_all : (xs : List K) → All (λ x. p x ≡ true) xs → list_all p xs ≡ true
  test_all [] h = refl
  test_all (x ∷ xs) h = and_both (h 0 x (omega arith)) (test_all xs (λ k d l. h (suc k) d (omega arith)))

  pub one_fails : (x : K) (xs : List K) → p x ≡ false → list_all p (x ∷ xs) ≡ false
  one_fails x xs h = ap (λ b. b && list_all p xs) h

-- whether each element of a list is in another
pub within_by_test : {K : Type 0} {R : K → K → Ordering} (o : IsTotalOrder R) (same : (x y : K) → R x y ≡ Equal → x ≡ y) (eq : K → K → Bool) → ((x y : K) → eq x y ≡ is_eq (R x y)) → (xs ys : List K) → IsStrictlySortedBy R xs → IsStrictlySortedBy R ys
    → (b : Bool) → list_all (is_member eq ys) xs ≡ b → IsTrue b ↔ (sorted_merge R true xs ys ≡ ys)
within_by_test o same eq ties xs ys s t b e =
    let within = within_by o same eq ties xs ys s t in
    ((λ h. within.0 (all_by_test (is_member eq ys) xs (e ∙ h))), λ m. sym e ∙ test_all (is_member eq ys) xs (within.1 m))

-- what one element brings where it is held, and where it is missing
pub held_brings : {K : Type 0} (m : K → Bool) (x : K) (xs : List K) (held : Bool) → xs ≡ x ∷ [] → held ≡ m x → held ≡ true → filter (λ e. not (m e)) xs ≡ []
held_brings m x xs held only is h = ap (filter (λ e. not (m e))) only ∙ rw (sym is ∙ h) refl

pub missing_brings : {K : Type 0} (m : K → Bool) (x : K) (xs : List K) (held : Bool) → xs ≡ x ∷ [] → held ≡ m x → held ≡ false → filter (λ e. not (m e)) xs ≡ x ∷ []
missing_brings m x xs held only is h = ap (filter (λ e. not (m e))) only ∙ rw (sym is ∙ h) refl

-- what was not put was held
pub not_added : (added held : Bool) → added ≡ not held → added ≡ false → held ≡ true
not_added added true e f = refl
not_added added false e f = absurd (cc (sym e ∙ f))

-- what a put of one element leaves, where it succeeds and where it is refused
pub stays_rising : {K A E : Type 0} {R : K → K → Ordering} (o : IsTotalOrder R) (x : K) (xs ys : List K) (r : Result A E) → IfOk r (λ _. ys ≡ sorted_merge R true (x ∷ []) xs) → IfErr r (λ _. ys ≡ xs) → IsStrictlySortedBy R xs → IsStrictlySortedBy R ys
stays_rising {R = R} o x xs ys (Ok a) put refused s = subst (IsStrictlySortedBy R) (sym put) (merge_rises o (x ∷ []) xs (one_rises R x) s)
stays_rising {R = R} o x xs ys (Err e) put refused s = subst (IsStrictlySortedBy R) (sym refused) s

module _ {K : Type 0} {R : K → K → Ordering} (o : IsTotalOrder R) where
  -- the members of what is put one by one
  pub put_more : (x : K) (xs es : List K) → ((q : K) → is_member (eq_by_cmp R) es q ≡ is_member (eq_by_cmp R) xs q) → (q : K) → is_member (eq_by_cmp R) (sorted_merge R true (x ∷ []) es) q ≡ is_member (eq_by_cmp R) (xs ++ x ∷ []) q
  put_more x xs es h q = merge_has o q (x ∷ []) es ∙ ap (λ b. (eq_by_cmp R q x || false) || b) (h q) ∙ or_comm (eq_by_cmp R q x || false) (is_member (eq_by_cmp R) xs q) ∙ sym (list_any-append (eq_by_cmp R q) xs (x ∷ []))

  -- lists of which the same is a member contain the same
  pub members_there : ((x y : K) → R x y ≡ Equal → x ≡ y) → (xs ys : List K) → ((q : K) → is_member (eq_by_cmp R) xs q ≡ is_member (eq_by_cmp R) ys q) → (x : K) → Contains xs x → Contains ys x
  members_there same xs ys h x m = Contains-from_any (λ a b t. same a b ((Equal-is (R a b)).0 t)) x ys (sym (h x) ∙ list_any-from_Contains (eq_by_cmp_equiv o) x xs m)

-- what a put of several leaves
pub all_stay_rising : {K A E : Type 0} {R : K → K → Ordering} (o : IsTotalOrder R) (put old new : List K) (r : Result A E) → IfOk r (λ _. new ≡ sorted_merge R true put old) → IfErr r (λ _. new ≡ old) → IsStrictlySortedBy R put → IsStrictlySortedBy R old → IsStrictlySortedBy R new
all_stay_rising {R = R} o put old new (Ok a) done refused t s = subst (IsStrictlySortedBy R) (sym done) (merge_rises o put old t s)
all_stay_rising {R = R} o put old new (Err e) done refused t s = subst (IsStrictlySortedBy R) (sym refused) s
