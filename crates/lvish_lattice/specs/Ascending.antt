-- Ascending lists as sets: a list is determined by its members, and a merge is a join.
use Rattle.std.specs.Prelude.{◌≡◌, Bool, true, false, not, ◌||◌, ◌&&◌, List, [], ◌∷◌, ◌↔◌, All, refl, filter, slice_index_or}
use Rattle.std.proofs.Common.{sym, ◌∙◌, ap, subst, true≢false, arith, suc}
use Rattle.std.proofs.Math.Bool.{or_comm, or_assoc, or-false, or_self}
use Rattle.std.specs.declared.cmp.Ordering.{Ordering}
use Rattle.std.specs.declared.cmp.Ordering.TheVariants.{Less, Equal, Greater}
use Rattle.std.specs.Ordering.{eq_by_cmp, is_eq, is_lt, ordering_reverse, match_ordering}
use Rattle.std.specs.Cmp.{IsTotalOrder, Equal-is, tied_itself, alike_right, eq_by_cmp_equiv}
use Rattle.std.proofs.lemmas.Map.Made.{is_member-filter, All-is_member}
use Rattle.std.proofs.lemmas.List.Kept.{IsStrictlySortedBy-filter}
use Rattle.std.specs.Set.{is_member, sorted_merge, merge_step, IsUnion}
use Rattle.std.specs.List.{AllByRecursion, list_all}
use Rattle.std.specs.List.Sorted.{IsStrictlySortedBy}
use Rattle.std.specs.Cmp.Lexicographic.{pointwise}
use Rattle.lvish_lattice.specs.Lattice.{IsIdentity}

-- elements that tie are the same
pub ties_are_same : {V : Type 0} {eq : V → V → Bool} (cmp : V → V → Ordering) → IsIdentity eq → ((x y : V) → eq x y ≡ is_eq (cmp x y)) → (x y : V) → cmp x y ≡ Equal → x ≡ y
ties_are_same cmp same ties x y t = same x y (ties x y ∙ ap is_eq t)

or_once : (t a b : Bool) → (t || (a || b)) ≡ ((t || a) || (t || b))
or_once true a b = refl
or_once false a b = refl

or_ahead : (a b c : Bool) → (a || (b || c)) ≡ (b || (a || c))
or_ahead true true c = refl
or_ahead true false c = refl
or_ahead false b c = refl

by_rank : {K : Type 0} (P : List K → Type 0) (k : Ordering) (xs ys zs : List K) → (k ≡ Less → P xs) → (k ≡ Equal → P ys) → (k ≡ Greater → P zs) → P (match_ordering k xs ys zs)
by_rank P Less xs ys zs a b c = a refl
by_rank P Equal xs ys zs a b c = b refl
by_rank P Greater xs ys zs a b c = c refl

only_new : (a b : Bool) → ((a || b) && not a) ≡ (b && not a)
only_new true true = refl
only_new true false = refl
only_new false b = refl

or_absorbs : (a b : Bool) → (a ≡ true → b ≡ true) → (a || b) ≡ b
or_absorbs true b h = sym (h refl)
or_absorbs false b h = refl

less : (r : Ordering) → is_lt r ≡ true → r ≡ Less
less Less h = refl
less Equal h = absurd (true≢false (sym h))
less Greater h = absurd (true≢false (sym h))

pub and_left : (a b : Bool) → (a && b) ≡ true → a ≡ true
and_left true b h = refl
and_left false b h = h

pub and_right : (a b : Bool) → (a && b) ≡ true → b ≡ true
and_right true b h = h
and_right false b h = absurd (true≢false (sym h))

pub and_both : {a b : Bool} → a ≡ true → b ≡ true → (a && b) ≡ true
and_both {b = b} p q = ap (λ c. c && b) p ∙ q

module _ {K : Type 0} (R : K → K → Ordering) where
  -- whether each element is below those after it
  abbrev pub is_ascending : List K → Bool
  is_ascending [] = true
  is_ascending (x ∷ xs) = list_all (λ y. is_lt (R x y)) xs && is_ascending xs

  pub nothing_rises : IsStrictlySortedBy R []
  unfolding IsStrictlySortedBy
  nothing_rises = tt

  pub one_rises : (x : K) → IsStrictlySortedBy R (x ∷ [])
  unfolding IsStrictlySortedBy
  one_rises x = (tt, tt)

  below_by_test : (x : K) (xs : List K) → list_all (λ y. is_lt (R x y)) xs ≡ true → AllByRecursion (λ y. R x y ≡ Less) xs
  below_by_test x [] h = tt
  below_by_test x (y ∷ ys) h = (less (R x y) (and_left _ _ h), below_by_test x ys (and_right (is_lt (R x y)) _ h))

  test_below : (x : K) (xs : List K) → AllByRecursion (λ y. R x y ≡ Less) xs → list_all (λ y. is_lt (R x y)) xs ≡ true
  test_below x [] h = refl
  test_below x (y ∷ ys) h = ap (λ r. is_lt r && list_all (λ z. is_lt (R x z)) ys) h.0 ∙ test_below x ys h.1

  pub rises_by_test : (xs : List K) → is_ascending xs ≡ true → IsStrictlySortedBy R xs
  unfolding IsStrictlySortedBy
  rises_by_test [] h = tt
  rises_by_test (x ∷ xs) h = (below_by_test x xs (and_left _ _ h), rises_by_test xs (and_right (list_all (λ y. is_lt (R x y)) xs) _ h))

  pub test_rises : (xs : List K) → IsStrictlySortedBy R xs → is_ascending xs ≡ true
  unfolding IsStrictlySortedBy
  test_rises [] h = refl
  test_rises (x ∷ xs) h = ap (λ b. b && is_ascending xs) (test_below x xs h.0) ∙ test_rises xs h.1

module _ {K : Type 0} {R : K → K → Ordering} (o : IsTotalOrder R) where
  abbrev has : List K → K → Bool
  has = is_member (eq_by_cmp R)

  abbrev merge : List K → List K → List K
  merge = sorted_merge R true

  abbrev Below : K → List K → Type 0
  Below x ys = AllByRecursion (λ y. R x y ≡ Less) ys

  has_first : (x : K) (xs : List K) → has (x ∷ xs) x ≡ true
  has_first x xs = ap (λ r. is_eq r || has xs x) (tied_itself o x)

  pub above : (x y : K) → R x y ≡ Greater → R y x ≡ Less
  above x y h = o.antisymm y x ∙ ap ordering_reverse h

  lacks : (x q : K) (xs : List K) → Below x xs → eq_by_cmp R q x ≡ true → has xs q ≡ false
  lacks x q [] a t = refl
  lacks x q (y ∷ ys) a t = ap (λ r. is_eq r || has ys q) (o.congr q x y ((Equal-is (R q x)).0 t) ∙ a.0) ∙ lacks x q ys a.1 t

  below_itself : (x : K) (xs : List K) → Below x xs → has xs x ≡ false
  below_itself x xs a = lacks x x xs a (ap is_eq (tied_itself o x))

  pub below_all : (x y : K) (ys : List K) → R x y ≡ Less → Below y ys → Below x ys
  below_all x y [] h a = tt
  below_all x y (z ∷ zs) h a = (o.trans x y z h a.0, below_all x y zs h a.1)

  pub level_all : (x y : K) (ys : List K) → R x y ≡ Equal → Below y ys → Below x ys
  level_all x y [] h a = tt
  level_all x y (z ∷ zs) h a = (o.congr x y z h ∙ a.0, level_all x y zs h a.1)

  below_merge_step : (w x : K) (xs : List K) (on : List K → List K) → Below w (x ∷ xs) → ((ys : List K) → Below w ys → Below w (on ys)) → (ys : List K) → Below w ys → Below w (merge_step R true x xs on ys)
  below_merge_step w x xs on a h [] b = a
  below_merge_step w x xs on a h (y ∷ ys) b = by_rank (Below w) (R x y) _ _ _ (λ _. (a.0, h (y ∷ ys) b)) (λ _. (a.0, h ys b.1)) (λ _. (b.0, below_merge_step w x xs on a h ys b.1))

  below_merge : (w : K) (xs ys : List K) → Below w xs → Below w ys → Below w (merge xs ys)
  below_merge w [] ys a b = b
  below_merge w (x ∷ xs) ys a b = below_merge_step w x xs (merge xs) a (λ zs. below_merge w xs zs a.1) ys b

  rises_at : (x : K) (xs : List K) → IsStrictlySortedBy R (x ∷ xs) → ((ys : List K) → IsStrictlySortedBy R ys → IsStrictlySortedBy R (merge xs ys)) → (ys : List K) → IsStrictlySortedBy R ys → IsStrictlySortedBy R (merge (x ∷ xs) ys)
  unfolding IsStrictlySortedBy
  rises_at x xs s h [] t = s
  rises_at x xs s h (y ∷ ys) t = by_rank (IsStrictlySortedBy R) (R x y) _ _ _
      (λ k. (below_merge x xs (y ∷ ys) s.0 (k, below_all x y ys k t.0), h (y ∷ ys) t))
      (λ k. (below_merge x xs ys s.0 (level_all x y ys k t.0), h ys t.1))
      (λ k. (below_merge y (x ∷ xs) ys (above x y k, below_all y x xs (above x y k) s.0) t.0, rises_at x xs s h ys t.1))

  pub merge_rises : (xs ys : List K) → IsStrictlySortedBy R xs → IsStrictlySortedBy R ys → IsStrictlySortedBy R (merge xs ys)
  unfolding IsStrictlySortedBy
  merge_rises [] ys s t = t
  merge_rises (x ∷ xs) ys s t = rises_at x xs s (λ zs. merge_rises xs zs s.1) ys t

  union_at : (q x : K) (xs : List K) → ((ys : List K) → has (merge xs ys) q ≡ (has xs q || has ys q)) → (ys : List K) → has (merge (x ∷ xs) ys) q ≡ (has (x ∷ xs) q || has ys q)
  union_at q x xs h [] = sym (or-false (has (x ∷ xs) q))
  union_at q x xs h (y ∷ ys) = by_rank (λ l. has l q ≡ (has (x ∷ xs) q || has (y ∷ ys) q)) (R x y) _ _ _
      (λ k. ap (λ b. eq_by_cmp R q x || b) (h (y ∷ ys)) ∙ sym (or_assoc (eq_by_cmp R q x) (has xs q) (has (y ∷ ys) q)))
      (λ k. ap (λ b. eq_by_cmp R q x || b) (h ys) ∙ or_once (eq_by_cmp R q x) (has xs q) (has ys q) ∙ ap (λ r. has (x ∷ xs) q || (is_eq r || has ys q)) (alike_right o x y q k))
      (λ k. ap (λ b. eq_by_cmp R q y || b) (union_at q x xs h ys) ∙ or_ahead (eq_by_cmp R q y) (has (x ∷ xs) q) (has ys q))

  pub merge_has : (q : K) (xs ys : List K) → has (merge xs ys) q ≡ (has xs q || has ys q)
  merge_has q [] ys = refl
  merge_has q (x ∷ xs) ys = union_at q x xs (merge_has q xs) ys

  tails : (x q : K) (xs ys : List K) → Below x xs → Below x ys → has (x ∷ xs) q ≡ has (x ∷ ys) q → has xs q ≡ has ys q
  tails x q xs ys a b =
      elim (eq_by_cmp R q x) as (λ t. eq_by_cmp R q x ≡ t → (t || has xs q) ≡ (t || has ys q) → has xs q ≡ has ys q) [
        | true ↦ λ t e. lacks x q xs a t ∙ sym (lacks x q ys b t)
        | false ↦ λ t e. e
      ] refl

  module _ (same : (x y : K) → R x y ≡ Equal → x ≡ y) where
    -- ascending lists with the same members are the same
    pub same_members : (xs ys : List K) → IsStrictlySortedBy R xs → IsStrictlySortedBy R ys → ((q : K) → has xs q ≡ has ys q) → xs ≡ ys
    unfolding IsStrictlySortedBy
    same_members [] [] s t h = refl
    same_members [] (y ∷ ys) s t h = absurd (true≢false (sym (h y ∙ has_first y ys)))
    same_members (x ∷ xs) [] s t h = absurd (true≢false (sym (has_first x xs) ∙ h x))
    same_members (x ∷ xs) (y ∷ ys) s t h =
        elim (R x y) as (λ r. R x y ≡ r → x ∷ xs ≡ y ∷ ys) [
          | Less ↦ λ p. absurd (true≢false (sym (has_first x xs) ∙ h x ∙ below_itself x (y ∷ ys) (p, below_all x y ys p t.0)))
          | Greater ↦ λ p. absurd (true≢false (sym (has_first y ys) ∙ sym (h y) ∙ below_itself y (x ∷ xs) (above x y p, below_all y x xs (above x y p) s.0)))
          | Equal ↦ λ p.
              let e : x ≡ y = same x y p in
              let rest : xs ≡ ys = same_members xs ys s.1 t.1 (λ q. tails x q xs ys s.0 (subst (λ z. Below z ys) (sym e) t.0) (h q ∙ ap (λ z. has (z ∷ ys) q) (sym e))) in
              λ i. e i ∷ rest i
        ] refl

    module _ (xs ys : List K) (s : IsStrictlySortedBy R xs) (t : IsStrictlySortedBy R ys) where
      pub merge_swaps : merge xs ys ≡ merge ys xs
      merge_swaps = same_members _ _ (merge_rises xs ys s t) (merge_rises ys xs t s) (λ q. merge_has q xs ys ∙ or_comm (has xs q) (has ys q) ∙ sym (merge_has q ys xs))

      pub merge_regroups : (zs : List K) → IsStrictlySortedBy R zs → merge (merge xs ys) zs ≡ merge xs (merge ys zs)
      merge_regroups zs u =
          let st = merge_rises xs ys s t in
          let tu = merge_rises ys zs t u in
          same_members _ _ (merge_rises _ zs st u) (merge_rises xs _ s tu) (λ q.
          merge_has q (merge xs ys) zs ∙ ap (λ b. b || has zs q) (merge_has q xs ys) ∙ or_assoc (has xs q) (has ys q) (has zs q)
          ∙ sym (merge_has q xs (merge ys zs) ∙ ap (λ b. has xs q || b) (merge_has q ys zs)))

    pub merge_same : (xs : List K) → IsStrictlySortedBy R xs → merge xs xs ≡ xs
    merge_same xs s = same_members _ _ (merge_rises xs xs s s) s (λ q. merge_has q xs xs ∙ or_self (has xs q))

    has_within : (xs ys : List K) → All (λ x. has ys x ≡ true) xs → (q : K) → has xs q ≡ true → has ys q ≡ true
    has_within [] ys h q m = absurd (true≢false (sym m))
    has_within (x ∷ xs) ys h q m =
        elim (eq_by_cmp R q x) as (λ b. eq_by_cmp R q x ≡ b → (b || has xs q) ≡ true → has ys q ≡ true) [
          | true ↦ λ t _. ap (has ys) (same q x ((Equal-is (R q x)).0 t)) ∙ h 0 x (omega arith)
          | false ↦ λ _ n. has_within xs ys (λ k d l. h (suc k) d (omega arith)) q n
        ] refl m

    -- a list within another adds nothing to it
    pub merge_within : (xs ys : List K) → IsStrictlySortedBy R xs → IsStrictlySortedBy R ys → All (λ x. has ys x ≡ true) xs → merge xs ys ≡ ys
    merge_within xs ys s t h = same_members _ _ (merge_rises xs ys s t) t (λ q. merge_has q xs ys ∙ or_absorbs (has xs q) (has ys q) (has_within xs ys h q))

    pub within_merge : (xs ys : List K) → merge xs ys ≡ ys → All (λ x. has ys x ≡ true) xs
    within_merge xs ys e k d l = ap (λ zs. has zs (slice_index_or xs k d)) (sym e) ∙ merge_has _ xs ys ∙ ap (λ b. b || has ys (slice_index_or xs k d)) (All-is_member (eq_by_cmp_equiv o) xs k d l)

    -- what a merge has beyond its first list
    pub beyond_merge : (xs ys : List K) → IsStrictlySortedBy R xs → IsStrictlySortedBy R ys → filter (λ x. not (has xs x)) (merge xs ys) ≡ filter (λ x. not (has xs x)) ys
    beyond_merge xs ys s t =
        let p : K → Bool = λ x. not (has xs x) in
        let kept : (zs : List K) (q : K) → has (filter p zs) q ≡ (has zs q && p q) = λ zs q. is_member-filter (eq_by_cmp_equiv o) p q (λ x h. ap p (same q x ((Equal-is (R q x)).0 h))) zs in
        same_members _ _ (IsStrictlySortedBy-filter R p _ (merge_rises xs ys s t)) (IsStrictlySortedBy-filter R p _ t)
        (λ q. kept (merge xs ys) q ∙ ap (λ b. b && p q) (merge_has q xs ys) ∙ only_new (has xs q) (has ys q) ∙ sym (kept ys q))

-- by a test that holds where two elements tie
pub union_by : {K : Type 0} {R : K → K → Ordering} (o : IsTotalOrder R) (eq : K → K → Bool) → ((x y : K) → eq x y ≡ is_eq (R x y)) → (xs ys : List K) → IsUnion eq xs ys (sorted_merge R true xs ys)
union_by {K} {R} o eq ties xs ys = subst (λ (t : K → K → Bool). IsUnion t xs ys (sorted_merge R true xs ys)) (λ i x y. sym (ties x y) i) (λ q. merge_has o q xs ys)

pub beyond_by : {K : Type 0} {R : K → K → Ordering} (o : IsTotalOrder R) (same : (x y : K) → R x y ≡ Equal → x ≡ y) (eq : K → K → Bool) → ((x y : K) → eq x y ≡ is_eq (R x y)) → (xs ys : List K) → IsStrictlySortedBy R xs → IsStrictlySortedBy R ys
    → filter (λ x. not (is_member eq xs x)) (sorted_merge R true xs ys) ≡ filter (λ x. not (is_member eq xs x)) ys
beyond_by {K} {R} o same eq ties xs ys s t = subst (λ (e : K → K → Bool). filter (λ x. not (is_member e xs x)) (sorted_merge R true xs ys) ≡ filter (λ x. not (is_member e xs x)) ys) (λ i x y. sym (ties x y) i) (beyond_merge o same xs ys s t)

-- lists whose elements are tested to be equal, each to each
pub same_items : {K : Type 0} {eq : K → K → Bool} → IsIdentity eq → IsIdentity (pointwise eq)
same_items same [] [] h = refl
same_items same [] (y ∷ ys) h = absurd (true≢false (sym h))
same_items same (x ∷ xs) [] h = absurd (true≢false (sym h))
same_items {eq = eq} same (x ∷ xs) (y ∷ ys) h =
    let first : x ≡ y = same x y (and_left _ _ h) in
    let rest : xs ≡ ys = same_items same xs ys (and_right (eq x y) _ h) in
    λ i. first i ∷ rest i

pub within_by : {K : Type 0} {R : K → K → Ordering} (o : IsTotalOrder R) (same : (x y : K) → R x y ≡ Equal → x ≡ y) (eq : K → K → Bool) → ((x y : K) → eq x y ≡ is_eq (R x y)) → (xs ys : List K) → IsStrictlySortedBy R xs → IsStrictlySortedBy R ys
    → All (λ x. is_member eq ys x ≡ true) xs ↔ (sorted_merge R true xs ys ≡ ys)
within_by {K} {R} o same eq ties xs ys s t = subst (λ (e : K → K → Bool). All (λ x. is_member e ys x ≡ true) xs ↔ (sorted_merge R true xs ys ≡ ys)) (λ i x y. sym (ties x y) i) (merge_within o same xs ys s t, within_merge o same xs ys)
