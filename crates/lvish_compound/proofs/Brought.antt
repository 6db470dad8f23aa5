-- What the entries of a put bring.
use Rattle.std.proofs.Common.{◌≡◌, ◌==◌, ℕ, Bool, true, false, not, ◌&&◌, ◌||◌, List, [], ◌∷◌, map, filter, length, Option, Some, None, is_some, true≢false, refl, sym, ◌∙◌, ap, subst, arith, ◌++◌, append_assoc}
use Rattle.std.proofs.lemmas.Bool.Decides.{nat_tests}
use Rattle.lvish_compound.specs.Vocabulary.{Ordering, Less, Equal, Greater}
use Rattle.std.specs.Ordering.{eq_by_cmp, is_eq, ordering_then}
use Rattle.std.specs.Cmp.{IsTotalOrder, Equal-is, eq_by_cmp_equiv, on_total, then_total, tied_then}
use Rattle.std.specs.Set.{is_member}
use Rattle.std.specs.List.Sorted.{IsStrictlySortedBy}
use Rattle.std.proofs.lemmas.Map.Made.{is_member-filter}
use Rattle.std.proofs.lemmas.List.Kept.{IsStrictlySortedBy-filter}
use Rattle.lvish_lattice.specs.Lattice.{IsJoin, IsAtOrBelow, HasEvents, fresh_of, events_beyond}
use Rattle.lvish_lattice.specs.Ascending.{same_members, nothing_rises}
use Rattle.lvish_lattice.specs.Listed.{unless_some}
use Rattle.lvish_compound.specs.Keyed.{key, at, both_tie, by_both, of_key, events_by, events_of}
use Rattle.lvish_compound.specs.laws.KeyedLaws.{events_have, events_rise}
use Rattle.std.proofs.lemmas.List.{append-nil}
use Rattle.lvish_compound.specs.laws.Pointwise.{right_unit}
use Rattle.lvish_compound.proofs.Carried.{all_beyond}
use Rattle.lvish_compound.proofs.PairFresh.{nothing_beyond}

pub no_length : {A : Type 0} (xs : List A) (n : ℕ) → length xs ≡ n → true ≡ (n == 0) → xs ≡ []
no_length [] n e t = refl
no_length (x ∷ xs) n e t = let z : n ≡ 0 = grind (arith, nat_tests) in absurd (omega arith)

pub some_length : {A : Type 0} (xs : List A) (n : ℕ) → length xs ≡ n → false ≡ (n == 0) → xs ≡ [] → ⊥
some_length [] n e t h = let z : n ≡ 0 = omega arith in let s : (n == 0) ≡ true = grind (arith, nat_tests) in true≢false (sym s ∙ sym t)
some_length (x ∷ xs) n e t h = absurd (cc h)

-- pairs by two orders
module _ {K E : Type 0} (R : K → K → Ordering) (C : E → E → Ordering) (o : IsTotalOrder R) (oc : IsTotalOrder C) where
  both_equal : (k c : Ordering) → ordering_then k c ≡ Equal → (k ≡ Equal) × (c ≡ Equal)
  both_equal Less c h = absurd (cc h)
  both_equal Equal c h = (refl, h)
  both_equal Greater c h = absurd (cc h)

  total_both : IsTotalOrder (by_both R C)
  total_both = then_total (on_total (λ (p : K × E). p.0) o) (on_total (λ (p : K × E). p.1) oc)

-- the part of a lattice
module _ {L E : Type 0} {least : L} {join : L → L → Option L} {ev : L → List E} (C : E → E → Ordering) (oc : IsTotalOrder C) (same_event : (x y : E) → C x y ≡ Equal → x ≡ y) (j : IsJoin least join) (h : HasEvents least join (eq_by_cmp C) C ev) where
  abbrev has : List E → E → Bool
  has = is_member (eq_by_cmp C)

  abbrev kept : L → List E → List E
  kept x ys = filter (λ e. not (has (ev x) e)) ys

  kept_has : (x : L) (ys : List E) (q : E) → has (kept x ys) q ≡ (has ys q && not (has (ev x) q))
  kept_has x ys q = is_member-filter (eq_by_cmp_equiv oc) (λ e. not (has (ev x) e)) q (λ y t. ap (λ e. not (has (ev x) e)) (same_event q y ((Equal-is (C q y)).0 t))) ys

  kept_rises : (x : L) (ys : List E) → IsStrictlySortedBy C ys → IsStrictlySortedBy C (kept x ys)
  kept_rises x ys s = IsStrictlySortedBy-filter C (λ e. not (has (ev x) e)) ys s

  -- bottom brings nothing
  pub least_brings : (x : L) → fresh_of join (eq_by_cmp C) ev x least ≡ []
  least_brings x = ap (events_beyond (eq_by_cmp C) ev x) (right_unit j x) ∙ nothing_beyond (eq_by_cmp C) (eq_by_cmp_equiv oc).refl (ev x)

  pub fresh_rises : (x p : L) → IsStrictlySortedBy C (fresh_of join (eq_by_cmp C) ev x p)
  fresh_rises x p = elim (join x p) as (λ r. IsStrictlySortedBy C (events_beyond (eq_by_cmp C) ev x r)) [ None ↦ nothing_rises C | Some c ↦ kept_rises x (ev c) (h.ascending c) ]

  -- to bottom a part brings all its events
  pub to_least : (p : L) → (is_some (join least p) ≡ true) × (ev p ≡ fresh_of join (eq_by_cmp C) ev least p)
  to_least p = (ap is_some (j.unit p), sym (ap (events_beyond (eq_by_cmp C) ev least) (j.unit p) ∙ ap (λ xs. filter (λ e. not (has xs e)) (ev p)) h.none ∙ sym (all_beyond (eq_by_cmp C) (ev p))))

  only_old : (a b c : Bool) → c ≡ (a || b) → (c && not a) ≡ false → c ≡ a
  only_old true b c u n = u
  only_old false b true u n = absurd (true≢false n)
  only_old false b false u n = refl

  -- where nothing is fresh the join is the old state, if there is one
  old_join : (x p c : L) → join x p ≡ Some c → kept x (ev c) ≡ [] → c ≡ x
  old_join x p c e n = h.determine c x (same_members oc same_event _ _ (h.ascending c) (h.ascending x) (λ q. only_old (has (ev x) q) (has (ev p) q) (has (ev c) q) (h.union x p c e q) (sym (kept_has x (ev c) q) ∙ ap (λ ys. has ys q) n)))

  pub nothing_fresh : (x p : L) → fresh_of join (eq_by_cmp C) ev x p ≡ [] → (IsAtOrBelow join p x → ⊥) → join x p ≡ None
  nothing_fresh x p n b = unless_some _ (λ c e. b (j.commutative p x ∙ e ∙ ap Some (old_join x p c e (sym (ap (events_beyond (eq_by_cmp C) ev x) e) ∙ n))))

  -- the same by a test that holds where two events tie
  module _ (eq : E → E → Bool) (ties : (x y : E) → eq x y ≡ is_eq (C x y)) where
    pub by_test : (x p : L) → fresh_of join (eq_by_cmp C) ev x p ≡ fresh_of join eq ev x p
    by_test x p = ap (λ (t : E → E → Bool). fresh_of join t ev x p) (λ i a b. sym (ties a b) i)

    pub brings_all : (x p : L) (vs : List E) → least ≡ x → vs ≡ ev p → (is_some (join x p) ≡ true) × (vs ≡ fresh_of join eq ev x p)
    brings_all x p vs e f = subst (λ (z : L). (is_some (join z p) ≡ true) × (vs ≡ fresh_of join eq ev z p)) e ((to_least p).0, f ∙ (to_least p).1 ∙ by_test least p)

    pub brings_top : (x held p : L) (vs : List E) → held ≡ x → vs ≡ fresh_of join eq ev held p → vs ≡ [] → (IsAtOrBelow join p held → ⊥) → join x p ≡ None
    brings_top x held p vs e f n b = ap (λ z. join z p) (sym e) ∙ nothing_fresh held p (by_test held p ∙ sym f ∙ n) b

  -- the whole list of entries
  module _ {K : Type 0} (R : K → K → Ordering) (o : IsTotalOrder R) (same_key : (x y : K) → R x y ≡ Equal → x ≡ y) where
    abbrev T : K × E → K × E → Bool
    T = eq_by_cmp (by_both R C)

    abbrev fresh_at : List (K × L) → K → L → List E
    fresh_at es k p = fresh_of join (eq_by_cmp C) ev (at R least join es k) p

    by_tie : (xs : List (K × E)) (q : K × E) → is_member T xs q ≡ is_member (both_tie R C) xs q
    by_tie xs q = ap (λ (t : K × E → K × E → Bool). is_member t xs q) (λ i x y. sym (tied_then (R x.0 y.0) (C x.1 y.1)) i)

    same_pair : (x y : K × E) → by_both R C x y ≡ Equal → x ≡ y
    same_pair x y e =
        let b = both_equal R C o oc (R x.0 y.0) (C x.1 y.1) e in
        let p : x.0 ≡ y.0 = same_key x.0 y.0 b.0 in
        let q : x.1 ≡ y.1 = same_event x.1 y.1 b.1 in
        λ i. (p i, q i)

    state_has : (es : List (K × L)) → IsStrictlySortedBy R (map key es) → (q : K × E) → is_member T (events_of ev es) q ≡ has (ev (at R least join es q.0)) q.1
    state_has es s q = by_tie (events_of ev es) q ∙ events_have R C least join (λ _ v. ev v) o same_key (λ _. h.none) es s q.0 q.1

    pub brought : (es fs gs : List (K × L)) → IsStrictlySortedBy R (map key es) → IsStrictlySortedBy R (map key fs) → IsStrictlySortedBy R (map key gs) → ((q : K) → join (at R least join es q) (at R least join fs q) ≡ Some (at R least join gs q))
        → filter (λ e. not (is_member T (events_of ev es) e)) (events_of ev gs) ≡ events_by (fresh_at es) fs
    brought es fs gs s t u joins =
        let total = total_both R C o oc in
        let p : K × E → Bool = λ e. not (is_member T (events_of ev es) e) in
        same_members total same_pair _ _
        (IsStrictlySortedBy-filter (by_both R C) p _ (events_rise R C least join (λ _ v. ev v) o (λ _ v. h.ascending v) gs u))
        (events_rise R C least join (fresh_at es) o (λ k v. fresh_rises (at R least join es k) v) fs t)
        (λ q. is_member-filter (eq_by_cmp_equiv total) p q (λ y e. ap p (same_pair q y ((Equal-is (by_both R C q y)).0 e))) (events_of ev gs)
        ∙ (λ i. state_has gs u q i && not (state_has es s q i))
        ∙ sym (by_tie (events_by (fresh_at es) fs) q ∙ events_have R C least join (fresh_at es) o same_key (λ k. least_brings (at R least join es k)) fs t q.0 q.1
        ∙ ap (λ r. has (events_beyond (eq_by_cmp C) ev (at R least join es q.0) r) q.1) (joins q.0)
        ∙ kept_has (at R least join es q.0) (ev (at R least join gs q.0)) q.1))

module _ {K L E : Type 0} (ev : K → L → List E) where
  -- the events of one entry more
  pub events_more : (all old new : List (K × E)) (xs ys : List (K × L)) (k : K) (p : L) (part : List E) → old ++ events_by ev xs ≡ all → xs ≡ (k, p) ∷ ys → part ≡ ev k p → new ≡ old ++ of_key k part → new ++ events_by ev ys ≡ all
  events_more all old new xs ys k p part h e is add = ap (λ zs. zs ++ events_by ev ys) (add ∙ ap (λ es. old ++ of_key k es) is) ∙ append_assoc old (of_key k (ev k p)) (events_by ev ys) ∙ ap (λ zs. old ++ events_by ev zs) (sym e) ∙ h

  pub events_all : (all old : List (K × E)) (xs : List (K × L)) → old ++ events_by ev xs ≡ all → xs ≡ [] → old ≡ all
  events_all all old xs h e = sym (append-nil old) ∙ ap (λ zs. old ++ events_by ev zs) (sym e) ∙ h
