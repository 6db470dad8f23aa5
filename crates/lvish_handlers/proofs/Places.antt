-- Where a name is among handlers that stand by name, and how the order is kept.
use Rattle.std.proofs.Common.{◌≡◌, ℕ, zero, suc, ◌<◌, ◌≤◌, false, List, [], ◌∷◌, ◌++◌, length, get_or, take, drop, map, ◌∙◌, ap, arith, add-one, ◌↔◌, Bool, true, cond, Result, Ok, Err, is_ok, IsTrue, IfOk, IfErr, Some, None, All, inl, inr, refl, sym, subst, slice_get}
use Rattle.std.proofs.lemmas.List.Sorted.{searchable_from_sorted}
use Rattle.std.proofs.lemmas.Bool.{cases_lt, false≢true}
use Rattle.std.proofs.lemmas.Option.{slice_get_cases}
use Rattle.std.specs.declared.cmp.Ordering.{Ordering}
use Rattle.std.specs.declared.cmp.Ordering.TheVariants.{Less, Greater, Equal}
use Rattle.std.specs.Ordering.{is_lt, ordering_reverse, ordering_index, eq_by_cmp}
use Rattle.std.specs.Cmp.{IsTotalOrder}
use Rattle.std.specs.List.{AllByRecursion, AllWithin, HoldsAt}
use Rattle.std.specs.List.Sorted.{IsStrictlySortedBy, IsNonDecreasingBy, IsSearchInRange, IsBinarySearchResult}
use Rattle.lvish_lattice.specs.Lattice.{IsIdentity}
use Rattle.lvish_names.specs.Names.{Handler, same_handler}
use Rattle.lvish_names.specs.NameOrder.{handler_cmp}
use Rattle.lvish_names.specs.laws.OrderLaws.{handler_total}
use Rattle.lvish_names.proofs.NameLaws.{handler_exact, handler_cmp-iff, same_handler-other, same_handler-refl}
use Rattle.lvish_handlers.specs.declared.held.Held.{Held}
use Rattle.lvish_handlers.specs.Handlers.{IsByName, IsHeld, names, held_as}
use Rattle.lvish_handlers.specs.Places.{IsAt, IsGap}

module _ {X K : Type 0} {R : K → K → Ordering} (o : IsTotalOrder R) (key : X → K) where
  not_back : (j k : K) → R j k ≡ Less → is_lt (R k j) ≡ false
  not_back j k h = ap is_lt (o.antisymm k j ∙ ap ordering_reverse h)

  neighbours : (xs : List X) → IsStrictlySortedBy R (map key xs) → (k : ℕ) (d : X) → suc k < length xs → is_lt (R (key (get_or xs (suc k) d)) (key (get_or xs k d))) ≡ false
  unfolding IsStrictlySortedBy
  neighbours [] s k d lt = absurd (omega arith)
  neighbours (x ∷ []) s k d lt = absurd (omega arith)
  neighbours (x ∷ y ∷ ys) s zero d lt = not_back (key x) (key y) s.0.0
  neighbours (x ∷ y ∷ ys) s (suc k) d lt = neighbours (y ∷ ys) s.1 k d (omega arith)

  -- what a binary search asks
  pub searchable : (xs : List X) → IsStrictlySortedBy R (map key xs) → (k : K) → IsNonDecreasingBy (λ x. ordering_index (R (key x) k)) xs
  searchable xs s k = searchable_from_sorted o key xs k (λ i d low lt. rw add-one (neighbours xs s i d (omega arith)))

  -- a key in its gap keeps the order
  below_all : (P : K → Type 0) (xs : List X) (i : ℕ) (y : X) → P (key y) → AllByRecursion P (map key xs) → AllByRecursion P (map key (take i xs ++ y ∷ drop i xs))
  below_all P xs zero y p h = (p, h)
  below_all P [] (suc i) y p h = (p, tt)
  below_all P (x ∷ xs) (suc i) y p h = (h.0, below_all P xs i y p h.1)

  above_all : (xs : List X) (k : K) → AllWithin (λ x. R (key x) k ≡ Greater) xs 0 (length xs) → AllByRecursion (λ j. R k j ≡ Less) (map key xs)
  above_all [] k h = tt
  above_all (x ∷ xs) k h = (o.antisymm k (key x) ∙ ap ordering_reverse (h 0 x (omega arith) (omega arith)), above_all xs k (λ i d low lt. h (suc i) d (omega arith) (omega arith)))

  pub rising_insert : (xs : List X) (i : ℕ) (y : X) → IsStrictlySortedBy R (map key xs) → i ≤ length xs → AllWithin (λ x. R (key x) (key y) ≡ Less) xs 0 i → AllWithin (λ x. R (key x) (key y) ≡ Greater) xs i (length xs) → IsStrictlySortedBy R (map key (take i xs ++ y ∷ drop i xs))
  unfolding IsStrictlySortedBy
  rising_insert xs zero y s le below above = (above_all xs (key y) above, s)
  rising_insert [] (suc i) y s le below above = absurd (omega arith)
  rising_insert (x ∷ xs) (suc i) y s le below above = (
    below_all (λ j. R (key x) j ≡ Less) xs i y (below 0 x (omega arith) (omega arith)) s.0,
    rising_insert xs i y s.1 (omega arith) (λ k d low lt. below (suc k) d (omega arith) (omega arith)) (λ k d low lt. above (suc k) d (omega arith) (omega arith)),
  )

-- none of them has the name
abbrev pub IsFree : {E : Type 0} → List (Held E) → Handler E → Type 0
IsFree held name = All (λ h. h.name ≡ name → ⊥) held

pub not_held : {E : Type 0} (held : List (Held E)) (name : Handler E) → IsFree held name → IsHeld held name → ⊥
not_held [] name free (k, lt, e) = absurd (omega arith)
not_held (x ∷ xs) name free (zero, lt, e) = free 0 x (omega arith) e
not_held (x ∷ xs) name free (suc k, lt, e) = not_held xs name (λ i d below. free (suc i) d (omega arith)) (k, omega arith, e)

held_from_get : {E : Type 0} (held : List (Held E)) (at : ℕ) (h : Held E) → slice_get held at ≡ Some h → IsHeld held h.name
held_from_get [] at h e = absurd cc
held_from_get (x ∷ xs) zero h e = let q : x ≡ h = cc in (0, omega arith, ap (λ (y : Held _). y.name) q)
held_from_get (x ∷ xs) (suc at) h e = let w = held_from_get xs at h e in (suc w.0, omega arith, w.2)

pub is_held : {E : Type 0} (held : List (Held E)) (name : Handler E) (at : ℕ) → IsAt held name at → IsHeld held name
is_held held name at w = subst (λ n. IsHeld held n) w.named (held_from_get held at w.handler w.is)

below_get : {E : Type 0} (P : Handler E → Type 0) (held : List (Held E)) (at : ℕ) (h : Held E) → AllByRecursion P (names held) → slice_get held at ≡ Some h → P h.name
below_get P [] at h a e = absurd cc
below_get P (x ∷ xs) zero h a e = let q : x ≡ h = cc in subst (λ (y : Held _). P y.name) q a.0
below_get P (x ∷ xs) (suc at) h a e = below_get P xs at h a.1 e

module _ {E : Type 0} {eq : E → E → Bool} (cmp : E → E → Ordering) (same : IsIdentity eq) (ties : (x y : E) → eq x y ≡ eq_by_cmp cmp x y) (total : IsTotalOrder cmp) where
  is_at : (held : List (Held E)) (name : Handler E) (at : ℕ) → at < length held → HoldsAt (λ h. handler_cmp cmp h.name name ≡ Equal) held at → IsAt held name at
  is_at held name at lt equal = elim (slice_get_cases held at).1 [
    | inl (h, _, is, read) ↦ record { inside = lt; handler = h; is = is; named = handler_exact cmp same ties h.name name (subst (λ (x : Held E). handler_cmp cmp x.name name ≡ Equal) read (equal h)) }
    | inr (le, _) ↦ absurd (omega arith)
  ]

  -- what a binary search for the name answers
  pub searched : (held : List (Held E)) (name : Handler E) (r : Result ℕ ℕ) → IsByName cmp held → IsSearchInRange r (length held) → IsBinarySearchResult (λ h. handler_cmp cmp h.name name) held r → record { found : IfOk r (IsAt held name); gap : IfErr r (IsGap cmp held name) }
  searched held name (Ok at) s inside equal = record { found = is_at held name at inside equal; gap = tt }
  searched held name (Err at) s inside parted =
      let apart = parted (searchable (handler_total total) (λ (h : Held E). h.name) held s name) in
      record { found = tt; gap = record { inside = inside; before = apart.0; after = apart.1 } }

  tied : (h k : Handler E) → h ≡ k → handler_cmp cmp h k ≡ Equal
  tied h k = (handler_cmp-iff cmp same ties total h k).1

  less_apart : (h k : Handler E) → handler_cmp cmp h k ≡ Less → h ≡ k → ⊥
  less_apart h k less q = let e = tied h k q in cc

  -- where there is a gap for a name, no handler has it
  pub free : (held : List (Held E)) (name : Handler E) (at : ℕ) → IsGap cmp held name at → IsFree held name
  free held name at w k d lt q = let e = tied (get_or held k d).name name q in elim (cases_lt k at) [
    | inl below ↦ let less = w.before k d (omega arith) below in cc
    | inr above ↦ let greater = w.after k d above lt in cc
  ]

  pub holds-iff : (held : List (Held E)) (name : Handler E) (r : Result ℕ ℕ) → IfOk r (IsAt held name) → IfErr r (IsGap cmp held name) → IsTrue (is_ok r) ↔ IsHeld held name
  holds-iff held name (Ok at) w gap = (λ _. is_held held name at w, λ _. refl)
  holds-iff held name (Err at) w gap = (λ e. absurd (false≢true e), λ h. absurd (not_held held name (free held name at gap) h))

  pub held_as-free : (held : List (Held E)) (name : Handler E) → IsFree held name → held_as eq held name ≡ None
  held_as-free [] name h = refl
  held_as-free (x ∷ xs) name h = ap (λ b. cond b (Some x) (held_as eq xs name)) (same_handler-other same name x.name (λ q. h 0 x (omega arith) (sym q))) ∙ held_as-free xs name (λ k d lt. h (suc k) d (omega arith))

  module _ (own : (e : E) → eq e e ≡ true) where
    pub found_by_name : (held : List (Held E)) (at : ℕ) (h : Held E) → IsByName cmp held → slice_get held at ≡ Some h → held_as eq held h.name ≡ Some h
    unfolding IsStrictlySortedBy
    found_by_name [] at h s e = absurd cc
    found_by_name (x ∷ xs) zero h s e =
        let q : x ≡ h = cc in
        ap (λ b. cond b (Some x) (held_as eq xs h.name)) (subst (λ (y : Held E). same_handler eq h.name y.name ≡ true) (sym q) (same_handler-refl eq own h.name)) ∙ ap (λ y. Some y) q
    found_by_name (x ∷ xs) (suc at) h s e =
        let less = below_get (λ n. handler_cmp cmp x.name n ≡ Less) xs at h s.0 e in
        ap (λ b. cond b (Some x) (held_as eq xs h.name)) (same_handler-other same h.name x.name (λ q. less_apart x.name h.name less (sym q))) ∙ found_by_name xs at h s.1 e

    -- the handler at the name's place is the one that has the name
    pub held_as-at : (held : List (Held E)) (name : Handler E) (at : ℕ) → IsByName cmp held → (w : IsAt held name at) → held_as eq held name ≡ Some w.handler
    held_as-at held name at s w = ap (λ n. held_as eq held n) (sym w.named) ∙ found_by_name held at w.handler s w.is
