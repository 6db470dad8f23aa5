-- Totals of amounts: how they grow, and what is below them.
use Rattle.std.specs.Prelude.{◌≡◌, ℕ, ℤ, ◌+◌, ◌-◌, ◌≤◌, Bool, true, false, cond, not, List, [], ◌∷◌, map, Option, Some, sum_by, length, min, nat_le, nat_eq, pos, refl}
use Rattle.std.proofs.Common.{sym, ◌∙◌, ap, arith, true≢false}
use Rattle.std.proofs.lemmas.Cmp.{int_cmp_total}
use Rattle.std.proofs.lemmas.Bool.{cond_both}
use Rattle.std.proofs.lemmas.Bool.Decides.{nat_tests}
use Rattle.std.proofs.lemmas.List.{length-append, length-map}
use Rattle.std.proofs.lemmas.List.FromFn.{length-map-range_with_len}
use Rattle.std.proofs.lemmas.List.Sums.{sum_by-cons}
use Rattle.std.specs.Cmp.{Equal-is, tied_itself}
use Rattle.std.specs.List.{AllByRecursion}
use Rattle.std.specs.List.Sorted.{IsStrictlySortedBy}
use Rattle.std.specs.Ordering.{int_cmp, eq_by_cmp, is_eq, ordering_reverse}
use Rattle.lvish_compound.specs.Vocabulary.{Less, MaxCounter}
use borrow.Author.Tests.{leb-true, leb-false}
use Rattle.lvish_lattice.specs.Ascending.{below_all, level_all, and_left, and_right, and_both}
use Rattle.lvish_lattice.specs.MaxCounter.{level, level_within, counter_of, zero as none, joined, events_of as levels_of}
use Rattle.lvish_lattice.specs.laws.MaxCounterLaws.{counters_are_join, greater}
use Rattle.lvish_compound.specs.Amounts.{level_of, total_of, level_at, gains, gain}
use Rattle.lvish_compound.specs.Keyed.{key, at, has_no, add, add_all, of_key, events_of}
use Rattle.lvish_compound.specs.laws.KeyedLaws.{at_below, added, add_joins, add_rises}
use Rattle.std.proofs.lemmas.Option.{same_Some}
use Rattle.lvish_compound.specs.laws.Pointwise.{bound}

abbrev Entries : Type 0
Entries = List (ℤ × MaxCounter)

abbrev Ascends : Entries → Type 0
Ascends es = IsStrictlySortedBy int_cmp (map key es)

abbrev Below : ℤ → Entries → Type 0
Below k es = AllByRecursion (λ y. int_cmp k y ≡ Less) (map key es)

abbrev put_in : ℤ → MaxCounter → Entries → Option Entries
put_in = add int_cmp none joined

tied : (k : ℤ) → eq_by_cmp int_cmp k k ≡ true
tied k = ap is_eq (tied_itself int_cmp_total k)

nothing_at : (k q : ℤ) (es : Entries) → Below k es → eq_by_cmp int_cmp q k ≡ true → level_at es q ≡ 0
nothing_at k q es b t = ap level (at_below int_cmp none joined int_cmp_total k q es b t)

first_at : (e : ℤ × MaxCounter) (es : Entries) (q : ℤ) → eq_by_cmp int_cmp q e.0 ≡ true → level_at (e ∷ es) q ≡ level e.1
first_at e es q t = ap (λ b. level (cond b e.1 (at int_cmp none joined es q))) t

later_at : (e : ℤ × MaxCounter) (es : Entries) (q : ℤ) → eq_by_cmp int_cmp q e.0 ≡ false → level_at (e ∷ es) q ≡ level_at es q
later_at e es q t = ap (λ b. level (cond b e.1 (at int_cmp none joined es q))) t

more : (e : ℤ × MaxCounter) (es : Entries) → total_of (e ∷ es) ≡ level e.1 + total_of es
more e es = sum_by-cons level_of e es

grows_new : (k : ℤ) (v : MaxCounter) (e : ℤ × MaxCounter) (es : Entries) → level_at (e ∷ es) k ≡ 0 → total_of ((k, v) ∷ e ∷ es) ≡ total_of (e ∷ es) + (level v - level_at (e ∷ es) k)
grows_new k v e es n = omega (arith, n, more (k, v) (e ∷ es))

grows_here : (k : ℤ) (v w : MaxCounter) (e : ℤ × MaxCounter) (es : Entries) → joined e.1 v ≡ Some w → level_at (e ∷ es) k ≡ level e.1 → total_of ((e.0, w) ∷ es) ≡ total_of (e ∷ es) + (level v - level_at (e ∷ es) k)
grows_here k v w e es j n = omega (arith, n, greater e.1 v w j, more (e.0, w) es, more e es)

grows_later : (k : ℤ) (v : MaxCounter) (e : ℤ × MaxCounter) (es fs : Entries) → total_of fs ≡ total_of es + (level v - level_at es k) → level_at (e ∷ es) k ≡ level_at es k → total_of (e ∷ fs) ≡ total_of (e ∷ es) + (level v - level_at (e ∷ es) k)
grows_later k v e es fs i n = omega (arith, i, n, more e fs, more e es)

-- an amount adds to the total as much as it is above what its key has
pub put_total : (k : ℤ) (v : MaxCounter) (es gs : Entries) → Ascends es → put_in k v es ≡ Some gs → total_of gs ≡ total_of es + (level v - level_at es k)
unfolding IsStrictlySortedBy
put_total k v [] gs s h = ap total_of (sym (same_Some _ _ h)) ∙ more (k, v) [] ∙ omega arith
put_total k v (e ∷ es) gs s h = added int_cmp none joined k v e es gs (λ zs. total_of zs ≡ total_of (e ∷ es) + (level v - level_at (e ∷ es) k)) h
    (λ r. grows_new k v e es (nothing_at k k (e ∷ es) (r, below_all int_cmp_total k e.0 (map key es) r s.0) (tied k)))
    (λ r w is. grows_here k v w e es is (first_at e es k (ap is_eq r)))
    (λ r fs is. grows_later k v e es fs (put_total k v es fs s.1 is) (later_at e es k (ap is_eq r)))

-- a key above that of the added entry holds the same as before
kept_by : (k q : ℤ) (v : MaxCounter) (es gs : Entries) → Ascends es → put_in k v es ≡ Some gs → eq_by_cmp int_cmp q k ≡ false → level_at gs q ≡ level_at es q
kept_by k q v es gs s h t =
    let j : joined (at int_cmp none joined es q) (at int_cmp none joined ((k, v) ∷ []) q) ≡ Some (at int_cmp none joined gs q) = add_joins int_cmp none joined int_cmp_total counters_are_join k v es gs s h q in
    omega (arith, greater (at int_cmp none joined es q) (at int_cmp none joined ((k, v) ∷ []) q) (at int_cmp none joined gs q) j, later_at (k, v) [] q t)

not_tied : (k q : ℤ) → int_cmp k q ≡ Less → eq_by_cmp int_cmp q k ≡ false
not_tied k q r = ap is_eq (int_cmp_total.antisymm q k ∙ ap ordering_reverse r)

gain_kept : (k : ℤ) (v : MaxCounter) (es gs fs : Entries) → Ascends es → put_in k v es ≡ Some gs → Below k fs → gain gs fs ≡ gain es fs
gain_kept k v es gs [] s h b = refl
gain_kept k v es gs (f ∷ fs) s h b =
    let here : level_at gs f.0 ≡ level_at es f.0 = kept_by k f.0 v es gs s h (not_tied k f.0 b.0) in
    let later : gain gs fs ≡ gain es fs = gain_kept k v es gs fs s h b.1 in
    omega (arith, here, later, sum_by-cons (gains gs) f fs, sum_by-cons (gains es) f fs)

-- the total of a join is that of the one and what the other adds to it
pub join_total : (es fs gs : Entries) → Ascends es → Ascends fs → add_all int_cmp none joined es fs ≡ Some gs → total_of gs ≡ total_of es + gain es fs
unfolding IsStrictlySortedBy
join_total es [] gs s t h = ap total_of (sym (same_Some _ _ h)) ∙ omega arith
join_total es (f ∷ fs) gs s t h =
    let m : (hs : Entries) × (put_in f.0 f.1 es ≡ Some hs) × (add_all int_cmp none joined hs fs ≡ Some gs) = bound _ _ _ h in
    let first : total_of m.0 ≡ total_of es + gains es f = put_total f.0 f.1 es m.0 s m.1 in
    let rest : total_of gs ≡ total_of m.0 + gain m.0 fs = join_total m.0 fs gs (add_rises int_cmp none joined int_cmp_total counters_are_join f.0 f.1 es m.0 s m.1) t.1 m.2 in
    omega (arith, first, rest, gain_kept f.0 f.1 es m.0 fs s m.1 t.0, sum_by-cons (gains es) f fs)

-- what is added is at most what is put
pub gain_within : (es fs : Entries) → gain es fs ≤ total_of fs
gain_within es [] = omega arith
gain_within es (f ∷ fs) = omega (arith, gain_within es fs, sum_by-cons (gains es) f fs, more f fs)

-- the entries up to a total
abbrev pub at_most : ℕ → MaxCounter → MaxCounter
at_most n c = counter_of (min n (level c)) (omega (arith, level_within c))

abbrev pub up_to : ℕ → Entries → Entries
up_to n [] = []
up_to n (e ∷ es) = cond (nat_le 1 n) ((e.0, at_most n e.1) ∷ up_to (n - level e.1) es) []

by_number : (n : ℕ) (e : ℤ × MaxCounter) (es : Entries) (P : Entries → Type 0) → (1 ≤ n → P ((e.0, at_most n e.1) ∷ up_to (n - level e.1) es)) → (n ≡ 0 → P []) → P (up_to n (e ∷ es))
by_number n e es P some none = cond_both (nat_le 1 n) _ _ P (λ t. some (leb-true 1 n t)) (λ t. none (let lt = leb-false 1 n t in omega arith))

pub up_to_total : (n : ℕ) (es : Entries) → n ≤ total_of es → total_of (up_to n es) ≡ n
up_to_total n [] h = omega arith
up_to_total n (e ∷ es) h = by_number n e es (λ fs. total_of fs ≡ n)
    (λ l. let rest : total_of (up_to (n - level e.1) es) ≡ n - level e.1 = up_to_total (n - level e.1) es (omega (arith, h, more e es)) in omega (arith, rest, more (e.0, at_most n e.1) (up_to (n - level e.1) es)))
    (λ z. omega arith)

up_to_below : (k : ℤ) (n : ℕ) (es : Entries) → Below k es → Below k (up_to n es)
up_to_below k n [] b = tt
up_to_below k n (e ∷ es) b = by_number n e es (Below k) (λ l. (b.0, up_to_below k (n - level e.1) es b.1)) (λ z. tt)

pub up_to_rises : (n : ℕ) (es : Entries) → Ascends es → Ascends (up_to n es)
unfolding IsStrictlySortedBy
up_to_rises n [] s = tt
up_to_rises n (e ∷ es) s = by_number n e es Ascends (λ l. (up_to_below e.0 (n - level e.1) es s.0, up_to_rises (n - level e.1) es s.1)) (λ z. tt)

within_by : (n : ℕ) (e : ℤ × MaxCounter) (es : Entries) (q : ℤ) (t : Bool) → eq_by_cmp int_cmp q e.0 ≡ t → level_at (up_to (n - level e.1) es) q ≤ level_at es q → level_at ((e.0, at_most n e.1) ∷ up_to (n - level e.1) es) q ≤ level_at (e ∷ es) q
within_by n e es q true t h = omega (arith, first_at e es q t, first_at (e.0, at_most n e.1) (up_to (n - level e.1) es) q t)
within_by n e es q false t h = omega (arith, h, later_at e es q t, later_at (e.0, at_most n e.1) (up_to (n - level e.1) es) q t)

pub up_to_within : (n : ℕ) (es : Entries) (q : ℤ) → level_at (up_to n es) q ≤ level_at es q
up_to_within n [] q = omega arith
up_to_within n (e ∷ es) q = by_number n e es (λ fs. level_at fs q ≤ level_at (e ∷ es) q) (λ l. within_by n e es q (eq_by_cmp int_cmp q e.0) refl (up_to_within (n - level e.1) es q)) (λ z. omega arith)

-- with a test that compares amounts by their numbers
module _ (test : MaxCounter → MaxCounter → Bool) (by_value : (a b : MaxCounter) → test a b ≡ nat_eq (level a) (level b)) where
  rises : (n : ℕ) (c : MaxCounter) → 1 ≤ n → not (test c none) ≡ true → not (test (at_most n c) none) ≡ true
  rises n c l h = by_zero (nat_eq (level c) 0) refl (ap not (sym (by_value c none)) ∙ h)
    where
      by_zero : (t : Bool) → nat_eq (level c) 0 ≡ t → not (nat_eq (level c) 0) ≡ true → not (test (at_most n c) none) ≡ true
      by_zero true t k = absurd (true≢false (sym k ∙ ap not t))
      by_zero false t k = ap not (by_value (at_most n c) none) ∙ grind (arith, nat_tests)

  pub up_to_above : (n : ℕ) (es : Entries) → has_no test none es ≡ true → has_no test none (up_to n es) ≡ true
  up_to_above n [] h = refl
  up_to_above n (e ∷ es) h = by_number n e es (λ fs. has_no test none fs ≡ true) (λ l. and_both (rises n e.1 l (and_left _ _ h)) (up_to_above (n - level e.1) es (and_right (not (test e.1 none)) _ h))) (λ z. refl)

abbrev LaterKeys : ℤ → List ℤ → Type 0
LaterKeys k ks = AllByRecursion (λ y. int_cmp k y ≡ Less) ks

none_there : (ks : List ℤ) → sum_by (level_at []) ks ≡ 0
none_there [] = refl
none_there (k ∷ ks) = omega (arith, none_there ks, sum_by-cons (level_at []) k ks)

same_later : (e : ℤ × MaxCounter) (es : Entries) (ks : List ℤ) → LaterKeys e.0 ks → sum_by (level_at (e ∷ es)) ks ≡ sum_by (level_at es) ks
same_later e es [] b = refl
same_later e es (k ∷ ks) b = omega (arith, same_later e es ks b.1, later_at e es k (not_tied e.0 k b.0), sum_by-cons (level_at (e ∷ es)) k ks, sum_by-cons (level_at es) k ks)

-- the amounts at the keys add up to the total
pub keys_total : (es : Entries) → Ascends es → sum_by (level_at es) (map key es) ≡ total_of es
unfolding IsStrictlySortedBy
keys_total [] s = refl
keys_total (e ∷ es) s = omega (arith, keys_total es s.1, same_later e es (map key es) s.0, first_at e es e.0 (tied e.0), more e es, sum_by-cons (level_at (e ∷ es)) e.0 (map key es))

more_by : (e : ℤ × MaxCounter) (es : Entries) (k : ℤ) (ks : List ℤ) (t : Bool) → eq_by_cmp int_cmp k e.0 ≡ t → LaterKeys k ks → sum_by (level_at (e ∷ es)) ks ≤ level e.1 + sum_by (level_at es) ks → sum_by (level_at (e ∷ es)) (k ∷ ks) ≤ level e.1 + sum_by (level_at es) (k ∷ ks)
more_by e es k ks true t b h =
    let rest : sum_by (level_at (e ∷ es)) ks ≡ sum_by (level_at es) ks = same_later e es ks (level_all int_cmp_total e.0 k ks (int_cmp_total.antisymm e.0 k ∙ ap ordering_reverse ((Equal-is (int_cmp k e.0)).0 t)) b) in
    omega (arith, rest, first_at e es k t, sum_by-cons (level_at (e ∷ es)) k ks, sum_by-cons (level_at es) k ks)
more_by e es k ks false t b h = omega (arith, h, later_at e es k t, sum_by-cons (level_at (e ∷ es)) k ks, sum_by-cons (level_at es) k ks)

one_more : (e : ℤ × MaxCounter) (es : Entries) (ks : List ℤ) → IsStrictlySortedBy int_cmp ks → sum_by (level_at (e ∷ es)) ks ≤ level e.1 + sum_by (level_at es) ks
unfolding IsStrictlySortedBy
one_more e es [] s = omega arith
one_more e es (k ∷ ks) s = more_by e es k ks (eq_by_cmp int_cmp k e.0) refl s.0 (one_more e es ks s.1)

-- the amounts at keys that differ add up to at most the total
pub keys_within : (es : Entries) (ks : List ℤ) → IsStrictlySortedBy int_cmp ks → sum_by (level_at es) ks ≤ total_of es
keys_within [] ks s = omega (arith, none_there ks)
keys_within (e ∷ es) ks s = omega (arith, one_more e es ks s, keys_within es ks s, more e es)

-- each amount has as many events as its number
pub events_count : (es : Entries) → length (events_of levels_of es) ≡ total_of es
events_count [] = refl
events_count (e ∷ es) = omega (arith, events_count es, more e es, length-append (of_key e.0 (levels_of e.1)) (events_of levels_of es), length-map {B = ℤ × ℤ} (levels_of e.1) (λ (x : ℤ). (e.0, x)), length-map-range_with_len pos 1 (level e.1))
