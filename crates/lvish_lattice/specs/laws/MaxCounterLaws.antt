-- Counters are a lattice, and reads by levels answer.
use Rattle.std.specs.Prelude.{◌≡◌, ◌↔◌, ℕ, ◌+◌, ◌-◌, ◌<◌, ◌≤◌, ℤ, pos, negsuc, Bool, true, false, cond, not, ◌&&◌, ◌||◌, List, [], ◌∷◌, ◌++◌, length, map, Some, option_map, filter, find, max, Contains, nat_eq, nat_le, nat_lt, int_le, refl}
use Rattle.std.proofs.Common.{zero, suc, sym, ◌∙◌, ap, inl, ⊎_elim, arith}
use Rattle.std.proofs.Math.Bridge.{le_prop}
use mathlib.Core.HLevel.{Σ_prop_path}
use borrow.Author.Tests.{eqb-true, leb-true, leb-false, le-leb}
use Rattle.std.proofs.lemmas.Bool.Decides.{nat_tests}
use Rattle.std.proofs.lemmas.List.FromFn.{length-map-range_with_len}
use Rattle.std.proofs.lemmas.List.Elements.{filter_agree, filter-append}
use Rattle.std.specs.List.{range_with_len, AllByRecursion}
use Rattle.std.specs.List.Sorted.{IsStrictlySortedBy}
use Rattle.std.specs.Ordering.{int_cmp, int_eq}
use Rattle.std.specs.declared.cmp.Ordering.TheVariants.{Less}
use Rattle.std.specs.Set.{is_member, IsUnion}
use Rattle.lvish_lattice.specs.declared.max_counter.MaxCounter.{MaxCounter}
use Rattle.lvish_lattice.specs.declared.max_counter.Levels.{Levels}
use Rattle.lvish_lattice.specs.Lattice.{IsIdentity, IsJoin, IsAtOrBelow, HasEvents, fresh_of, IsChecked, IsAnswered, IsWatched}
use Rattle.lvish_lattice.specs.Listed.{found, found_one, mapped, unmapped, some_is_not_none, one_of, one_is_each, missed}
use Rattle.lvish_lattice.specs.MaxCounter.{level, number_of, zero as none, joined, events_of, listed, Member, answer_of, spot_of, watched}
use Rattle.lvish_base.specs.declared.limits.TheConstants.{HIGHEST_LEVEL}

-- two counters of the same number are the same
pub same_counter : (a b : MaxCounter) → level a ≡ level b → a ≡ b
same_counter a b h =
    let pairs : ◌≡◌ {A = (n : ℕ) × (n ≤ HIGHEST_LEVEL)} (a.value, a.bounded) (b.value, b.bounded) = Σ_prop_path (λ n. le_prop) h in
    λ i. record { value = (pairs i).0; bounded = (pairs i).1 }

pub counters_identical : (test : MaxCounter → MaxCounter → Bool) → ((a b : MaxCounter) → test a b ≡ nat_eq (level a) (level b)) → IsIdentity test
counters_identical test by_value a b e = same_counter a b (eqb-true (level a) (level b) (sym (by_value a b) ∙ e))

most : MaxCounter → MaxCounter → MaxCounter
most a b = cond (nat_le (level a) (level b)) b a

value_of_most : (a b : MaxCounter) → level (most a b) ≡ max (level a) (level b)
unfolding most
value_of_most a b = elim (nat_le (level a) (level b)) as (λ t. nat_le (level a) (level b) ≡ t → level (cond t b a) ≡ max (level a) (level b)) [
  | true ↦ λ t. let le = leb-true (level a) (level b) t in omega arith
  | false ↦ λ t. let lt = leb-false (level a) (level b) t in omega arith
] refl

-- the join with a counter that isn't higher, and with one that isn't lower
pub stays_joined : (a b : MaxCounter) → level b ≤ level a → joined a b ≡ Some a
unfolding most
stays_joined a b h = ap Some (same_counter (most a b) a (value_of_most a b ∙ omega (arith, h)))

pub rises_joined : (a b : MaxCounter) → level a ≤ level b → joined a b ≡ Some b
unfolding most
rises_joined a b h = ap Some (same_counter (most a b) b (value_of_most a b ∙ omega (arith, h)))

pub counters_are_join : IsJoin none joined
unfolding most
counters_are_join = record {
  unit = λ a. ap Some (same_counter (most none a) a (value_of_most none a ∙ omega arith));
  idempotent = λ a. ap Some (same_counter (most a a) a (value_of_most a a ∙ omega arith));
  commutative = λ a b. ap Some (same_counter (most a b) (most b a) (omega (arith, value_of_most a b, value_of_most b a)));
  associative = λ a b c. ap Some (same_counter (most (most a b) c) (most a (most b c)) (omega (arith, value_of_most (most a b) c, value_of_most a b, value_of_most a (most b c), value_of_most b c)));
}

-- consecutive numbers, from `low` on
abbrev levels : ℕ → ℕ → List ℤ
levels low n = map pos (range_with_len low n)

abbrev is_among : ℕ → ℕ → ℤ → Bool
is_among low n (pos k) = nat_le low k && nat_lt k (low + n)
is_among low n (negsuc k) = false

levels_rise : (low n : ℕ) → IsStrictlySortedBy int_cmp (levels low n)
unfolding IsStrictlySortedBy
levels_rise low zero = tt
levels_rise low (suc n) = (above (low + 1) n low (omega arith), levels_rise (low + 1) n)
  where
    above : (start n low : ℕ) → low < start → AllByRecursion (λ y. int_cmp (pos low) y ≡ Less) (levels start n)
    above start zero low h = tt
    above start (suc n) low h = (grind (arith, nat_tests), above (start + 1) n low (omega arith))

same_number : (k low : ℕ) → int_eq (pos k) (pos low) ≡ nat_eq k low
same_number k low = grind (arith, nat_tests)

one_more : (k low n : ℕ) → (nat_eq k low || (nat_le (low + 1) k && nat_lt k ((low + 1) + n))) ≡ (nat_le low k && nat_lt k (low + suc n))
one_more k low n = grind (arith, nat_tests)

has_level : (low n : ℕ) (q : ℤ) → is_member int_eq (levels low n) q ≡ is_among low n q
has_level low zero (pos k) = grind (arith, nat_tests)
has_level low zero (negsuc k) = refl
has_level low (suc n) (pos k) = ap (λ b. b || is_member int_eq (levels (low + 1) n) (pos k)) (same_number k low) ∙ ap (λ b. nat_eq k low || b) (has_level (low + 1) n (pos k)) ∙ one_more k low n
has_level low (suc n) (negsuc k) = has_level (low + 1) n (negsuc k)

among_either : (q : ℤ) (m n w : ℕ) → w ≡ max m n → is_among 1 w q ≡ (is_among 1 m q || is_among 1 n q)
among_either (pos k) m n w h = grind (arith, nat_tests)
among_either (negsuc k) m n w h = refl

-- a join has the greater number
pub greater : (a b c : MaxCounter) → joined a b ≡ Some c → level c ≡ max (level a) (level b)
unfolding most
greater a b c e = let s : most a b ≡ c = cc in sym (ap level s) ∙ value_of_most a b

unites : (a b c : MaxCounter) → joined a b ≡ Some c → IsUnion int_eq (events_of a) (events_of b) (events_of c)
unites a b c e q =
    has_level 1 (level c) q ∙ among_either q (level a) (level b) (level c) (greater a b c e)
    ∙ sym (ap (λ t. t || is_member int_eq (events_of b) q) (has_level 1 (level a) q) ∙ ap (λ t. is_among 1 (level a) q || t) (has_level 1 (level b) q))

pub counters_have_events : HasEvents none joined int_eq int_cmp events_of
counters_have_events = record {
  none = refl;
  ascending = λ a. levels_rise 1 (level a);
  union = unites;
  determine = λ a b e. same_counter a b (sym (length-map-range_with_len pos 1 (level a)) ∙ ap length e ∙ length-map-range_with_len pos 1 (level b));
}

levels_split : (low m n t s : ℕ) → t ≡ m + n → s ≡ low + m → levels low t ≡ levels low m ++ levels s n
levels_split low zero n t s h k = let e : t ≡ n = omega arith in let f : low ≡ s = omega arith in rw (e, f) refl
levels_split low (suc m) n zero s h k = absurd (omega arith)
levels_split low (suc m) n (suc t) s h k = ap (λ l. pos low ∷ l) (levels_split (low + 1) m n t s (omega arith) (omega arith))

module _ (old : ℕ) where
  abbrev is_fresh : ℤ → Bool
  is_fresh e = not (is_among 1 old e)

  none_fresh : (low n : ℕ) → 1 ≤ low → low + n ≤ old + 1 → filter is_fresh (levels low n) ≡ []
  none_fresh low zero h k = refl
  none_fresh low (suc n) h k =
      let there : (nat_le 1 low && nat_lt low (1 + old)) ≡ true = grind (arith, nat_tests) in
      ap (λ b. cond (not b) (pos low ∷ filter is_fresh (levels (low + 1) n)) (filter is_fresh (levels (low + 1) n))) there ∙ none_fresh (low + 1) n (omega arith) (omega arith)

  all_fresh : (low n : ℕ) → old < low → filter is_fresh (levels low n) ≡ levels low n
  all_fresh low zero h = refl
  all_fresh low (suc n) h =
      let missing : (nat_le 1 low && nat_lt low (1 + old)) ≡ false = grind (arith, nat_tests) in
      ap (λ b. cond (not b) (pos low ∷ filter is_fresh (levels (low + 1) n)) (filter is_fresh (levels (low + 1) n))) missing ∙ ap (λ l. pos low ∷ l) (all_fresh (low + 1) n (omega arith))

  fresh_levels : (put : ℕ) → filter (λ e. not (is_member int_eq (levels 1 old) e)) (levels 1 (max old put)) ≡ levels (old + 1) (put - old)
  fresh_levels put =
      filter_agree (λ e. not (is_member int_eq (levels 1 old) e)) is_fresh (λ e. ap not (has_level 1 old e)) (levels 1 (max old put))
      ∙ ap (filter is_fresh) (levels_split 1 old (put - old) (max old put) (old + 1) (omega arith) (omega arith))
      ∙ filter-append is_fresh (levels 1 old) (levels (old + 1) (put - old))
      ∙ ap (λ l. l ++ filter is_fresh (levels (old + 1) (put - old))) (none_fresh 1 old (omega arith) (omega arith))
      ∙ all_fresh (old + 1) (put - old) (omega arith)

-- a put brings the levels above the old number
pub counters_fresh : (a b : MaxCounter) → fresh_of joined int_eq events_of a b ≡ map pos (range_with_len (level a + 1) (level b - level a))
unfolding most
counters_fresh a b = ap (λ n. filter (λ e. not (is_member int_eq (events_of a) e)) (levels 1 n)) (value_of_most a b) ∙ fresh_levels (level a) (level b)

pub reaches : (m s : MaxCounter) → IsAtOrBelow joined m s ↔ (nat_le (level m) (level s) ≡ true)
unfolding most
reaches m s = (
  (λ h. let e : most m s ≡ s = cc in le-leb (level m) (level s) (omega (arith, value_of_most m s, ap level e))),
  λ h. ap (λ t. Some (cond t s m)) h,
)

same_number_of : (x y : MaxCounter) → number_of x ≡ number_of y → x ≡ y
same_number_of x y h = same_counter x y cc

-- a read is checked exactly where any two listed levels are the same
checked_is_one : (r : Levels) → IsChecked joined (Member r) → (x y : MaxCounter) → Contains (listed r) x → Contains (listed r) y → x ≡ y
checked_is_one r checked x y s t = ⊎_elim (same_number_of x y) (λ h. absurd (some_is_not_none (joined x y) _ refl h)) (checked x y (number_of x) (number_of y) (s, refl) (t, refl))

pub counters_checked : (r : Levels) → ((x y : MaxCounter) → Contains (listed r) x → Contains (listed r) y → x ≡ y) ↔ IsChecked joined (Member r)
counters_checked r = ((λ one m n a b s t. inl (sym s.1 ∙ ap number_of (one m n s.0 t.0) ∙ t.1)), checked_is_one r)

pub counters_answer : (r : Levels) → IsChecked joined (Member r) → IsAnswered joined (Member r) (answer_of r)
counters_answer r checked s a = (
  (λ h.
      let m = mapped number_of (find (λ l. nat_le (level l) (level s)) (listed r)) a h in
      let f = found (λ l. nat_le (level l) (level s)) (listed r) m.0 m.1 in
      (m.0, (f.0, m.2), (reaches m.0 s).1 f.1)),
  λ m. ap (option_map number_of) (found_one (λ l. nat_le (level l) (level s)) (listed r) m.0 m.1.0 (λ y c. checked_is_one r checked y m.0 c m.1.0) ((reaches m.0 s).0 m.2)) ∙ ap (λ (n : ℤ). Some n) m.1.1,
)

-- a level that is reached in one state and not in another is an event of the one and not of the other
pub level_is_there : (old new : MaxCounter) (n : ℤ) → int_le n (number_of new) ≡ true → int_le n (number_of old) ≡ false → (is_member int_eq (events_of new) n ≡ true) × (is_member int_eq (events_of old) n ≡ false)
level_is_there old new (pos k) there missing = (has_level 1 (level new) (pos k) ∙ grind (arith, nat_tests), has_level 1 (level old) (pos k) ∙ grind (arith, nat_tests))
level_is_there old new (negsuc k) there missing = absurd cc

pub counters_wait : (eq : MaxCounter → MaxCounter → Bool) → IsIdentity eq → IsWatched int_eq events_of spot_of (watched eq) answer_of
counters_wait eq same r w is old new a none some =
    let h = mapped number_of (one_of eq (listed r)) w is in
    let one = one_is_each eq same (listed r) h.0 h.1 in
    let m = mapped number_of (find (λ l. nat_le (level l) (level new)) (listed r)) a some in
    let f = found (λ l. nat_le (level l) (level new)) (listed r) m.0 m.1 in
    let got : nat_le (level h.0) (level new) ≡ true = ap (λ x. nat_le (level x) (level new)) (one.1 m.0 f.0) ∙ f.1 in
    let late : nat_le (level h.0) (level old) ≡ false = missed (λ l. nat_le (level l) (level old)) (listed r) h.0 (unmapped number_of _ none) one.0 in
    let l = level_is_there old new (number_of h.0) got late in
    record { event = number_of h.0; there = l.0; missing = l.1; at = h.2 }
