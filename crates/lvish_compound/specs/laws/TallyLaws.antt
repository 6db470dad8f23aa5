-- Tallies are a lattice within that of the maps from keys to amounts: those whose total is at most 10,000.
use Rattle.std.specs.Prelude.{◌≡◌, ◌↔◌, ◌&&◌, ℕ, ℤ, ◌+◌, ◌<◌, ◌≤◌, Bool, true, false, map, Some, None, option_and_then, sum_by, length, nat_le, max as most, refl}
use Rattle.std.proofs.Common.{sym, ◌∙◌, ap, subst, arith}
use Rattle.std.proofs.Math.Bridge.{le_prop}
use Rattle.std.proofs.lemmas.Option.{same_Some}
use mathlib.Core.HLevel.{Σ_prop_path, ×_prop}
use borrow.Author.Tests.{leb-false, le-leb}
use Rattle.std.proofs.Math.Nat.{ℕ_set}
use Rattle.std.proofs.lemmas.Cmp.{int_cmp_total, int_eq_equiv, nat_eq_equiv}
use Rattle.std.specs.Cmp.{IsEquivalence}
use Rattle.std.specs.Ordering.{int_cmp, int_eq}
use Rattle.lvish_lattice.specs.Ascending.{and_both}
use Rattle.lvish_lattice.specs.Lattice.{IsIdentity, IsJoin, IsAtOrBelow, HasEvents}
use Rattle.lvish_lattice.specs.Listed.{unless_some}
use Rattle.lvish_lattice.specs.Top.{IsTopWhere}
use Rattle.lvish_lattice.specs.MaxCounter as max
use Rattle.lvish_lattice.specs.MaxCounter.{level}
use Rattle.std.specs.Set.{is_member}
use Rattle.lvish_lattice.specs.laws.MaxCounterLaws.{counters_are_join, counters_have_events, counters_identical, greater, reaches}
use Rattle.lvish_lattice.specs.Plain.{int_identical, pairs_identical}
use Rattle.lvish_compound.specs.Vocabulary.{MaxCounter, HIGHEST_TOTAL}
use Rattle.lvish_compound.specs.laws.AmountLaws.{join_total, up_to, up_to_total, up_to_rises, up_to_above, up_to_within, keys_total, keys_within, events_count}
use Rattle.lvish_compound.specs.Amounts.{level_at, total_of, gain}
use Rattle.lvish_compound.specs.Keyed.{key, by_both}
use Rattle.lvish_compound.specs.laws.Identity.{equiv_by_identity}
use Rattle.lvish_compound.specs.MapOf as map_of
use Rattle.lvish_compound.specs.laws.PartLaws.{ties}
use Rattle.lvish_compound.specs.laws.MapLaws as map_laws
use Rattle.lvish_compound.specs.Tally.{Tally, Amounts, amounts_of, amount, total, tally_by, tally_of, empty, joined, events_of, amount_test, alike, greater_level, IsPastTotal}
use Rattle.lvish_compound.specs.laws.Pointwise.{bound, joins_below, IsPointwise, back, pointwise_is_join, viewed_has_events}

pub same_tally : (s t : Tally) → s.amounts ≡ t.amounts → s ≡ t
same_tally s t h =
    let totals : s.total ≡ t.total = s.counted ∙ ap (λ (m : Amounts). total_of m.entries) h ∙ sym t.counted in
    let pairs : ◌≡◌ {A = (p : Amounts × ℕ) × ((p.1 ≡ total_of p.0.entries) × (p.1 ≤ HIGHEST_TOTAL))} ((s.amounts, s.total), (s.counted, s.bounded)) ((t.amounts, t.total), (t.counted, t.bounded)) = Σ_prop_path (λ p. ×_prop (ℕ_set _ _) le_prop) (λ i. (h i, totals i)) in
    λ i. record { amounts = (pairs i).0.0; total = (pairs i).0.1; counted = (pairs i).1.0; bounded = (pairs i).1.1 }

pub same_amount : IsIdentity amount_test
same_amount = counters_identical amount_test (λ a b. refl)

pub amount_itself : (c : MaxCounter) → amount_test c c ≡ true
amount_itself c = nat_eq_equiv.refl (level c)

same_entry : IsIdentity (λ (p q : ℤ × MaxCounter). int_eq p.0 q.0 && amount_test p.1 q.1)
same_entry = pairs_identical int_eq amount_test int_identical same_amount (λ (p q : ℤ × MaxCounter). int_eq p.0 q.0 && amount_test p.1 q.1) (λ p q. refl)

pub alike_identical : IsIdentity alike
alike_identical s t e = same_tally s t (map_laws.alike_identical same_entry s.amounts t.amounts e)

pub alike_equiv : IsEquivalence alike
alike_equiv = equiv_by_identity alike alike_identical (λ s. (map_laws.alike_equiv (equiv_by_identity _ same_entry (λ p. and_both (int_eq_equiv.refl p.0) (amount_itself p.1)))).refl s.amounts)

pub amounts_are_join : IsJoin (amounts_of empty) map_of.joined
amounts_are_join = map_laws.map_is_join int_cmp_total ties counters_are_join amount_itself same_amount

pub amounts_have_events : HasEvents (amounts_of empty) map_of.joined (λ (x y : ℤ × ℤ). int_eq x.0 y.0 && int_eq x.1 y.1) (by_both int_cmp int_cmp) map_of.map_events_of
amounts_have_events = map_laws.map_has_events int_cmp_total ties counters_are_join amount_itself same_amount int_cmp int_cmp_total ties counters_have_events int_eq int_eq (λ x y. refl) (λ x y. refl)

-- the total of a join of maps
pub total_of_join : (a b c : Amounts) → map_of.joined a b ≡ Some c → total_of c.entries ≡ total_of a.entries + gain a.entries b.entries
total_of_join a b c h = join_total a.entries b.entries c.entries a.ascending b.ascending (map_laws.entries_of_joined int_cmp_total ties counters_are_join amount_itself same_amount a b c h)

-- a map below another has at most its total
pub total_below : (a b : Amounts) → IsAtOrBelow map_of.joined a b → total_of a.entries ≤ total_of b.entries
total_below a b h = omega (arith, total_of_join a b b h)

made : (m : Amounts) (b : Bool) (h : nat_le (total_of m.entries) HIGHEST_TOTAL ≡ b) (t : Tally) → t.amounts ≡ m → tally_by m b h ≡ Some t
made m true h t e = ap (λ (x : Tally). Some x) (same_tally _ t (sym e))
made m false h t e = let lt = leb-false (total_of m.entries) HIGHEST_TOTAL h in absurd (omega (arith, lt, t.counted, t.bounded, ap (λ (v : Amounts). total_of v.entries) e))

pub made_is : (m : Amounts) (t : Tally) → t.amounts ≡ m → tally_of m ≡ Some t
made_is m t e = made m (nat_le (total_of m.entries) HIGHEST_TOTAL) refl t e

made_from : (m : Amounts) (b : Bool) (h : nat_le (total_of m.entries) HIGHEST_TOTAL ≡ b) (t : Tally) → tally_by m b h ≡ Some t → t.amounts ≡ m
made_from m true h t e = ap amounts_of (sym (same_Some _ _ e))
made_from m false h t e = absurd cc

-- a map whose total is within the bound is that of a tally
pub made_there : (m : Amounts) → total_of m.entries ≤ HIGHEST_TOTAL → (t : Tally) × (tally_of m ≡ Some t) × (t.amounts ≡ m)
made_there m h = let t : Tally = record { amounts = m; total = total_of m.entries; counted = refl; bounded = h } in (t, made_is m t refl, refl)

pub joined_amounts : (s t u : Tally) → joined s t ≡ Some u → map_of.joined s.amounts t.amounts ≡ Some u.amounts
joined_amounts s t u e = let m = bound tally_of (map_of.joined s.amounts t.amounts) u e in m.1 ∙ ap Some (sym (made_from m.0 (nat_le (total_of m.0.entries) HIGHEST_TOTAL) refl u m.2))

-- two tallies below a third have a join
there : (s t u : Tally) → IsAtOrBelow map_of.joined s.amounts u.amounts → IsAtOrBelow map_of.joined t.amounts u.amounts → (v : Tally) × (joined s t ≡ Some v)
there s t u h l =
    let c : (c : Amounts) × (map_of.joined s.amounts t.amounts ≡ Some c) × IsAtOrBelow map_of.joined c u.amounts = joins_below amounts_are_join s.amounts t.amounts u.amounts h l in
    let m = made_there c.0 (omega (arith, total_below c.0 u.amounts c.2, u.counted, u.bounded)) in
    (m.0, ap (option_and_then tally_of) c.1 ∙ m.1)

tally_pointwise : IsPointwise {K = Unit {0}} {L = λ _. Amounts} (λ _. amounts_of empty) (λ _. map_of.joined) (λ _. amounts_of) empty joined
tally_pointwise = record { parts = λ _. amounts_are_join; same = λ s t h. same_tally s t (h tt); nothing = λ _. refl; forth = λ s t u e _. joined_amounts s t u e; there = λ s t u h l. there s t u (h tt) (l tt) }

pub joined_tally : (s t u : Tally) → map_of.joined s.amounts t.amounts ≡ Some u.amounts → joined s t ≡ Some u
joined_tally s t u e = back tally_pointwise s t u (λ _. e)

-- a tally is below another where its amounts are
pub amounts_below : (s t : Tally) → IsAtOrBelow joined s t ↔ IsAtOrBelow map_of.joined s.amounts t.amounts
amounts_below s t = (joined_amounts s t t, joined_tally s t t)

pub tally_is_join : IsJoin empty joined
tally_is_join = pointwise_is_join tally_pointwise

pub tally_has_events : HasEvents empty joined (λ (x y : ℤ × ℤ). int_eq x.0 y.0 && int_eq x.1 y.1) (by_both int_cmp int_cmp) events_of
tally_has_events = viewed_has_events amounts_have_events refl joined_amounts same_tally events_of (λ s. refl)

-- an event for each unit of the total
pub events_total : (t : Tally) → length (events_of t) ≡ total t
events_total t = events_count t.amounts.entries

-- a tally below another has at most its total
pub total_grows : (s t : Tally) → IsAtOrBelow joined s t → total s ≤ total t
total_grows s t h = total_below s.amounts t.amounts (joined_amounts s t t h)

-- the entries up to a total
up_to_map : ℕ → Amounts → Amounts
up_to_map n m = record { entries = up_to n m.entries; ascending = up_to_rises n m.entries m.ascending; above = up_to_above amount_test (λ a b. refl) n m.entries m.above }

up_to_lies_below : (n : ℕ) (m : Amounts) → IsAtOrBelow map_of.joined (up_to_map n m) m
unfolding up_to_map
up_to_lies_below n m = map_laws.joined_by_places int_cmp_total ties counters_are_join amount_itself same_amount (up_to_map n m) m m (λ q. (reaches (map_of.at (up_to_map n m) q) (map_of.at m q)).1 (le-leb _ _ (up_to_within n m.entries q)))

-- below a tally of at least this total there is one of this total
pub total_reached : (n : ℕ) (s : Tally) → n ≤ total s → (t : Tally) × IsAtOrBelow joined t s × (total t ≡ n)
unfolding up_to_map
total_reached n s h =
    let sum : total_of (up_to n s.amounts.entries) ≡ n = up_to_total n s.amounts.entries h in
    let m : (t : Tally) × (tally_of (up_to_map n s.amounts) ≡ Some t) × (t.amounts ≡ up_to_map n s.amounts) = made_there (up_to_map n s.amounts) (omega (arith, sum, h, s.counted, s.bounded)) in
    (m.0, (amounts_below m.0 s).1 (subst (λ (a : Amounts). IsAtOrBelow map_of.joined a s.amounts) (sym m.2) (up_to_lies_below n s.amounts)), ap (λ (a : Amounts). total_of a.entries) m.2 ∙ sum)

greater_at : (s t : Tally) (c : Amounts) → map_of.joined s.amounts t.amounts ≡ Some c → (q : ℤ) → level_at c.entries q ≡ most (level (amount s q)) (level (amount t q))
greater_at s t c h q = greater (amount s q) (amount t q) (map_of.at c q) (map_laws.joins_places int_cmp_total ties counters_are_join amount_itself same_amount s.amounts t.amounts c h q)

-- two maps of amounts always have a join
pub amounts_join : (a b : Amounts) → (c : Amounts) × (map_of.joined a b ≡ Some c)
amounts_join a b = map_laws.joins_exist int_cmp_total ties counters_are_join amount_itself same_amount a b (λ q. (_, refl))

beyond : (m : Amounts) (b : Bool) (h : nat_le (total_of m.entries) HIGHEST_TOTAL ≡ b) → tally_by m b h ≡ None → HIGHEST_TOTAL < total_of m.entries
beyond m true h e = absurd cc
beyond m false h e = let lt = leb-false (total_of m.entries) HIGHEST_TOTAL h in omega (arith, lt)

top_is_past : (s t : Tally) → joined s t ≡ None → IsPastTotal s t
top_is_past s t h =
    let c : (c : Amounts) × (map_of.joined s.amounts t.amounts ≡ Some c) = amounts_join s.amounts t.amounts in
    let past : HIGHEST_TOTAL < total_of c.0.entries = beyond c.0 (nat_le (total_of c.0.entries) HIGHEST_TOTAL) refl (sym (ap (option_and_then tally_of) c.1) ∙ h) in
    let sum : sum_by (greater_level s t) (map key c.0.entries) ≡ total_of c.0.entries = ap (λ (f : ℤ → ℕ). sum_by f (map key c.0.entries)) (λ i q. sym (greater_at s t c.0 c.1 q) i) ∙ keys_total c.0.entries c.0.ascending in
    (map key c.0.entries, c.0.ascending, omega (arith, past, sum))

past_is_top : (s t : Tally) → IsPastTotal s t → joined s t ≡ None
past_is_top s t (ks, rise, past) = unless_some (joined s t) (λ u e.
    let c = joined_amounts s t u e in
    let sum : sum_by (greater_level s t) ks ≡ sum_by (level_at u.amounts.entries) ks = ap (λ (f : ℤ → ℕ). sum_by f ks) (λ i q. sym (greater_at s t u.amounts c q) i) in
    omega (arith, past, sum, keys_within u.amounts.entries ks rise, u.counted, u.bounded))

-- a join is top exactly where the greater amounts add up to more than 10,000
pub tallies_top : IsTopWhere joined IsPastTotal
tallies_top s t = (top_is_past s t, past_is_top s t)

-- an event of a key is among a tally's where it is among those of the amount of the key
pub amount_has : (t : Tally) (k n : ℤ) → is_member (λ (x y : ℤ × ℤ). int_eq x.0 y.0 && int_eq x.1 y.1) (events_of t) (k, n) ≡ is_member int_eq (max.events_of (amount t k)) n
amount_has t k n = map_laws.map_has int_cmp_total ties counters_are_join amount_itself same_amount int_cmp int_cmp_total ties counters_have_events int_eq int_eq (λ x y. refl) (λ x y. refl) t.amounts k n
