-- Reads of a tally: of the amount of a key, and of the total.
use Rattle.std.proofs.Common.{◌≡◌, ◌↔◌, ℤ, pos, negsuc, true, cond, nat_le, [], ◌∷◌, None, refl, sym, ◌∙◌, ap, subst, arith, lit≤}
use Rattle.std.proofs.lemmas.Option.{none-some}
use Rattle.std.specs.Ordering.{int_cmp}
use Rattle.std.proofs.lemmas.Cmp.{int_cmp_total}
use borrow.Author.Tests.{leb-true, le-leb}
use Rattle.lvish_lattice.specs.Ascending.{rises_by_test}
use Rattle.lvish_lattice.specs.Lattice.{IsAtOrBelow, IsChecked, IsAnswered}
use Rattle.lvish_lattice.specs.MaxCounter as max
use Rattle.lvish_lattice.specs.MaxCounter.{level, number_of, counter_of}
use Rattle.lvish_lattice.specs.laws.MaxCounterLaws.{counters_are_join}
use Rattle.lvish_compound.specs.Vocabulary.{MaxCounter, Test, HIGHEST_LEVEL, HIGHEST_TOTAL}
use Rattle.lvish_compound.specs.declared.place.Place.TheVariants as place
use Rattle.lvish_compound.specs.Numbers.{max_of, HasOne, StandsFor, ByNumber, first_that, is_reached, is_total, are_levels, are_totals}
use Rattle.lvish_compound.specs.laws.Embedded.{IsEmbedded, IsImage, number_image, image_of_one, composed, kind_embedded, checked_there, answered_same}
use Rattle.lvish_compound.specs.MapOf as map_of
use Rattle.lvish_compound.specs.laws.MapLaws.{key_embedded}
use Rattle.lvish_compound.specs.laws.NumberLaws.{either_way, first_answers, checked_by_one, all_of, all_waited, maxes_one, maxes_answers}
use Rattle.lvish_compound.specs.laws.Pointwise.{joins_below}
use Rattle.lvish_compound.specs.laws.PartLaws.{ties}
use Rattle.lvish_compound.specs.laws.StateLaws.{OfTally, any_one_of}
use Rattle.lvish_compound.specs.StateReads.{MemberAt, answer_at}
use Rattle.lvish_compound.specs.States.{of_tally, amount, joined, tally_in}
use Rattle.lvish_compound.specs.Tally as tally
use Rattle.lvish_compound.specs.Tally.{Tally, Amounts, single, total}
use Rattle.lvish_compound.specs.laws.TallyLaws.{same_amount, amount_itself, joined_tally, amounts_below, tally_is_join, total_grows, total_reached}

-- the map of one key and its amount
abbrev one_key : ℤ → MaxCounter → Amounts
one_key k c = tally.amounts_of (single k c)

key_within : (k : ℤ) → IsEmbedded max.joined map_of.joined (one_key k) (λ (m : Amounts). map_of.at m k)
key_within = key_embedded int_cmp_total ties counters_are_join amount_itself same_amount

-- the amounts of one key within tallies
amounts_embedded : (k : ℤ) → IsEmbedded max.joined tally.joined (single k) (λ t. tally.amount t k)
amounts_embedded k = record {
  back = (key_within k).back;
  joins = λ a b. joined_tally (single k a) (single k b) (single k (greatest a b)) ((key_within k).joins a b);
  below = λ c t. (λ h. ((key_within k).below c t.amounts).0 ((amounts_below (single k c) t).0 h), λ h. (amounts_below (single k c) t).1 (((key_within k).below c t.amounts).1 h));
}
  where
    greatest : MaxCounter → MaxCounter → MaxCounter
    greatest a b = cond (nat_le (level a) (level b)) b a

-- tallies within states
tallies_embedded : IsEmbedded tally.joined joined of_tally tally_in
tallies_embedded = kind_embedded any_one_of OfTally

-- a read of the amount of a key
amounts_image : (k : ℤ) (t : Test) → IsImage (λ c. of_tally (single k c)) (λ n. n) (ByNumber t (StandsFor max_of)) (MemberAt (place.Amount k) t)
amounts_image k t = image_of_one t max_of (amount k) (λ n. refl)

pub amount_checked : (k : ℤ) (t : Test) → are_levels t ≡ true → HasOne t ↔ IsChecked joined (MemberAt (place.Amount k) t)
amount_checked k t h = either_way (maxes_one t h) (checked_there (composed (amounts_embedded k) tallies_embedded) (amounts_image k t))

pub amount_answers : (k : ℤ) (t : Test) → are_levels t ≡ true → IsChecked joined (MemberAt (place.Amount k) t) → IsAnswered joined (MemberAt (place.Amount k) t) (answer_at (place.Amount k) t)
amount_answers k t h = answered_same (composed (amounts_embedded k) tallies_embedded) (amounts_image k t) (λ c. first_that (is_reached (number_of c)) t) (maxes_answers t h)

-- a tally with the greatest total
thousand : MaxCounter
thousand = counter_of HIGHEST_LEVEL (lit≤ tt)

full : Tally
unfolding thousand
full = record {
  amounts = record {
    entries = (pos 1, thousand) ∷ (pos 2, thousand) ∷ (pos 3, thousand) ∷ (pos 4, thousand) ∷ (pos 5, thousand) ∷ (pos 6, thousand) ∷ (pos 7, thousand) ∷ (pos 8, thousand) ∷ (pos 9, thousand) ∷ (pos 10, thousand) ∷ [];
    ascending = rises_by_test int_cmp _ refl;
    above = refl;
  };
  total = HIGHEST_TOTAL;
  counted = refl;
  bounded = lit≤ tt;
}

total_of_full : total full ≡ HIGHEST_TOTAL
unfolding full thousand
total_of_full = refl

-- a tally of this total
abbrev TotalIs : ℤ → Tally → Type 0
TotalIs n t = pos (total t) ≡ n

-- below the greatest there is one of each total
one_of_total : (n : ℤ) → is_total n ≡ true → (t : Tally) × IsAtOrBelow tally.joined t full × TotalIs n t
one_of_total (pos n) h = let le = leb-true n HIGHEST_TOTAL h in let w = total_reached n full (omega (arith, le, total_of_full)) in (w.0, w.1, ap pos w.2)
one_of_total (negsuc n) h = absurd cc

-- two tallies below one have a join
never_top : (a b u : Tally) → IsAtOrBelow tally.joined a u → IsAtOrBelow tally.joined b u → tally.joined a b ≡ None → ⊥
never_top a b u e f h = let c = joins_below tally_is_join a b u e f in none-some c.0 (sym h ∙ c.1)

abbrev IsTotal : ℤ → Type 0
IsTotal n = is_total n ≡ true

-- two totals are reached on the way to the greatest, so a read by two of them isn't checked
totals_one : (t : Test) → are_totals t ≡ true → HasOne t ↔ IsChecked tally.joined (ByNumber t TotalIs)
totals_one t totals = checked_by_one tally.joined TotalIs IsTotal (λ n h. ((one_of_total n h).0, (one_of_total n h).2)) (λ m n h k. never_top (one_of_total m h).0 (one_of_total n k).0 full (one_of_total m h).1 (one_of_total n k).1) t refl refl (λ xs e n c. all_of is_total xs n (ap are_totals (sym e) ∙ totals) c)

reached_there : (s : Tally) (n : ℤ) → is_total n ≡ true → is_reached (pos (total s)) n ≡ true → (m : Tally) × TotalIs n m × IsAtOrBelow tally.joined m s
reached_there s (pos n) t h = let w = total_reached n s (leb-true n (total s) h) in (w.0, ap pos w.2, w.1)
reached_there s (negsuc n) t h = absurd cc

there_reached : (s : Tally) (n : ℤ) (m : Tally) → TotalIs n m → IsAtOrBelow tally.joined m s → is_reached (pos (total s)) n ≡ true
there_reached s n m e below = subst (λ (k : ℤ). is_reached (pos (total s)) k ≡ true) e (le-leb (total m) (total s) (total_grows m s below))

totals_answer : (t : Test) → are_totals t ≡ true → IsChecked tally.joined (ByNumber t TotalIs) → IsAnswered tally.joined (ByNumber t TotalIs) (λ s. first_that (is_reached (pos (total s))) t)
totals_answer t h checked s n =
    let one : HasOne t = (totals_one t h).1 checked in
    first_answers tally.joined TotalIs t one s (is_reached (pos (total s))) (λ n w p. reached_there s n (all_waited is_total t one h n w) p) (λ n m. there_reached s n m) n

-- a read of the total
totals_image : (t : Test) → IsImage of_tally (λ n. n) (ByNumber t TotalIs) (MemberAt place.Total t)
totals_image t = number_image t (λ n s h. h) (λ n s e. (s, e, refl))

pub total_checked : (t : Test) → are_totals t ≡ true → HasOne t ↔ IsChecked joined (MemberAt place.Total t)
total_checked t h = either_way (totals_one t h) (checked_there tallies_embedded (totals_image t))

pub total_answers : (t : Test) → are_totals t ≡ true → IsChecked joined (MemberAt place.Total t) → IsAnswered joined (MemberAt place.Total t) (answer_at place.Total t)
total_answers t h = answered_same tallies_embedded (totals_image t) (λ s. first_that (is_reached (pos (total s))) t) (totals_answer t h)
