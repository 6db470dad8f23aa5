-- The states of one value.
use Rattle.std.proofs.Common.{◌≡◌, ℕ, ℤ, nat_le, Bool, true, false, [], ◌∷◌, Some, option_map, refl, sym, ◌∙◌, ap}
use borrow.Author.Tests.{le-leb}
use Rattle.lvish_compound.specs.Vocabulary.{Value, MaxCounter, Pair, Empty, Set, Max, HIGHEST_LEVEL}
use Rattle.lvish_lattice.specs.GrowSet as grow_set
use Rattle.lvish_lattice.specs.MaxCounter.{level, level_within, number_of, zero as no_amount}
use Rattle.lvish_lattice.specs.laws.MaxCounterLaws.{same_counter}
use Rattle.lvish_compound.specs.declared.part.Part as part
use Rattle.lvish_compound.specs.Numbers.{max_of, max_by}
use Rattle.lvish_compound.specs.Held.{HeldState, is_bottom, held, state_in, held_above}
use Rattle.lvish_compound.specs.MapOf as map_of
use Rattle.lvish_compound.specs.MapReads.{holding}
use Rattle.lvish_compound.specs.laws.PairLaws.{same_pair}
use Rattle.lvish_compound.specs.States.{Part, Map, Any, of_map, of_pair, of_tally, singleton, counter, counted, entry, amount, side}
use Rattle.lvish_compound.specs.Keyed.{single_entry}
use Rattle.lvish_compound.specs.Tally.{Tally, single, entries_of, amounts_of, amount_test}
use Rattle.lvish_compound.specs.laws.TallyLaws.{same_tally}

-- the set of one element
pub only_is : (s : HeldState Set) (n m : ℤ) → m ≡ n → grow_set.items_of s ≡ m ∷ [] → s ≡ singleton n
only_is s n m e h = grow_set.same_set s (singleton m) h ∙ ap singleton e

-- a set of one element isn't empty
pub set_rises : (s : HeldState Set) (n : ℤ) → grow_set.items_of s ≡ n ∷ [] → is_bottom Set s ≡ false
set_rises s n h = ap (is_bottom Set) (grow_set.same_set s (singleton n) h)

max_there : (n : ℕ) (t : Bool) (e : nat_le n HIGHEST_LEVEL ≡ t) (c : MaxCounter) → level c ≡ n → t ≡ true → max_by n t e ≡ Some c
max_there n true e c v t = ap (λ (x : MaxCounter). Some x) (same_counter _ c (sym v))
max_there n false e c v t = absurd cc

-- each counter is the one of its number
pub max_of_number : (c : MaxCounter) → max_of (number_of c) ≡ Some c
max_of_number c = max_there (level c) (nat_le (level c) HIGHEST_LEVEL) refl c refl (le-leb (level c) HIGHEST_LEVEL (level_within c))

pub counter_is : (n : ℤ) (c : MaxCounter) (x : _) → number_of c ≡ n → state_in Max x ≡ c → counter n ≡ Some (Part (Max x))
counter_is n c x e f = ap counter (sym e) ∙ ap (option_map (λ d. Part (held Max Empty d))) (max_of_number c ∙ ap (λ (d : MaxCounter). Some d) (sym f)) ∙ ap (λ s. Some (Part s)) (held_above Max Empty x)

abbrev one_entry : ℤ → ℤ → HeldState Map
one_entry k v = holding k (Value v)

-- a map of one entry isn't empty
pub entry_rises : (m : HeldState Map) (k v : ℤ) → map_of.entries_of m ≡ map_of.entries_of (one_entry k v) → is_bottom Map m ≡ false
entry_rises m k v h = ap (is_bottom Map) (map_of.same_map m (one_entry k v) h)

-- the map of one entry
pub entry_is : (m : HeldState Map) (k v l w : ℤ) → l ≡ k → w ≡ v → map_of.entries_of m ≡ map_of.entries_of (one_entry l w) → of_map m ≡ entry k v
entry_is m k v l w e f h = ap of_map (map_of.same_map m (one_entry l w) h ∙ (λ i. one_entry (e i) (f i)))

-- the tally of one key and its amount
pub amount_is : (t : Tally) (k l n : ℤ) (c : MaxCounter) → number_of c ≡ n → l ≡ k → entries_of t ≡ single_entry amount_test no_amount l c → amount k n ≡ Some (of_tally t)
amount_is t k l n c e f h =
    let same : t ≡ single k c = same_tally t (single k c) (map_of.same_map (amounts_of t) (amounts_of (single k c)) (h ∙ ap (λ q. single_entry amount_test no_amount q c) f)) in
    ap (amount k) (sym e) ∙ ap (option_map (counted k)) (max_of_number c) ∙ ap (λ (s : Tally). Some (of_tally s)) (sym same)

-- a part as one of two sides
pub first_side : (i : ℕ) (s : Any) (p : part.Part) (q : Pair part.Part part.Part) → s ≡ Part p → i ≡ 1 → q.one ≡ p → q.two ≡ Empty → side i s ≡ Some (of_pair q)
first_side i s p q e is f g = (λ j. side (is j) (e j)) ∙ ap (λ (r : Pair part.Part part.Part). Some (of_pair r)) (sym (same_pair q (record { one = p; two = Empty }) f g))

pub second_side : (i : ℕ) (s : Any) (p : part.Part) (q : Pair part.Part part.Part) → s ≡ Part p → i ≡ 2 → q.one ≡ Empty → q.two ≡ p → side i s ≡ Some (of_pair q)
second_side i s p q e is f g = (λ j. side (is j) (e j)) ∙ ap (λ (r : Pair part.Part part.Part). Some (of_pair r)) (sym (same_pair q (record { one = Empty; two = p }) f g))
