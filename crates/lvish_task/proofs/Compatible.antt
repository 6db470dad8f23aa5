-- A get on a kind that it fits reads by a checked read exactly where its members are kept apart.
use Rattle.std.proofs.Common.{◌≡◌, ℕ, ℤ, pos, negsuc, Bool, true, false, nat_le, List, [], ◌∷◌, Option, Some, None, refl, subst, Contains}
use Rattle.std.specs.Prelude.{int_le, is_some, option_and_then, if◌then◌else◌}
use Rattle.std.specs.Option.{option_map, option_map_or}
use Rattle.std.specs.List.{list_all}
use Rattle.std.specs.Ordering.{int_eq}
use Rattle.std.specs.Cmp.{int_eq_equiv}
use Rattle.std.proofs.lemmas.Bool.{and_parts, and_from}
use Rattle.lvish_lattice.specs.Lattice.{IsChecked}
use Rattle.lvish_lattice.specs.Listed.{first_contained, later_contained}
use Rattle.lvish_compound.specs.AnyReads.{Member}
use Rattle.lvish_compound.specs.Numbers.{max_by, HasOne}
use Rattle.lvish_compound.specs.Numbers as numbers
use Rattle.lvish_compound.specs.Places.{test_fits, kind_read_at, is_side, IsApart}
use Rattle.lvish_compound.specs.States.{joined}
use Rattle.lvish_compound.specs.declared.kind.Kind.TheVariants as kind
use Rattle.lvish_compound.specs.declared.place.Place.TheVariants as place
use Rattle.lvish_compound.specs.declared.number_test.Test.TheVariants as test
use Rattle.lvish_compound.specs.laws.AnyReadLaws.{any_checked}
use Rattle.lvish_compound.specs.Vocabulary.{HIGHEST_LEVEL}
use Rattle.lvish_syntax.specs.Words.{Word}
use Rattle.lvish_syntax.specs.Sound.{kind_of, kind_at, is_level, are_one, are_of_kind, is_of_kind, is_apart, is_read_of, is_get_of_kind, is_get_apart}
use Rattle.lvish_syntax.specs.declared.term.Term.TheVariants.{Local, Number}
use Rattle.lvish_syntax.specs.declared.threshold.Threshold.TheVariants.{In, Has, Least, Total}
use Rattle.lvish_task.specs.Vocabulary.{AnyRead, Test, Place, Term, Threshold, Declaration, VariableKind, Simple, Map, Pair, Tally, SimpleKind, Cell, Set, Max}
use Rattle.lvish_task.specs.States.{read_by, read_at}
use Rattle.lvish_task.specs.Meaning.{Valuation, term_value, kind_meant, place_meant, threshold_test}
use Rattle.lvish_task.specs.Compatible.{read_of_get}
use Rattle.lvish_task.specs.laws.Reads.{one, read_checked}

-- ---- numbers

all_pass : {X : Type 0} (p : X → Bool) (xs : List X) → ((x : X) → Contains xs x → p x ≡ true) → list_all p xs ≡ true
all_pass p [] h = refl
all_pass p (x ∷ xs) h = and_from (p x) _ (h x (first_contained x xs)) (all_pass p xs (λ y there. h y (later_contained x y xs there)))

one_again : (zs : List ℤ) → HasOne (test.In zs) → are_one zs ≡ true
one_again [] h = refl
one_again (z ∷ zs) h = all_pass (int_eq z) zs (λ y there. subst (λ u. int_eq z u ≡ true) (h z y (first_contained z zs) (later_contained z y zs there)) (int_eq_equiv.refl z))

level : (z : ℤ) → is_level z ≡ true → numbers.is_level z ≡ true
level (negsuc n) e = absurd cc
level (pos n) e = by (nat_le n HIGHEST_LEVEL) refl (and_parts (int_le (pos 0) (pos n)) _ e).1
  where
    by : (b : Bool) (h : nat_le n HIGHEST_LEVEL ≡ b) → b ≡ true → is_some (max_by n b h) ≡ true
    by true h e = refl
    by false h e = absurd cc

levels : (zs : List ℤ) → list_all is_level zs ≡ true → list_all numbers.is_level zs ≡ true
levels [] e = refl
levels (z ∷ zs) e = let h = and_parts (is_level z) _ e in and_from (numbers.is_level z) _ (level z h.0) (levels zs h.1)

-- ---- what a threshold reads

-- a read of a place by a test, which isn't checked
abbrev IsUnchecked : Option AnyRead → Type 0
IsUnchecked found = (r : AnyRead) × (found ≡ Some r) × (IsChecked joined (Member r) → ⊥)

read_found : (p : Place) (t : Test) (b : Bool) (e : test_fits p t ≡ b) → b ≡ true → (r : AnyRead) × (read_by p t b e ≡ Some r) × (r.place ≡ p) × (r.test ≡ t)
read_found p t true e h = (record { place = p; test = t; fits = e }, refl, refl, refl)
read_found p t false e h = absurd cc

-- numbers of which two differ, where what is read needs one
unchecked_in : (p : Place) (zs : List ℤ) → test_fits p (test.In zs) ≡ true → (IsApart (kind_read_at p) (test.In zs) → HasOne (test.In zs)) → are_one zs ≡ false → IsUnchecked (read_at p (test.In zs))
unfolding read_at
unchecked_in p zs fits apart e =
    let f = read_found p (test.In zs) (test_fits p (test.In zs)) refl fits in (
      f.0,
      f.1,
      λ checked.
          let there : IsApart (kind_read_at f.0.place) f.0.test = (any_checked f.0).1 checked in
          let here : IsApart (kind_read_at p) (test.In zs) = subst (λ q. IsApart (kind_read_at q) (test.In zs)) f.2 (subst (λ t. IsApart (kind_read_at f.0.place) t) f.3 there) in
          let same = one_again zs (apart here) in absurd cc,
    )

module _ (values : Valuation) where
  -- a threshold of this kind that isn't kept apart
  unchecked_at : (p : Place) (k : SimpleKind) (r : Threshold) → ((zs : List ℤ) → are_of_kind k zs ≡ true → test_fits p (test.In zs) ≡ true) → ((zs : List ℤ) → IsApart (kind_read_at p) (test.In zs) → HasOne (test.In zs)) → is_of_kind k r ≡ true → is_apart k r ≡ false → IsUnchecked (read_at p (threshold_test values r))
  unchecked_at p Set (In zs) fits apart e f = unchecked_in p zs (fits zs refl) (apart zs) f
  unchecked_at p Max (In zs) fits apart e f = unchecked_in p zs (fits zs e) (apart zs) f
  unchecked_at p k r fits apart e f = absurd cc

  unchecked_side : (i : ℕ) (k : SimpleKind) (r : Threshold) → is_side i ≡ true → is_of_kind k r ≡ true → is_apart k r ≡ false → IsUnchecked (read_at (place.Side i (kind_meant k)) (threshold_test values r))
  unchecked_side i Cell r h e f = absurd cc
  unchecked_side i Set r h e f = unchecked_at (place.Side i kind.Set) Set r (λ zs g. and_from (is_side i) _ h refl) (λ zs h. h) e f
  unchecked_side i Max r h e f = unchecked_at (place.Side i kind.Max) Max r (λ zs g. and_from (is_side i) _ h (levels zs g)) (λ zs h. h) e f

  unchecked_sides : (a b : SimpleKind) (r : Threshold) (s t : Bool) → option_map_or (λ k. is_of_kind k r) (if s then Some a else if t then Some b else None) false ≡ true → option_map_or (λ k. is_apart k r) (if s then Some a else if t then Some b else None) true ≡ false → IsUnchecked (option_and_then (λ p. read_at p (threshold_test values r)) (if s then Some (place.Side 1 (kind_meant a)) else if t then Some (place.Side 2 (kind_meant b)) else None))
  unchecked_sides a b r true t e f = unchecked_side 1 a r refl e f
  unchecked_sides a b r false true e f = unchecked_side 2 b r refl e f
  unchecked_sides a b r false false e f = absurd cc

  unchecked_of : (k : VariableKind) (at : Option Term) (r : Threshold) → is_read_of k at r ≡ true → option_map_or (λ s. is_apart s r) (kind_at k at) true ≡ false → IsUnchecked (option_and_then (λ p. read_at p (threshold_test values r)) (place_meant k (option_map (term_value values) at)))
  unchecked_of (Simple Cell) None r e f = absurd cc
  unchecked_of (Simple Cell) (Some k) r e f = absurd cc
  unchecked_of (Simple Set) None r e f = unchecked_at place.Set Set r (λ zs g. refl) (λ zs h. h) e f
  unchecked_of (Simple Max) None r e f = unchecked_at place.Max Max r levels (λ zs h. h) e f
  unchecked_of Map None r e f = absurd cc
  unchecked_of Map (Some k) r e f = absurd cc
  unchecked_of Tally None r e f = absurd cc
  unchecked_of Tally (Some k) r e f = unchecked_at (place.Amount (term_value values k)) Max r levels (λ zs h. h) e f
  unchecked_of (Pair a b) (Some (Number z)) r e f = unchecked_sides a b r (int_eq z (pos 1)) (int_eq z (pos 2)) e f
  unchecked_of (Pair a b) (Some (Local x)) r e f = absurd cc
  unchecked_of k at r e f = absurd cc

  pub unchecked : (ds : List Declaration) (v : Word) (at : Option Term) (r : Threshold) → is_get_of_kind ds v at r ≡ true → is_get_apart ds v at r ≡ false → IsUnchecked (read_of_get ds values v at r)
  unchecked ds v at r e f = by (kind_of v ds) e f
    where
      by : (o : Option VariableKind) → option_map_or (λ k. is_read_of k at r) o false ≡ true → option_map_or (λ s. is_apart s r) (option_map_or (λ k. kind_at k at) o None) true ≡ false → IsUnchecked (option_and_then (λ p. read_at p (threshold_test values r)) (option_and_then (λ k. place_meant k (option_map (term_value values) at)) o))
      by None e f = absurd cc
      by (Some k) e f = unchecked_of k at r e f

  -- ---- a threshold that is kept apart

  apart_meant : (k : SimpleKind) (r : Threshold) → is_of_kind k r ≡ true → is_apart k r ≡ true → IsApart (kind_meant k) (threshold_test values r)
  apart_meant Cell r e f = tt
  apart_meant Set (In zs) e f = one zs f
  apart_meant Set (Has t) e f = tt
  apart_meant Max (In zs) e f = one zs f
  apart_meant Max (Least t) e f = tt
  apart_meant k r e f = absurd cc

  checked_side : (i : ℕ) (k : SimpleKind) (r : Threshold) (read : AnyRead) → is_of_kind k r ≡ true → is_apart k r ≡ true → read_at (place.Side i (kind_meant k)) (threshold_test values r) ≡ Some read → IsChecked joined (Member read)
  checked_side i k r read e f h = read_checked (place.Side i (kind_meant k)) (threshold_test values r) read h (apart_meant k r e f)

  checked_sides : (a b : SimpleKind) (r : Threshold) (read : AnyRead) (s t : Bool) → option_map_or (λ k. is_of_kind k r) (if s then Some a else if t then Some b else None) false ≡ true → option_map_or (λ k. is_apart k r) (if s then Some a else if t then Some b else None) true ≡ true → option_and_then (λ p. read_at p (threshold_test values r)) (if s then Some (place.Side 1 (kind_meant a)) else if t then Some (place.Side 2 (kind_meant b)) else None) ≡ Some read → IsChecked joined (Member read)
  checked_sides a b r read true t e f h = checked_side 1 a r read e f h
  checked_sides a b r read false true e f h = checked_side 2 b r read e f h
  checked_sides a b r read false false e f h = absurd cc

  checked_total : (r : Threshold) (read : AnyRead) → is_read_of Tally None r ≡ true → read_at place.Total (threshold_test values r) ≡ Some read → IsChecked joined (Member read)
  checked_total (Total t) read e h = read_checked place.Total (test.At (term_value values t)) read h tt
  checked_total r read e h = absurd cc

  checked_of : (k : VariableKind) (at : Option Term) (r : Threshold) (read : AnyRead) → is_read_of k at r ≡ true → option_map_or (λ s. is_apart s r) (kind_at k at) true ≡ true → option_and_then (λ p. read_at p (threshold_test values r)) (place_meant k (option_map (term_value values) at)) ≡ Some read → IsChecked joined (Member read)
  checked_of (Simple Cell) None r read e f h = read_checked place.Cell (threshold_test values r) read h tt
  checked_of (Simple Set) None r read e f h = read_checked place.Set (threshold_test values r) read h (apart_meant Set r e f)
  checked_of (Simple Max) None r read e f h = read_checked place.Max (threshold_test values r) read h (apart_meant Max r e f)
  checked_of Map (Some k) r read e f h = read_checked (place.Key (term_value values k)) (threshold_test values r) read h tt
  checked_of Tally None r read e f h = checked_total r read e h
  checked_of Tally (Some k) r read e f h = read_checked (place.Amount (term_value values k)) (threshold_test values r) read h (apart_meant Max r e f)
  checked_of (Pair a b) (Some (Number z)) r read e f h = checked_sides a b r read (int_eq z (pos 1)) (int_eq z (pos 2)) e f h
  checked_of (Pair a b) (Some (Local x)) r read e f h = absurd cc
  checked_of k at r read e f h = absurd cc

  pub checked : (ds : List Declaration) (v : Word) (at : Option Term) (r : Threshold) (read : AnyRead) → is_get_of_kind ds v at r ≡ true → is_get_apart ds v at r ≡ true → read_of_get ds values v at r ≡ Some read → IsChecked joined (Member read)
  checked ds v at r read e f h = by (kind_of v ds) e f h
    where
      by : (o : Option VariableKind) → option_map_or (λ k. is_read_of k at r) o false ≡ true → option_map_or (λ s. is_apart s r) (option_map_or (λ k. kind_at k at) o None) true ≡ true → option_and_then (λ p. read_at p (threshold_test values r)) (option_and_then (λ k. place_meant k (option_map (term_value values) at)) o) ≡ Some read → IsChecked joined (Member read)
      by None e f h = absurd cc
      by (Some k) e f h = checked_of k at r read e f h
