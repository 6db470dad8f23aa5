-- Reads of a script's variables: when they are checked, and what they answer.
use Rattle.std.proofs.Common.{◌≡◌, ◌↔◌, ℕ, ℤ, true, nat_eq, Option, Some, None, option_map, option_and_then, refl, sym, ◌∙◌, ap, subst, inl, inr}
use Rattle.std.proofs.lemmas.Bool.{and_parts, eqb-true, or_cases}
use Rattle.std.proofs.lemmas.Cmp.{int_cmp_total}
use Rattle.std.specs.Ordering.{int_eq}
use Rattle.lvish_lattice.specs.Flat as flat
use Rattle.lvish_lattice.specs.Lattice.{IsChecked, IsAnswered}
use Rattle.lvish_compound.specs.Vocabulary.{Flat, Value, Kind, Test, Empty, Place}
use Rattle.lvish_compound.specs.declared.any_read.AnyRead.{AnyRead}
use Rattle.lvish_compound.specs.declared.kind.Kind.TheVariants as kind
use Rattle.lvish_compound.specs.declared.part.Part as part
use Rattle.lvish_compound.specs.declared.place.Place.TheVariants as place
use Rattle.lvish_compound.specs.AnyReads.{Member, answer_of}
use Rattle.lvish_compound.specs.Numbers.{max_of, StandsFor, ByNumber, cell_answer}
use Rattle.lvish_compound.specs.laws.Embedded.{IsEmbedded, IsImage, number_image, image_of_one, map_twice, composed, one_embedded, two_embedded, kind_embedded, checked_there, answered_same}
use Rattle.lvish_compound.specs.MapOf as map_of
use Rattle.lvish_compound.specs.MapReads.{holding}
use Rattle.lvish_compound.specs.laws.MapLaws.{key_embedded}
use Rattle.lvish_compound.specs.laws.NumberLaws.{cell_at, cells_checked, cells_answer, of_max, part_at, either_way, parts_checked, parts_answer}
use Rattle.lvish_compound.specs.laws.PartLaws.{part_is_join, cells, ties}
use Rattle.lvish_compound.specs.Parts as parts
use Rattle.lvish_compound.specs.Places.{IsApart, kind_read_at, test_fits, fits_kind, is_side}
use Rattle.lvish_compound.specs.laws.StateLaws.{value_itself, same_value, OfPart, OfMap, OfSides, any_one_of}
use Rattle.lvish_compound.specs.StateReads.{MemberAt, state_of, side_in, part_answer, answer_at}
use Rattle.lvish_compound.specs.States.{Any, of_part, of_map, of_pair, joined, side, part_in, map_in}
use Rattle.lvish_compound.specs.laws.TallyReads.{amount_checked, amount_answers, total_checked, total_answers}
use Rattle.std.proofs.lemmas.Option.{same_Some}

-- a part, a map and the two sides within a state
parts_embedded : IsEmbedded parts.joined joined of_part part_in
parts_embedded = kind_embedded any_one_of OfPart

maps_embedded : IsEmbedded map_of.joined joined of_map map_in
maps_embedded = kind_embedded any_one_of OfMap

abbrev first : part.Part → Any
first s = of_pair (record { one = s; two = Empty })

abbrev second : part.Part → Any
second s = of_pair (record { one = Empty; two = s })

firsts_embedded : IsEmbedded parts.joined joined first (side_in 1)
firsts_embedded = composed (one_embedded part_is_join part_is_join) (kind_embedded any_one_of OfSides)

seconds_embedded : IsEmbedded parts.joined joined second (side_in 2)
seconds_embedded = composed (two_embedded part_is_join part_is_join) (kind_embedded any_one_of OfSides)

-- the states of numbers, by the parts
of_parts : (l : Kind) (n : ℤ) → state_of l n ≡ option_map of_part (part_at l n)
of_parts kind.Cell n = refl
of_parts kind.Set n = refl
of_parts kind.Max n = sym (map_twice of_max of_part (max_of n))
of_parts kind.Map n = refl
of_parts kind.Tally n = refl

-- a part as one of two sides
as_side : (i : ℕ) (put : part.Part → Any) → ((s : part.Part) → side i (of_part s) ≡ Some (put s)) → (o : Option part.Part) → option_and_then (side i) (option_map of_part o) ≡ option_map put o
as_side i put is (Some s) = is s
as_side i put is None = refl

-- what holds of the first side and of the second holds of each side
each_side : (P : ℕ → Type 0) → P 1 → P 2 → (i : ℕ) → is_side i ≡ true → P i
each_side P a b i h = elim (or_cases (nat_eq i 1) (nat_eq i 2) h) [
  | inl e ↦ subst P (sym (eqb-true i 1 e)) a
  | inr e ↦ subst P (sym (eqb-true i 2 e)) b
]

cell_embedded : (k : ℤ) → IsEmbedded (flat.joined int_eq) joined (λ v. of_map (holding k v)) (λ s. map_of.at (map_in s) k)
cell_embedded k = composed (key_embedded int_cmp_total ties cells value_itself same_value k) maps_embedded

entries_image : (k : ℤ) (t : Test) → IsImage (λ (v : Flat ℤ). of_map (holding k v)) (λ n. n) (ByNumber t (StandsFor cell_at)) (MemberAt (place.Key k) t)
entries_image k t = number_image t (λ n s h. (Value n, refl, h)) (λ n v h. ap (λ (x : Flat ℤ). of_map (holding k x)) (same_Some (Value n) v h))

parts_image : (l : Kind) (t : Test) → IsImage of_part (λ n. n) (ByNumber t (StandsFor (part_at l))) (ByNumber t (StandsFor (state_of l)))
parts_image l t = image_of_one t (part_at l) (state_of l) (of_parts l)

sides_image : (i : ℕ) (put : part.Part → Any) → ((s : part.Part) → side i (of_part s) ≡ Some (put s)) → (l : Kind) (t : Test) → IsImage put (λ n. n) (ByNumber t (StandsFor (part_at l))) (MemberAt (place.Side i l) t)
sides_image i put is l t = image_of_one t (part_at l) (λ n. option_and_then (side i) (state_of l n)) (λ n. ap (option_and_then (side i)) (of_parts l n) ∙ as_side i put is (part_at l n))

module _ (l : Kind) (t : Test) (h : fits_kind l t ≡ true) {put : part.Part → Any} {pick : Any → part.Part} (e : IsEmbedded parts.joined joined put pick) {outer : Any → ℤ → Type 0} (image : IsImage put (λ n. n) (ByNumber t (StandsFor (part_at l))) outer) where
  checked_by : IsApart l t ↔ IsChecked joined outer
  checked_by = either_way (parts_checked l t h) (checked_there e image)

  answers_by : IsChecked joined outer → IsAnswered joined outer (λ s. part_answer l t (pick s))
  answers_by = answered_same e image (part_answer l t) (parts_answer l t h)

pub checked_at : (p : Place) (t : Test) → test_fits p t ≡ true → IsApart (kind_read_at p) t ↔ IsChecked joined (MemberAt p t)
checked_at place.Cell t h = checked_by kind.Cell t h parts_embedded (parts_image kind.Cell t)
checked_at place.Set t h = checked_by kind.Set t h parts_embedded (parts_image kind.Set t)
checked_at place.Max t h = checked_by kind.Max t h parts_embedded (parts_image kind.Max t)
checked_at (place.Key k) t h = (λ _. (checked_there (cell_embedded k) (entries_image k t)).0 (cells_checked t), λ _. tt)
checked_at (place.Amount k) t h = amount_checked k t h
checked_at place.Total t h = total_checked t h
checked_at (place.Side i l) t h =
    let b : (is_side i ≡ true) × (fits_kind l t ≡ true) = and_parts (is_side i) (fits_kind l t) h in
    each_side (λ i. IsApart l t ↔ IsChecked joined (MemberAt (place.Side i l) t))
    (checked_by l t b.1 firsts_embedded (sides_image 1 first (λ s. refl) l t))
    (checked_by l t b.1 seconds_embedded (sides_image 2 second (λ s. refl) l t))
    i b.0

pub answers_at : (p : Place) (t : Test) → test_fits p t ≡ true → IsChecked joined (MemberAt p t) → IsAnswered joined (MemberAt p t) (answer_at p t)
answers_at place.Cell t h = answers_by kind.Cell t h parts_embedded (parts_image kind.Cell t)
answers_at place.Set t h = answers_by kind.Set t h parts_embedded (parts_image kind.Set t)
answers_at place.Max t h = answers_by kind.Max t h parts_embedded (parts_image kind.Max t)
answers_at (place.Key k) t h = answered_same (cell_embedded k) (entries_image k t) (cell_answer t) (λ _. cells_answer t)
answers_at (place.Amount k) t h = amount_answers k t h
answers_at place.Total t h = total_answers t h
answers_at (place.Side i l) t h =
    let b : (is_side i ≡ true) × (fits_kind l t ≡ true) = and_parts (is_side i) (fits_kind l t) h in
    each_side (λ i. IsChecked joined (MemberAt (place.Side i l) t) → IsAnswered joined (MemberAt (place.Side i l) t) (answer_at (place.Side i l) t))
    (answers_by l t b.1 firsts_embedded (sides_image 1 first (λ s. refl) l t))
    (answers_by l t b.1 seconds_embedded (sides_image 2 second (λ s. refl) l t))
    i b.0

pub any_checked : (r : AnyRead) → IsApart (kind_read_at r.place) r.test ↔ IsChecked joined (Member r)
any_checked r = checked_at r.place r.test r.fits

pub any_answers : (r : AnyRead) → IsChecked joined (Member r) → IsAnswered joined (Member r) (answer_of r)
any_answers r = answers_at r.place r.test r.fits
