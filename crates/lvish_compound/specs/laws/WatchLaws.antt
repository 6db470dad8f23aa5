-- Where reads of a script's variables wait.
use Rattle.std.proofs.Common.{◌≡◌, ℤ, pos, Bool, true, false, cond, nat_eq, ◌||◌, Some, None, option_map, refl, sym, ◌∙◌, ap, subst}
use Rattle.std.proofs.lemmas.Option.{cond_some, none-some, same_Some}
use Rattle.std.proofs.lemmas.Cmp.{int_cmp_total, int_eq_equiv}
use Rattle.std.specs.Set.{is_member}
use Rattle.std.specs.Ordering.{int_eq, int_cmp}
use Rattle.lvish_lattice.specs.Lattice.{BringsAt, IsWatched}
use Rattle.lvish_lattice.specs.Listed.{one_is_each, found, missed, mapped}
use Rattle.lvish_lattice.specs.Plain.{int_identical}
use Rattle.lvish_compound.specs.Vocabulary.{Flat, Bottom, Value, MaxCounter, Event, Kind, Test, Part, Cell, Set, Max, Place, SideOf, One, Two}
use Rattle.lvish_lattice.specs.Flat as flat
use Rattle.lvish_lattice.specs.laws.FlatLaws.{flat_has_events}
use Rattle.lvish_lattice.specs.GrowSet as set
use Rattle.lvish_lattice.specs.MaxCounter as max
use Rattle.lvish_lattice.specs.MaxCounter.{number_of}
use Rattle.lvish_lattice.specs.laws.MaxCounterLaws.{level_is_there}
use Rattle.lvish_compound.specs.declared.kind.Kind.TheVariants as kind
use Rattle.lvish_compound.specs.declared.number_test.Test.TheVariants as test
use Rattle.lvish_compound.specs.declared.place.Place.TheVariants as place
use Rattle.lvish_compound.specs.Held.{HeldState}
use Rattle.lvish_compound.specs.AnyReads.{answer_of}
use Rattle.lvish_compound.specs.EventNames.{PartEvent, part_event}
use Rattle.lvish_compound.specs.laws.EventLaws.{RawEvent, WholeEvent, name_of, whole_name, whole_apart, sides_eq, has_name}
use Rattle.lvish_compound.specs.MapOf as map_of
use Rattle.lvish_compound.specs.laws.MapLaws as map_laws
use Rattle.lvish_compound.specs.Numbers.{cell_answer, first_that, is_reached}
use Rattle.lvish_compound.specs.Pair as pair
use Rattle.lvish_compound.specs.laws.PartLaws as part_laws
use Rattle.lvish_compound.specs.Parts as parts
use Rattle.lvish_compound.specs.Parts.{cell_in, set_in, max_in}
use Rattle.lvish_compound.specs.laws.PairLaws.{has_one, has_two}
use Rattle.lvish_compound.specs.laws.StateEvents.{TestsNames, part_eq, entry_eq, side_eq, late_eq, raw_eq, whole_eq, late_events, raw_events, whole_events, whole_exact, names_there}
use Rattle.lvish_compound.specs.laws.StateLaws.{three_in, state_kinds, value_itself, same_value}
use Rattle.lvish_compound.specs.StateReads.{part_answer, side_in, answer_at}
use Rattle.lvish_compound.specs.States.{Any, events_of, part_in, map_in, sides_in, tally_in}
use Rattle.lvish_compound.specs.Tally as tally
use Rattle.lvish_compound.specs.laws.TallyLaws.{amount_has}
use Rattle.lvish_compound.specs.AnyWatch.{spot_by, spot_of, one_tested, number_by, at_spot, watched_at, watched}
use Rattle.lvish_compound.specs.laws.Embedded.{brings_there, waits_there}

-- a cell
cell_waits : (t : Test) (old new : Flat ℤ) (a : ℤ) → cell_answer t old ≡ None → cell_answer t new ≡ Some a → BringsAt int_eq flat.events_of (spot_by kind.Cell) old new (pos 0)
cell_waits t old Bottom a none some = absurd cc
cell_waits t Bottom (Value x) a none some = record { event = x; there = ap (λ b. b || false) (int_eq_equiv.refl x); missing = refl; at = refl }
cell_waits t (Value y) (Value x) a none some = record { event = x; there = ap (λ b. b || false) (int_eq_equiv.refl x); missing = by_test (int_eq x y) refl; at = refl }
  where
    by_test : (b : Bool) → int_eq x y ≡ b → (int_eq x y || false) ≡ false
    by_test true h = absurd (none-some a (sym (ap (λ (v : ℤ). cell_answer t (Value v)) (int_identical x y h) ∙ none) ∙ some))
    by_test false h = ap (λ b. b || false) h

-- where a read of one number alone comes to have an answer, that number passes, and did not pass before
when_none : (b : Bool) (n : ℤ) → cond b (Some n) None ≡ None → b ≡ false
when_none true n e = absurd cc
when_none false n e = refl

one_passes : (t : Test) (w : ℤ) → one_tested t ≡ Some w → (before after : ℤ → Bool) (a : ℤ) → first_that before t ≡ None → first_that after t ≡ Some a → (after w ≡ true) × (before w ≡ false)
one_passes test.Any w is before after a none some = absurd cc
one_passes (test.In xs) w is before after a none some =
    let one = one_is_each int_eq int_identical xs w is in
    let f = found after xs a some in
    (ap after (one.1 a f.0) ∙ f.1, missed before xs w none one.0)
one_passes (test.At n) w is before after a none some =
    let e : n ≡ w = cc in
    (subst (λ k. after k ≡ true) e (cond_some (after n) n a some).0, subst (λ k. before k ≡ false) e (when_none (before n) n none))

set_waits : (t : Test) (w : ℤ) → one_tested t ≡ Some w → (old new : HeldState Set) (a : ℤ) → first_that (is_member int_eq (set.items_of old)) t ≡ None → first_that (is_member int_eq (set.items_of new)) t ≡ Some a → BringsAt int_eq set.items_of (spot_by kind.Set) old new w
set_waits t w is old new a none some =
    let p = one_passes t w is (is_member int_eq (set.items_of old)) (is_member int_eq (set.items_of new)) a none some in
    record { event = w; there = p.0; missing = p.1; at = refl }

max_waits : (t : Test) (w : ℤ) → one_tested t ≡ Some w → (old new : MaxCounter) (a : ℤ) → first_that (is_reached (number_of old)) t ≡ None → first_that (is_reached (number_of new)) t ≡ Some a → BringsAt int_eq max.events_of (spot_by kind.Max) old new w
max_waits t w is old new a none some =
    let p = one_passes t w is (is_reached (number_of old)) (is_reached (number_of new)) a none some in
    let l = level_is_there old new w p.0 p.1 in
    record { event = w; there = l.0; missing = l.1; at = refl }

abbrev later_eq : SideOf ℤ ℤ → SideOf ℤ ℤ → Bool
later_eq = sides_eq int_eq int_eq

has_cell : (p : Part) (n : ℤ) → is_member part_eq (parts.events_of p) (One n) ≡ is_member int_eq (flat.events_of (cell_in p)) n
has_cell p n = ap (λ es. is_member part_eq es (One n)) (sym (part_laws.events_there p))
    ∙ has_one int_eq later_eq part_eq (λ x z. refl) (λ y w. refl) (λ x y. refl) (λ x y. refl) (flat.events_of (cell_in p)) (pair.events_of set.items_of max.events_of (part_laws.part_kinds p).two) n

has_set : (p : Part) (n : ℤ) → is_member part_eq (parts.events_of p) (Two (One n)) ≡ is_member int_eq (set.items_of (set_in p)) n
has_set p n = ap (λ es. is_member part_eq es (Two (One n))) (sym (part_laws.events_there p))
    ∙ has_two int_eq later_eq part_eq (λ x z. refl) (λ y w. refl) (λ x y. refl) (λ x y. refl) (flat.events_of (cell_in p)) (pair.events_of set.items_of max.events_of (part_laws.part_kinds p).two) (One n)
    ∙ has_one int_eq int_eq later_eq (λ x z. refl) (λ y w. refl) (λ x y. refl) (λ x y. refl) (set.items_of (set_in p)) (max.events_of (max_in p)) n

has_max : (p : Part) (n : ℤ) → is_member part_eq (parts.events_of p) (Two (Two n)) ≡ is_member int_eq (max.events_of (max_in p)) n
has_max p n = ap (λ es. is_member part_eq es (Two (Two n))) (sym (part_laws.events_there p))
    ∙ has_two int_eq later_eq part_eq (λ x z. refl) (λ y w. refl) (λ x y. refl) (λ x y. refl) (flat.events_of (cell_in p)) (pair.events_of set.items_of max.events_of (part_laws.part_kinds p).two) (Two n)
    ∙ has_two int_eq int_eq later_eq (λ x z. refl) (λ y w. refl) (λ x y. refl) (λ x y. refl) (set.items_of (set_in p)) (max.events_of (max_in p)) n

abbrev part_spot : PartEvent → Kind × ℤ
part_spot (One n) = (kind.Cell, pos 0)
part_spot (Two (One n)) = (kind.Set, n)
part_spot (Two (Two n)) = (kind.Max, n)

part_waits : (l : Kind) (t : Test) (w : ℤ) → number_by l t ≡ Some w → (old new : Part) (a : ℤ) → part_answer l t old ≡ None → part_answer l t new ≡ Some a → BringsAt part_eq parts.events_of part_spot old new (l, w)
part_waits kind.Cell t w is old new a none some = subst (λ w. BringsAt part_eq parts.events_of part_spot old new (kind.Cell, w)) (same_Some (pos 0) w is)
    (brings_there cell_in (λ n. One n) (λ v. (kind.Cell, v)) has_cell (λ n. refl) old new (pos 0) (cell_waits t (cell_in old) (cell_in new) a none some))
part_waits kind.Set t w is old new a none some = brings_there set_in (λ n. Two (One n)) (λ v. (kind.Set, v)) has_set (λ n. refl) old new w (set_waits t w is (set_in old) (set_in new) a none some)
part_waits kind.Max t w is old new a none some = brings_there max_in (λ n. Two (Two n)) (λ v. (kind.Max, v)) has_max (λ n. refl) old new w (max_waits t w is (max_in old) (max_in new) a none some)
part_waits l t w is old new a none some = absurd cc

-- a part's event under a key
abbrev spot_there : ℤ → Kind × ℤ → Event
spot_there k v = at_spot k v.0 v.1

part_spots : (k : ℤ) (e : PartEvent) → spot_of (part_event k e) ≡ spot_there k (part_spot e)
part_spots k (One n) = refl
part_spots k (Two (One n)) = refl
part_spots k (Two (Two n)) = refl

module _ (en : Event → Event → Bool) (by : TestsNames en) where
  has_whole : (s : Any) (r : WholeEvent) → is_member en (events_of s) (whole_name r) ≡ is_member whole_eq (whole_events (state_kinds s)) r
  has_whole s r = ap (λ es. is_member en es (whole_name r)) (names_there s) ∙ has_name whole_exact.0 whole_exact.1 by.same_name by.its_name whole_name whole_apart (whole_events (state_kinds s)) r

  has_raw : (s : Any) (r : RawEvent) → is_member en (events_of s) (name_of r) ≡ is_member raw_eq (raw_events (three_in s)) r
  has_raw s r = has_whole s (One r) ∙ has_one raw_eq entry_eq whole_eq (λ x z. refl) (λ y w. refl) (λ x y. refl) (λ x y. refl) (raw_events (three_in s)) (tally.events_of (tally_in s)) r

  has_amount : (s : Any) (k n : ℤ) → is_member en (events_of s) (whole_name (Two (k, n))) ≡ is_member int_eq (max.events_of (tally.amount (tally_in s) k)) n
  has_amount s k n = has_whole s (Two (k, n)) ∙ has_two raw_eq entry_eq whole_eq (λ x z. refl) (λ y w. refl) (λ x y. refl) (λ x y. refl) (raw_events (three_in s)) (tally.events_of (tally_in s)) (k, n) ∙ amount_has (tally_in s) k n

  has_part : (s : Any) (e : PartEvent) → is_member en (events_of s) (name_of (One e)) ≡ is_member part_eq (parts.events_of (part_in s)) e
  has_part s e = has_raw s (One e) ∙ has_one part_eq late_eq raw_eq (λ x z. refl) (λ y w. refl) (λ x y. refl) (λ x y. refl) (parts.events_of (part_in s)) _ e

  has_late : (s : Any) (e : SideOf (ℤ × ℤ) (SideOf PartEvent PartEvent)) → is_member en (events_of s) (name_of (Two e)) ≡ is_member late_eq (late_events (three_in s).two) e
  has_late s e = has_raw s (Two e) ∙ has_two part_eq late_eq raw_eq (λ x z. refl) (λ y w. refl) (λ x y. refl) (λ x y. refl) (parts.events_of (part_in s)) _ e

  has_entry : (s : Any) (k n : ℤ) → is_member en (events_of s) (name_of (Two (One (k, n)))) ≡ is_member int_eq (flat.events_of (map_of.at (map_in s) k)) n
  has_entry s k n = has_late s (One (k, n)) ∙ has_one entry_eq side_eq late_eq (λ x z. refl) (λ y w. refl) (λ x y. refl) (λ x y. refl) (map_of.map_events_of (map_in s)) _ (k, n)
      ∙ map_laws.map_has int_cmp_total part_laws.ties part_laws.cells value_itself same_value int_cmp int_cmp_total part_laws.ties (flat_has_events int_eq int_identical int_eq_equiv int_cmp) int_eq int_eq (λ x y. refl) (λ x y. refl) (map_in s) k n

  has_side : (s : Any) (e : SideOf PartEvent PartEvent) → is_member en (events_of s) (name_of (Two (Two e))) ≡ is_member side_eq (pair.events_of parts.events_of parts.events_of (three_in s).two.two) e
  has_side s e = has_late s (Two e) ∙ has_two entry_eq side_eq late_eq (λ x z. refl) (λ y w. refl) (λ x y. refl) (λ x y. refl) (map_of.map_events_of (map_in s)) _ e

  has_first : (s : Any) (e : PartEvent) → is_member en (events_of s) (name_of (Two (Two (One e)))) ≡ is_member part_eq (parts.events_of (side_in 1 s)) e
  has_first s e = has_side s (One e) ∙ has_one part_eq part_eq side_eq (λ x z. refl) (λ y w. refl) (λ x y. refl) (λ x y. refl) (parts.events_of (three_in s).two.two.one) (parts.events_of (three_in s).two.two.two) e

  has_second : (s : Any) (e : PartEvent) → is_member en (events_of s) (name_of (Two (Two (Two e)))) ≡ is_member part_eq (parts.events_of (side_in 2 s)) e
  has_second s e = has_side s (Two e) ∙ has_two part_eq part_eq side_eq (λ x z. refl) (λ y w. refl) (λ x y. refl) (λ x y. refl) (parts.events_of (three_in s).two.two.one) (parts.events_of (three_in s).two.two.two) e

  abbrev Brings : Any → Any → Event → Type 0
  Brings old new w = BringsAt en events_of spot_of old new w

  -- a part within the states, whose events have names there
  placed : (k : ℤ) (pick : Any → Part) (name : PartEvent → Event) → ((s : Any) (e : PartEvent) → is_member en (events_of s) (name e) ≡ is_member part_eq (parts.events_of (pick s)) e) → ((e : PartEvent) → spot_of (name e) ≡ spot_there k (part_spot e))
      → (l : Kind) (t : Test) (w : Event) → option_map (at_spot k l) (number_by l t) ≡ Some w → (old new : Any) (a : ℤ) → part_answer l t (pick old) ≡ None → part_answer l t (pick new) ≡ Some a → Brings old new w
  placed k pick name has spots l t w is old new a none some =
      let v = mapped (at_spot k l) (number_by l t) w is in
      subst (Brings old new) v.2 (brings_there pick name (spot_there k) has spots old new (l, v.0) (part_waits l t v.0 v.1 (pick old) (pick new) a none some))

  whole_waits : (l : Kind) (t : Test) (w : Event) → option_map (at_spot (pos 0) l) (number_by l t) ≡ Some w → (old new : Any) (a : ℤ) → part_answer l t (part_in old) ≡ None → part_answer l t (part_in new) ≡ Some a → Brings old new w
  whole_waits = placed (pos 0) part_in (λ e. name_of (One e)) has_part (part_spots (pos 0))

  side_waits : (first : Bool) (l : Kind) (t : Test) (w : Event) → option_map (at_spot (cond first (pos 1) (pos 2)) l) (number_by l t) ≡ Some w → (old new : Any) (a : ℤ)
      → part_answer l t (cond first (sides_in old).one (sides_in old).two) ≡ None → part_answer l t (cond first (sides_in new).one (sides_in new).two) ≡ Some a → Brings old new w
  side_waits true = placed (pos 1) (side_in 1) (λ e. name_of (Two (Two (One e)))) has_first (part_spots (pos 1))
  side_waits false = placed (pos 2) (side_in 2) (λ e. name_of (Two (Two (Two e)))) has_second (part_spots (pos 2))

  waits_at : (p : Place) (t : Test) (w : Event) → watched_at p t ≡ Some w → (old new : Any) (a : ℤ) → answer_at p t old ≡ None → answer_at p t new ≡ Some a → Brings old new w
  waits_at place.Cell t w is old new a none some = whole_waits kind.Cell t w is old new a none some
  waits_at place.Set t w is old new a none some = whole_waits kind.Set t w is old new a none some
  waits_at place.Max t w is old new a none some = whole_waits kind.Max t w is old new a none some
  waits_at (place.Key k) t w is old new a none some =
      subst (Brings old new) (same_Some (at_spot k kind.Map (pos 0)) w is)
      (brings_there (λ s. map_of.at (map_in s) k) (λ n. name_of (Two (One (k, n)))) (at_spot k kind.Map) (λ s n. has_entry s k n) (λ n. refl) old new (pos 0) (cell_waits t (map_of.at (map_in old) k) (map_of.at (map_in new) k) a none some))
  waits_at (place.Amount k) t w is old new a none some =
      waits_there (λ s. tally.amount (tally_in s) k) (λ n. whole_name (Two (k, n))) (at_spot k kind.Tally) (λ s n. has_amount s k n) (λ n. refl) old new
      (number_by kind.Tally t) w is (λ v e. max_waits t v e (tally.amount (tally_in old) k) (tally.amount (tally_in new) k) a none some)
  waits_at place.Total t w is old new a none some = absurd cc
  waits_at (place.Side i l) t w is old new a none some = side_waits (nat_eq i 1) l t w is old new a none some

  pub any_waits : IsWatched en events_of spot_of watched answer_of
  any_waits r w is old new a none some = waits_at r.place r.test w is old new a none some
