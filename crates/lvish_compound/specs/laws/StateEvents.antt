-- The events of a script's variables: each state is made of them.
use Rattle.std.proofs.Common.{◌≡◌, ℤ, pos, Bool, true, ◌&&◌, List, map, Option, refl, sym, ◌∙◌, ap, subst}
use Rattle.std.proofs.lemmas.Cmp.{int_cmp_total, int_eq_equiv}
use Rattle.std.specs.List.Sorted.{IsStrictlySortedBy}
use Rattle.std.specs.Ordering.{int_eq, int_cmp, ordering_then}
use Rattle.lvish_compound.specs.Vocabulary.{Ordering, Event, Pair, Empty, SideOf, One, Two}
use Rattle.lvish_lattice.specs.Ascending.{and_both}
use Rattle.lvish_lattice.specs.laws.FlatLaws.{flat_has_events}
use Rattle.lvish_lattice.specs.Lattice.{IsIdentity, HasEvents}
use Rattle.lvish_lattice.specs.Plain.{int_identical, pairs_identical}
use Rattle.lvish_compound.specs.declared.tally.Tally as tallies
use Rattle.lvish_compound.specs.EventNames.{PartEvent, part_event, entry_event, tally_event, side_event, event_order}
use Rattle.lvish_compound.specs.laws.EventLaws.{RawEvent, WholeEvent, whole_name, whole_apart, sides_eq, sides_cmp, parts_cmp, name_of, names_of_ones, names_of_twos, rises_by, parts_keep, entries_keep, tallies_keep, sides_keep, renamed}
use Rattle.lvish_compound.specs.laws.KindLaws.{events_identical, kind_itself, kinds_rank}
use Rattle.lvish_compound.specs.Held.{bottom_of}
use Rattle.lvish_compound.specs.Kinds.{same_kind, kind_cmp}
use Rattle.lvish_compound.specs.MapOf as map_of
use Rattle.lvish_compound.specs.laws.MapLaws as map_laws
use Rattle.lvish_compound.specs.Pair as pair
use Rattle.lvish_compound.specs.laws.PairLaws.{both_from, pair_has_events, sides_identical}
use Rattle.lvish_compound.specs.Parts as parts
use Rattle.lvish_compound.specs.laws.PartLaws as part_laws
use Rattle.lvish_compound.specs.Keyed.{by_both}
use Rattle.lvish_compound.specs.Sides.{none as no_pair}
use Rattle.lvish_compound.specs.States.{Part, Map, Sides, Tally, Any, nothing, joined, events_of}
use Rattle.lvish_compound.specs.Tally as tally
use Rattle.lvish_compound.specs.laws.TallyLaws.{tally_has_events}
use Rattle.lvish_compound.specs.laws.Pointwise.{viewed_has_events}
use Rattle.lvish_compound.specs.laws.StateLaws.{value_itself, same_value, OfPart, OfMap, OfSides, OfTally, any_pointwise, Late, Three, three_in, state_kinds, same_view}

-- tests and orders of events before they are named
abbrev pub part_eq : PartEvent → PartEvent → Bool
part_eq = sides_eq int_eq (sides_eq int_eq int_eq)

abbrev pub entry_eq : ℤ × ℤ → ℤ × ℤ → Bool
entry_eq d e = int_eq d.0 e.0 && int_eq d.1 e.1

abbrev pub side_eq : SideOf PartEvent PartEvent → SideOf PartEvent PartEvent → Bool
side_eq = sides_eq part_eq part_eq

abbrev side_cmp : SideOf PartEvent PartEvent → SideOf PartEvent PartEvent → Ordering
side_cmp = sides_cmp parts_cmp parts_cmp

abbrev pub late_eq : SideOf (ℤ × ℤ) (SideOf PartEvent PartEvent) → SideOf (ℤ × ℤ) (SideOf PartEvent PartEvent) → Bool
late_eq = sides_eq entry_eq side_eq

abbrev late_cmp : SideOf (ℤ × ℤ) (SideOf PartEvent PartEvent) → SideOf (ℤ × ℤ) (SideOf PartEvent PartEvent) → Ordering
late_cmp = sides_cmp (by_both int_cmp int_cmp) side_cmp

abbrev pub raw_eq : RawEvent → RawEvent → Bool
raw_eq = sides_eq part_eq late_eq

abbrev raw_cmp : RawEvent → RawEvent → Ordering
raw_cmp = sides_cmp parts_cmp late_cmp

abbrev pub whole_eq : WholeEvent → WholeEvent → Bool
whole_eq = sides_eq raw_eq entry_eq

abbrev whole_cmp : WholeEvent → WholeEvent → Ordering
whole_cmp = sides_cmp raw_cmp (by_both int_cmp int_cmp)

-- a test that holds exactly of identical values
abbrev pub IsExact : {X : Type 0} → (X → X → Bool) → Type 0
IsExact {X} eq = IsIdentity eq × ((x : X) → eq x x ≡ true)

sides_exact : {X Y : Type 0} (ex : X → X → Bool) (ey : Y → Y → Bool) → IsExact ex → IsExact ey → IsExact (sides_eq ex ey)
sides_exact {X} {Y} ex ey x_exact y_exact = (sides_identical ex ey x_exact.0 y_exact.0 (sides_eq ex ey) (λ x z. refl) (λ y w. refl) (λ x y. refl) (λ x y. refl), itself)
  where
    itself : (s : SideOf X Y) → sides_eq ex ey s s ≡ true
    itself (One x) = x_exact.1 x
    itself (Two y) = y_exact.1 y

int_exact : IsExact int_eq
int_exact = (int_identical, int_eq_equiv.refl)

pub part_exact : IsExact part_eq
part_exact = sides_exact int_eq (sides_eq int_eq int_eq) int_exact (sides_exact int_eq int_eq int_exact int_exact)

pub entry_exact : IsExact entry_eq
entry_exact = (pairs_identical int_eq int_eq int_identical int_identical entry_eq (λ p q. refl), λ e. and_both (int_eq_equiv.refl e.0) (int_eq_equiv.refl e.1))

pub side_exact : IsExact side_eq
side_exact = sides_exact part_eq part_eq part_exact part_exact

pub whole_exact : IsExact whole_eq
whole_exact = sides_exact raw_eq entry_eq (sides_exact part_eq late_eq part_exact (sides_exact entry_eq side_eq entry_exact side_exact)) entry_exact

parts_have : HasEvents Empty parts.joined part_eq parts_cmp parts.events_of
parts_have = part_laws.part_has_events part_eq (λ x z. refl) (λ x z. refl) (λ x z. refl) (λ x y. refl) (λ x y. refl) (λ x y. refl) (λ x y. refl) parts_cmp (λ x z. refl) (λ x z. refl) (λ x z. refl) (λ x y. refl) (λ x y. refl)

maps_have : HasEvents (bottom_of Map) map_of.joined entry_eq (by_both int_cmp int_cmp) map_of.map_events_of
maps_have = map_laws.map_has_events int_cmp_total part_laws.ties part_laws.cells value_itself same_value int_cmp int_cmp_total part_laws.ties (flat_has_events int_eq int_identical int_eq_equiv int_cmp) int_eq int_eq (λ x y. refl) (λ x y. refl)

pairs_have : HasEvents no_pair parts.pairs_joined side_eq side_cmp (pair.events_of parts.events_of parts.events_of)
pairs_have = pair_has_events parts_have parts_have side_eq (λ x z. refl) (λ y w. refl) (λ x y. refl) (λ x y. refl) side_cmp (λ x z. refl) (λ y w. refl) (λ x y. refl)

-- the events of a map and of two parts, and those of the first three kinds
abbrev pub late_events : Late → List (SideOf (ℤ × ℤ) (SideOf PartEvent PartEvent))
late_events = pair.events_of map_of.map_events_of (pair.events_of parts.events_of parts.events_of)

abbrev pub raw_events : Three → List RawEvent
raw_events = pair.events_of parts.events_of late_events

abbrev join_three : Three → Three → Option Three
join_three = pair.joined parts.joined (pair.joined map_of.joined parts.pairs_joined)

three_have : HasEvents (three_in nothing) join_three raw_eq raw_cmp raw_events
three_have = pair_has_events parts_have (pair_has_events maps_have pairs_have late_eq (λ x z. refl) (λ y w. refl) (λ x y. refl) (λ x y. refl) late_cmp (λ x z. refl) (λ y w. refl) (λ x y. refl))
    raw_eq (λ x z. refl) (λ y w. refl) (λ x y. refl) (λ x y. refl) raw_cmp (λ x z. refl) (λ y w. refl) (λ x y. refl)

-- the events of all kinds
abbrev pub whole_events : Pair Three tallies.Tally → List WholeEvent
whole_events = pair.events_of raw_events tally.events_of

kinds_have : HasEvents (state_kinds nothing) (pair.joined join_three tally.joined) whole_eq whole_cmp whole_events
kinds_have = pair_has_events three_have tally_has_events whole_eq (λ x z. refl) (λ y w. refl) (λ x y. refl) (λ x y. refl) whole_cmp (λ x z. refl) (λ y w. refl) (λ x y. refl)

abbrev whole_of : Any → List WholeEvent
whole_of s = whole_events (state_kinds s)

wholes_have : HasEvents nothing joined whole_eq whole_cmp whole_of
wholes_have = viewed_has_events kinds_have refl (λ a b c e. let f = any_pointwise.forth a b c e in both_from _ _ _ (both_from _ _ _ (f OfPart) (both_from _ _ _ (f OfMap) (f OfSides))) (f OfTally)) same_view whole_of (λ s. refl)

-- the events of each kind have the names of that kind
abbrev late_name : SideOf (ℤ × ℤ) (SideOf PartEvent PartEvent) → Event
late_name e = name_of (Two e)

pub names_there : (s : Any) → events_of s ≡ map whole_name (whole_of s)
names_there (Part s) = names_of_ones name_of (parts.events_of s) ∙ names_of_ones whole_name (raw_events (three_in (Part s)))
names_there (Map x) = names_of_ones late_name (map_of.map_events_of x.state) ∙ names_of_twos name_of (late_events (three_in (Map x)).two) ∙ names_of_ones whole_name (raw_events (three_in (Map x)))
names_there (Sides z) = names_of_twos late_name (pair.events_of parts.events_of parts.events_of z.pair) ∙ names_of_twos name_of (late_events (three_in (Sides z)).two) ∙ names_of_ones whole_name (raw_events (three_in (Sides z)))
names_there (Tally x) = names_of_twos whole_name (tally.events_of x.state)

names_rise : (s : Any) → IsStrictlySortedBy event_order (events_of s)
names_rise (Part s) = rises_by parts_cmp event_order (part_event (pos 0)) (parts_keep (pos 0)) (parts.events_of s) (parts_have.ascending s)
names_rise (Map x) = rises_by (by_both int_cmp int_cmp) event_order entry_event entries_keep (map_of.map_events_of x.state) (maps_have.ascending x.state)
names_rise (Sides z) = rises_by side_cmp event_order side_event sides_keep (pair.events_of parts.events_of parts.events_of z.pair) (pairs_have.ascending z.pair)
names_rise (Tally x) = rises_by (by_both int_cmp int_cmp) event_order tally_event tallies_keep (tally.events_of x.state) (tally_has_events.ascending x.state)

-- a test of names by key, kind and number
pub record TestsNames (en : Event → Event → Bool) : Type 0 where
  pub same_name : IsIdentity en
  pub its_name : (e : Event) → en e e ≡ true

pub any_has_events : (en : Event → Event → Bool) → TestsNames en → (cn : Event → Event → Ordering) → ((d e : Event) → cn d e ≡ event_order d e) → HasEvents nothing joined en cn events_of
any_has_events en by cn is = subst (λ (c : Event → Event → Ordering). HasEvents nothing joined en c events_of) (λ i d e. sym (is d e) i)
    (subst (λ (ev : Any → List Event). HasEvents nothing joined en event_order ev) (λ i s. sym (names_there s) i)
    (renamed whole_exact.0 whole_exact.1 by.same_name by.its_name whole_name whole_apart wholes_have (λ s. subst (IsStrictlySortedBy event_order) (names_there s) (names_rise s))))

-- events by their key, kind and number
pub by_name : (en : Event → Event → Bool) → ((d e : Event) → en d e ≡ (int_eq d.key e.key && (same_kind d.kind e.kind && int_eq d.number e.number))) → TestsNames en
by_name en is = record {
  same_name = events_identical en is;
  its_name = λ e. is e e ∙ and_both (int_eq_equiv.refl e.key) (and_both (kind_itself e.kind) (int_eq_equiv.refl e.number));
}

-- events by key, then kind, then number
pub by_rank : (cn : Event → Event → Ordering) → ((d e : Event) → cn d e ≡ ordering_then (int_cmp d.key e.key) (ordering_then (kind_cmp d.kind e.kind) (int_cmp d.number e.number))) → (d e : Event) → cn d e ≡ event_order d e
by_rank cn is d e = is d e ∙ ap (λ c. ordering_then (int_cmp d.key e.key) (ordering_then c (int_cmp d.number e.number))) (kinds_rank d.kind e.kind)
