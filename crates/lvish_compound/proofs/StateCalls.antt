-- What comparing, merging and fresh events are on states of a script's variables.
use Rattle.std.proofs.Common.{◌≡◌, ℤ, pos, Bool, false, not, cond, List, [], map, filter, refl, sym, ◌∙◌, ap}
use Rattle.std.specs.Set.{is_member}
use Rattle.lvish_lattice.specs.Lattice.{IsOutcome, events_beyond, fresh_of, renamed}
use Rattle.lvish_lattice.specs.declared.brought.Brought.{Brought}
use Rattle.lvish_compound.specs.Vocabulary.{Event, Pair, Empty, SideOf, One, Two}
use Rattle.lvish_compound.specs.declared.part.Part as part
use Rattle.lvish_compound.specs.declared.sides.Sides as sides
use Rattle.lvish_compound.proofs.Carried.{IsCarried, carried_fresh, carried_merged, carried_outcome, held_carried, none_beyond, all_beyond}
use Rattle.lvish_compound.proofs.Outcomes.{outcome_as}
use Rattle.lvish_compound.specs.EventNames.{PartEvent, part_event, entry_event, tally_event, side_event}
use Rattle.lvish_compound.specs.laws.EventLaws.{apart, names_beyond}
use Rattle.lvish_compound.specs.Held.{HeldState, state_in, held_agrees}
use Rattle.lvish_compound.specs.MapOf as map_of
use Rattle.lvish_compound.specs.Pair as pair
use Rattle.lvish_compound.specs.Parts as parts
use Rattle.lvish_compound.proofs.PartCalls.{IsByKind}
use Rattle.lvish_compound.specs.laws.SidesLaws.{same_sides, same_none}
use Rattle.lvish_compound.specs.laws.StateEvents.{TestsNames, part_eq, part_exact, entry_eq, entry_exact, side_eq, side_exact}
use Rattle.lvish_compound.specs.laws.StateLaws.{pair_by, maps_identical, of_sides_above, any_is_join}
use Rattle.lvish_compound.specs.Sides.{pair_of}
use Rattle.lvish_compound.specs.States.{Part, Map, Sides, Tally, Any, nothing, of_part, of_map, of_pair, of_tally, unless_part, joined, events_of}
use Rattle.lvish_compound.specs.Tally as tally
use Rattle.lvish_compound.specs.laws.TallyLaws as tally_laws
use Rattle.lvish_compound.specs.declared.tally.Tally as tallies

abbrev itself : part.Part → part.Part
itself s = s

pub parts_carried : IsCarried Part itself of_part joined parts.joined
parts_carried = record { back = λ s. refl; same = λ s t e. e; inside = λ s t. refl }

pub maps_carried : IsCarried Map (state_in Map) of_map joined map_of.joined
maps_carried = held_carried Map nothing joined (λ x z. refl)

pub pairs_carried : IsCarried Sides pair_of of_pair joined parts.pairs_joined
pairs_carried = record { back = of_sides_above; same = same_sides; inside = λ x z. refl }

pub tallies_carried : IsCarried Tally (state_in Tally) of_tally joined tally.joined
tallies_carried = held_carried Tally nothing joined (λ x z. refl)

module _ (en : Event → Event → Bool) (by : TestsNames en) where
  parts_beyond : (os zs : List PartEvent) → filter (λ n. not (is_member en (map (part_event (pos 0)) os) n)) (map (part_event (pos 0)) zs) ≡ map (part_event (pos 0)) (filter (λ e. not (is_member part_eq os e)) zs)
  parts_beyond = names_beyond part_exact.0 part_exact.1 by.same_name by.its_name (part_event (pos 0)) (λ d e h. cc (apart (One d) (One e) h))

  entries_beyond : (os zs : List (ℤ × ℤ)) → filter (λ n. not (is_member en (map entry_event os) n)) (map entry_event zs) ≡ map entry_event (filter (λ e. not (is_member entry_eq os e)) zs)
  entries_beyond = names_beyond entry_exact.0 entry_exact.1 by.same_name by.its_name entry_event (λ d e h i. ((h i).key, (h i).number))

  sides_beyond : (os zs : List (SideOf PartEvent PartEvent)) → filter (λ n. not (is_member en (map side_event os) n)) (map side_event zs) ≡ map side_event (filter (λ e. not (is_member side_eq os e)) zs)
  sides_beyond = names_beyond side_exact.0 side_exact.1 by.same_name by.its_name side_event (λ d e h. cc (apart (Two (Two d)) (Two (Two e)) h))

  tallies_beyond : (os zs : List (ℤ × ℤ)) → filter (λ n. not (is_member en (map tally_event os) n)) (map tally_event zs) ≡ map tally_event (filter (λ e. not (is_member entry_eq os e)) zs)
  tallies_beyond = names_beyond entry_exact.0 entry_exact.1 by.same_name by.its_name tally_event (λ d e h i. ((h i).key, (h i).number))

  map_wraps : (m : HeldState Map) → events_of (of_map m) ≡ map entry_event (map_of.map_events_of m)
  map_wraps = held_agrees Map maps_identical nothing events_of (λ m. map entry_event (map_of.map_events_of m)) refl (λ x. refl)

  abbrev pair_events : Pair part.Part part.Part → List (SideOf PartEvent PartEvent)
  pair_events = pair.events_of parts.events_of parts.events_of

  pair_wraps : (p : Pair part.Part part.Part) → events_of (of_pair p) ≡ map side_event (pair_events p)
  pair_wraps p = pair_by (λ s. events_of s ≡ map side_event (pair_events p)) p (λ e. ap (λ (v : Pair part.Part part.Part). map side_event (pair_events v)) (sym (same_none p e))) (λ z e. ap (λ (v : Pair part.Part part.Part). map side_event (pair_events v)) e)

  parts_fresh : (xs : List PartEvent) (s r : Any) (p q : part.Part) → s ≡ Part p → r ≡ Part q → xs ≡ fresh_of parts.joined part_eq parts.events_of p q → map (part_event (pos 0)) xs ≡ fresh_of joined en events_of s r
  parts_fresh xs s r p q es er e = carried_fresh parts_carried part_eq parts.events_of en events_of (map (part_event (pos 0))) refl parts_beyond (λ s. refl) xs s r p q p q es er refl refl e

  pub maps_fresh : (xs : List (ℤ × ℤ)) (s r : Any) (x z : _) (p q : HeldState Map) → s ≡ Map x → r ≡ Map z → p ≡ x.state → q ≡ z.state → xs ≡ fresh_of map_of.joined entry_eq map_of.map_events_of p q → map entry_event xs ≡ fresh_of joined en events_of s r
  maps_fresh = carried_fresh maps_carried entry_eq map_of.map_events_of en events_of (map entry_event) refl entries_beyond map_wraps

  -- what a map was brought, named as events of the state that holds it
  pub map_outcome : (s r u : Any) (x z new : _) → s ≡ Map x → r ≡ Map z → u ≡ Map new → (t : Brought (ℤ × ℤ)) → IsOutcome (map_of.joined x.state z.state) (fresh_of map_of.joined entry_eq map_of.map_events_of x.state z.state) x.state new.state t
      → IsOutcome (joined s r) (fresh_of joined en events_of s r) s u (renamed entry_event t)
  map_outcome s r u x z new es er eu t m = rw eu (carried_outcome maps_carried entry_event s r x z new (fresh_of map_of.joined entry_eq map_of.map_events_of x.state z.state) (fresh_of joined en events_of s r) es er (maps_fresh _ s r x z _ _ es er refl refl refl) t m)

  pairs_fresh : (xs : List (SideOf PartEvent PartEvent)) (s r : Any) (x z : sides.Sides) (p q : Pair part.Part part.Part) → s ≡ Sides x → r ≡ Sides z → p ≡ x.pair → q ≡ z.pair → xs ≡ fresh_of parts.pairs_joined side_eq pair_events p q → map side_event xs ≡ fresh_of joined en events_of s r
  pairs_fresh = carried_fresh pairs_carried side_eq pair_events en events_of (map side_event) refl sides_beyond pair_wraps

  tally_wraps : (t : tallies.Tally) → events_of (of_tally t) ≡ map tally_event (tally.events_of t)
  tally_wraps = held_agrees Tally tally_laws.alike_identical nothing events_of (λ t. map tally_event (tally.events_of t)) refl (λ x. refl)

  pub tallies_fresh : (xs : List (ℤ × ℤ)) (s r : Any) (x z : _) (p q : tallies.Tally) → s ≡ Tally x → r ≡ Tally z → p ≡ x.state → q ≡ z.state → xs ≡ fresh_of tally.joined entry_eq tally.events_of p q → map tally_event xs ≡ fresh_of joined en events_of s r
  tallies_fresh = carried_fresh tallies_carried entry_eq tally.events_of en events_of (map tally_event) refl tallies_beyond tally_wraps

  -- to nothing a put brings all its events
  pub all_fresh : (s r : Any) → s ≡ Part Empty → events_of r ≡ fresh_of joined en events_of s r
  all_fresh s r e = all_beyond en (events_of r) ∙ ap (events_beyond en events_of nothing) (sym (any_is_join.unit r)) ∙ ap (λ (v : Any). fresh_of joined en events_of v r) (sym e)

  -- a join that is there already, or top, brings nothing
  unless_fresh : (s r : Any) (q : part.Part) → joined s r ≡ unless_part q s → [] ≡ fresh_of joined en events_of s r
  unless_fresh s r Empty e = none_beyond en by.its_name events_of s (joined s r) e
  unless_fresh s r q e = ap (events_beyond en events_of s) (sym e)

  -- a part that is put to a state of another kind
  pub part_to : (s r u : Any) (q : part.Part) → s ≡ u → r ≡ Part q → joined u (Part q) ≡ unless_part q u → [] ≡ fresh_of joined en events_of s r
  part_to s r u q es er e = unless_fresh u (Part q) q e ∙ (λ i. fresh_of joined en events_of (sym es i) (sym er i))

  to_part : (p : part.Part) (t : Any) → joined (Part p) t ≡ unless_part p t → cond (parts.is_empty p) (events_of t) [] ≡ fresh_of joined en events_of (Part p) t
  to_part Empty t e = all_fresh (Part Empty) t refl
  to_part p t e = ap (events_beyond en events_of (Part p)) (sym e)

  -- a state of another kind that is put to a part
  pub other_to_part : (s r u : Any) (p : part.Part) → s ≡ Part p → r ≡ u → joined (Part p) u ≡ unless_part p u → cond (parts.is_empty p) (events_of r) [] ≡ fresh_of joined en events_of s r
  other_to_part s r u p es er e = ap (λ (v : Any). cond (parts.is_empty p) (events_of v) []) er ∙ to_part p u e ∙ (λ i. fresh_of joined en events_of (sym es i) (sym er i))

same_part_test : (pe : PartEvent → PartEvent → Bool) → IsByKind pe → (d e : PartEvent) → pe d e ≡ part_eq d e
same_part_test pe k (One m) (One n) = k.cells m n
same_part_test pe k (One m) (Two e) = k.one_two m e
same_part_test pe k (Two d) (One n) = k.two_one n d
same_part_test pe k (Two (One m)) (Two (One n)) = k.sets m n
same_part_test pe k (Two (One m)) (Two (Two n)) = k.set_max m n
same_part_test pe k (Two (Two m)) (Two (One n)) = k.max_set n m
same_part_test pe k (Two (Two m)) (Two (Two n)) = k.maxes m n

-- a test of the events of two parts, by the side and the part's event
pub record IsBySide (pe : PartEvent → PartEvent → Bool) (se : SideOf PartEvent PartEvent → SideOf PartEvent PartEvent → Bool) : Type 0 where
  pub ones : (d e : PartEvent) → se (One d) (One e) ≡ pe d e
  pub twos : (d e : PartEvent) → se (Two d) (Two e) ≡ pe d e
  pub one_two : (d e : PartEvent) → se (One d) (Two e) ≡ false
  pub two_one : (d e : PartEvent) → se (Two d) (One e) ≡ false

same_side_test : (pe : PartEvent → PartEvent → Bool) (se : SideOf PartEvent PartEvent → SideOf PartEvent PartEvent → Bool) → IsByKind pe → IsBySide pe se → (d e : SideOf PartEvent PartEvent) → se d e ≡ side_eq d e
same_side_test pe se k s (One d) (One e) = s.ones d e ∙ same_part_test pe k d e
same_side_test pe se k s (One d) (Two e) = s.one_two d e
same_side_test pe se k s (Two d) (One e) = s.two_one d e
same_side_test pe se k s (Two d) (Two e) = s.twos d e ∙ same_part_test pe k d e

-- the same by tests that a part's and a pair's events have
pub parts_fresh_by : (pe : PartEvent → PartEvent → Bool) (en : Event → Event → Bool) (xs : List PartEvent) (s r : Any) (p q : part.Part) → s ≡ Part p → r ≡ Part q → xs ≡ fresh_of parts.joined pe parts.events_of p q → IsByKind pe → TestsNames en → map (part_event (pos 0)) xs ≡ fresh_of joined en events_of s r
parts_fresh_by pe en xs s r p q es er e k by = parts_fresh en by xs s r p q es er (e ∙ ap (λ (t : PartEvent → PartEvent → Bool). fresh_of parts.joined t parts.events_of p q) (λ i d e. same_part_test pe k d e i))

-- what a part was brought was brought to the state that holds it
pub part_outcome : (pe : PartEvent → PartEvent → Bool) (en : Event → Event → Bool) → IsByKind pe → TestsNames en → (s r : Any) (p q new : part.Part) → s ≡ Part p → r ≡ Part q → (t : Brought Event)
    → IsOutcome (parts.joined p q) (map (part_event (pos 0)) (fresh_of parts.joined pe parts.events_of p q)) p new t → IsOutcome (joined s r) (fresh_of joined en events_of s r) s (Part new) t
part_outcome pe en k by s r p q new es er = outcome_as (parts.joined p q) (joined s r) (map (part_event (pos 0)) (fresh_of parts.joined pe parts.events_of p q)) (fresh_of joined en events_of s r) p new s (Part new)
    (λ done m. carried_merged parts_carried done s r p q new es er m) (λ same. ap (λ v. Part v) same ∙ sym es) (sym (parts_fresh_by pe en _ s r p q es er refl k by))

pub pairs_fresh_by : (pe : PartEvent → PartEvent → Bool) (se : SideOf PartEvent PartEvent → SideOf PartEvent PartEvent → Bool) (en : Event → Event → Bool) (xs : List (SideOf PartEvent PartEvent)) (s r : Any) (x z : sides.Sides) (p q : Pair part.Part part.Part) → s ≡ Sides x → r ≡ Sides z → p ≡ x.pair → q ≡ z.pair
    → xs ≡ fresh_of parts.pairs_joined se (pair.events_of parts.events_of parts.events_of) p q → IsByKind pe → IsBySide pe se → TestsNames en → map side_event xs ≡ fresh_of joined en events_of s r
pairs_fresh_by pe se en xs s r x z p q es er ep eq e k t by = pairs_fresh en by xs s r x z p q es er ep eq (e ∙ ap (λ (t : SideOf PartEvent PartEvent → SideOf PartEvent PartEvent → Bool). fresh_of parts.pairs_joined t (pair.events_of parts.events_of parts.events_of) p q) (λ i d e. same_side_test pe se k t d e i))
