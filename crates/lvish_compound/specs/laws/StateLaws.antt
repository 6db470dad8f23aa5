-- The states of a script's variables are a lattice: each is a part, a map, two parts side by side or a tally.
use Rattle.std.proofs.Common.{◌≡◌, ◌⊎◌, ℤ, Bool, true, false, ◌&&◌, Option, Some, None, option_map, refl, sym, ap, inl, inr, subst, ⊎_elim}
use Rattle.std.proofs.lemmas.Cmp.{int_cmp_total, int_eq_equiv}
use Rattle.std.specs.Cmp.{IsEquivalence}
use Rattle.std.specs.Ordering.{int_eq}
use Rattle.lvish_lattice.specs.Ascending.{and_both}
use Rattle.lvish_compound.specs.Vocabulary.{Flat, Bottom, Value, Pair, Empty}
use Rattle.lvish_lattice.specs.laws.FlatLaws.{flat_identical}
use Rattle.lvish_lattice.specs.Lattice.{IsIdentity, IsJoin}
use Rattle.lvish_lattice.specs.Plain.{int_identical, pairs_identical}
use Rattle.lvish_compound.specs.declared.part.Part as part
use Rattle.lvish_compound.specs.declared.sides.Sides as sides
use Rattle.lvish_compound.specs.declared.tally.Tally as tallies
use Rattle.lvish_compound.specs.Above.{same_above}
use Rattle.lvish_compound.specs.Held.{HeldState, test_of, bottom_of, held_agrees, held_above, held_bottom}
use Rattle.lvish_compound.specs.MapOf as map_of
use Rattle.lvish_compound.specs.laws.MapLaws as map_laws
use Rattle.lvish_compound.specs.laws.Identity.{equiv_by_identity}
use Rattle.lvish_compound.specs.Parts as parts
use Rattle.lvish_compound.specs.laws.PartLaws as part_laws
use Rattle.lvish_compound.specs.laws.SidesLaws.{above_is, empty_is_none, same_none, pairs_are_join}
use Rattle.lvish_compound.specs.Sides.{none as no_pair}
use Rattle.lvish_compound.specs.laws.SidesLaws as two_laws
use Rattle.lvish_compound.specs.States.{Part, Map, Sides, Tally, Any, nothing, of_part, of_map, from_sides, of_pair, of_tally, unless_part, joined, alike, part_in, map_in, sides_in, tally_in}
use Rattle.lvish_compound.specs.Tally as tally
use Rattle.lvish_compound.specs.laws.TallyLaws as tally_laws
use Rattle.lvish_compound.specs.laws.OneOf.{IsOneOf, one_of_pointwise}
use Rattle.lvish_compound.specs.laws.Pointwise.{IsPointwise, pointwise_is_join}

abbrev pub value_test : Flat ℤ → Flat ℤ → Bool
value_test x y = map_of.part_test (bottom_of Map) x y

abbrev entry_test : ℤ × Flat ℤ → ℤ × Flat ℤ → Bool
entry_test p q = int_eq p.0 q.0 && value_test p.1 q.1

pub same_value : IsIdentity value_test
same_value = flat_identical int_eq int_identical value_test (λ y. refl) (λ x. refl) (λ x y. refl)

pub value_itself : (x : Flat ℤ) → value_test x x ≡ true
value_itself Bottom = refl
value_itself (Value n) = int_eq_equiv.refl n

same_entry : IsIdentity entry_test
same_entry = pairs_identical int_eq value_test int_identical same_value entry_test (λ p q. refl)

pub maps_identical : IsIdentity (test_of Map)
maps_identical = map_laws.alike_identical same_entry

map_itself : (x : HeldState Map) → test_of Map x x ≡ true
map_itself x = (map_laws.alike_equiv (equiv_by_identity entry_test same_entry (λ p. and_both (int_eq_equiv.refl p.0) (value_itself p.1)))).refl x

pub alike_identical : IsIdentity alike
alike_identical (Part s) (Part t) e = ap Part (part_laws.alike_identical s t e)
alike_identical (Map x) (Map y) e = ap Map (same_above x y (map_laws.alike_identical same_entry x.state y.state e))
alike_identical (Sides x) (Sides z) e = ap Sides (two_laws.alike_identical x z e)
alike_identical (Tally x) (Tally y) e = ap Tally (same_above x y (tally_laws.alike_identical x.state y.state e))
alike_identical s t e = absurd cc

itself : (s : Any) → alike s s ≡ true
itself (Part s) = part_laws.alike_equiv.refl s
itself (Map x) = map_itself x.state
itself (Sides z) = two_laws.alike_equiv.refl z
itself (Tally x) = tally_laws.alike_equiv.refl x.state

pub alike_equiv : IsEquivalence alike
alike_equiv = equiv_by_identity alike alike_identical itself

pub maps_are_join : IsJoin (bottom_of Map) map_of.joined
maps_are_join = map_laws.map_is_join int_cmp_total part_laws.ties part_laws.cells value_itself same_value

pub of_sides_above : (z : sides.Sides) → of_pair z.pair ≡ Sides z
of_sides_above z = ap from_sides (above_is z.pair z refl)

of_no_sides : (p : Pair part.Part part.Part) → parts.no_sides p ≡ true → of_pair p ≡ nothing
of_no_sides p e = ap from_sides (empty_is_none p e)

-- a fact of two parts side by side, by whether both are empty
pub pair_by : (P : Any → Type 0) (p : Pair part.Part part.Part) → (parts.no_sides p ≡ true → P nothing) → ((z : sides.Sides) → z.pair ≡ p → P (Sides z)) → P (of_pair p)
pair_by P p f g = elim (parts.no_sides p) as (λ t. parts.no_sides p ≡ t → P (of_pair p)) [
  | true ↦ λ e. subst P (sym (of_no_sides p e)) (f e)
  | false ↦ λ e. let z : sides.Sides = record { pair = p; rises = e } in subst P (sym (of_sides_above z)) (g z refl)
] refl

pub data StateKind : Type 0 where
  OfPart OfMap OfSides OfTally : StateKind

-- the lattice of each kind
abbrev pub Inner : StateKind → Type 0
Inner OfPart = part.Part
Inner OfMap = HeldState Map
Inner OfSides = Pair part.Part part.Part
Inner OfTally = tallies.Tally

abbrev pub least : (k : StateKind) → Inner k
least OfPart = Empty
least OfMap = bottom_of Map
least OfSides = no_pair
least OfTally = bottom_of Tally

abbrev pub join : (k : StateKind) → Inner k → Inner k → Option (Inner k)
join OfPart = parts.joined
join OfMap = map_of.joined
join OfSides = parts.pairs_joined
join OfTally = tally.joined

abbrev pub held_in : (k : StateKind) → Any → Inner k
held_in OfPart = part_in
held_in OfMap = map_in
held_in OfSides = sides_in
held_in OfTally = tally_in

abbrev pub of : (k : StateKind) → Inner k → Any
of OfPart s = of_part s
of OfMap m = of_map m
of OfSides p = of_pair p
of OfTally t = of_tally t

abbrev kind : Any → StateKind
kind (Part s) = OfPart
kind (Map x) = OfMap
kind (Sides z) = OfSides
kind (Tally x) = OfTally

discrete : (k l : StateKind) → (k ≡ l) ⊎ (k ≡ l → ⊥)
discrete OfPart OfPart = inl refl
discrete OfMap OfMap = inl refl
discrete OfSides OfSides = inl refl
discrete OfTally OfTally = inl refl
discrete k l = inr (λ e. absurd cc)

lattices : (k : StateKind) → IsJoin (least k) (join k)
lattices OfPart = part_laws.part_is_join
lattices OfMap = maps_are_join
lattices OfSides = pairs_are_join
lattices OfTally = tally_laws.tally_is_join

whole : (s : Any) → of (kind s) (held_in (kind s) s) ≡ s
whole (Part s) = refl
whole (Map x) = held_above Map nothing x
whole (Sides z) = of_sides_above z
whole (Tally x) = held_above Tally nothing x

pub inside : (k : StateKind) (x : Inner k) → held_in k (of k x) ≡ x
inside OfPart s = refl
inside OfMap m = held_agrees Map maps_identical nothing map_in (λ x. x) refl (λ x. refl) m
inside OfSides p = pair_by (λ s. sides_in s ≡ p) p (λ e. sym (same_none p e)) (λ z e. e)
inside OfTally t = held_agrees Tally tally_laws.alike_identical nothing tally_in (λ x. x) refl (λ x. refl) t

outside : (s : Any) (k : StateKind) → (kind s ≡ k → ⊥) → held_in k s ≡ least k
outside (Part s) OfPart h = absurd (h refl)
outside (Map x) OfMap h = absurd (h refl)
outside (Sides z) OfSides h = absurd (h refl)
outside (Tally x) OfTally h = absurd (h refl)
outside s k h = refl

none : (k : StateKind) → of k (least k) ≡ nothing
none OfPart = refl
none OfMap = held_bottom Map nothing (bottom_of Map) refl
none OfSides = of_no_sides no_pair refl
none OfTally = held_bottom Tally nothing (bottom_of Tally) refl

unit : (s : Any) → joined nothing s ≡ Some s
unit (Part s) = refl
unit s = refl

unit_right : (s : Any) → joined s nothing ≡ Some s
unit_right (Part s) = ap (option_map of_part) (part_laws.part_is_join.commutative s Empty)
unit_right s = refl

together : (a b : Any) → kind a ≡ kind b → joined a b ≡ option_map (of (kind a)) (join (kind a) (held_in (kind a) a) (held_in (kind a) b))
together (Part s) (Part t) e = refl
together (Map x) (Map y) e = refl
together (Sides x) (Sides z) e = refl
together (Tally x) (Tally y) e = refl
together s t e = absurd (cc e)

-- with a part, a state of another kind joins to top unless the part is empty
unless : (s : part.Part) (t : Any) → (Part s ≡ nothing) ⊎ (unless_part s t ≡ None)
unless Empty t = inl refl
unless s t = inr refl

apart : (a b : Any) → (kind a ≡ kind b → ⊥) → (a ≡ nothing) ⊎ ((b ≡ nothing) ⊎ (joined a b ≡ None))
apart (Part s) (Part t) n = absurd (n refl)
apart (Map x) (Map y) n = absurd (n refl)
apart (Sides x) (Sides z) n = absurd (n refl)
apart (Tally x) (Tally y) n = absurd (n refl)
apart (Part s) t n = ⊎_elim (λ e. inl e) (λ e. inr (inr e)) (unless s t)
apart s (Part t) n = inr (unless t s)
apart s t n = inr (inr refl)

pub any_one_of : IsOneOf least join held_in of kind nothing joined
any_one_of = record { parts = lattices; discrete = discrete; whole = whole; inside = inside; outside = outside; none = none; unit = unit; unit_right = unit_right; alike = together; apart = apart }

pub any_pointwise : IsPointwise least join held_in nothing joined
any_pointwise = one_of_pointwise any_one_of

pub any_is_join : IsJoin nothing joined
any_is_join = pointwise_is_join any_pointwise

-- a map and two parts, and a part beside them
abbrev pub Late : Type 0
Late = Pair (HeldState Map) (Pair part.Part part.Part)

abbrev pub Three : Type 0
Three = Pair part.Part Late

-- each of the first kinds of a state, bottom where it is another
abbrev pub three_in : Any → Three
three_in s = record { one = part_in s; two = record { one = map_in s; two = sides_in s } }

-- each kind of a state, bottom where it is another
abbrev pub state_kinds : Any → Pair Three tallies.Tally
state_kinds s = record { one = three_in s; two = tally_in s }

pub same_view : (a b : Any) → state_kinds a ≡ state_kinds b → a ≡ b
same_view a b e = any_pointwise.same a b by_kind
  where
    by_kind : (k : StateKind) → held_in k a ≡ held_in k b
    by_kind OfPart = ap (λ v. v.one.one) e
    by_kind OfMap = ap (λ v. v.one.two.one) e
    by_kind OfSides = ap (λ v. v.one.two.two) e
    by_kind OfTally = ap (λ v. v.two) e
