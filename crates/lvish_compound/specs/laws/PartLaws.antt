-- Parts are a lattice: each is a cell, a set or a counter.
use Rattle.std.proofs.Common.{◌≡◌, ◌⊎◌, ℤ, Bool, true, false, Option, None, option_map, refl, ap, inl, inr}
use Rattle.std.proofs.lemmas.Cmp.{int_cmp_total, int_eq_equiv, nat_eq_equiv}
use Rattle.std.specs.Cmp.{IsEquivalence}
use Rattle.std.specs.Ordering.{int_eq, int_cmp}
use Rattle.lvish_compound.specs.Vocabulary.{Ordering, Less, Equal, Flat, Bottom, Value, MaxCounter, Pair, Part, Empty, Cell, Set, Max, SideOf, One, Two}
use Rattle.lvish_lattice.specs.Ascending.{ties_are_same}
use Rattle.lvish_lattice.specs.Lattice.{IsIdentity, IsJoin, HasEvents}
use Rattle.lvish_lattice.specs.Plain.{int_identical}
use Rattle.lvish_lattice.specs.Flat as flat
use Rattle.lvish_lattice.specs.laws.FlatLaws.{flat_is_join, flat_has_events}
use Rattle.lvish_lattice.specs.GrowSet as set
use Rattle.lvish_lattice.specs.MaxCounter as max
use Rattle.lvish_lattice.specs.laws.MaxCounterLaws.{counters_are_join, counters_have_events, counters_identical}
use Rattle.lvish_compound.specs.Above.{same_above}
use Rattle.lvish_compound.specs.Held.{HeldState, held, bottom_of, held_above, held_bottom, test_of, held_agrees}
use Rattle.lvish_compound.specs.laws.Identity.{equiv_by_identity}
use Rattle.lvish_compound.specs.Pair as pair
use Rattle.lvish_compound.specs.laws.PairLaws.{both_from, pair_has_events}
use Rattle.lvish_compound.specs.Parts.{of_cell, joined, events_of, alike, cell_in, set_in, max_in}
use Rattle.lvish_compound.specs.laws.OneOf.{IsOneOf, one_of_pointwise}
use Rattle.lvish_compound.specs.laws.Pointwise.{IsPointwise, pointwise_is_join, viewed_has_events}

pub alike_identical : IsIdentity alike
alike_identical Empty Empty e = refl
alike_identical (Cell m) (Cell n) e = ap Cell (int_identical m n e)
alike_identical (Set x) (Set y) e = ap Set (same_above x y (set.alike_identical int_identical x.state y.state e))
alike_identical (Max x) (Max y) e = ap Max (same_above x y (counters_identical _ (λ a b. refl) x.state y.state e))
alike_identical s t e = absurd cc

itself : (s : Part) → alike s s ≡ true
itself Empty = refl
itself (Cell n) = int_eq_equiv.refl n
itself (Set x) = (set.alike_equiv int_eq_equiv).refl x.state
itself (Max x) = nat_eq_equiv.refl (max.level x.state)

pub alike_equiv : IsEquivalence alike
alike_equiv = equiv_by_identity alike alike_identical itself

pub cells : IsJoin Bottom (flat.joined int_eq)
cells = flat_is_join int_eq int_identical int_eq_equiv

pub ties : (x y : ℤ) → int_cmp x y ≡ Equal → x ≡ y
ties = ties_are_same int_cmp int_identical (λ x y. refl)

pub sets : IsJoin (bottom_of Set) set.joined
sets = set.set_is_join int_cmp_total ties

pub sets_identical : IsIdentity (test_of Set)
sets_identical = set.alike_identical int_identical

pub maxes_identical : IsIdentity (test_of Max)
maxes_identical = counters_identical _ (λ a b. refl)

pub data PartKind : Type 0 where
  OfCell OfSet OfMax : PartKind

-- the lattice of each kind
abbrev pub Inner : PartKind → Type 0
Inner OfCell = Flat ℤ
Inner OfSet = HeldState Set
Inner OfMax = MaxCounter

abbrev pub least : (k : PartKind) → Inner k
least OfCell = Bottom
least OfSet = bottom_of Set
least OfMax = bottom_of Max

abbrev pub join : (k : PartKind) → Inner k → Inner k → Option (Inner k)
join OfCell = flat.joined int_eq
join OfSet = set.joined
join OfMax = max.joined

abbrev pub part : (k : PartKind) → Part → Inner k
part OfCell = cell_in
part OfSet = set_in
part OfMax = max_in

abbrev pub of : (k : PartKind) → Inner k → Part
of OfCell x = of_cell x
of OfSet x = held Set Empty x
of OfMax x = held Max Empty x

abbrev kind : Part → PartKind
kind Empty = OfCell
kind (Cell n) = OfCell
kind (Set x) = OfSet
kind (Max x) = OfMax

discrete : (k l : PartKind) → (k ≡ l) ⊎ (k ≡ l → ⊥)
discrete OfCell OfCell = inl refl
discrete OfSet OfSet = inl refl
discrete OfMax OfMax = inl refl
discrete k l = inr (λ e. absurd cc)

lattices : (k : PartKind) → IsJoin (least k) (join k)
lattices OfCell = cells
lattices OfSet = sets
lattices OfMax = counters_are_join

whole : (s : Part) → of (kind s) (part (kind s) s) ≡ s
whole Empty = refl
whole (Cell n) = refl
whole (Set x) = held_above Set Empty x
whole (Max x) = held_above Max Empty x

pub inside : (k : PartKind) (x : Inner k) → part k (of k x) ≡ x
inside OfCell Bottom = refl
inside OfCell (Value n) = refl
inside OfSet y = held_agrees Set sets_identical Empty set_in (λ x. x) refl (λ x. refl) y
inside OfMax z = held_agrees Max maxes_identical Empty max_in (λ x. x) refl (λ x. refl) z

outside : (s : Part) (k : PartKind) → (kind s ≡ k → ⊥) → part k s ≡ least k
outside (Cell n) OfCell h = absurd (h refl)
outside (Set x) OfSet h = absurd (h refl)
outside (Max x) OfMax h = absurd (h refl)
outside Empty OfCell h = refl
outside s k h = refl

none : (k : PartKind) → of k (least k) ≡ Empty
none OfCell = refl
none OfSet = held_bottom Set Empty (bottom_of Set) refl
none OfMax = held_bottom Max Empty (bottom_of Max) refl

unit_right : (s : Part) → joined s Empty ≡ Option.Some s
unit_right Empty = refl
unit_right s = refl

together : (a b : Part) → kind a ≡ kind b → joined a b ≡ option_map (of (kind a)) (join (kind a) (part (kind a) a) (part (kind a) b))
together Empty Empty e = refl
together Empty (Cell n) e = refl
together (Cell m) Empty e = refl
together (Cell m) (Cell n) e = refl
together (Set x) (Set y) e = refl
together (Max x) (Max y) e = refl
together s t e = absurd (cc e)

apart : (a b : Part) → (kind a ≡ kind b → ⊥) → (a ≡ Empty) ⊎ ((b ≡ Empty) ⊎ (joined a b ≡ None))
apart Empty t n = inl refl
apart s Empty n = inr (inl refl)
apart (Cell m) (Cell k) n = absurd (n refl)
apart (Set x) (Set y) n = absurd (n refl)
apart (Max x) (Max y) n = absurd (n refl)
apart s t n = inr (inr refl)

pub part_one_of : IsOneOf least join part of kind Empty joined
part_one_of = record { parts = lattices; discrete = discrete; whole = whole; inside = inside; outside = outside; none = none; unit = λ s. refl; unit_right = unit_right; alike = together; apart = apart }

pointwise : IsPointwise least join part Empty joined
pointwise = one_of_pointwise part_one_of

pub part_is_join : IsJoin Empty joined
part_is_join = pointwise_is_join pointwise

abbrev pub part_kinds : Part → Pair (Flat ℤ) (Pair (HeldState Set) MaxCounter)
part_kinds s = record { one = cell_in s; two = record { one = set_in s; two = max_in s } }

same_view : (a b : Part) → part_kinds a ≡ part_kinds b → a ≡ b
same_view a b e = pointwise.same a b by_kind
  where
    by_kind : (k : PartKind) → part k a ≡ part k b
    by_kind OfCell = ap (λ p. p.one) e
    by_kind OfSet = ap (λ p. p.two.one) e
    by_kind OfMax = ap (λ p. p.two.two) e

-- the events of a part are those of its cell, its set and its counter
pub events_there : (s : Part) → pair.events_of flat.events_of (pair.events_of set.items_of max.events_of) (part_kinds s) ≡ events_of s
events_there Empty = refl
events_there (Cell n) = refl
events_there s = refl

pub part_has_events : (eq : SideOf ℤ (SideOf ℤ ℤ) → SideOf ℤ (SideOf ℤ ℤ) → Bool) → ((x z : ℤ) → eq (One x) (One z) ≡ int_eq x z) → ((x z : ℤ) → eq (Two (One x)) (Two (One z)) ≡ int_eq x z) → ((x z : ℤ) → eq (Two (Two x)) (Two (Two z)) ≡ int_eq x z)
    → ((x : ℤ) (y : SideOf ℤ ℤ) → eq (One x) (Two y) ≡ false) → ((x : ℤ) (y : SideOf ℤ ℤ) → eq (Two y) (One x) ≡ false) → ((x y : ℤ) → eq (Two (One x)) (Two (Two y)) ≡ false) → ((x y : ℤ) → eq (Two (Two y)) (Two (One x)) ≡ false)
    → (cmp : SideOf ℤ (SideOf ℤ ℤ) → SideOf ℤ (SideOf ℤ ℤ) → Ordering) → ((x z : ℤ) → cmp (One x) (One z) ≡ int_cmp x z) → ((x z : ℤ) → cmp (Two (One x)) (Two (One z)) ≡ int_cmp x z) → ((x z : ℤ) → cmp (Two (Two x)) (Two (Two z)) ≡ int_cmp x z)
    → ((x : ℤ) (y : SideOf ℤ ℤ) → cmp (One x) (Two y) ≡ Less) → ((x y : ℤ) → cmp (Two (One x)) (Two (Two y)) ≡ Less) → HasEvents Empty joined eq cmp events_of
part_has_events eq e1 e2 e3 d1 d2 d3 d4 cmp c1 c2 c3 b1 b2 = viewed_has_events
    (pair_has_events (flat_has_events int_eq int_identical int_eq_equiv int_cmp)
    (pair_has_events (set.set_has_events int_cmp_total int_eq (λ x y. refl)) counters_have_events (λ y w. eq (Two y) (Two w)) e2 e3 d3 d4 (λ y w. cmp (Two y) (Two w)) c2 c3 b2)
    eq e1 (λ y w. refl) d1 d2 cmp c1 (λ y w. refl) b1)
    refl (λ a b c e. let f = pointwise.forth a b c e in both_from _ _ _ (f OfCell) (both_from _ _ _ (f OfSet) (f OfMax))) same_view events_of events_there
