-- Key and number tell the events of a script's variable apart.
use Rattle.std.proofs.Common.{◌≡◌, ◌⊎◌, zero, suc, ℤ, pos, List, [], ◌∷◌, ◌++◌, map, Contains, inl, inr, refl, sym, ap, ◌∙◌, arith}
use Rattle.std.proofs.lemmas.List.Elements.{Contains-append_cases}
use Rattle.lvish_compound.specs.declared.any.Any.{Any}
use Rattle.lvish_compound.specs.declared.any.Any.TheVariants.{Part as PartOf, Map, Sides, Tally}
use Rattle.lvish_compound.specs.declared.event.Event.{Event}
use Rattle.lvish_compound.specs.declared.kind.Kind.{Kind}
use Rattle.lvish_compound.specs.declared.part.Part.{Part}
use Rattle.lvish_compound.specs.declared.part.Part.TheVariants.{Empty, Cell, Set, Max}
use Rattle.lvish_compound.specs.declared.side_of.SideOf.{SideOf}
use Rattle.lvish_compound.specs.declared.side_of.SideOf.TheVariants.{One, Two}
use Rattle.lvish_compound.specs.declared.kind.Kind.TheVariants.{Cell as CellKind, Set as SetKind, Max as MaxKind}
use Rattle.lvish_compound.specs.EventNames.{PartEvent, part_event, entry_event, tally_event, side_event}
use Rattle.lvish_compound.specs.Pair.{of_one, of_two, sides}
use Rattle.lvish_compound.specs.Parts as parts
use Rattle.lvish_compound.specs.Sides.{pair_of}
use Rattle.lvish_compound.specs.States.{events_of}

-- what is in a mapped list is of an element
record IsMapped {X Y : Type 0} (f : X → Y) (xs : List X) (y : Y) : Type 0 where
  from : X
  there : Contains xs from
  is : f from ≡ y

mapped : {X Y : Type 0} (f : X → Y) (xs : List X) (y : Y) → Contains (map f xs) y → IsMapped f xs y
mapped f [] y z = absurd (omega (arith, z.1))
mapped f (x ∷ xs) y (zero, lt, is) = record { from = x; there = (0, omega arith, refl); is = is }
mapped f (x ∷ xs) y (suc i, lt, is) = let g = mapped f xs y (i, omega (arith, lt), is) in record { from = g.from; there = (suc (g.there).0, omega (arith, (g.there).1), (g.there).2); is = g.is }

-- the kind of a part's event, and of all events of a part
kind_of : PartEvent → Kind
kind_of (One n) = CellKind
kind_of (Two (One n)) = SetKind
kind_of (Two (Two n)) = MaxKind

kind_in : Part → Kind
kind_in (Set x) = SetKind
kind_in (Max x) = MaxKind
kind_in s = CellKind

named : (k : ℤ) (p : PartEvent) → ((part_event k p).kind ≡ kind_of p) × ((part_event k p).key ≡ k)
unfolding kind_of
named k (One n) = (refl, refl)
named k (Two (One n)) = (refl, refl)
named k (Two (Two n)) = (refl, refl)

one_kind : (s : Part) (p : PartEvent) → Contains (parts.events_of s) p → kind_of p ≡ kind_in s
unfolding kind_of kind_in
one_kind Empty p z = absurd (omega (arith, z.1))
one_kind (Cell n) p z = let g = mapped of_one (n ∷ []) p z in sym (ap kind_of g.is)
one_kind (Set x) p z = let g = mapped of_two _ p z in let h = mapped of_one _ g.from (first_side _ g.from g.there) in sym (ap kind_of (ap of_two h.is ∙ g.is))
  where
    first_side : (xs : List ℤ) (q : SideOf ℤ ℤ) → Contains (sides {Y = ℤ} xs []) q → Contains (map of_one xs) q
    first_side xs q z = elim (Contains-append_cases (map of_one xs) [] q z) [ inl y ↦ y | inr y ↦ absurd (omega (arith, y.1)) ]
one_kind (Max x) p z = let g = mapped of_two _ p z in let h = mapped of_two _ g.from g.there in sym (ap kind_of (ap of_two h.is ∙ g.is))

-- two events of the parts of a side, or of two sides
parts_agree : (s t : Part) (k j : ℤ) (p q : PartEvent) → (k ≡ j → s ≡ t) → Contains (parts.events_of s) p → Contains (parts.events_of t) q → (part_event k p).key ≡ (part_event j q).key → (part_event k p).kind ≡ (part_event j q).kind
parts_agree s t k j p q same a b e =
    let keys : k ≡ j = sym (named k p).1 ∙ e ∙ (named j q).1 in
    (named k p).0 ∙ one_kind s p a ∙ ap kind_in (same keys) ∙ sym (one_kind t q b) ∙ sym (named j q).0

-- the part of a side's event
record IsSideOf (one two : Part) (e : Event) : Type 0 where
  part : Part
  side : ℤ
  from : PartEvent
  there : Contains (parts.events_of part) from
  is : part_event side from ≡ e
  first : side ≡ pos 1 → part ≡ one
  second : side ≡ pos 2 → part ≡ two
  either : (side ≡ pos 1) ⊎ (side ≡ pos 2)

side_of : (one two : Part) (e : Event) → Contains (map side_event (map of_one (parts.events_of one) ++ map of_two (parts.events_of two))) e → IsSideOf one two e
side_of one two e z =
    let g = mapped side_event (map of_one (parts.events_of one) ++ map of_two (parts.events_of two)) e z in
    elim (Contains-append_cases (map of_one (parts.events_of one)) (map of_two (parts.events_of two)) g.from g.there) [
      | inl y ↦ let h = mapped of_one (parts.events_of one) g.from y in record { part = one; side = pos 1; from = h.from; there = h.there; is = ap side_event h.is ∙ g.is; first = λ q. refl; second = λ q. absurd (one_or_two q); either = inl refl }
      | inr y ↦ let h = mapped of_two (parts.events_of two) g.from y in record { part = two; side = pos 2; from = h.from; there = h.there; is = ap side_event h.is ∙ g.is; first = λ q. absurd (one_or_two (sym q)); second = λ q. refl; either = inr refl }
    ]
  where
    one_or_two : ◌≡◌ {A = ℤ} (pos 1) (pos 2) → ⊥
    one_or_two q = cc q

kinds_agree : (s : Any) (e x : Event) → Contains (events_of s) e → Contains (events_of s) x → e.key ≡ x.key → e.kind ≡ x.kind
kinds_agree (PartOf s) e x a b keys =
    let g = mapped (part_event (pos 0)) (parts.events_of s) e a in
    let h = mapped (part_event (pos 0)) (parts.events_of s) x b in
    sym (ap (λ (y : Event). y.kind) g.is)
    ∙ parts_agree s s (pos 0) (pos 0) g.from h.from (λ q. refl) g.there h.there (ap (λ (y : Event). y.key) g.is ∙ keys ∙ sym (ap (λ (y : Event). y.key) h.is))
    ∙ ap (λ (y : Event). y.kind) h.is
kinds_agree (Map m) e x a b keys = let g = mapped entry_event _ e a in let h = mapped entry_event _ x b in sym (ap (λ (y : Event). y.kind) g.is) ∙ ap (λ (y : Event). y.kind) h.is
kinds_agree (Tally t) e x a b keys = let g = mapped tally_event _ e a in let h = mapped tally_event _ x b in sym (ap (λ (y : Event). y.kind) g.is) ∙ ap (λ (y : Event). y.kind) h.is
kinds_agree (Sides z) e x a b keys =
    let g = side_of ((pair_of z).one) ((pair_of z).two) e a in
    let h = side_of ((pair_of z).one) ((pair_of z).two) x b in
    let same : g.side ≡ h.side → g.part ≡ h.part = λ q. elim g.either [
      | inl y ↦ g.first y ∙ sym (h.first (sym q ∙ y))
      | inr y ↦ g.second y ∙ sym (h.second (sym q ∙ y))
    ] in
    sym (ap (λ (y : Event). y.kind) g.is)
    ∙ parts_agree g.part h.part g.side h.side g.from h.from same g.there h.there (ap (λ (y : Event). y.key) g.is ∙ keys ∙ sym (ap (λ (y : Event). y.key) h.is))
    ∙ ap (λ (y : Event). y.kind) h.is

pub events_told : (s : Any) (e x : Event) → Contains (events_of s) e → Contains (events_of s) x → e.key ≡ x.key → e.number ≡ x.number → e ≡ x
events_told s e x a b keys numbers = let kinds : e.kind ≡ x.kind = kinds_agree s e x a b keys in λ i. record { key = keys i; kind = kinds i; number = numbers i }
