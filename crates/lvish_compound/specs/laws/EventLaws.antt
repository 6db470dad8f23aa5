-- The names of events: different events have different names, in the order of the events.
use Rattle.std.specs.Prelude.{◌≡◌, ℤ, pos, Bool, false, cond, List, [], ◌∷◌, map, refl, true, not, ◌||◌, filter, Option, Some, None}
use Rattle.std.proofs.Common.{sym, ◌∙◌, ap, inl, inr}
use Rattle.std.proofs.lemmas.Cmp.{int_cmp_total}
use Rattle.lvish_compound.specs.Vocabulary.{Ordering, Less, Greater, Event, Kind, SideOf, One, Two}
use Rattle.std.specs.Cmp.{tied_itself}
use Rattle.std.specs.List.{AllByRecursion}
use Rattle.std.specs.List.Sorted.{IsStrictlySortedBy}
use Rattle.std.specs.Ordering.{int_cmp, int_eq, ordering_then}
use Rattle.lvish_compound.specs.declared.kind.Kind.TheVariants.{Cell, Set, Max, Map, Tally}
use Rattle.lvish_compound.specs.EventNames.{event_order, PartEvent, part_event, entry_event, tally_event, side_event}
use Rattle.lvish_compound.specs.Keyed.{by_both}
use Rattle.lvish_compound.specs.Pair.{sides}
use Rattle.std.proofs.lemmas.Bool.{or_cases, or_left, or_right}
use Rattle.std.specs.Set.{is_member, IsUnion}
use Rattle.lvish_lattice.specs.Lattice.{IsIdentity, HasEvents, events_beyond}

same_bool : (p q : Bool) → (p ≡ true → q ≡ true) → (q ≡ true → p ≡ true) → p ≡ q
same_bool true q f g = sym (f refl)
same_bool false true f g = g refl
same_bool false false f g = refl

module _ {E N : Type 0} {eq : E → E → Bool} {en : N → N → Bool} (same : IsIdentity eq) (itself : (x : E) → eq x x ≡ true) (same_name : IsIdentity en) (its_name : (n : N) → en n n ≡ true)
    (f : E → N) (apart : (x y : E) → f x ≡ f y → x ≡ y) where
  same_test : (x y : E) → en (f x) (f y) ≡ eq x y
  same_test x y = same_bool (en (f x) (f y)) (eq x y) (λ e. ap (eq x) (sym (apart x y (same_name (f x) (f y) e))) ∙ itself x) (λ e. ap (λ w. en (f x) (f w)) (sym (same x y e)) ∙ its_name (f x))

  pub has_name : (xs : List E) (x : E) → is_member en (map f xs) (f x) ≡ is_member eq xs x
  has_name [] x = refl
  has_name (y ∷ ys) x = (λ i. same_test x y i || has_name ys x i)

  found : (xs : List E) (n : N) → is_member en (map f xs) n ≡ true → (x : E) × (f x ≡ n) × (is_member eq xs x ≡ true)
  found [] n h = absurd cc
  found (y ∷ ys) n h = elim (or_cases (en n (f y)) (is_member en (map f ys) n) h) [
    | inl e ↦ (y, sym (same_name n (f y) e), or_left (eq y y) (is_member eq ys y) (itself y))
    | inr e ↦ let w : (x : E) × (f x ≡ n) × (is_member eq ys x ≡ true) = found ys n e in (w.0, w.1, or_right (eq w.0 y) (is_member eq ys w.0) w.2)
  ]

  there : (xs : List E) (x : E) (n : N) → f x ≡ n → is_member eq xs x ≡ true → is_member en (map f xs) n ≡ true
  there xs x n e h = ap (is_member en (map f xs)) (sym e) ∙ has_name xs x ∙ h

  pub names_unite : (xs ys zs : List E) → IsUnion eq xs ys zs → IsUnion en (map f xs) (map f ys) (map f zs)
  names_unite xs ys zs u n = same_bool (is_member en (map f zs) n) (is_member en (map f xs) n || is_member en (map f ys) n) forth back
    where
      forth : is_member en (map f zs) n ≡ true → (is_member en (map f xs) n || is_member en (map f ys) n) ≡ true
      forth h =
          let w : (x : E) × (f x ≡ n) × (is_member eq zs x ≡ true) = found zs n h in
          elim (or_cases (is_member eq xs w.0) (is_member eq ys w.0) (sym (u w.0) ∙ w.2)) [
            | inl e ↦ or_left (is_member en (map f xs) n) (is_member en (map f ys) n) (there xs w.0 n w.1 e)
            | inr e ↦ or_right (is_member en (map f xs) n) (is_member en (map f ys) n) (there ys w.0 n w.1 e)
          ]

      back : (is_member en (map f xs) n || is_member en (map f ys) n) ≡ true → is_member en (map f zs) n ≡ true
      back h = elim (or_cases (is_member en (map f xs) n) (is_member en (map f ys) n) h) [
        | inl e ↦ let w : (x : E) × (f x ≡ n) × (is_member eq xs x ≡ true) = found xs n e in there zs w.0 n w.1 (u w.0 ∙ or_left (is_member eq xs w.0) (is_member eq ys w.0) w.2)
        | inr e ↦ let w : (x : E) × (f x ≡ n) × (is_member eq ys x ≡ true) = found ys n e in there zs w.0 n w.1 (u w.0 ∙ or_right (is_member eq xs w.0) (is_member eq ys w.0) w.2)
      ]

  pub same_events : (xs ys : List E) → map f xs ≡ map f ys → xs ≡ ys
  same_events [] [] e = refl
  same_events [] (y ∷ ys) e = absurd cc
  same_events (x ∷ xs) [] e = absurd cc
  same_events (x ∷ xs) (y ∷ ys) e =
      let a : f x ≡ f y = cc in
      let b : map f xs ≡ map f ys = cc in
      (λ i. apart x y a i ∷ same_events xs ys b i)

  keeps : (t : Bool) (x : E) (xs : List E) → cond t (f x ∷ map f xs) (map f xs) ≡ map f (cond t (x ∷ xs) xs)
  keeps true x xs = refl
  keeps false x xs = refl

  pub names_beyond : (os zs : List E) → filter (λ n. not (is_member en (map f os) n)) (map f zs) ≡ map f (filter (λ e. not (is_member eq os e)) zs)
  names_beyond os [] = refl
  names_beyond os (z ∷ zs) = (λ i. cond {A = List N} (not (has_name os z i)) (f z ∷ names_beyond os zs i) (names_beyond os zs i))
      ∙ keeps (not (is_member eq os z)) z (filter (λ e. not (is_member eq os e)) zs)

  pub fresh_names : {S : Type 0} (ev : S → List E) (s : S) (o : Option S) → map f (events_beyond eq ev s o) ≡ events_beyond en (λ t. map f (ev t)) s o
  fresh_names ev s (Some t) = sym (names_beyond (ev s) (ev t))
  fresh_names ev s None = refl

  pub renamed : {S : Type 0} {least : S} {join : S → S → Option S} {cmp : E → E → Ordering} {cn : N → N → Ordering} {ev : S → List E} → HasEvents least join eq cmp ev
      → ((s : S) → IsStrictlySortedBy cn (map f (ev s))) → HasEvents least join en cn (λ s. map f (ev s))
  renamed {ev = ev} h ascend = record {
    none = ap (map f) h.none;
    ascending = ascend;
    union = λ a b c e. names_unite (ev a) (ev b) (ev c) (h.union a b c e);
    determine = λ a b e. h.determine a b (same_events (ev a) (ev b) e);
  }

-- a part, a map or two parts
abbrev pub RawEvent : Type 0
RawEvent = SideOf PartEvent (SideOf (ℤ × ℤ) (SideOf PartEvent PartEvent))

-- one of these, or a tally
abbrev pub WholeEvent : Type 0
WholeEvent = SideOf RawEvent (ℤ × ℤ)

abbrev pub name_of : RawEvent → Event
name_of (One e) = part_event (pos 0) e
name_of (Two (One e)) = entry_event e
name_of (Two (Two e)) = side_event e

abbrev pub whole_name : WholeEvent → Event
whole_name (One e) = name_of e
whole_name (Two e) = tally_event e

-- the key of a part's event tells the side
abbrev place : ℤ → PartEvent → RawEvent
place k e = cond (int_eq k (pos 0)) (One e) (cond (int_eq k (pos 1)) (Two (Two (One e))) (Two (Two (Two e))))

abbrev by_kind : Kind → ℤ → ℤ → WholeEvent
by_kind Cell k n = One (place k (One n))
by_kind Set k n = One (place k (Two (One n)))
by_kind Max k n = One (place k (Two (Two n)))
by_kind Map k n = One (Two (One (k, n)))
by_kind Tally k n = Two (k, n)

abbrev raw_of : Event → WholeEvent
raw_of e = by_kind e.kind e.key e.number

raw_back : (e : RawEvent) → raw_of (name_of e) ≡ One e
raw_back (One (One n)) = refl
raw_back (One (Two (One n))) = refl
raw_back (Two (Two (One (One n)))) = refl
raw_back (Two (Two (One (Two (One n))))) = refl
raw_back (Two (Two (Two (One n)))) = refl
raw_back (Two (Two (Two (Two (One n))))) = refl
raw_back e = refl

whole_back : (e : WholeEvent) → raw_of (whole_name e) ≡ e
whole_back (One e) = raw_back e
whole_back (Two e) = refl

-- different events have different names
pub whole_apart : (d e : WholeEvent) → whole_name d ≡ whole_name e → d ≡ e
whole_apart d e h = sym (whole_back d) ∙ ap raw_of h ∙ whole_back e

pub apart : (d e : RawEvent) → name_of d ≡ name_of e → d ≡ e
apart d e h = cc (whole_apart (One d) (One e) h)

-- the names of events of one side alone
module _ {X Y N : Type 0} (name : SideOf X Y → N) where
  pub names_of_ones : (xs : List X) → map (λ x. name (One x)) xs ≡ map name (sides xs [])
  names_of_ones [] = refl
  names_of_ones (x ∷ xs) = ap (λ l. name (One x) ∷ l) (names_of_ones xs)

  pub names_of_twos : (ys : List Y) → map (λ y. name (Two y)) ys ≡ map name (sides [] ys)
  names_of_twos [] = refl
  names_of_twos (y ∷ ys) = ap (λ l. name (Two y) ∷ l) (names_of_twos ys)

module _ {X Y : Type 0} where
  -- tests and orders of sides
  abbrev pub sides_eq : (X → X → Bool) → (Y → Y → Bool) → SideOf X Y → SideOf X Y → Bool
  sides_eq ex ey (One x) (One z) = ex x z
  sides_eq ex ey (One x) (Two w) = false
  sides_eq ex ey (Two y) (One z) = false
  sides_eq ex ey (Two y) (Two w) = ey y w

  abbrev pub sides_cmp : (X → X → Ordering) → (Y → Y → Ordering) → SideOf X Y → SideOf X Y → Ordering
  sides_cmp cx cy (One x) (One z) = cx x z
  sides_cmp cx cy (One x) (Two w) = Less
  sides_cmp cx cy (Two y) (One z) = Greater
  sides_cmp cx cy (Two y) (Two w) = cy y w

abbrev pub parts_cmp : PartEvent → PartEvent → Ordering
parts_cmp = sides_cmp int_cmp (sides_cmp int_cmp int_cmp)

-- a function that keeps the order keeps a list ascending
pub rises_by : {X Y : Type 0} (R : X → X → Ordering) (S : Y → Y → Ordering) (f : X → Y) → ((x z : X) → R x z ≡ Less → S (f x) (f z) ≡ Less) → (xs : List X) → IsStrictlySortedBy R xs → IsStrictlySortedBy S (map f xs)
unfolding IsStrictlySortedBy
rises_by R S f keep [] s = tt
rises_by {X} R S f keep (x ∷ xs) s = (all xs s.0, rises_by R S f keep xs s.1)
  where
    all : (ys : List X) → AllByRecursion (λ y. R x y ≡ Less) ys → AllByRecursion (λ y. S (f x) y ≡ Less) (map f ys)
    all [] b = tt
    all (y ∷ ys) b = (keep x y b.0, all ys b.1)

same_key : (k : ℤ) (c : Ordering) → ordering_then (int_cmp k k) c ≡ c
same_key k c = ap (λ o. ordering_then o c) (tied_itself int_cmp_total k)

-- within a part the names are in the order of its events
pub parts_keep : (k : ℤ) (d e : PartEvent) → parts_cmp d e ≡ Less → event_order (part_event k d) (part_event k e) ≡ Less
parts_keep k (One m) (One n) h = same_key k (int_cmp m n) ∙ h
parts_keep k (One m) (Two (One n)) h = same_key k Less
parts_keep k (One m) (Two (Two n)) h = same_key k Less
parts_keep k (Two (One m)) (Two (One n)) h = same_key k (int_cmp m n) ∙ h
parts_keep k (Two (One m)) (Two (Two n)) h = same_key k Less
parts_keep k (Two (Two m)) (Two (Two n)) h = same_key k (int_cmp m n) ∙ h
parts_keep k d e h = absurd (cc h)

pub entries_keep : (d e : ℤ × ℤ) → by_both int_cmp int_cmp d e ≡ Less → event_order (entry_event d) (entry_event e) ≡ Less
entries_keep d e h = h

pub tallies_keep : (d e : ℤ × ℤ) → by_both int_cmp int_cmp d e ≡ Less → event_order (tally_event d) (tally_event e) ≡ Less
tallies_keep d e h = h

first_below : (d e : PartEvent) → event_order (part_event (pos 1) d) (part_event (pos 2) e) ≡ Less
first_below (One m) (One n) = refl
first_below (One m) (Two (One n)) = refl
first_below (Two (One m)) (One n) = refl
first_below (Two (One m)) (Two (One n)) = refl
first_below (Two (Two m)) (One n) = refl
first_below (Two (Two m)) (Two (One n)) = refl
first_below d e = refl

pub sides_keep : (d e : SideOf PartEvent PartEvent) → sides_cmp parts_cmp parts_cmp d e ≡ Less → event_order (side_event d) (side_event e) ≡ Less
sides_keep (One d) (One e) h = parts_keep (pos 1) d e h
sides_keep (One d) (Two e) h = first_below d e
sides_keep (Two d) (One e) h = absurd (cc h)
sides_keep (Two d) (Two e) h = parts_keep (pos 2) d e h
