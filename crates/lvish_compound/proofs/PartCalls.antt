-- What comparing, merging and fresh events are on parts.
use Rattle.std.proofs.Common.{◌≡◌, ◌↔◌, ℤ, pos, Bool, true, false, not, IsTrue, List, [], ◌∷◌, map, filter, refl, sym, ◌∙◌, ap}
use Rattle.std.specs.Set.{is_member}
use Rattle.std.specs.Ordering.{int_eq}
use Rattle.std.proofs.lemmas.Cmp.{int_cmp_total, int_eq_equiv}
use Rattle.lvish_lattice.specs.Lattice.{IsAtOrBelow, IsOutcome, fresh_of, renamed}
use Rattle.lvish_lattice.specs.declared.brought.Brought.{Brought}
use Rattle.lvish_compound.specs.Vocabulary.{MaxCounter, Part, Empty, Set, Max, SideOf, One, Two}
use Rattle.lvish_lattice.specs.GrowSet as set
use Rattle.lvish_lattice.specs.MaxCounter as max
use Rattle.lvish_compound.specs.declared.kind.Kind.TheVariants as kind
use Rattle.lvish_compound.specs.EventNames.{part_event, number_event}
use Rattle.lvish_compound.specs.Held.{HeldState, held, held_agrees}
use Rattle.lvish_compound.proofs.Carried.{carried_leq, carried_fresh, carried_outcome, held_carried, none_beyond, all_beyond}
use Rattle.lvish_compound.specs.Parts.{joined, events_of, set_in, max_in}
use Rattle.lvish_compound.specs.laws.PartLaws.{OfSet, OfMax, inside, sets_identical, maxes_identical, part_is_join, ties}
use Rattle.lvish_compound.specs.Pair.{sides}
use Rattle.lvish_compound.specs.laws.PairLaws.{sides_beyond}
use Rattle.lvish_compound.specs.laws.Pointwise.{right_unit}

pub sets_leq : (t : Bool) (s r : Part) (x z : _) (p q : HeldState Set) → s ≡ Set x → r ≡ Set z → p ≡ x.state → q ≡ z.state → IsTrue t ↔ IsAtOrBelow set.joined p q → IsTrue t ↔ IsAtOrBelow joined s r
sets_leq = carried_leq (held_carried Set Empty joined (λ x z. refl)) set_in (inside OfSet)

pub maxes_leq : (t : Bool) (s r : Part) (x z : _) (p q : MaxCounter) → s ≡ Max x → r ≡ Max z → p ≡ x.state → q ≡ z.state → IsTrue t ↔ IsAtOrBelow max.joined p q → IsTrue t ↔ IsAtOrBelow joined s r
maxes_leq = carried_leq (held_carried Max Empty joined (λ x z. refl)) max_in (inside OfMax)

-- the numbers of a set, named as events of a part
pub set_names : (xs : List ℤ) → map (number_event kind.Set) xs ≡ map (part_event (pos 0)) (sides [] (sides xs []))
set_names [] = refl
set_names (x ∷ xs) = ap (λ l. number_event kind.Set x ∷ l) (set_names xs)

-- the numbers of a counter, named as events of a part
pub max_names : (xs : List ℤ) → map (number_event kind.Max) xs ≡ map (part_event (pos 0)) (sides [] (sides [] xs))
max_names [] = refl
max_names (x ∷ xs) = ap (λ l. number_event kind.Max x ∷ l) (max_names xs)

-- what a put of one element brings to a set
pub element_fresh : (old put : HeldState Set) (x : ℤ) → set.items_of put ≡ x ∷ [] → filter (λ n. not (is_member int_eq (set.items_of old) n)) (x ∷ []) ≡ fresh_of set.joined int_eq set.items_of old put
element_fresh old put x only = ap (λ xs. filter (λ n. not (is_member int_eq (set.items_of old) n)) xs) (sym only) ∙ sym (set.set_fresh int_cmp_total int_eq (λ x y. refl) ties old put)

-- a test of events by their kinds
pub record IsByKind (eq : SideOf ℤ (SideOf ℤ ℤ) → SideOf ℤ (SideOf ℤ ℤ) → Bool) : Type 0 where
  pub cells : (x z : ℤ) → eq (One x) (One z) ≡ int_eq x z
  pub sets : (x z : ℤ) → eq (Two (One x)) (Two (One z)) ≡ int_eq x z
  pub maxes : (x z : ℤ) → eq (Two (Two x)) (Two (Two z)) ≡ int_eq x z
  pub one_two : (x : ℤ) (y : SideOf ℤ ℤ) → eq (One x) (Two y) ≡ false
  pub two_one : (x : ℤ) (y : SideOf ℤ ℤ) → eq (Two y) (One x) ≡ false
  pub set_max : (x y : ℤ) → eq (Two (One x)) (Two (Two y)) ≡ false
  pub max_set : (x y : ℤ) → eq (Two (Two y)) (Two (One x)) ≡ false

module _ (eq : SideOf ℤ (SideOf ℤ ℤ) → SideOf ℤ (SideOf ℤ ℤ) → Bool) (k : IsByKind eq) where
  event_itself : (e : SideOf ℤ (SideOf ℤ ℤ)) → eq e e ≡ true
  event_itself (One x) = k.cells x x ∙ int_eq_equiv.refl x
  event_itself (Two (One x)) = k.sets x x ∙ int_eq_equiv.refl x
  event_itself (Two (Two x)) = k.maxes x x ∙ int_eq_equiv.refl x

  abbrev inner : SideOf ℤ ℤ → SideOf ℤ ℤ → Bool
  inner x z = eq (Two x) (Two z)

  outer : (xs zs : List (SideOf ℤ ℤ)) → filter (λ n. not (is_member eq (sides [] xs) n)) (sides [] zs) ≡ sides [] (filter (λ e. not (is_member inner xs e)) zs)
  outer xs zs = sides_beyond int_eq inner eq k.cells (λ x z. refl) k.one_two k.two_one [] [] xs zs

  abbrev as_set : List ℤ → List (SideOf ℤ (SideOf ℤ ℤ))
  as_set xs = sides [] (sides xs [])

  abbrev as_max : List ℤ → List (SideOf ℤ (SideOf ℤ ℤ))
  as_max xs = sides [] (sides [] xs)

  set_beyond : (xs zs : List ℤ) → filter (λ n. not (is_member eq (as_set xs) n)) (as_set zs) ≡ as_set (filter (λ e. not (is_member int_eq xs e)) zs)
  set_beyond xs zs = outer (sides xs []) (sides zs []) ∙ ap (λ l. sides [] l) (sides_beyond int_eq int_eq inner k.sets k.maxes k.set_max k.max_set xs zs [] [])

  max_beyond : (xs zs : List ℤ) → filter (λ n. not (is_member eq (as_max xs) n)) (as_max zs) ≡ as_max (filter (λ e. not (is_member int_eq xs e)) zs)
  max_beyond xs zs = outer (sides [] xs) (sides [] zs) ∙ ap (λ l. sides [] l) (sides_beyond int_eq int_eq inner k.sets k.maxes k.set_max k.max_set [] [] xs zs)

  set_wraps : (s : HeldState Set) → events_of (held Set Empty s) ≡ as_set (set.items_of s)
  set_wraps = held_agrees Set sets_identical Empty events_of (λ s. as_set (set.items_of s)) refl (λ x. refl)

  max_wraps : (s : MaxCounter) → events_of (held Max Empty s) ≡ as_max (max.events_of s)
  max_wraps = held_agrees Max maxes_identical Empty events_of (λ s. as_max (max.events_of s)) refl (λ x. refl)

  pub sets_fresh : (xs : List ℤ) (s r : Part) (x z : _) (p q : HeldState Set) → s ≡ Set x → r ≡ Set z → p ≡ x.state → q ≡ z.state → xs ≡ fresh_of set.joined int_eq set.items_of p q → sides [] (sides xs []) ≡ fresh_of joined eq events_of s r
  sets_fresh = carried_fresh (held_carried Set Empty joined (λ x z. refl)) int_eq set.items_of eq events_of as_set refl set_beyond set_wraps

  pub maxes_fresh : (xs : List ℤ) (s r : Part) (x z : _) (p q : MaxCounter) → s ≡ Max x → r ≡ Max z → p ≡ x.state → q ≡ z.state → xs ≡ fresh_of max.joined int_eq max.events_of p q → sides [] (sides [] xs) ≡ fresh_of joined eq events_of s r
  maxes_fresh = carried_fresh (held_carried Max Empty joined (λ x z. refl)) int_eq max.events_of eq events_of as_max refl max_beyond max_wraps

  -- what a set or a counter was brought, named as events of a part that holds it
  pub set_outcome : (s r u : Part) (x z new : _) → s ≡ Set x → r ≡ Set z → u ≡ Set new → (t : Brought ℤ) → IsOutcome (set.joined x.state z.state) (fresh_of set.joined int_eq set.items_of x.state z.state) x.state new.state t
      → IsOutcome (joined s r) (map (part_event (pos 0)) (fresh_of joined eq events_of s r)) s u (renamed (number_event kind.Set) t)
  set_outcome s r u x z new es er eu t m = rw eu (carried_outcome (held_carried Set Empty joined (λ x z. refl)) (number_event kind.Set) s r x z new (fresh_of set.joined int_eq set.items_of x.state z.state) (map (part_event (pos 0)) (fresh_of joined eq events_of s r)) es er
      (set_names _ ∙ ap (map (part_event (pos 0))) (sets_fresh _ s r x z _ _ es er refl refl refl)) t m)

  pub max_outcome : (s r u : Part) (x z new : _) → s ≡ Max x → r ≡ Max z → u ≡ Max new → (t : Brought ℤ) → IsOutcome (max.joined x.state z.state) (fresh_of max.joined int_eq max.events_of x.state z.state) x.state new.state t
      → IsOutcome (joined s r) (map (part_event (pos 0)) (fresh_of joined eq events_of s r)) s u (renamed (number_event kind.Max) t)
  max_outcome s r u x z new es er eu t m = rw eu (carried_outcome (held_carried Max Empty joined (λ x z. refl)) (number_event kind.Max) s r x z new (fresh_of max.joined int_eq max.events_of x.state z.state) (map (part_event (pos 0)) (fresh_of joined eq events_of s r)) es er
      (max_names _ ∙ ap (map (part_event (pos 0))) (maxes_fresh _ s r x z _ _ es er refl refl refl)) t m)

  pub first_fresh : (s r : Part) → s ≡ Empty → events_of r ≡ fresh_of joined eq events_of s r
  first_fresh s r e = all_beyond eq (events_of r) ∙ ap (λ (v : Part). fresh_of joined eq events_of v r) (sym e)

  pub nothing_fresh : (s r : Part) → r ≡ Empty → [] ≡ fresh_of joined eq events_of s r
  nothing_fresh s r e = none_beyond eq event_itself events_of s (joined s r) (ap (joined s) e ∙ right_unit part_is_join s)
