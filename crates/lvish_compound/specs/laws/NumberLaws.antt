-- Reads by numbers of a cell, a set, a counter, and of a part that is one of them: when they are checked, and what they answer.
use Rattle.std.specs.Prelude.{◌≡◌, ◌↔◌, ℕ, ℤ, pos, negsuc, Bool, true, false, cond, nat_le, List, [], ◌∷◌, Option, Some, None, Contains, is_some, refl, option_map}
use Rattle.std.proofs.Common.{sym, ◌∙◌, ap, subst, inl, ⊎_elim}
use Rattle.std.proofs.Math.Bool.{or-false}
use Rattle.std.specs.List.{list_all}
use Rattle.std.proofs.lemmas.List.Sums.{AllPass-from_list_all}
use Rattle.std.specs.Ordering.{int_eq}
use Rattle.std.specs.Set.{is_member}
use Rattle.std.proofs.lemmas.Cmp.{int_cmp_total, int_eq_equiv}
use Rattle.lvish_compound.specs.Vocabulary.{Flat, Bottom, Value, MaxCounter, Test, Kind, Part, Empty, Set, Max, HIGHEST_LEVEL}
use Rattle.lvish_lattice.specs.declared.flat.FlatRead.{FlatRead}
use Rattle.lvish_lattice.specs.declared.flat.FlatRead.TheVariants as flat_read
use Rattle.lvish_lattice.specs.Flat as flat
use Rattle.lvish_lattice.specs.laws.FlatLaws.{flat_checked, flat_answers}
use Rattle.lvish_lattice.specs.GrowSet as set
use Rattle.lvish_lattice.specs.Lattice.{IsAtOrBelow, Answers, IsChecked, IsAnswered}
use Rattle.lvish_lattice.specs.Listed.{found, found_one, first_contained, only_contained}
use Rattle.lvish_lattice.specs.MaxCounter as max
use Rattle.lvish_lattice.specs.MaxCounter.{level}
use Rattle.lvish_lattice.specs.laws.MaxCounterLaws.{reaches}
use Rattle.lvish_lattice.specs.laws.MembersLaws.{never_top, below_has, has_below}
use Rattle.lvish_lattice.specs.Plain.{int_identical}
use Rattle.lvish_compound.specs.declared.number_test.Test.TheVariants.{Any, In, At}
use Rattle.lvish_compound.specs.declared.part.Part.TheVariants as part
use Rattle.lvish_compound.specs.Numbers.{max_of, max_by, Waits, StandsFor, ByNumber, HasOne, is_level, all_pass, are_levels, cell_answer, first_that, is_reached}
use Rattle.lvish_compound.specs.Held.{HeldState, held}
use Rattle.lvish_compound.specs.States.{singleton}
use Rattle.std.proofs.lemmas.Option.{cond_some, none-some, same_Some}
use Rattle.lvish_compound.specs.declared.kind.Kind.TheVariants as kind
use Rattle.lvish_compound.specs.laws.Embedded.{kind_embedded, image_of_one, checked_there, answered_same}
use Rattle.lvish_compound.specs.laws.PartLaws.{OfCell, OfSet, OfMax, part_one_of}
use Rattle.lvish_compound.specs.Parts.{of_cell, joined}
use Rattle.lvish_compound.specs.Places.{IsApart, fits_kind}
use Rattle.lvish_compound.specs.StateReads.{part_answer}

abbrev pub cell_at : ℤ → Option (Flat ℤ)
cell_at n = Some (Value n)

abbrev flat_of : Test → FlatRead ℤ
flat_of Any = flat_read.Any
flat_of (In xs) = flat_read.In xs
flat_of (At n) = flat_read.In (n ∷ [])

to_flat : (t : Test) (s : Flat ℤ) (n : ℤ) → ByNumber t (StandsFor cell_at) s n → flat.Member (flat_of t) s n
to_flat Any s n m = subst (λ x. flat.Member flat_read.Any x n) (same_Some (Value n) s m.1) refl
to_flat (In xs) s n m = subst (λ x. flat.Member (flat_read.In xs) x n) (same_Some (Value n) s m.1) (refl, m.0)
to_flat (At k) s n m = subst (λ x. flat.Member (flat_read.In (k ∷ [])) x n) (same_Some (Value n) s m.1) (refl, subst (λ x. Contains (k ∷ []) x) m.0 (first_contained k []))

from_flat : (t : Test) (s : Flat ℤ) (n : ℤ) → flat.Member (flat_of t) s n → ByNumber t (StandsFor cell_at) s n
from_flat t Bottom n m = absurd m
from_flat Any (Value x) n m = (tt, ap (λ (v : ℤ). Some (Value v)) (sym m))
from_flat (In xs) (Value x) n m = (subst (λ v. Contains xs v) m.0 m.1, ap (λ (v : ℤ). Some (Value v)) (sym m.0))
from_flat (At k) (Value x) n m = (only_contained k x m.1 ∙ m.0, ap (λ (v : ℤ). Some (Value v)) (sym m.0))

pub cells_checked : (t : Test) → IsChecked (flat.joined int_eq) (ByNumber t (StandsFor cell_at))
cells_checked t m n a b p q = flat_checked int_eq int_identical int_eq_equiv (flat_of t) m n a b (to_flat t m a p) (to_flat t n b q)

same_answer : (t : Test) (s : Flat ℤ) → flat.answer_of int_eq (flat_of t) s ≡ cell_answer t s
same_answer t Bottom = refl
same_answer Any (Value n) = refl
same_answer (In xs) (Value n) = refl
same_answer (At k) (Value n) = ap (λ b. cond b (Some n) None) (or-false (int_eq n k) ∙ int_eq_equiv.symm n k)

pub cells_answer : (t : Test) → IsAnswered (flat.joined int_eq) (ByNumber t (StandsFor cell_at)) (cell_answer t)
cells_answer t s a =
    let law = flat_answers int_eq int_identical int_eq_equiv (flat_of t) (flat_checked int_eq int_identical int_eq_equiv (flat_of t)) s a in
    (λ e. let m = law.0 (same_answer t s ∙ e) in (m.0, from_flat t m.0 a m.1, m.2), λ m. sym (same_answer t s) ∙ law.1 (m.0, to_flat t m.0 a m.1, m.2))

-- a read by a test that passes exactly where a member is at or below the state
module _ {S : Type 0} (join : S → S → Option S) (at : ℤ → S → Type 0) (t : Test) (one : HasOne t) (s : S) (passes : ℤ → Bool)
    (below : (n : ℤ) → Waits t n → passes n ≡ true → (m : S) × at n m × IsAtOrBelow join m s) (reached : (n : ℤ) (m : S) → at n m → IsAtOrBelow join m s → passes n ≡ true) where
  pub first_answers : (n : ℤ) → (first_that passes t ≡ Some n) ↔ Answers join (ByNumber t at) s n
  first_answers n = by_test t below one
    where
      by_test : (t : Test) → ((n : ℤ) → Waits t n → passes n ≡ true → (m : S) × at n m × IsAtOrBelow join m s) → HasOne t → (first_that passes t ≡ Some n) ↔ Answers join (ByNumber t at) s n
      by_test Any below one = absurd one
      by_test (In xs) below one = (
        λ h.
            let f : Contains xs n × (passes n ≡ true) = found passes xs n h in
            let m : (m : S) × at n m × IsAtOrBelow join m s = below n f.0 f.1 in
            (m.0, (f.0, m.1), m.2),
        λ m. found_one passes xs n m.1.0 (λ y c. one y n c m.1.0) (reached n m.0 m.1.1 m.2),
      )
      by_test (At k) below one = (
        λ h.
            let f : (passes k ≡ true) × (k ≡ n) = cond_some (passes k) k n h in
            let m : (m : S) × at n m × IsAtOrBelow join m s = below n f.1 (ap passes (sym f.1) ∙ f.0) in
            (m.0, (f.1, m.1), m.2),
        λ m. ap (λ b. cond b (Some k) None) (ap passes m.1.0 ∙ reached n m.0 m.1.1 m.2) ∙ ap (λ (v : ℤ). Some v) m.1.0,
      )

zero_is_not_one : pos 0 ≡ pos 1 → ⊥
zero_is_not_one h = cc

-- Where numbers stand for states of which no two join to top, a read is checked exactly where it waits for one number alone.
module _ {S : Type 0} (join : S → S → Option S) (at : ℤ → S → Type 0) (HeldState : ℤ → Type 0) (held : (n : ℤ) → HeldState n → (s : S) × at n s) (meet : (m n : ℤ) (h : HeldState m) (k : HeldState n) → join (held m h).0 (held n k).0 ≡ None → ⊥) where
  two_same : (t : Test) → IsChecked join (ByNumber t at) → (m n : ℤ) → HeldState m → HeldState n → Waits t m → Waits t n → m ≡ n
  two_same t checked m n h k v w = ⊎_elim (λ e. e) (λ e. absurd (meet m n h k e)) (checked (held m h).0 (held n k).0 m n (v, (held m h).1) (w, (held n k).1))

  pub checked_by_one : (t : Test) → HeldState (pos 0) → HeldState (pos 1) → ((xs : List ℤ) → t ≡ In xs → (n : ℤ) → Contains xs n → HeldState n) → HasOne t ↔ IsChecked join (ByNumber t at)
  checked_by_one Any a b listed = (λ h. absurd h, λ h. zero_is_not_one (two_same Any h (pos 0) (pos 1) a b tt tt))
  checked_by_one (In xs) a b listed = (λ h x y m n v w. inl (h m n v.0 w.0), λ h m n v w. two_same (In xs) h m n (listed xs refl m v) (listed xs refl n w) v w)
  checked_by_one (At k) a b listed = (λ h x y m n v w. inl (sym v.0 ∙ w.0), λ h. tt)

pub all_of : (test : ℤ → Bool) (xs : List ℤ) (n : ℤ) → list_all test xs ≡ true → Contains xs n → test n ≡ true
all_of test xs n h c = ap test (sym c.2) ∙ AllPass-from_list_all test xs h c.0 n c.1

-- a number that is waited for passes where all of them pass
pub all_waited : (test : ℤ → Bool) (t : Test) → HasOne t → all_pass test t ≡ true → (n : ℤ) → Waits t n → test n ≡ true
all_waited test Any one h n w = absurd one
all_waited test (In xs) one h n w = all_of test xs n h w
all_waited test (At k) one h n w = ap test (sym w) ∙ h

abbrev pub set_at : ℤ → Option (HeldState part.Set)
set_at n = Some (singleton n)

sets_below : (s : HeldState part.Set) (n : ℤ) (m : HeldState part.Set) → set_at n ≡ Some m → (is_member int_eq (set.items_of s) n ≡ true) ↔ IsAtOrBelow set.joined m s
sets_below s n m e =
    let is : set.items_of m ≡ n ∷ [] = ap set.items_of (sym (same_Some _ _ e)) in
    (below_has int_cmp_total int_eq (λ x y. refl) int_identical m s n is, has_below int_cmp_total int_eq (λ x y. refl) int_identical m s n is)

pub sets_one : (t : Test) → HasOne t ↔ IsChecked set.joined (ByNumber t (StandsFor set_at))
sets_one t = checked_by_one set.joined (StandsFor set_at) (λ _. Unit {0}) (λ n _. (singleton n, refl)) (λ m n _ _. never_top int_cmp_total (singleton m) (singleton n)) t tt tt (λ _ _ _ _. tt)

pub sets_answers : (t : Test) → IsChecked set.joined (ByNumber t (StandsFor set_at)) → IsAnswered set.joined (ByNumber t (StandsFor set_at)) (λ s. first_that (is_member int_eq (set.items_of s)) t)
sets_answers t checked s n =
    first_answers set.joined (StandsFor set_at) t ((sets_one t).1 checked) s (is_member int_eq (set.items_of s)) (λ n w h. (singleton n, refl, (sets_below s n (singleton n) refl).0 h)) (λ n m e. (sets_below s n m e).1) n

number_by : (n : ℕ) (b : Bool) (e : nat_le n HIGHEST_LEVEL ≡ b) (c : MaxCounter) → max_by n b e ≡ Some c → level c ≡ n
number_by n true e c h = sym (ap level (same_Some _ _ h))
number_by n false e c h = absurd cc

-- the counter made from a number holds that number
pub number_of_max : (n : ℤ) (c : MaxCounter) → max_of n ≡ Some c → max.number_of c ≡ n
number_of_max (pos n) c h = ap pos (number_by n (nat_le n HIGHEST_LEVEL) refl c h)
number_of_max (negsuc n) c h = absurd cc

maxes_below : (s : MaxCounter) (n : ℤ) (m : MaxCounter) → max_of n ≡ Some m → (is_reached (max.number_of s) n ≡ true) ↔ IsAtOrBelow max.joined m s
maxes_below s n m e =
    let same : is_reached (max.number_of s) n ≡ nat_le (level m) (level s) = ap (is_reached (max.number_of s)) (sym (number_of_max n m e)) in (
      (λ h. (reaches m s).1 (sym same ∙ h)),
      λ h. same ∙ (reaches m s).0 h,
    )

is_there : (o : Option MaxCounter) → is_some o ≡ true → (c : MaxCounter) × (o ≡ Some c)
is_there (Some c) e = (c, refl)
is_there None e = absurd cc

abbrev IsLevel : ℤ → Type 0
IsLevel n = is_level n ≡ true

level_of : (n : ℤ) → IsLevel n → (c : MaxCounter) × (max_of n ≡ Some c)
level_of n h = is_there (max_of n) h

pub maxes_one : (t : Test) → are_levels t ≡ true → HasOne t ↔ IsChecked max.joined (ByNumber t (StandsFor max_of))
maxes_one t levels = checked_by_one max.joined (StandsFor max_of) IsLevel level_of (λ m n h k e. none-some _ (sym e)) t refl refl (λ xs e n c. all_of is_level xs n (ap are_levels (sym e) ∙ levels) c)

pub maxes_answers : (t : Test) → are_levels t ≡ true → IsChecked max.joined (ByNumber t (StandsFor max_of)) → IsAnswered max.joined (ByNumber t (StandsFor max_of)) (λ c. first_that (is_reached (max.number_of c)) t)
maxes_answers t levels checked c n =
    let one : HasOne t = (maxes_one t levels).1 checked in
    let level : (n : ℤ) → Waits t n → (m : MaxCounter) × (max_of n ≡ Some m) = λ n w. level_of n (all_waited is_level t one levels n w) in
    first_answers max.joined (StandsFor max_of) t one c (is_reached (max.number_of c)) (λ n w h. ((level n w).0, (level n w).1, (maxes_below c n (level n w).0 (level n w).1).0 h)) (λ n m e. (maxes_below c n m e).1) n

abbrev pub of_set : HeldState Set → Part
of_set s = held Set Empty s

abbrev pub of_max : MaxCounter → Part
of_max c = held Max Empty c

-- the part that a number stands for
abbrev pub part_at : Kind → ℤ → Option Part
part_at kind.Cell n = option_map of_cell (cell_at n)
part_at kind.Set n = option_map of_set (set_at n)
part_at kind.Max n = option_map of_max (max_of n)
part_at l n = None

pub either_way : {A B C : Type 0} → A ↔ B → B ↔ C → A ↔ C
either_way f g = (λ a. g.0 (f.0 a), λ c. f.1 (g.1 c))

pub parts_checked : (l : Kind) (t : Test) → fits_kind l t ≡ true → IsApart l t ↔ IsChecked joined (ByNumber t (StandsFor (part_at l)))
parts_checked kind.Cell t h = (λ _. (checked_there (kind_embedded part_one_of OfCell) (image_of_one t cell_at (part_at kind.Cell) (λ n. refl))).0 (cells_checked t), λ _. tt)
parts_checked kind.Set t h = either_way (sets_one t) (checked_there (kind_embedded part_one_of OfSet) (image_of_one t set_at (part_at kind.Set) (λ n. refl)))
parts_checked kind.Max t h = either_way (maxes_one t h) (checked_there (kind_embedded part_one_of OfMax) (image_of_one t max_of (part_at kind.Max) (λ n. refl)))
parts_checked l t h = absurd cc

pub parts_answer : (l : Kind) (t : Test) → fits_kind l t ≡ true → IsChecked joined (ByNumber t (StandsFor (part_at l))) → IsAnswered joined (ByNumber t (StandsFor (part_at l))) (part_answer l t)
parts_answer kind.Cell t h = answered_same (kind_embedded part_one_of OfCell) (image_of_one t cell_at (part_at kind.Cell) (λ n. refl)) _ (λ _. cells_answer t)
parts_answer kind.Set t h = answered_same (kind_embedded part_one_of OfSet) (image_of_one t set_at (part_at kind.Set) (λ n. refl)) _ (sets_answers t)
parts_answer kind.Max t h = answered_same (kind_embedded part_one_of OfMax) (image_of_one t max_of (part_at kind.Max) (λ n. refl)) _ (maxes_answers t h)
parts_answer l t h = absurd cc
