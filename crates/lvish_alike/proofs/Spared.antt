-- What keeps to the freezes of main, and code that is layered where all its parts are.
use Rattle.std.proofs.Common.{◌≡◌, ◌↔◌, inl, inr, ℕ, ◌+◌, ◌<◌, ◌≤◌, Bool, true, false, List, Option, Some, None, length, get_or, refl, sym, ap, subst, ◌∙◌, arith, Contains}
use Rattle.std.specs.Prelude.{nat_eq, not, is_some, IfSome, IfNone}
use Rattle.std.specs.Option.{option_eq}
use Rattle.std.specs.List.{slice_get}
use Rattle.std.proofs.Math.Nat.{le_trans}
use Rattle.std.proofs.lemmas.Bool.Decides.{Decides-eqb}
use Rattle.std.proofs.lemmas.Bool.{and_parts, cases_lt, both_ways, not-true, not-false}
use Rattle.std.proofs.lemmas.Option.{slice_get_within, slice_get-get_or, slice_get_read}
use borrow.Author.Tests.{ltb-true}
use Rattle.lvish_calculus.proofs.Sound.{some_is}
use Rattle.lvish_code.specs.Flat as flat
use Rattle.lvish_code.specs.Sound.{takes_count, is_instruction_sound}
use Rattle.lvish_code.specs.laws.Lists.{list_all_get}
use Rattle.lvish_task.specs.Vocabulary.{Instruction, Routine, Ask, SkipIfZero, BackUnlessZero, GoOn, Put, Handle, Freeze}
use Rattle.lvish_task.specs.Run.{instructions_in}
use Rattle.lvish_alike.specs.Sought.{IsAt}
use Rattle.lvish_alike.specs.Deciding.{FreezesMarked, IsCalledFrom, IsFirstFreeze, FreezesNone, CallsBefore, WaitsInTime, Spares, WaitsFor, FreezesOneOf, IsFreezeSpared, AreSpared, FreezesWithin, HandlesWithin, AreLayers}
use Rattle.lvish_alike.specs.Parts.{WritesTo, IsWaitedFor, FreezesArePlain, FreezesAreSame, NoWriteBelow}
use Rattle.lvish_alike.proofs.Marks.{below_or_at}
use Rattle.lvish_alike.specs.Layered.{own_of, IsLayered}

-- ---- optional numbers that are compared

pub option_is : (o : Option ℕ) (k : ℕ) → option_eq nat_eq o (Some k) ≡ true → o ≡ Some k
option_is None k e = absurd (cc e)
option_is (Some j) k e = ap Some ((Decides-eqb j k).0 e)

pub is_option_of : (o : Option ℕ) (k : ℕ) → o ≡ Some k → option_eq nat_eq o (Some k) ≡ true
is_option_of o k e = ap (λ o. option_eq nat_eq o (Some k)) e ∙ (Decides-eqb k k).1 refl

-- ---- loops over the instructions of main

module _ (P : ℕ → Instruction → Type 0) (own : List Instruction) where
  -- it holds of all that stand before this place
  abbrev pub AllBefore : ℕ → Type 0
  AllBefore place = (j : ℕ) (n : Instruction) → j < place → slice_get own j ≡ Some n → P j n

  pub all_none : AllBefore 0
  all_none j n lt at = absurd (omega (arith, lt))

  pub all_more : (place : ℕ) (i : Instruction) → place < length own → i ≡ get_or own place i → AllBefore place → P place i → AllBefore (place + 1)
  all_more place i inside is before here j n lt at = elim (below_or_at j place lt) [
    | inl same ↦
        let there : slice_get own place ≡ Some n = subst (λ k. slice_get own k ≡ Some n) same at in
        let e : i ≡ n = some_is (sym (slice_get_read own (length own) place i refl inside is) ∙ there) in
        subst (λ k. P k n) (sym same) (subst (P place) e here)
    | inr less ↦ before j n less at
  ]

  pub all_all : (place : ℕ) → length own ≤ place → AllBefore place → (j : ℕ) (n : Instruction) → slice_get own j ≡ Some n → P j n
  all_all place le before j n at = let lt = slice_get_within own j n at in before j n (omega (arith, lt, le)) at

  -- where it doesn't hold of one, it doesn't of all
  pub not_all : (place : ℕ) (i : Instruction) → place < length own → i ≡ get_or own place i → (P place i → ⊥) → ((j : ℕ) (n : Instruction) → slice_get own j ≡ Some n → P j n) → ⊥
  not_all place i inside is not all = not (all place i (slice_get_read own (length own) place i refl inside is))

module _ (own : List Instruction) (pools : List ℕ) where
  pub spared_each : AreSpared own pools → (j : ℕ) (n : Instruction) → slice_get own j ≡ Some n → IsFreezeSpared own pools j n
  spared_each are j (Ask (Freeze x v ps each)) at = are j v ps (x, each, at)
  spared_each are j n at = tt

  pub each_spared : ((j : ℕ) (n : Instruction) → slice_get own j ≡ Some n → IsFreezeSpared own pools j n) → AreSpared own pools
  each_spared all i v ps (x, each, at) = all i (Ask (Freeze x v ps each)) at

module _ (own : List Instruction) (marks : List Bool) where
  pub freezes_here : (place : ℕ) (i : Instruction) → place < length own → i ≡ get_or own place i → FreezesOneOf marks i → FreezesMarked own marks place
  freezes_here place i inside is (v, e, h) = (i, v, slice_get_read own (length own) place i refl inside is, e, h)

  pub freezes_first : (place : ℕ) (i : Instruction) → place < length own → i ≡ get_or own place i → FreezesOneOf marks i → AllBefore (λ j n. FreezesOneOf marks n → ⊥) own place → IsFirstFreeze own marks place
  freezes_first place i inside is one before = record {
    is = freezes_here place i inside is one;
    first = λ other lt m. before other m.0 lt m.2 (m.1, m.3, m.4);
  }

  pub freezes_never : (place : ℕ) → length own ≤ place → AllBefore (λ j n. FreezesOneOf marks n → ⊥) own place → (other : ℕ) → FreezesMarked own marks other → ⊥
  freezes_never place le before other m = all_all (λ j n. FreezesOneOf marks n → ⊥) own place le before other m.0 m.2 (m.1, m.3, m.4)

-- an instruction that waits for a pool is a freeze
pub waits_is : (n : Instruction) (p : ℕ) → WaitsFor n p → (x : ℕ) × (v : ℕ) × (ps : List ℕ) × (each : Option ℕ) × (n ≡ Ask (Freeze x v ps each)) × Contains ps p
waits_is (Ask (Freeze x v ps each)) p h = (x, v, ps, each, refl, h)
waits_is n p h = absurd h

module _ (own : List Instruction) (pool : ℕ) where
  -- the first freeze that waits for the pool stands at this place
  pub waited_here : (other place : ℕ) (i : Instruction) → other < length own → i ≡ get_or own other i → WaitsFor i pool → other ≤ place → IsWaitedFor own place pool
  waited_here other place i inside is h le =
      let z = waits_is i pool h in
      (other, z.1, z.2, le, (z.0, z.3, slice_get_read own (length own) other i refl inside is ∙ ap Some z.4), z.5)

  pub waited_no_earlier : (other place : ℕ) → AllBefore (λ j n. WaitsFor n pool → ⊥) own other → IsWaitedFor own place pool → other ≤ place
  waited_no_earlier other place before (j, w, qs, le, (x, each, at), has) = elim (cases_lt j other) [
    | inl lt ↦ absurd (before j (Ask (Freeze x w qs each)) lt at has)
    | inr over ↦ omega (arith, over, le)
  ]

  pub waited_never : (other place : ℕ) → length own ≤ other → AllBefore (λ j n. WaitsFor n pool → ⊥) own other → IsWaitedFor own place pool → ⊥
  waited_never other place le before (j, w, qs, less, (x, each, at), has) = all_all (λ j n. WaitsFor n pool → ⊥) own other le before j (Ask (Freeze x w qs each)) at has

-- ---- the first freeze of a marked variable

module _ (own : List Instruction) (marks : List Bool) where
  -- no such freeze is earlier
  not_earlier : (place i : ℕ) → IsFirstFreeze own marks place → FreezesMarked own marks i → place ≤ i
  not_earlier place i first m = elim (cases_lt i place) [ inl lt ↦ absurd (first.first i lt m) | inr le ↦ le ]

  pub none_frozen : (o : Option ℕ) (b : Bool) → is_some o ≡ not b → IfSome o (λ place. IsFirstFreeze own marks place) → IfNone o (FreezesNone own marks) → (b ≡ true) ↔ FreezesNone own marks
  none_frozen None b e some none = ((λ t. none), (λ all. not-false b (sym e)))
  none_frozen (Some place) b e some none = ((λ t. absurd (both_ways _ (not-true b (sym e)) t)), (λ all. absurd (all place some.is)))

  pub called_first : (place k : ℕ) (b : Bool) → IsFirstFreeze own marks place → (b ≡ true) ↔ IsCalledFrom own place k → (not b ≡ true) ↔ CallsBefore own marks k
  called_first place k b first exact = (
    (λ t i m called. both_ways _ (not-true b t) (exact.1 (called.0, called.1, le_trans (not_earlier place i first m) called.2, called.3, called.4))),
    (λ all. by all b refl),
  )
    where
      by : CallsBefore own marks k → (a : Bool) → b ≡ a → not b ≡ true
      by all true e = absurd (all place first.is (exact.0 e))
      by all false e = ap not e

  pub waited_first : (place p : ℕ) (b : Bool) → IsFirstFreeze own marks place → (b ≡ true) ↔ IsWaitedFor own place p → (b ≡ true) ↔ WaitsInTime own marks p
  waited_first place p b first exact = (
    (λ t i m. let z = exact.0 t in (z.0, z.1, z.2, le_trans z.3 (not_earlier place i first m), z.4, z.5)),
    (λ all. exact.1 (all place first.is)),
  )

-- ---- where all keep to the freezes

module _ (pools : List ℕ) (own : List Instruction) where
  -- where all keep to the freezes
  module _ (are : AreSpared own pools) where
    pub spared_plain : FreezesArePlain own
    spared_plain i v ps f = record {
      skip = λ j n o at. are i v ps f j (SkipIfZero o n) at;
      past = λ j n at. are i v ps f j (GoOn n) at;
      back = λ j n o at. are i v ps f j (BackUnlessZero o n) at;
    }

    pub spared_same : FreezesAreSame own
    spared_same i j v ps qs f (x, each, at) = sym (are i v ps f j (Ask (Freeze x v qs each)) at refl)

    pub spared_below : NoWriteBelow own pools
    spared_below i v j ps n f lt at w = by n w (are i v ps f j n at)
      where
        by : (n : Instruction) → WritesTo pools n v → Spares pools i v ps j n → ⊥
        by (Ask (Put u t o)) w s = s lt w
        by (Ask (Handle p k)) w s = s lt w
        by n w s = absurd w

  -- and the other way round
  pub parts_spared : FreezesArePlain own → FreezesAreSame own → NoWriteBelow own pools → AreSpared own pools
  parts_spared plain same below i v ps f j n at = by n at
    where
      by : (n : Instruction) → slice_get own j ≡ Some n → Spares pools i v ps j n
      by (SkipIfZero o n) at = (plain i v ps f).skip j n o at
      by (GoOn n) at = (plain i v ps f).past j n at
      by (BackUnlessZero o n) at = (plain i v ps f).back j n o at
      by (Ask (Freeze x w qs each)) at = λ e. sym (same i j v ps qs f (x, each, at ∙ (λ i. Some (Ask (Freeze x (e i) qs each)))))
      by n at = λ lt w. below i v j ps n f lt at w

-- ---- what is known of all code

module _ (c : flat.Code) where
  main_is : (o : Option Routine) → takes_count 0 o ≡ true → (r : Routine) × (o ≡ Some r)
  main_is None e = absurd (cc e)
  main_is (Some r) e = (r, refl)

  -- main is a routine
  pub main_there : c.main < length c.routines
  main_there = let z = main_is (slice_get c.routines c.main) c.sound.main_takes in slice_get_within c.routines c.main z.0 z.1

  -- an instruction that stands somewhere names what exists
  instruction_known : (k place : ℕ) (i : Instruction) → IsAt c.routines k place i → (n : ℕ) × (is_instruction_sound c.kinds c.pools c.routines n i ≡ true)
  instruction_known k place i at = by (slice_get c.routines k) refl at
    where
      by : (o : Option Routine) → slice_get c.routines k ≡ o → slice_get (instructions_in o) place ≡ Some i → (n : ℕ) × (is_instruction_sound c.kinds c.pools c.routines n i ≡ true)
      by None e at = absurd (cc at)
      by (Some r) e at = (r.locals, list_all_get (is_instruction_sound c.kinds c.pools c.routines r.locals) r.instructions place i (c.sound.routines_sound k r e).instructions at)

  pub freezes_known : FreezesWithin (own_of c) (length c.kinds)
  freezes_known place v ps (x, each, at) =
      let z = instruction_known c.main place (Ask (Freeze x v ps each)) at in
      ltb-true _ _ (and_parts _ _ (and_parts _ _ (and_parts _ _ z.1).0).0).1

  pub pools_listed : HandlesWithin c.routines (length c.pools)
  pools_listed k place p j at = let z = instruction_known k place (Ask (Handle p j)) at in ltb-true _ _ (and_parts _ _ z.1).0

-- ---- all parts

module _ (c : flat.Code) where
  pub layers_exact : AreLayers (own_of c) c.pools c.main c.routines ↔ IsLayered c
  layers_exact = (
    (λ l. record {
      alone = l.1.0;
      once = l.1.1;
      plain = spared_plain c.pools (own_of c) l.0;
      same = spared_same c.pools (own_of c) l.0;
      below = spared_below c.pools (own_of c) l.0;
      called = l.2;
      free = l.3;
      pooled = l.4;
    }),
    (λ ly. (parts_spared c.pools (own_of c) ly.plain ly.same ly.below, (ly.alone, ly.once), ly.called, ly.free, ly.pooled)),
  )

  module _ (own : List Instruction) (pools : List ℕ) (main : ℕ) (routines : List Routine) (p : pools ≡ c.pools) (m : main ≡ c.main) (r : routines ≡ c.routines) where
    pub there_in : main < length routines
    there_in = subst (λ k. k < length routines) (sym m) (subst (λ rs. c.main < length rs) (sym r) (main_there c))

    pub listed_in : HandlesWithin routines (length pools)
    listed_in = subst (λ ps. HandlesWithin routines (length ps)) (sym p) (subst (λ rs. HandlesWithin rs (length c.pools)) (sym r) (pools_listed c))

    pub own_in : (d : Routine) → own ≡ (get_or routines main d).instructions → own ≡ own_of c
    own_in d e = e ∙ sym (ap instructions_in (slice_get-get_or routines main d there_in)) ∙ ap (λ rs. instructions_in (slice_get rs main)) r ∙ ap (λ k. instructions_in (slice_get c.routines k)) m

    pub known_in : (d : Routine) (variables : ℕ) → own ≡ (get_or routines main d).instructions → variables ≡ length c.kinds → FreezesWithin own variables
    known_in d variables e v = subst (FreezesWithin own) (sym v) (subst (λ is. FreezesWithin is (length c.kinds)) (sym (own_in d e)) (freezes_known c))

    pub exact_in : (d : Routine) (b : Bool) → own ≡ (get_or routines main d).instructions → (b ≡ true) ↔ AreLayers own pools main routines → (b ≡ true) ↔ IsLayered c
    exact_in d b e z =
        let first = subst (λ is. (b ≡ true) ↔ AreLayers is pools main routines) (own_in d e) z in
        let second = subst (λ ps. (b ≡ true) ↔ AreLayers (own_of c) ps main routines) p first in
        let third = subst (λ k. (b ≡ true) ↔ AreLayers (own_of c) c.pools k routines) m second in
        let whole = subst (λ rs. (b ≡ true) ↔ AreLayers (own_of c) c.pools c.main rs) r third in
        ((λ t. layers_exact.0 (whole.0 t)), (λ ly. whole.1 (layers_exact.1 ly)))
