-- What tasks write to, and whether it comes in time, from marks.
use Rattle.std.proofs.Common.{◌≡◌, inl, inr, ℕ, suc, ◌+◌, ◌<◌, ◌≤◌, Bool, true, false, List, [], ◌∷◌, Option, Some, None, if◌then◌else◌, length, refl, sym, ap, subst, ◌∙◌, arith}
use Rattle.std.specs.Prelude.{nat_eq}
use Rattle.std.specs.List.{slice_get, filter_map, cons_option}
use Rattle.lvish_calculus.specs.Handing.{IsAmong}
use Rattle.lvish_calculus.proofs.Names.{nat_eq-true, nat_eq-refl}
use Rattle.lvish_calculus.proofs.Sound.{some_is}
use Rattle.lvish_task.specs.Vocabulary.{Instruction, Routine, Ask, Put, Handle, Freeze}
use Rattle.lvish_task.specs.Run.{instructions_in}
use Rattle.lvish_alike.specs.Reaching.{Leads, at_once, further}
use Rattle.lvish_alike.specs.Sought.{instruction_names, instruction_calls, instruction_forks, instruction_stays, instruction_handles, instruction_freezes, instruction_writes, given_by, AreReached, AreLed, AreGiven}
use Rattle.lvish_alike.specs.Deciding.{FreezesMarked, FreezesNone, CallsBefore, WaitsInTime, FreezesWithin, AreWritten, HandlesWithin}
use Rattle.lvish_alike.specs.Parts.{RunsInPool, WritesTo, HasWrite, IsFreeze, IsWaitedFor, NoCallBelow, NoFreeWrite, PoolWritesAreOver}
use Rattle.lvish_alike.proofs.Marks.{given_within, below_or_at}
use Rattle.lvish_alike.proofs.Tasks.{given_at}

-- ---- what instructions give, and where they stand

given_stands : (f : Instruction → Option ℕ) (is : List Instruction) (k : ℕ) → IsAmong k (filter_map f is) → (place : ℕ) × (i : Instruction) × (slice_get is place ≡ Some i) × (f i ≡ Some k)
given_stands f [] k a = absurd a
given_stands f (i ∷ is) k a = by (f i) refl (given_stands f is k) a
  where
    by : (o : Option ℕ) → f i ≡ o → (IsAmong k (filter_map f is) → (place : ℕ) × (j : Instruction) × (slice_get is place ≡ Some j) × (f j ≡ Some k)) → IsAmong k (cons_option o (filter_map f is))
        → (place : ℕ) × (j : Instruction) × (slice_get (i ∷ is) place ≡ Some j) × (f j ≡ Some k)
    by None e rest a = let z = rest a in (suc z.0, z.1, z.2, z.3)
    by (Some h) e rest (inl same) = (0, i, refl, e ∙ ap Some (sym same))
    by (Some h) e rest (inr a) = let z = rest a in (suc z.0, z.1, z.2, z.3)

writes_is : (pools : List ℕ) (i : Instruction) (v : ℕ) → WritesTo pools i v → instruction_writes pools i ≡ Some v
writes_is pools (Ask (Put w t o)) v same = ap Some same
writes_is pools (Ask (Handle p k)) v e = e
writes_is pools i v w = absurd w

is_writes : (pools : List ℕ) (i : Instruction) (v : ℕ) → instruction_writes pools i ≡ Some v → WritesTo pools i v
is_writes pools (Ask (Put w t o)) v e = some_is e
is_writes pools (Ask (Handle p k)) v e = e
is_writes pools i v e = absurd (cc e)

module _ (pools : List ℕ) (routines : List Routine) (k v : ℕ) where
  write_given : HasWrite pools routines k v → IsAmong v (given_by (instruction_writes pools) routines k)
  write_given (place, i, at, w) = given_at (instruction_writes pools) (instructions_in (slice_get routines k)) place i v at (writes_is pools i v w)

  given_write : IsAmong v (given_by (instruction_writes pools) routines k) → HasWrite pools routines k v
  given_write a = let z = given_stands (instruction_writes pools) (instructions_in (slice_get routines k)) v a in (z.0, z.1, z.2, is_writes pools z.1 v z.3)

handles_is : (p : ℕ) (i : Instruction) (j : ℕ) → instruction_handles p i ≡ Some j → i ≡ Ask (Handle p j)
handles_is p (Ask (Handle q k)) j e = by (nat_eq q p) refl e
  where
    by : (b : Bool) → nat_eq q p ≡ b → (if b then Some k else None) ≡ Some j → ◌≡◌ {A = Instruction} (Ask (Handle q k)) (Ask (Handle p j))
    by true t e = let same : q ≡ p = nat_eq-true q p t in let to : k ≡ j = some_is e in (λ i. Ask (Handle (same i) (to i)))
    by false t e = absurd (cc e)
handles_is p i j e = absurd (cc e)

handles_itself : (p j : ℕ) → instruction_handles p (Ask (Handle p j)) ≡ Some j
handles_itself p j = ap (λ b. if b then Some j else None) (nat_eq-refl p)

freezes_is : (i : Instruction) (v : ℕ) → instruction_freezes i ≡ Some v → (x : ℕ) × (ps : List ℕ) × (each : Option ℕ) × (i ≡ Ask (Freeze x v ps each))
freezes_is (Ask (Freeze x w ps each)) v e = let same : w ≡ v = some_is e in (x, ps, each, (λ i. Ask (Freeze x (same i) ps each)))
freezes_is i v e = absurd (cc e)

-- what leads to a routine that gives something is a routine
led_within : (routines : List Routine) (g : Instruction → Option ℕ) (j : ℕ) (h : Instruction → Option ℕ) (k v : ℕ) → Leads (given_by g routines) j k → IsAmong v (given_by h routines k) → j < length routines
led_within routines g j h k v at_once a = given_within h routines k v a
led_within routines g j h k v (further {j = i} l b) a = led_within routines g j g i k l b

-- ---- what tasks write to

module _ (f : Instruction → Option ℕ) (pools : List ℕ) (routines : List Routine) (marks : List Bool) (variables : ℕ) (started run written : List Bool) where
  pub are_written : AreGiven f routines marks (length routines) started → AreLed instruction_stays routines started run → AreGiven (instruction_writes pools) routines run variables written → AreWritten f pools routines marks variables written
  are_written given led writes v = (forth, back)
    where
      forth : slice_get written v ≡ Some true → (i : ℕ) × (j : ℕ) × (k : ℕ) × (v < variables) × (slice_get marks i ≡ Some true) × IsAmong j (given_by f routines i) × Leads (given_by instruction_stays routines) j k × IsAmong v (given_by (instruction_writes pools) routines k)
      forth h =
          let w = (writes.each v).0 h in
          let r = (led.each w.0).0 w.2 in
          let s = (given.each r.0).0 r.2 in
          (s.0, r.0, w.0, w.1, s.2, s.3, r.3, w.3)

      back : (i : ℕ) × (j : ℕ) × (k : ℕ) × (v < variables) × (slice_get marks i ≡ Some true) × IsAmong j (given_by f routines i) × Leads (given_by instruction_stays routines) j k × IsAmong v (given_by (instruction_writes pools) routines k) → slice_get written v ≡ Some true
      back (i, j, k, lt, m, a, l, w) =
          let begun = (given.each j).1 (i, led_within routines instruction_stays j (instruction_writes pools) k v l w, m, a) in
          let runs = (led.each k).1 (j, given_within (instruction_writes pools) routines k v w, begun, l) in
          (writes.each v).1 (k, lt, runs, w)

-- ---- freezes of marked variables

module _ (own : List Instruction) (written : List Bool) where
  freezes_marked : (i v : ℕ) (ps : List ℕ) → IsFreeze own i v ps → slice_get written v ≡ Some true → FreezesMarked own written i
  freezes_marked i v ps (x, each, at) h = (Ask (Freeze x v ps each), v, at, refl, h)

  marked_freeze : (i : ℕ) → FreezesMarked own written i → (v : ℕ) × (ps : List ℕ) × IsFreeze own i v ps × (slice_get written v ≡ Some true)
  marked_freeze i (n, v, at, e, h) = let z = freezes_is n v e in (v, z.1, (z.0, z.2, at ∙ ap Some z.3), h)

-- ---- what main calls

module _ (own : List Instruction) (pools : List ℕ) (routines : List Routine) where
  -- what main calls below a freeze isn't this routine, or doesn't write to the variable
  abbrev pub CallKeeps : ℕ → Type 0
  CallKeeps k = (i v j m : ℕ) (ps : List ℕ) (n : Instruction) → IsFreeze own i v ps → i ≤ j → slice_get own j ≡ Some n → instruction_calls n ≡ Some k
      → Leads (given_by instruction_calls routines) k m → HasWrite pools routines m v → ⊥

  abbrev pub CallsKeepBefore : ℕ → Type 0
  CallsKeepBefore place = (k : ℕ) → k < place → CallKeeps k

  pub calls_more : (place : ℕ) → CallsKeepBefore place → CallKeeps place → CallsKeepBefore (place + 1)
  calls_more place before here k lt = elim (below_or_at k place lt) [ inl same ↦ subst CallKeeps (sym same) here | inr less ↦ before k less ]

  pub calls_all : (place : ℕ) → length routines ≤ place → CallsKeepBefore place → NoCallBelow own pools routines
  calls_all place le before i v j k m ps n f less at e l w =
      let lt = led_within routines instruction_calls k (instruction_writes pools) m v l (write_given pools routines m v w) in
      before k (omega (arith, lt, le)) i v j m ps n f less at e l w

  module _ (variables : ℕ) (known : FreezesWithin own variables) (k : ℕ) (called written : List Bool) (reached : AreReached instruction_calls routines k called) (writes : AreGiven (instruction_writes pools) routines called variables written) where
    call_marked : (i v m : ℕ) (ps : List ℕ) → IsFreeze own i v ps → Leads (given_by instruction_calls routines) k m → HasWrite pools routines m v → FreezesMarked own written i
    call_marked i v m ps f l w =
        let given = write_given pools routines m v w in
        let there = (reached.each m).1 (given_within (instruction_writes pools) routines m v given, l) in
        freezes_marked own written i v ps f ((writes.each v).1 (m, known i v ps f, there, given))

    pub call_keeps : CallsBefore own written k → CallKeeps k
    call_keeps before i v j m ps n f le at e l w = before i (call_marked i v m ps f l w) (j, n, le, at, e)

    pub keeps_call : NoCallBelow own pools routines → CallsBefore own written k
    keeps_call keep place freeze (j, n, le, at, e) =
        let z = marked_freeze own written place freeze in
        let w = (writes.each z.0).0 z.3 in
        keep place z.0 j k w.0 z.1 n z.2 le at e ((reached.each w.0).0 w.2).1 (given_write pools routines w.0 z.0 w.3)

-- ---- tasks of no pool

module _ (own : List Instruction) (pools : List ℕ) (main : ℕ) (routines : List Routine) where
  module _ (variables : ℕ) (known : FreezesWithin own variables) (runs written : List Bool) (reached : AreReached instruction_calls routines main runs) (writes : AreWritten instruction_forks pools routines runs variables written) where
    pub free_none : FreezesNone own written → NoFreeWrite own pools main routines
    free_none none i v k ps f (h, j, r, a, l) w =
        let given = write_given pools routines k v w in
        let there = (reached.each h).1 (given_within instruction_forks routines h j a, r) in
        none i (freezes_marked own written i v ps f ((writes v).1 (h, j, k, known i v ps f, there, a, l, given)))

    pub none_free : NoFreeWrite own pools main routines → FreezesNone own written
    none_free keep place freeze =
        let z = marked_freeze own written place freeze in
        let w = (writes z.0).0 z.3 in
        keep place z.0 w.2 z.1 z.2 (w.0, w.1, ((reached.each w.0).0 w.4).1, w.5, w.6) (given_write pools routines w.2 z.0 w.7)

  -- ---- tasks of pools

  -- tasks of this pool write to a variable only where its freeze, or one above it, waits for the pool
  abbrev pub PoolKeeps : ℕ → Type 0
  PoolKeeps p = (i v k : ℕ) (ps : List ℕ) → IsFreeze own i v ps → RunsInPool main routines p k → HasWrite pools routines k v → IsWaitedFor own i p

  abbrev pub PoolsKeepBefore : ℕ → Type 0
  PoolsKeepBefore place = (p : ℕ) → p < place → PoolKeeps p

  pub pools_more : (place : ℕ) → PoolsKeepBefore place → PoolKeeps place → PoolsKeepBefore (place + 1)
  pools_more place before here p lt = elim (below_or_at p place lt) [ inl same ↦ subst PoolKeeps (sym same) here | inr less ↦ before p less ]

  pub pools_all : (place : ℕ) → length pools ≤ place → HandlesWithin routines (length pools) → PoolsKeepBefore place → PoolWritesAreOver own pools main routines
  pools_all place le listed before i v k p ps f (h, at, j, can, is, l) w = let lt = listed h at p j is in before p (omega (arith, lt, le)) i v k ps f (h, at, j, can, is, l) w

  module _ (variables : ℕ) (known : FreezesWithin own variables) (p : ℕ) (can written : List Bool) (reached : AreReached instruction_names routines main can) (writes : AreWritten (instruction_handles p) pools routines can variables written) where
    pool_marked : (i v k : ℕ) (ps : List ℕ) → IsFreeze own i v ps → RunsInPool main routines p k → HasWrite pools routines k v → FreezesMarked own written i
    pool_marked i v k ps f (h, place, j, runs, at, l) w =
        let a = given_at (instruction_handles p) (instructions_in (slice_get routines h)) place (Ask (Handle p j)) j at (handles_itself p j) in
        let there = (reached.each h).1 (given_within (instruction_handles p) routines h j a, runs) in
        freezes_marked own written i v ps f ((writes v).1 (h, j, k, known i v ps f, there, a, l, write_given pools routines k v w))

    pub pool_keeps : WaitsInTime own written p → PoolKeeps p
    pool_keeps in_time i v k ps f r w = in_time i (pool_marked i v k ps f r w)

    pub keeps_pool : PoolWritesAreOver own pools main routines → WaitsInTime own written p
    keeps_pool keep place freeze =
        let z = marked_freeze own written place freeze in
        let w = (writes z.0).0 z.3 in
        let s = given_stands (instruction_handles p) (instructions_in (slice_get routines w.0)) w.1 w.5 in
        let at = s.2 ∙ ap Some (handles_is p s.1 w.1 s.3) in
        keep place z.0 w.2 p z.1 z.2 (w.0, s.0, w.1, ((reached.each w.0).0 w.4).1, at, w.6) (given_write pools routines w.2 z.0 w.7)
