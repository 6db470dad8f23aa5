-- How the functions decide whether code is layered.
use Rattle.std.specs.Prelude.{◌≡◌, ◌↔◌, ℕ, ◌+◌, ◌-◌, ◌<◌, ◌≤◌, Bool, true, List, Option, Some, Contains}
use Rattle.std.specs.List.{slice_get}
use Rattle.lvish_calculus.specs.Handing.{IsAmong}
use Rattle.lvish_task.specs.Vocabulary.{Instruction, Routine, Ask, SkipIfZero, BackUnlessZero, GoOn, Handle, Freeze}
use Rattle.lvish_alike.specs.Reaching.{Leads}
use Rattle.lvish_alike.specs.Sought.{instruction_calls, instruction_stays, instruction_freezes, instruction_writes, given_by, IsAt}
use Rattle.lvish_alike.specs.Parts.{WritesTo, IsFreeze, IsWaitedFor, NoCallBelow, NoFreeWrite, PoolWritesAreOver, IsMainAlone}

-- ---- what each instruction of main keeps to

-- what an instruction at another place keeps to, where main freezes the variable at this place after these pools
abbrev pub Spares : (pools : List ℕ) (place v : ℕ) (ps : List ℕ) (other : ℕ) → Instruction → Type 0
Spares pools place v ps other (SkipIfZero o n) = other < place → other + 1 + n ≤ place
Spares pools place v ps other (GoOn n) = other < place → other + 1 + n ≤ place
Spares pools place v ps other (BackUnlessZero o n) = place < other → place < other - n
Spares pools place v ps other (Ask (Freeze x w qs each)) = w ≡ v → qs ≡ ps
Spares pools place v ps other i = place < other → WritesTo pools i v → ⊥

-- an instruction is a freeze that waits for the pool
abbrev pub WaitsFor : Instruction → ℕ → Type 0
WaitsFor (Ask (Freeze x v ps each)) p = Contains ps p
WaitsFor i p = ⊥

-- the instruction freezes a marked variable
abbrev pub FreezesOneOf : List Bool → Instruction → Type 0
FreezesOneOf marks i = (v : ℕ) × (instruction_freezes i ≡ Some v) × (slice_get marks v ≡ Some true)

module _ (own : List Instruction) where
  -- all instructions keep to the freeze of the variable at this place after these pools
  abbrev pub IsSpared : (pools : List ℕ) (place v : ℕ) (ps : List ℕ) → Type 0
  IsSpared pools place v ps = (other : ℕ) (i : Instruction) → slice_get own other ≡ Some i → Spares pools place v ps other i

  -- where the instruction that stands at this place is a freeze, all keep to it
  abbrev pub IsFreezeSpared : (pools : List ℕ) (place : ℕ) → Instruction → Type 0
  IsFreezeSpared pools place (Ask (Freeze x v ps each)) = IsSpared pools place v ps
  IsFreezeSpared pools place i = Unit {0}

  -- all keep to each freeze
  abbrev pub AreSpared : (pools : List ℕ) → Type 0
  AreSpared pools = (place v : ℕ) (ps : List ℕ) → IsFreeze own place v ps → IsSpared pools place v ps

  -- ---- freezes of marked variables

  module _ (marks : List Bool) where
    -- the instruction at this place freezes a marked variable
    abbrev pub FreezesMarked : ℕ → Type 0
    FreezesMarked place = (i : Instruction) × (v : ℕ) × (slice_get own place ≡ Some i) × (instruction_freezes i ≡ Some v) × (slice_get marks v ≡ Some true)

    -- no instruction does
    abbrev pub FreezesNone : Type 0
    FreezesNone = (place : ℕ) → FreezesMarked place → ⊥

    -- this is the first place where one does
    pub record IsFirstFreeze (place : ℕ) : Type 0 where
      pub is : FreezesMarked place
      pub first : (other : ℕ) → other < place → FreezesMarked other → ⊥

  -- the routine is called at this place or below it
  abbrev pub IsCalledFrom : ℕ → ℕ → Type 0
  IsCalledFrom place k = (j : ℕ) × (i : Instruction) × (place ≤ j) × (slice_get own j ≡ Some i) × (instruction_calls i ≡ Some k)

  -- no call of the routine stands at a freeze of a marked variable or below it
  abbrev pub CallsBefore : List Bool → ℕ → Type 0
  CallsBefore marks k = (place : ℕ) → FreezesMarked marks place → IsCalledFrom place k → ⊥

  -- each freeze of a marked variable, or one above it, waits for the pool
  abbrev pub WaitsInTime : List Bool → ℕ → Type 0
  WaitsInTime marks p = (place : ℕ) → FreezesMarked marks place → IsWaitedFor own place p

-- ---- what tasks write to

-- marks set exactly at the variables, of so many, to which tasks write that instructions of marked routines start
abbrev pub AreWritten : (f : Instruction → Option ℕ) (pools : List ℕ) (routines : List Routine) (marks : List Bool) (variables : ℕ) (written : List Bool) → Type 0
AreWritten f pools routines marks variables written = (v : ℕ) → (slice_get written v ≡ Some true) ↔ ((i : ℕ) × (j : ℕ) × (k : ℕ) × (v < variables) × (slice_get marks i ≡ Some true) × IsAmong j (given_by f routines i)
    × Leads (given_by instruction_stays routines) j k × IsAmong v (given_by (instruction_writes pools) routines k))

-- ---- what is known of all code

-- the variables that main freezes are among so many
abbrev pub FreezesWithin : List Instruction → ℕ → Type 0
FreezesWithin own variables = (place v : ℕ) (ps : List ℕ) → IsFreeze own place v ps → v < variables

-- the pools to which handlers are added are among so many
abbrev pub HandlesWithin : List Routine → ℕ → Type 0
HandlesWithin routines count = (k place p j : ℕ) → IsAt routines k place (Ask (Handle p j)) → p < count

-- all parts of layered code
abbrev pub AreLayers : (own : List Instruction) (pools : List ℕ) (main : ℕ) (routines : List Routine) → Type 0
AreLayers own pools main routines = AreSpared own pools × IsMainAlone main routines × NoCallBelow own pools routines × NoFreeWrite own pools main routines × PoolWritesAreOver own pools main routines
