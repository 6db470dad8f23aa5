-- The parts of what holds where `main` freezes each variable after all that write to it.
use Rattle.std.specs.Prelude.{◌≡◌, ℕ, ◌+◌, ◌-◌, ◌<◌, ◌≤◌, List, Option, Some, Contains}
use Rattle.std.specs.List.{slice_get}
use Rattle.lvish_calculus.specs.Handing.{IsAmong}
use Rattle.lvish_code.specs.declared.operand.Operand.{Operand}
use Rattle.lvish_task.specs.Vocabulary.{Instruction, Routine, Ask, SkipIfZero, BackUnlessZero, GoOn, Put, Handle, Freeze}
use Rattle.lvish_alike.specs.Reaching.{Leads}
use Rattle.lvish_alike.specs.Sought.{instruction_names, instruction_calls, instruction_forks, instruction_stays, instruction_freezes, given_by, IsAt}

-- ---- what routines run and write

module _ (main : ℕ) (routines : List Routine) where
  -- a task can run the routine
  abbrev pub CanBeRun : ℕ → Type 0
  CanBeRun k = Leads (given_by instruction_names routines) main k

  -- main runs the routine itself
  abbrev pub RunsInMain : ℕ → Type 0
  RunsInMain k = Leads (given_by instruction_calls routines) main k

  -- a task of no pool, other than main, can run it: one that main forks, or one of those that such tasks fork
  abbrev pub RunsFree : ℕ → Type 0
  RunsFree k = (i : ℕ) × (j : ℕ) × RunsInMain i × IsAmong j (given_by instruction_forks routines i) × Leads (given_by instruction_stays routines) j k

  -- a task of the pool can run it: one that a handler starts, or one of those that such tasks fork
  abbrev pub RunsInPool : ℕ → ℕ → Type 0
  RunsInPool p k = (i : ℕ) × (place : ℕ) × (j : ℕ) × CanBeRun i × IsAt routines i place (Ask (Handle p j)) × Leads (given_by instruction_stays routines) j k

module _ (pools : List ℕ) where
  -- an instruction puts into the variable, or adds a handler to it
  abbrev pub WritesTo : Instruction → ℕ → Type 0
  WritesTo (Ask (Put w t o)) v = w ≡ v
  WritesTo (Ask (Handle p k)) v = slice_get pools p ≡ Some v
  WritesTo i v = ⊥

  -- an instruction of the routine does
  abbrev pub HasWrite : List Routine → ℕ → ℕ → Type 0
  HasWrite routines k v = (place : ℕ) × (i : Instruction) × IsAt routines k place i × WritesTo i v

-- ---- what stands in main, of which these are the instructions

module _ (own : List Instruction) where
  -- the instruction at this place freezes the variable, after these pools
  abbrev pub IsFreeze : ℕ → ℕ → List ℕ → Type 0
  IsFreeze place v ps = (x : ℕ) × (each : Option ℕ) × (slice_get own place ≡ Some (Ask (Freeze x v ps each)))

  -- the place stands in no block: no jump passes it
  pub record StandsInNoBlock (place : ℕ) : Type 0 where
    pub skip : (j n : ℕ) (o : Operand) → slice_get own j ≡ Some (SkipIfZero o n) → j < place → j + 1 + n ≤ place
    pub past : (j n : ℕ) → slice_get own j ≡ Some (GoOn n) → j < place → j + 1 + n ≤ place
    pub back : (j n : ℕ) (o : Operand) → slice_get own j ≡ Some (BackUnlessZero o n) → place < j → place < j - n

  -- a freeze at this place or above it waits for the pool
  abbrev pub IsWaitedFor : ℕ → ℕ → Type 0
  IsWaitedFor place p = (j : ℕ) × (w : ℕ) × (qs : List ℕ) × (j ≤ place) × IsFreeze j w qs × Contains qs p

  -- ---- the parts

  -- each freeze stands in no block
  abbrev pub FreezesArePlain : Type 0
  FreezesArePlain = (i v : ℕ) (ps : List ℕ) → IsFreeze i v ps → StandsInNoBlock i

  -- freezes of one variable name the same pools
  abbrev pub FreezesAreSame : Type 0
  FreezesAreSame = (i j v : ℕ) (ps qs : List ℕ) → IsFreeze i v ps → IsFreeze j v qs → ps ≡ qs

  module _ (pools : List ℕ) where
    -- below its freeze main writes no more to a variable
    abbrev pub NoWriteBelow : Type 0
    NoWriteBelow = (i v j : ℕ) (ps : List ℕ) (n : Instruction) → IsFreeze i v ps → i < j → slice_get own j ≡ Some n → WritesTo pools n v → ⊥

    -- nor does what main calls there
    abbrev pub NoCallBelow : List Routine → Type 0
    NoCallBelow routines = (i v j k m : ℕ) (ps : List ℕ) (n : Instruction) → IsFreeze i v ps → i ≤ j → slice_get own j ≡ Some n → instruction_calls n ≡ Some k
        → Leads (given_by instruction_calls routines) k m → HasWrite pools routines m v → ⊥

    module _ (main : ℕ) (routines : List Routine) where
      -- no other task of no pool writes to a variable that is frozen
      abbrev pub NoFreeWrite : Type 0
      NoFreeWrite = (i v k : ℕ) (ps : List ℕ) → IsFreeze i v ps → RunsFree main routines k → HasWrite pools routines k v → ⊥

      -- and tasks of pools do only where the freeze, or one above it, waits for the pool
      abbrev pub PoolWritesAreOver : Type 0
      PoolWritesAreOver = (i v k p : ℕ) (ps : List ℕ) → IsFreeze i v ps → RunsInPool main routines p k → HasWrite pools routines k v → IsWaitedFor i p

-- ---- of all code

module _ (main : ℕ) (routines : List Routine) where
  -- only main freezes
  abbrev pub OnlyMainFreezes : Type 0
  OnlyMainFreezes = (k v : ℕ) → CanBeRun main routines k → IsAmong v (given_by instruction_freezes routines k) → k ≡ main

  -- nobody names main
  abbrev pub NobodyNamesMain : Type 0
  NobodyNamesMain = (k : ℕ) → CanBeRun main routines k → IsAmong main (given_by instruction_names routines k) → ⊥

  -- only main freezes, and nobody names it
  abbrev pub IsMainAlone : Type 0
  IsMainAlone = OnlyMainFreezes × NobodyNamesMain
