-- Code whose `main` freezes each variable after all that write to it.
use Rattle.std.specs.Prelude.{ℕ, List}
use Rattle.lvish_code.specs.Flat as flat
use Rattle.lvish_task.specs.Vocabulary.{Instruction}
use Rattle.lvish_task.specs.Run.{instructions_in}
use Rattle.std.specs.List.{slice_get}
use Rattle.lvish_alike.specs.Parts.{RunsInMain, RunsFree, RunsInPool, WritesTo, HasWrite, IsFreeze, StandsInNoBlock, FreezesArePlain, FreezesAreSame, NoWriteBelow, NoCallBelow, NoFreeWrite, PoolWritesAreOver, OnlyMainFreezes, NobodyNamesMain}

module _ (c : flat.Code) where
  -- the instructions of main
  abbrev pub own_of : List Instruction
  own_of = instructions_in (slice_get c.routines c.main)

  -- what main runs, what tasks of no pool run, what tasks of a pool run
  abbrev pub MainRuns : ℕ → Type 0
  MainRuns k = RunsInMain c.main c.routines k

  abbrev pub FreeRuns : ℕ → Type 0
  FreeRuns k = RunsFree c.main c.routines k

  abbrev pub PoolRuns : ℕ → ℕ → Type 0
  PoolRuns p k = RunsInPool c.main c.routines p k

  -- an instruction writes to a variable, or one of a routine does
  abbrev pub InstructionWrites : Instruction → ℕ → Type 0
  InstructionWrites i v = WritesTo c.pools i v

  abbrev pub RoutineWrites : ℕ → ℕ → Type 0
  RoutineWrites k v = HasWrite c.pools c.routines k v

  -- main freezes the variable at this place, after these pools
  abbrev pub FreezesAt : ℕ → ℕ → List ℕ → Type 0
  FreezesAt place v ps = IsFreeze own_of place v ps

  -- the place stands in no block of main
  abbrev pub IsInNoBlock : ℕ → Type 0
  IsInNoBlock place = StandsInNoBlock own_of place

  -- each variable is frozen after all that write to it
  pub record IsLayered : Type 0 where
    -- only main freezes, in lines of its own that stand in no block, and nobody names main
    pub alone : OnlyMainFreezes c.main c.routines
    pub once : NobodyNamesMain c.main c.routines
    pub plain : FreezesArePlain own_of
    -- freezes of one variable name the same pools
    pub same : FreezesAreSame own_of
    -- below its freeze main writes no more to the variable, nor does what main calls there
    pub below : NoWriteBelow own_of c.pools
    pub called : NoCallBelow own_of c.pools c.routines
    -- and nobody else writes to it but tasks of pools that this freeze names, or one above it
    pub free : NoFreeWrite own_of c.pools c.main c.routines
    pub pooled : PoolWritesAreOver own_of c.pools c.main c.routines
