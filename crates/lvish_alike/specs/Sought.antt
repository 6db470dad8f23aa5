-- What is looked for among the instructions of flat code.
use Rattle.std.specs.Prelude.{◌≡◌, ◌<◌, ◌↔◌, ◌⊎◌, ℕ, Bool, true, false, not, nat_eq, List, [], length, Option, Some, None, if◌then◌else◌}
use Rattle.std.specs.List.{slice_get, filter_map, slice_index_or}
use Rattle.lvish_calculus.specs.Handing.{IsAmong}
use Rattle.lvish_code.specs.declared.instruction.Action.TheVariants as action
use Rattle.lvish_code.specs.declared.instruction.Instruction.TheVariants as instruction
use Rattle.lvish_code.specs.Flat as flat
use Rattle.lvish_task.specs.Vocabulary.{Instruction, Routine}
use Rattle.lvish_task.specs.Run.{instructions_in}
use Rattle.lvish_alike.specs.Reaching.{Leads, Outline}
use Rattle.lvish_alike.specs.declared.link.Link.{Link}
use Rattle.lvish_alike.specs.declared.link.Link.TheVariants as link
use Rattle.lvish_alike.specs.declared.sought.Sought.{Sought}
use Rattle.lvish_alike.specs.declared.sought.Sought.TheVariants as sought

-- the routine that an instruction names
abbrev pub instruction_names : Instruction → Option ℕ
instruction_names (instruction.Ask (action.Fork k os)) = Some k
instruction_names (instruction.Ask (action.Handle p k)) = Some k
instruction_names (instruction.Ask (action.Freeze x v ps each)) = each
instruction_names (instruction.Call k os) = Some k
instruction_names i = None

-- the routine that it has run by the same task
abbrev pub instruction_calls : Instruction → Option ℕ
instruction_calls (instruction.Ask (action.Freeze x v ps each)) = each
instruction_calls (instruction.Call k os) = Some k
instruction_calls i = None

-- the routine that it has run by a task that it forks
abbrev pub instruction_forks : Instruction → Option ℕ
instruction_forks (instruction.Ask (action.Fork k os)) = Some k
instruction_forks i = None

-- the routine that it has run by the same task or by one of the same pool
abbrev pub instruction_stays : Instruction → Option ℕ
instruction_stays (instruction.Ask (action.Fork k os)) = Some k
instruction_stays (instruction.Ask (action.Freeze x v ps each)) = each
instruction_stays (instruction.Call k os) = Some k
instruction_stays i = None

-- the routine that it has run by another task
abbrev pub instruction_starts : Instruction → Option ℕ
instruction_starts (instruction.Ask (action.Fork k os)) = Some k
instruction_starts (instruction.Ask (action.Handle p k)) = Some k
instruction_starts i = None

-- the routine that it has run by the tasks of a handler of this pool
abbrev pub instruction_handles : ℕ → Instruction → Option ℕ
instruction_handles p (instruction.Ask (action.Handle q k)) = if nat_eq q p then Some k else None
instruction_handles p i = None

-- the routine to which a link of it leads
abbrev pub linked : Link → Instruction → Option ℕ
linked link.Names = instruction_names
linked link.Calls = instruction_calls
linked link.Stays = instruction_stays
linked link.Starts = instruction_starts
linked link.Forks = instruction_forks
linked (link.Handles p) = instruction_handles p

-- the variable that it freezes
abbrev pub instruction_freezes : Instruction → Option ℕ
instruction_freezes (instruction.Ask (action.Freeze x v ps each)) = Some v
instruction_freezes i = None

-- the variable that it puts into, or adds a handler to
abbrev pub instruction_writes : (pools : List ℕ) → Instruction → Option ℕ
instruction_writes pools (instruction.Ask (action.Put w t o)) = Some w
instruction_writes pools (instruction.Ask (action.Handle p k)) = slice_get pools p
instruction_writes pools i = None

-- what the instructions of a routine give, none where there is no such routine
abbrev pub given_by : (Instruction → Option ℕ) → List Routine → ℕ → List ℕ
given_by f routines k = filter_map f (instructions_in (slice_get routines k))

-- the instruction stands at this place of the routine
abbrev pub IsAt : List Routine → (routine place : ℕ) → Instruction → Type 0
IsAt routines k place i = slice_get (instructions_in (slice_get routines k)) place ≡ Some i

-- a number, if it is one that is wanted
abbrev pub wanted : (ℕ → Bool) → Option ℕ → Option ℕ
wanted p None = None
wanted p (Some k) = if p k then Some k else None

-- whether two numbers, or none, are the same
abbrev pub is_option : Option ℕ → ℕ → Bool
is_option None v = false
is_option (Some w) v = nat_eq w v

-- the number in an instruction that is looked for, if it is there: a routine that isn't marked, one routine, or a variable that is frozen, other than one
abbrev pub found_in : List Bool → Sought → Instruction → Option ℕ
found_in marks (sought.Unmarked l) i = wanted (λ k. not (slice_index_or marks k true)) (linked l i)
found_in marks (sought.Linked l k) i = wanted (nat_eq k) (linked l i)
found_in marks (sought.Frozen but) i = wanted (λ v. not (is_option but v)) (instruction_freezes i)

-- it is looked for and stands in a marked routine
abbrev pub IsFound : List Routine → List Bool → Sought → ℕ → Type 0
IsFound routines marks s k = (j : ℕ) × (slice_get marks j ≡ Some true) × IsAmong k (given_by (found_in marks s) routines j)

-- no marked routine has what is looked for
abbrev pub IsNowhere : List Routine → List Bool → Sought → Type 0
IsNowhere routines marks s = (j : ℕ) → slice_get marks j ≡ Some true → given_by (found_in marks s) routines j ≡ []

-- a mark for each routine, set exactly where one comes to it from this one
pub record AreReached (f : Instruction → Option ℕ) (routines : List Routine) (from : ℕ) (marks : List Bool) : Type 0 where
  pub count : length marks ≡ length routines
  pub each : (k : ℕ) → (slice_get marks k ≡ Some true) ↔ ((k < length routines) × Leads (given_by f routines) from k)

-- a mark for each routine, set exactly where one comes to it from one that was marked before
pub record AreLed (f : Instruction → Option ℕ) (routines : List Routine) (begun marks : List Bool) : Type 0 where
  pub count : length marks ≡ length routines
  pub each : (k : ℕ) → (slice_get marks k ≡ Some true) ↔ ((j : ℕ) × (k < length routines) × (slice_get begun j ≡ Some true) × Leads (given_by f routines) j k)

-- so many marks, set exactly at the numbers that the instructions of marked routines give
pub record AreGiven (f : Instruction → Option ℕ) (routines : List Routine) (marks : List Bool) (count : ℕ) (given : List Bool) : Type 0 where
  pub count_is : length given ≡ count
  pub each : (k : ℕ) → (slice_get given k ≡ Some true) ↔ ((j : ℕ) × (k < count) × (slice_get marks j ≡ Some true) × IsAmong k (given_by f routines j))

-- marks to which those at these numbers were added
pub record AreAdded (old : List Bool) (ks : List ℕ) (new : List Bool) : Type 0 where
  pub count : length new ≡ length old
  pub each : (k : ℕ) → (slice_get new k ≡ Some true) ↔ ((slice_get old k ≡ Some true) ⊎ ((k < length old) × IsAmong k ks))

-- what the routines of flat code name, start and freeze
abbrev pub code_outline : flat.Code → Outline
code_outline c = record {
  main = c.main;
  names = given_by instruction_names c.routines;
  starts = given_by instruction_starts c.routines;
  freezes = given_by instruction_freezes c.routines;
}

-- marked routines freeze one variable at most
abbrev pub FreezeOne : List Routine → List Bool → Type 0
FreezeOne routines marks = (j k v w : ℕ) → slice_get marks j ≡ Some true → slice_get marks k ≡ Some true
    → IsAmong v (given_by instruction_freezes routines j) → IsAmong w (given_by instruction_freezes routines k) → v ≡ w

-- no routine freezes to which one comes from one that a marked routine starts
abbrev pub OthersFreezeNone : List Routine → List Bool → Type 0
OthersFreezeNone routines marks = (i j k v : ℕ) → slice_get marks i ≡ Some true → IsAmong j (given_by instruction_starts routines i)
    → Leads (given_by instruction_names routines) j k → IsAmong v (given_by instruction_freezes routines k) → ⊥
