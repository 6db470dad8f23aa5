-- What holds of all flat code.
use Rattle.std.specs.Prelude.{◌≡◌, ℕ, ◌+◌, ◌<◌, ◌≤◌, ℤ, Bool, true, false, ◌&&◌, ◌==◌, nat_lt, nat_le, List, length, Option, Some, None, is_some}
use Rattle.std.specs.List.{slice_get, list_all}
use Rattle.lvish_syntax.specs.Sound.{is_level, are_one}
use Rattle.lvish_code.specs.Vocabulary.{Local, Number, Same, Combined, Whole, Entry, Side, Amount, Total, Any, In, At, SimpleKind, Cell, Set, Max, VariableKind, Simple, Map, Pair, Tally, Operand, Expression, Target, First, Second, Wanted, Action, Put, Get, Fork, Handle, Freeze, Instruction, Ask, Let, Call, SkipIfZero, BackUnlessZero, GoOn, Return, Routine}
use Rattle.lvish_syntax.specs.declared.limits.TheConstants.{MOST}

-- whether there is a routine, and it takes this many values
abbrev pub takes_count : ℕ → Option Routine → Bool
takes_count count None = false
takes_count count (Some r) = r.parameters == count

-- ---- among this many locals

-- whether an operand names a local that exists
abbrev pub is_operand_sound : ℕ → Operand → Bool
is_operand_sound n (Local x) = nat_lt x n
is_operand_sound n (Number z) = true

-- whether the operands of an expression do
abbrev pub is_expression_sound : ℕ → Expression → Bool
is_expression_sound n (Same a) = is_operand_sound n a
is_expression_sound n (Combined a o b) = is_operand_sound n a && is_operand_sound n b

-- whether two kinds are one
abbrev pub is_same_kind : SimpleKind → SimpleKind → Bool
is_same_kind Cell Cell = true
is_same_kind Set Set = true
is_same_kind Max Max = true
is_same_kind k j = false

-- whether a variable of this kind has what is put or got
abbrev pub is_target_sound : Option VariableKind → ℕ → Target → Bool
is_target_sound (Some (Simple k)) n (Whole j) = is_same_kind k j
is_target_sound (Some Map) n (Entry a) = is_operand_sound n a
is_target_sound (Some (Pair a b)) n (Side First j) = is_same_kind a j
is_target_sound (Some (Pair a b)) n (Side Second j) = is_same_kind b j
is_target_sound (Some Tally) n (Amount a) = is_operand_sound n a
is_target_sound (Some Tally) n Total = true
is_target_sound kind n t = false

-- the kind of what is put or got, where it can be put: an amount grows as a counter does, and a total is only read
abbrev pub target_kind : Target → Option SimpleKind
target_kind (Whole k) = Some k
target_kind (Entry a) = Some Cell
target_kind (Side s k) = Some k
target_kind (Amount a) = Some Max
target_kind Total = None

-- whether numbers are states of this kind, of which any two that differ are incompatible
abbrev pub are_apart : SimpleKind → List ℤ → Bool
are_apart Cell zs = true
are_apart Set zs = are_one zs
are_apart Max zs = list_all is_level zs && are_one zs

-- whether a get on this kind can wait for it
abbrev pub is_wanted_of : SimpleKind → ℕ → Wanted → Bool
is_wanted_of Cell n Any = true
is_wanted_of k n (In zs) = are_apart k zs
is_wanted_of Set n (At a) = is_operand_sound n a
is_wanted_of Max n (At a) = is_operand_sound n a
is_wanted_of k n w = false

-- whether a get can wait for it: of a total, which has no kind, for one number
abbrev pub is_wanted_sound : Option SimpleKind → ℕ → Wanted → Bool
is_wanted_sound (Some k) n w = is_wanted_of k n w
is_wanted_sound None n (At a) = is_operand_sound n a
is_wanted_sound None n w = false

-- ---- in code with variables of these kinds, pools on these variables, and these routines

-- whether the pool is on this variable
abbrev pub is_on : ℕ → Option ℕ → Bool
is_on v None = false
is_on v (Some w) = w == v

-- whether the procedure of an `each`, if there is one, takes a key and a number
abbrev pub is_each_sound : List Routine → Option ℕ → Bool
is_each_sound rs None = true
is_each_sound rs (Some k) = takes_count 2 (slice_get rs k)

-- whether an action names what exists, and fits it
abbrev pub is_action_sound : List VariableKind → List ℕ → List Routine → ℕ → Action → Bool
is_action_sound kinds pools rs n (Put v t a) = is_some (target_kind t) && is_target_sound (slice_get kinds v) n t && is_operand_sound n a
is_action_sound kinds pools rs n (Get x v t w) = nat_lt x n && is_target_sound (slice_get kinds v) n t && is_wanted_sound (target_kind t) n w
is_action_sound kinds pools rs n (Fork k os) = takes_count (length os) (slice_get rs k) && list_all (is_operand_sound n) os
is_action_sound kinds pools rs n (Handle p k) = nat_lt p (length pools) && takes_count 2 (slice_get rs k)
is_action_sound kinds pools rs n (Freeze x v ps each) = nat_lt x n && nat_lt v (length kinds) && list_all (λ p. is_on v (slice_get pools p)) ps && is_each_sound rs each

-- whether an instruction names what exists, and fits it
abbrev pub is_instruction_sound : List VariableKind → List ℕ → List Routine → ℕ → Instruction → Bool
is_instruction_sound kinds pools rs n (Ask a) = is_action_sound kinds pools rs n a
is_instruction_sound kinds pools rs n (Let x e) = nat_lt x n && is_expression_sound n e
is_instruction_sound kinds pools rs n (Call k os) = takes_count (length os) (slice_get rs k) && list_all (is_operand_sound n) os
is_instruction_sound kinds pools rs n (SkipIfZero a m) = is_operand_sound n a
is_instruction_sound kinds pools rs n (BackUnlessZero a m) = is_operand_sound n a
is_instruction_sound kinds pools rs n (GoOn m) = true
is_instruction_sound kinds pools rs n Return = true

-- whether an instruction at this place among this many leads only to places among them, and is the last one where it returns
abbrev pub lands : ℕ → ℕ → Instruction → Bool
lands count place (SkipIfZero a m) = nat_lt (place + 1 + m) count
lands count place (BackUnlessZero a m) = nat_le m place && nat_lt (place + 1) count
lands count place (GoOn m) = nat_lt (place + 1 + m) count
lands count place Return = place + 1 == count
lands count place i = nat_lt (place + 1) count

-- what holds of each routine
pub record IsRoutineSound (kinds : List VariableKind) (pools : List ℕ) (rs : List Routine) (r : Routine) : Type 0 where
  pub parameters : r.parameters ≤ r.locals
  pub begins : 0 < length r.instructions
  pub instructions : list_all (is_instruction_sound kinds pools rs r.locals) r.instructions ≡ true
  pub landing : (place : ℕ) (i : Instruction) → slice_get r.instructions place ≡ Some i → lands (length r.instructions) place i ≡ true

-- what holds of each code
pub record IsCodeSound (kinds : List VariableKind) (pools : List ℕ) (main : ℕ) (rs : List Routine) : Type 0 where
  pub few_variables : length kinds ≤ MOST
  pub few_pools : length pools ≤ MOST
  pub few_routines : length rs ≤ MOST
  pub pools_known : list_all (λ v. nat_lt v (length kinds)) pools ≡ true
  pub main_takes : takes_count 0 (slice_get rs main) ≡ true
  pub routines_sound : (k : ℕ) (r : Routine) → slice_get rs k ≡ Some r → IsRoutineSound kinds pools rs r
