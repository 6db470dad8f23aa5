-- Local statements of one frame, one after the other.
use Rattle.std.specs.Prelude.{◌≡◌, ℕ, ℤ, ◌+◌, ◌-◌, Bool, true, false, List, [], Option, Some, None, Result, Ok, Err}
use Rattle.std.specs.List.{slice_set}
use Rattle.lvish_code.specs.Flat as flat
use Rattle.lvish_task.specs.Vocabulary.{ErrorKind, Instruction, Let, SkipIfZero, BackUnlessZero, GoOn}
use Rattle.lvish_task.specs.declared.stack.Stack.{Stack}
use Rattle.lvish_task.specs.declared.stride.Progress.{Progress}
use Rattle.lvish_task.specs.Run.{operand_value, expression_value, instructions, run}
use Rattle.lvish_task.specs.Meaning.{chosen}

-- where a `let` leads, and to which values, if it succeeds
abbrev pub let_taken : Progress → List ℤ → ℕ → Result ℤ ErrorKind → Option (Progress × List ℤ)
let_taken p values x (Ok n) = Some (record { left = p.left - 1; place = p.place + 1 }, slice_set values x n)
let_taken p values x (Err k) = None

-- where a `let` that succeeds, a test or a jump leads, and to which values; a jump is no local statement
abbrev pub taken : Progress → List ℤ → Option Instruction → Option (Progress × List ℤ)
taken p values (Some (Let x e)) = let_taken p values x (expression_value values e)
taken p values (Some (SkipIfZero a n)) = Some (record { left = p.left - 1; place = chosen (operand_value values a) (p.place + 1) (p.place + 1 + n) }, values)
taken p values (Some (BackUnlessZero a n)) = Some (record { left = p.left - 1; place = chosen (operand_value values a) (p.place - n) (p.place + 1) }, values)
taken p values (Some (GoOn n)) = Some (record { left = p.left; place = p.place + 1 + n }, values)
taken p values i = None

-- whether an instruction is a test
abbrev pub is_test : Instruction → Bool
is_test (SkipIfZero a n) = true
is_test (BackUnlessZero a n) = true
is_test i = false

-- where a jump leads
abbrev pub jump_taken : Progress → Instruction → Option Progress
jump_taken p (GoOn n) = Some (record { left = p.left; place = p.place + 1 + n })
jump_taken p i = None

-- the stack, with its innermost frame that far and with these values
abbrev pub at_progress : Stack → Progress → List ℤ → Stack
at_progress l p values = record { left = p.left; top = record l.top { place = p.place; values = values }; below = l.below }

-- in every stack whose innermost frame has these instructions and no events, what is asked next is the same in both ways
abbrev pub KeepsAsking : List Instruction → Progress → List ℤ → Progress → List ℤ → Type 0
KeepsAsking is p values q others = (c : flat.Code) (l : Stack) → l.top.events ≡ [] → instructions c l.top ≡ is → run c q.left (at_progress l q others).top l.below ≡ run c p.left (at_progress l p values).top l.below
