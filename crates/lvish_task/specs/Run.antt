-- What flat code does.
use Rattle.std.specs.Prelude.{◌≡◌, ℕ, zero, suc, ℤ, pos, ◌+◌, ◌-◌, Bool, true, false, ◌&&◌, ◌||◌, ◌==◌, nat_lt, nat_le, List, [], ◌∷◌, ◌++◌, length, map, replicate, Option, Some, None, Result, Ok, Err, unwrap_or, if◌then◌else◌}
use Rattle.std.specs.List.{slice_get, slice_set, slice_index_or, list_all}
use Rattle.lvish_task.specs.Vocabulary.{Event, ErrorKind, Request, Reply, Operand, Expression, Target, First, Second, Wanted, Action, Put, Get, Fork, Handle, Freeze, Instruction, Ask, Let, Call, SkipIfZero, BackUnlessZero, GoOn, Return, Routine, Place, Test, Any, AnyRead}
use Rattle.lvish_calculus.specs.declared.request.ErrorKind.TheVariants as fault
use Rattle.lvish_calculus.specs.declared.request.Request.TheVariants as ask
use Rattle.lvish_calculus.specs.declared.request.Reply.TheVariants as reply
use Rattle.lvish_calculus.specs.Program.{Functions}
use Rattle.lvish_code.specs.declared.operand.Operand.TheVariants.{Local as InLocal, Number}
use Rattle.lvish_code.specs.declared.expression.Expression.TheVariants.{Same, Combined}
use Rattle.lvish_code.specs.declared.target.Target.TheVariants as target
use Rattle.lvish_code.specs.declared.wanted.Wanted.TheVariants as wanted
use Rattle.lvish_code.specs.Flat as flat
use Rattle.lvish_code.specs.Sound.{takes_count}
use Rattle.lvish_task.specs.Arithmetic.{combined}
use Rattle.lvish_task.specs.States.{put_at, read_at, events_below}
use Rattle.lvish_compound.specs.declared.place.Place.TheVariants as place
use Rattle.lvish_compound.specs.declared.number_test.Test.TheVariants as test
use Rattle.lvish_task.specs.declared.frame.Frame.{Frame}
use Rattle.lvish_task.specs.declared.stack.Stack.{Stack}
use Rattle.lvish_task.specs.declared.script_code.ScriptCode.{ScriptCode}
use Rattle.lvish_task.specs.Meaning.{chosen, whole_place, kind_meant}
use Rattle.lvish_task.specs.declared.limits.TheConstants.{TURNS, MOST_BELOW}

-- ---- values

-- the value of an operand
abbrev pub operand_value : List ℤ → Operand → ℤ
operand_value values (InLocal x) = slice_index_or values x (pos 0)
operand_value values (Number n) = n

-- what a `let` gives, or how it fails
abbrev pub expression_value : List ℤ → Expression → Result ℤ ErrorKind
expression_value values (Same a) = Ok (operand_value values a)
expression_value values (Combined a o b) = combined o (operand_value values a) (operand_value values b)

-- where in its variable
abbrev pub target_place : List ℤ → Target → Place
target_place values (target.Whole k) = whole_place k
target_place values (target.Entry a) = place.Key (operand_value values a)
target_place values (target.Side First k) = place.Side 1 (kind_meant k)
target_place values (target.Side Second k) = place.Side 2 (kind_meant k)
target_place values (target.Amount a) = place.Amount (operand_value values a)
target_place values target.Total = place.Total

-- what a get waits for
abbrev pub wanted_test : List ℤ → Wanted → Test
wanted_test values wanted.Any = test.Any
wanted_test values (wanted.In ns) = test.In ns
wanted_test values (wanted.At a) = test.At (operand_value values a)

-- ---- places

-- the jump at an instruction, if it is one that isn't counted
abbrev pub jump_in : Option Instruction → Option ℕ
jump_in (Some (GoOn n)) = Some n
jump_in i = None

-- the place past the jumps of a list that begins at this place, where this many instructions are passed first
abbrev pub beyond : List Instruction → ℕ → ℕ → ℕ
beyond [] k place = place + k
beyond (i ∷ is) (suc k) place = beyond is k (place + 1)
beyond (GoOn n ∷ is) zero place = beyond is n (place + 1)
beyond (i ∷ is) zero place = place

-- past the jumps that stand at a place
abbrev pub landing : List Instruction → ℕ → ℕ
landing is place = beyond is place 0

-- the instructions of a routine, none where there is no routine
abbrev pub instructions_in : Option Routine → List Instruction
instructions_in None = []
instructions_in (Some r) = r.instructions

-- the same frame, at another place
abbrev pub placed : Frame → ℕ → Frame
placed f place = record f { place = place }

-- the same frame at the next place, with these values
abbrev pub stepped : Frame → List ℤ → Frame
stepped f values = record f { place = f.place + 1; values = values }

-- ---- one turn

-- one turn: a local statement, which leads to these frames, or a request
pub data FlatTurn : Type 0 where
  Goes : Frame → List Frame → FlatTurn
  Asks : Request Any AnyRead Stack → FlatTurn

-- a request, and the local state in which it is made
pub record FlatAsked : Type 0 where
  pub request : Request Any AnyRead Stack
  pub at : Stack

-- a routine at its first instruction, the other locals 0
abbrev pub begun : ℕ → List ℤ → Routine → Frame
begun k arguments r = record { place = 0; procedure = k; values = arguments ++ replicate (r.locals - length arguments) (pos 0); each = 0; events = [] }

-- a task in one frame
abbrev pub stack_alone : Frame → Stack
stack_alone f = record { left = TURNS; top = f; below = [] }

-- a put of a state, or a fault where no counter and no amount is this number
abbrev pub putting : ℕ → Option Any → FlatTurn
putting v (Some d) = Asks (ask.Put v d)
putting v None = Asks (ask.Fault fault.Range)

-- a get by a read, or a fault where a number is none of what is read there
abbrev pub getting : ℕ → Option AnyRead → FlatTurn
getting v (Some r) = Asks (ask.Get v r)
getting v None = Asks (ask.Fault fault.Range)

-- a `let`, which fails or gives its local a value
abbrev pub assigned : Frame → List Frame → ℕ → Result ℤ ErrorKind → FlatTurn
assigned top below x (Ok n) = Goes (stepped top (slice_set top.values x n)) below
assigned top below x (Err k) = Asks (ask.Fault k)

-- ---- a turn, seen from the local state in which it is taken

-- what it asks for, if it is a request
abbrev pub requested : FlatTurn → Option (Request Any AnyRead Stack)
requested (Goes top below) = None
requested (Asks r) = Some r

-- the local state after it: the same, if it is a request
abbrev pub moved : Stack → FlatTurn → Stack
moved l (Goes top below) = record { left = l.left - 1; top = top; below = below }
moved l (Asks r) = l

-- the frame after the reply to an action
abbrev pub answered : Frame → Action → Reply Any ℤ → Frame
answered f (Get x v t w) (reply.Answer n) = stepped f (slice_set f.values x n)
answered f (Freeze x v ps None) (reply.Content d) = stepped f (slice_set f.values x (pos (length (events_below d))))
answered f (Freeze x v ps (Some k)) (reply.Content d) = record { place = f.place + 1; procedure = f.procedure; values = slice_set f.values x (pos (length (events_below d))); each = k; events = events_below d }
answered f a _ = stepped f f.values

-- the frame after the reply to the instruction at its place
abbrev pub frame_after : Frame → Reply Any ℤ → Option Instruction → Frame
frame_after f r (Some (Ask a)) = answered f a r
frame_after f r _ = f

-- whether an instruction ends its procedure
abbrev pub is_end : Option Instruction → Bool
is_end None = true
is_end (Some Return) = true
is_end (Some i) = false

-- ---- the turns of code

module _ (c : flat.Code) where
  -- the routine with this number
  abbrev pub routine : ℕ → Option Routine
  routine k = slice_get c.routines k

  -- the instructions of a frame's procedure
  abbrev pub instructions : Frame → List Instruction
  instructions f = instructions_in (routine f.procedure)

  -- the frame past the jumps that stand at its place
  abbrev pub landed : Frame → Frame
  landed f = placed f (landing (instructions f) f.place)

  -- a local state that doesn't fit the code
  abbrev pub nowhere : Frame
  nowhere = record { place = 0; procedure = length c.routines; values = []; each = 0; events = [] }

  -- the frame in which a routine begins on the arguments, if it takes that many
  abbrev pub callee_in : ℕ → List ℤ → Option Routine → Option Frame
  callee_in k arguments None = None
  callee_in k arguments (Some r) = if length arguments == r.parameters then Some (begun k arguments r) else None

  -- the frame of a procedure that begins on arguments, if there is one that takes them
  abbrev pub callee : ℕ → List ℤ → Option Frame
  callee k arguments = callee_in k arguments (routine k)

  -- a task that begins in that frame; nowhere, if there is no procedure that takes the arguments
  abbrev pub started : ℕ → List ℤ → Stack
  started k arguments = stack_alone (unwrap_or (callee k arguments) nowhere)

  -- into a frame of its own, above the caller's
  abbrev pub entered : Frame → List Frame → Option Frame → FlatTurn
  entered caller below None = Asks ask.End
  entered caller below (Some f) = Goes f (caller ∷ below)

  -- a call, which at 64 frames is too deep
  abbrev pub called : ℕ → List ℤ → Frame → List Frame → FlatTurn
  called k arguments caller below = if nat_lt (length below) MOST_BELOW then entered caller below (callee k arguments) else Asks (ask.Fault fault.Deep)

  -- what an action asks for
  abbrev pub action_turn : List ℤ → Action → FlatTurn
  action_turn values (Put v t a) = putting v (put_at (target_place values t) (operand_value values a))
  action_turn values (Get x v t w) = getting v (read_at (target_place values t) (wanted_test values w))
  action_turn values (Fork k os) = Asks (ask.Fork (started k (map (operand_value values) os)))
  action_turn values (Handle p k) = Asks (ask.Add p k)
  action_turn values (Freeze x v ps each) = Asks (ask.Freeze v ps)

  -- one case per instruction
  abbrev pub instruction_turn : Frame → List Frame → Option Instruction → FlatTurn
  instruction_turn top below (Some (Ask a)) = action_turn top.values a
  instruction_turn top below (Some (Let x e)) = assigned top below x (expression_value top.values e)
  instruction_turn top below (Some (Call k os)) = called k (map (operand_value top.values) os) (placed top (top.place + 1)) below
  instruction_turn top below (Some (SkipIfZero a n)) = Goes (placed top (chosen (operand_value top.values a) (top.place + 1) (top.place + 1 + n))) below
  instruction_turn top below (Some (BackUnlessZero a n)) = Goes (placed top (chosen (operand_value top.values a) (top.place - n) (top.place + 1))) below
  instruction_turn top below (Some (GoOn n)) = Asks ask.End
  instruction_turn top below (Some Return) = Asks ask.End
  instruction_turn top below None = Asks ask.End

  -- the instruction at a frame's place
  abbrev pub instruction : Frame → Option Instruction
  instruction f = slice_get (instructions f) f.place

  -- an `each` calls its procedure on the next event's key and number, before what follows
  abbrev pub frame_turn : Frame → List Frame → List Event → FlatTurn
  frame_turn top below [] = instruction_turn top below (instruction top)
  frame_turn top below (e ∷ es) = called top.each (e.key ∷ e.number ∷ []) (record top { events = es }) below

  -- the next turn of a task
  abbrev pub flat_turn : Stack → FlatTurn
  flat_turn l = frame_turn l.top l.below l.top.events

  -- ---- up to the next request

  -- whether nothing follows in a frame
  abbrev pub is_frame_over : Frame → Bool
  is_frame_over f = (length f.events == 0) && is_end (instruction f)

  -- the frames without those in which nothing follows, except the first, and past jumps
  abbrev pub returned : Frame → List Frame → ℕ → Stack
  returned top [] left = record { left = left; top = landed top; below = [] }
  returned top (f ∷ below) left = if is_frame_over (landed top) then returned f below left else record { left = left; top = landed top; below = f ∷ below }

  -- the local state out of frames in which nothing follows
  abbrev pub settled : Stack → Stack
  settled l = returned l.top l.below l.left

  -- what a turn asks: its request, or what is asked after its local statement
  abbrev pub went : Stack → (Frame → List Frame → FlatAsked) → FlatTurn → FlatAsked
  went l go (Goes top below) = go top below
  went l go (Asks r) = record { request = r; at = l }

  -- this many local statements at most, and then Pause, whatever follows
  abbrev pub run : ℕ → Frame → List Frame → FlatAsked
  run zero top below = record { request = ask.Pause; at = returned top below zero }
  run (suc n) top below =
      let l = returned top below (suc n) in
      went l (run n) (flat_turn l)

  -- the local state asks by this instruction where it stands: what the action asks for, or End
  abbrev pub AsksBy : Stack → Instruction → Type 0
  AsksBy l (Ask a) = (q : Request Any AnyRead Stack) → Asks q ≡ action_turn l.top.values a → run l.left l.top l.below ≡ record { request = q; at = l }
  AsksBy l i = run l.left l.top l.below ≡ record { request = ask.End; at = l }

  -- ---- local states that fit

  -- whether the place lies within the procedure, there is a value for each local, and an `each` calls a procedure of two parameters
  abbrev pub fits_in : Frame → Option Routine → Bool
  fits_in f None = false
  fits_in f (Some r) = nat_lt f.place (length r.instructions) && (length f.values == r.locals) && ((length f.events == 0) || takes_count 2 (routine f.each))

  -- whether the frame fits the code
  abbrev pub fits_frame : Frame → Bool
  fits_frame f = fits_in f (routine f.procedure)

  -- at most 64 frames that fit, and at most 1,000 local statements left
  abbrev pub stack_fits : Stack → Bool
  stack_fits l = fits_frame l.top && list_all fits_frame l.below && nat_le (length l.below) MOST_BELOW && nat_le l.left TURNS

  -- the request that comes next, and the local state in which it is made; End at once where the local state doesn't fit
  abbrev pub asked : Stack → FlatAsked
  asked l = if stack_fits l then run l.left l.top l.below else record { request = ask.End; at = l }

  -- ---- what follows a reply

  -- after a Pause, which comes where no local statement is left, the same follows
  abbrev pub resumed_top : Frame → Reply Any ℤ → ℕ → Frame
  resumed_top f r zero = f
  resumed_top f r (suc n) = frame_after f r (instruction f)

  -- the local state after the reply to the request that is made in this one; the same where it doesn't fit
  abbrev pub resumed : Stack → Reply Any ℤ → Stack
  resumed l r = if stack_fits l then record { left = TURNS; top = resumed_top l.top r l.left; below = l.below } else l

-- ---- code as a program

-- the variable of a pool, if there is one
abbrev pub pool_variable : flat.Code → ℕ → Option ℕ
pool_variable c p = slice_get c.pools p

-- the functions of the code
abbrev pub functions : ScriptCode → Functions Any Event AnyRead ℤ Stack
functions c = record {
  variables = length c.flat.kinds;
  pool_variable = pool_variable c.flat;
  start = started c.flat c.flat.main [];
  start_handler = λ k e. started c.flat k (e.key ∷ e.number ∷ []);
  request = λ l. (asked c.flat l).request;
  at = λ l. (asked c.flat l).at;
  resume = resumed c.flat;
}

-- whether a local state is one of the code
abbrev pub is_fitting : ScriptCode → Stack → Bool
is_fitting c l = stack_fits c.flat l
