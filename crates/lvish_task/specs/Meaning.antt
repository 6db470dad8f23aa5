-- What a task does, on nested statements: a small step is one statement, and what follows it is a list.
use Rattle.std.specs.Prelude.{ℕ, zero, suc, ℤ, pos, codes, nat_lt, List, [], ◌∷◌, ◌++◌, length, map, Option, Some, None, Result, Ok, Err, option_and_then, if◌then◌else◌}
use Rattle.std.specs.List.{find, flat_map, slice_get}
use Rattle.std.specs.Str.{bytes_eq}
use Rattle.std.specs.Ordering.{int_eq}
use Rattle.lvish_task.specs.Vocabulary.{Event, ErrorKind, Request, Reply, VariableKind, Simple, Map, Pair, Tally, Term, LetValue, Threshold, Declaration, Command, Statement, out-Statement, Block, Procedure, Script, Kind, SimpleKind, Cell, Set, Max, Place, Test, Any, AnyRead}
use Rattle.lvish_calculus.specs.declared.request.ErrorKind.TheVariants as fault
use Rattle.lvish_calculus.specs.declared.request.Request.TheVariants as ask
use Rattle.lvish_calculus.specs.declared.request.Reply.TheVariants as reply
use Rattle.lvish_calculus.specs.Program.{Functions}
use Rattle.lvish_syntax.specs.Words.{Word}
use Rattle.lvish_syntax.specs.Nested.{statements}
use Rattle.lvish_syntax.specs.Sound.{variable_names, pool_names, procedure_names, kind_of}
use Rattle.lvish_syntax.specs.declared.term.Term.TheVariants.{Local, Number}
use Rattle.lvish_syntax.specs.declared.let_value.LetValue.TheVariants.{Same, Combined}
use Rattle.lvish_syntax.specs.declared.threshold.Threshold.TheVariants.{Any as AnyOf, In, Has, Least, Total}
use Rattle.lvish_syntax.specs.declared.declaration.Declaration.TheVariants as line
use Rattle.lvish_syntax.specs.declared.command.Command.TheVariants.{Let, Put, PutAt, Get, GetAt, Fork, Call, Handle, Freeze, FreezeEach}
use Rattle.lvish_syntax.specs.declared.statement.Statement.TheOpen.{Statement-F, Do, If, IfElse, While}
use Rattle.lvish_code.specs.Numbering.{name_number}
use Rattle.lvish_task.specs.Arithmetic.{combined}
use Rattle.lvish_compound.specs.declared.kind.Kind.TheVariants as kind
use Rattle.lvish_task.specs.States.{put_at, read_at, events_below}
use Rattle.lvish_compound.specs.declared.place.Place.TheVariants as place
use Rattle.lvish_compound.specs.declared.number_test.Test.TheVariants as test
use Rattle.lvish_task.specs.declared.limits.TheConstants.{TURNS, MOST_BELOW}

-- ---- states

-- the value of each local
abbrev pub Valuation : Type 0
Valuation = Word → ℤ

-- a frame: the values of its locals, the procedure that an `each` calls and the events on which it hasn't called it yet, and the statements that follow
pub record Activation : Type 0 where
  pub values : Valuation
  pub each : Word
  pub events : List Event
  pub following : List Statement

-- a task: its innermost frame, those below it, and how many local statements are left before a Pause
pub record LocalState : Type 0 where
  pub top : Activation
  pub below : List Activation
  pub left : ℕ

-- one turn: a local statement, which leads to these frames, or a request
pub data Turn : Type 0 where
  Goes : Activation → List Activation → Turn
  Asks : Request Any AnyRead LocalState → Turn

-- a request, and the state in which it is made
pub record LocalAsked : Type 0 where
  pub request : Request Any AnyRead LocalState
  pub at : LocalState

-- ---- values

-- the value of a term
abbrev pub term_value : Valuation → Term → ℤ
term_value values (Local x) = values x
term_value values (Number n) = n

-- the same values, except for one local
abbrev pub with_value : Valuation → Word → ℤ → Valuation
with_value values x a y = if bytes_eq y x then a else values y

-- what a `let` gives, or how it fails
abbrev pub value_given : Valuation → LetValue → Result ℤ ErrorKind
value_given values (Same t) = Ok (term_value values t)
value_given values (Combined a o b) = combined o (term_value values a) (term_value values b)

-- of two, the first where the number isn't 0
abbrev pub chosen : {X : Type 0} → ℤ → X → X → X
chosen n a b = if int_eq n (pos 0) then b else a

-- a whole variable, or a side of a pair
abbrev pub whole_place : SimpleKind → Place
whole_place Cell = place.Cell
whole_place Set = place.Set
whole_place Max = place.Max

-- a side's kind, among those of events
abbrev pub kind_meant : SimpleKind → Kind
kind_meant Cell = kind.Cell
kind_meant Set = kind.Set
kind_meant Max = kind.Max

-- where in a variable of this kind: at this key or side, where one is named; of a whole tally its total
abbrev pub place_meant : VariableKind → Option ℤ → Option Place
place_meant (Simple k) None = Some (whole_place k)
place_meant Map (Some key) = Some (place.Key key)
place_meant (Pair a b) (Some side) = if int_eq side (pos 1) then Some (place.Side 1 (kind_meant a)) else if int_eq side (pos 2) then Some (place.Side 2 (kind_meant b)) else None
place_meant Tally None = Some place.Total
place_meant Tally (Some key) = Some (place.Amount key)
place_meant k p = None

-- what a get waits for
abbrev pub threshold_test : Valuation → Threshold → Test
threshold_test values AnyOf = test.Any
threshold_test values (In ns) = test.In ns
threshold_test values (Has t) = test.At (term_value values t)
threshold_test values (Least t) = test.At (term_value values t)
threshold_test values (Total t) = test.At (term_value values t)

-- ---- where a procedure begins

-- the parameters have the arguments as values, and all other locals 0
abbrev pub bound : List Word → List ℤ → Valuation
bound [] arguments y = pos 0
bound (x ∷ xs) [] y = pos 0
bound (x ∷ xs) (a ∷ arguments) y = if bytes_eq x y then a else bound xs arguments y

-- a frame in which no `each` has events left
abbrev pub quiet : Valuation → List Statement → Activation
quiet values ks = record { values = values; each = []; events = []; following = ks }

-- where a procedure begins on arguments: all its statements follow
abbrev pub begins : List ℤ → Procedure → Activation
begins arguments p = quiet (bound p.parameters arguments) (statements p.body)

-- a task in one frame
abbrev pub local_alone : Activation → LocalState
local_alone a = record { top = a; below = []; left = TURNS }

-- ---- the statements of a script

module _ (script : Script) where
  -- the numbers of variables, pools and procedures are those of their lines
  abbrev pub variable : Word → ℕ
  variable v = name_number (variable_names script.declarations) v

  abbrev pub pool : Word → ℕ
  pool p = name_number (pool_names script.declarations) p

  abbrev pub procedure : Word → ℕ
  procedure n = name_number (procedure_names script.procedures) n

  -- the procedure of this name
  abbrev pub named : Word → Option Procedure
  named n = find (λ p. bytes_eq p.name n) script.procedures

  -- where the procedure of this name begins on arguments
  abbrev pub started : List ℤ → Option Procedure → LocalState
  started arguments (Some p) = local_alone (begins arguments p)
  started arguments None = local_alone (quiet (λ y. pos 0) [])

  -- into a frame of its own, above the caller's
  abbrev pub entered : List ℤ → Activation → List Activation → Option Procedure → Turn
  entered arguments caller below None = Asks ask.End
  entered arguments caller below (Some p) = Goes (begins arguments p) (caller ∷ below)

  -- a call, which at 64 frames is too deep
  abbrev pub called : Word → List ℤ → Activation → List Activation → Turn
  called n arguments caller below = if nat_lt (length below) MOST_BELOW then entered arguments caller below (named n) else Asks (ask.Fault fault.Deep)

  -- a `let`, which fails or gives its local a value
  abbrev pub assigned : Valuation → Word → List Statement → List Activation → Result ℤ ErrorKind → Turn
  assigned values x ks below (Ok n) = Goes (quiet (with_value values x n) ks) below
  assigned values x ks below (Err k) = Asks (ask.Fault k)

  -- a put of a state, or of a number that no counter and no amount has
  abbrev pub putting : ℕ → Option Any → Turn
  putting v (Some d) = Asks (ask.Put v d)
  putting v None = Asks (ask.Fault fault.Range)

  -- a get by a read, or a fault where a number is none of what is read there
  abbrev pub getting : ℕ → Option AnyRead → Turn
  getting v (Some r) = Asks (ask.Get v r)
  getting v None = Asks (ask.Fault fault.Range)

  -- where in a variable
  abbrev pub place_in : Word → Option ℤ → Option Place
  place_in v at = option_and_then (λ k. place_meant k at) (kind_of v script.declarations)

  -- a put at a place in a variable
  abbrev pub puts : Word → Option ℤ → ℤ → Turn
  puts v at n = putting (variable v) (option_and_then (λ p. put_at p n) (place_in v at))

  -- a get at a place in a variable
  abbrev pub gets : Word → Option ℤ → Test → Turn
  gets v at t = getting (variable v) (option_and_then (λ p. read_at p t) (place_in v at))

  -- one case per command
  abbrev pub command_turn : Valuation → List Statement → List Activation → Command → Turn
  command_turn values ks below (Let x v) = assigned values x ks below (value_given values v)
  command_turn values ks below (Put v t) = puts v None (term_value values t)
  command_turn values ks below (PutAt v p t) = puts v (Some (term_value values p)) (term_value values t)
  command_turn values ks below (Get x v r) = gets v None (threshold_test values r)
  command_turn values ks below (GetAt x v p r) = gets v (Some (term_value values p)) (threshold_test values r)
  command_turn values ks below (Fork n ts) = Asks (ask.Fork (started (map (term_value values) ts) (named n)))
  command_turn values ks below (Call n ts) = called n (map (term_value values) ts) (quiet values ks) below
  command_turn values ks below (Handle p n) = Asks (ask.Add (pool p) (procedure n))
  command_turn values ks below (Freeze x v ps) = Asks (ask.Freeze (variable v) (map pool ps))
  command_turn values ks below (FreezeEach x v ps n) = Asks (ask.Freeze (variable v) (map pool ps))

  -- one case per statement: the test of an `if` is a local statement, and so is each test of a `while`
  abbrev pub statement_turn : Valuation → List Statement → List Activation → Statement → Statement-F Statement Block → Turn
  statement_turn values ks below s (Do c) = command_turn values ks below c
  statement_turn values ks below s (If t a) = Goes (quiet values (chosen (term_value values t) (statements a ++ ks) ks)) below
  statement_turn values ks below s (IfElse t a b) = Goes (quiet values (chosen (term_value values t) (statements a ++ ks) (statements b ++ ks))) below
  statement_turn values ks below s (While t a) = Goes (quiet values (chosen (term_value values t) (statements a ++ s ∷ ks) ks)) below

  -- at the end of the first frame, End
  abbrev pub list_turn : Valuation → List Activation → List Statement → Turn
  list_turn values below [] = Asks ask.End
  list_turn values below (s ∷ ks) = statement_turn values ks below s (out-Statement s)

  -- an `each` calls its procedure on the next event's key and number, before what follows
  abbrev pub frame_turn : Activation → List Activation → List Event → Turn
  frame_turn top below [] = list_turn top.values below top.following
  frame_turn top below (e ∷ es) = called top.each (e.key ∷ e.number ∷ []) (record top { events = es }) below

  -- the next turn of a task
  abbrev pub turn : LocalState → Turn
  turn s = frame_turn s.top s.below s.top.events

  -- the frames without those in which nothing follows, except the first
  abbrev pub returned : Activation → List Activation → ℕ → List Event → List Statement → LocalState
  returned top below left (e ∷ es) ks = record { top = top; below = below; left = left }
  returned top below left [] (s ∷ ks) = record { top = top; below = below; left = left }
  returned top [] left [] [] = record { top = top; below = []; left = left }
  returned top (a ∷ below) left [] [] = returned a below left a.events a.following

  -- the state out of frames in which nothing follows
  abbrev pub settled : LocalState → LocalState
  settled s = returned s.top s.below s.left s.top.events s.top.following

  -- what a turn asks: its request, or what is asked after its local statement
  abbrev pub went : LocalState → (Activation → List Activation → LocalAsked) → Turn → LocalAsked
  went s go (Goes top below) = go top below
  went s go (Asks r) = record { request = r; at = s }

  -- this many local statements at most, and then Pause, whatever follows
  abbrev pub run : ℕ → Activation → List Activation → LocalAsked
  run zero top below = record { request = ask.Pause; at = settled (record { top = top; below = below; left = zero }) }
  run (suc n) top below =
      let s = settled (record { top = top; below = below; left = suc n }) in
      went s (run n) (turn s)

  -- the request that comes next, and the state in which it is made
  abbrev pub asked : LocalState → LocalAsked
  asked s = run s.left s.top s.below

  -- ---- what follows a reply

  -- what follows the reply to a command
  abbrev pub answered : Valuation → List Statement → Command → Reply Any ℤ → Activation
  answered values ks (Get x v r) (reply.Answer n) = quiet (with_value values x n) ks
  answered values ks (GetAt x v p r) (reply.Answer n) = quiet (with_value values x n) ks
  answered values ks (Freeze x v ps) (reply.Content d) = quiet (with_value values x (pos (length (events_below d)))) ks
  answered values ks (FreezeEach x v ps n) (reply.Content d) = record { values = with_value values x (pos (length (events_below d))); each = n; events = events_below d; following = ks }
  answered values ks c _ = quiet values ks

  -- what follows the reply to the first statement
  abbrev pub after_statement : Valuation → List Statement → Reply Any ℤ → Statement-F Statement Block → Activation
  after_statement values ks r (Do c) = answered values ks c r
  after_statement values ks r u = quiet values ks

  -- what follows the reply to the statement that comes next
  abbrev pub activation_after : Valuation → Reply Any ℤ → List Statement → Activation
  activation_after values r [] = quiet values []
  activation_after values r (s ∷ ks) = after_statement values ks r (out-Statement s)

  -- after a Pause, which comes where no local statement is left, the same follows
  abbrev pub resumed_top : Activation → Reply Any ℤ → ℕ → Activation
  resumed_top top r zero = top
  resumed_top top r (suc n) = activation_after top.values r top.following

  -- what follows the reply to the request that is made in this state
  abbrev pub resumed : LocalState → Reply Any ℤ → LocalState
  resumed s r = record { top = resumed_top s.top r s.left; below = s.below; left = TURNS }

  -- ---- the whole script

  -- the variables of the pools, in the order of their lines
  abbrev pub pooled : Declaration → List ℕ
  pooled (line.Variable v k) = []
  pooled (line.Pool p v) = variable v ∷ []

  -- the variable of a pool, none where there is no such pool
  abbrev pub pool_variable : ℕ → Option ℕ
  pool_variable p = slice_get (flat_map pooled script.declarations) p

-- a script as a program: what its tasks are, ask for and do after replies
abbrev pub script_functions : Script → Functions Any Event AnyRead ℤ LocalState
script_functions script = record {
  variables = length (variable_names script.declarations);
  pool_variable = pool_variable script;
  -- main begins without arguments
  start = started script [] (named script (codes "main"));
  -- a handler's procedure begins on key and number
  start_handler = λ k e. started script (e.key ∷ e.number ∷ []) (slice_get script.procedures k);
  request = λ s. (asked script s).request;
  at = λ s. (asked script s).at;
  resume = resumed script;
}
