-- What the parts of a step take and leave.
use Rattle.std.specs.Prelude.{◌≡◌, ◌+◌, ℕ, false, Option, Some, None, Result, MatchResult}
use Rattle.lvish_core.specs.Vocabulary.{Label, Act, ErrorKind, Request, Put, Reply, PutFault, HandlerPlace, Stepped, StepFault, NotEnabled, Full, Memory, Moved}
use Rattle.lvish_calculus.specs.Machine.{Machine}
use Rattle.lvish_calculus.specs.Calculus.{Live, Changes, IsReady, request_effect, just}
use Rattle.lvish_names.specs.Names.{Name, Handler, is_deep}
use Rattle.lvish_calculus.specs.Program.{IsReplyTo}
use Rattle.lvish_picture.specs.Steps.{IsAsking, IsErring}
use Rattle.lvish_core.specs.Core.{CoreView, IsStep, state}
use Rattle.lvish_core.specs.Changes.{IsMoved}
use Rattle.lvish_core.specs.Beside.{RefusedAt}

-- there is no error, and t asks for r in the local state at
pub record IsAsked {P S E R A L : Type 0} (M : Machine S E R A L) (c : CoreView P S E L) (t : Name E) (at : L) (f a p : ℕ) (r : Request S R L) : Type 0 where
  pub no_fault : c.fault ≡ None
  pub local : L
  pub asking : IsAsking M c.table t local f a p r
  pub at_is : at ≡ M.at local

-- there is no error, and t's request r, made in the local state at, is ready
pub record IsActing {P S E R A L : Type 0} (M : Machine S E R A L) (c : CoreView P S E L) (t : Name E) (at : L) (f a p : ℕ) (r : Request S R L) : Type 0 where
  pub no_fault : c.fault ≡ None
  pub local : L
  pub asking : IsAsking M c.table t local f a p r
  pub at_is : at ≡ M.at local
  pub ready : IsReady M (state M c) r

-- t asks for what changes nothing but its local state, by this reply
pub record IsReplied {P S E R A L : Type 0} (M : Machine S E R A L) (c : CoreView P S E L) (t : Name E) (at : L) (f a p : ℕ) (reply : Reply S A) : Type 0 where
  pub request : Request S R L
  pub acting : IsActing M c t at f a p request
  pub fits : IsReplyTo request reply
  pub does : request_effect M (state M c) t at f a p request ≡ Changes (just t (Live (M.resume at reply) f a p))

-- t's request is this error
pub record IsFailing {P S E R A L : Type 0} (M : Machine S E R A L) (c : CoreView P S E L) (t : Name E) (kind : ErrorKind) (v : Option ℕ) : Type 0 where
  pub at : L
  pub forks : ℕ
  pub adds : ℕ
  pub puts : ℕ
  pub request : Request S R L
  pub acting : IsActing M c t at forks adds puts request
  pub errs : IsErring M c.table t request kind v

-- t's request is a put into v, which the variable refuses
pub record IsRefused {P S E R A L : Type 0} (M : Machine S E R A L) (c : CoreView P S E L) (t : Name E) (v : ℕ) (f : PutFault) : Type 0 where
  pub at : L
  pub forks : ℕ
  pub adds : ℕ
  pub puts : ℕ
  pub put : S
  pub acting : IsActing M c t at forks adds puts (Put v put)
  pub why : RefusedAt M.join put v c.table.variables f

-- the handler is the next one that t adds, at a place on a variable that isn't frozen, and its name isn't too long
pub record IsSeating {P S E R A L : Type 0} (M : Machine S E R A L) (c : CoreView P S E L) (t : Name E) (a : ℕ) (h : Handler E) (place : HandlerPlace) : Type 0 where
  pub named : h ≡ record { adder = t; number = a + 1 }
  pub shallow : is_deep t ≡ false
  pub own : M.pool_variable place.pool ≡ Some place.variable
  pub unfrozen : (state M c).frozen place.variable ≡ false

-- a step with the label was made, and this was moved by it
pub record IsMoving {P S E R A L : Type 0} (M : Machine S E R A L) (old : CoreView P S E L) (l : Label E) (new : CoreView P S E L) (said : Stepped) (moved : Moved E L) : Type 0 where
  pub step : IsStep M old l new said
  pub change : IsMoved M (state M old) l moved

-- t made its step, or memory was refused and the core is as it was
abbrev pub Acts : {P S E R A L : Type 0} → Machine S E R A L → CoreView P S E L → Name E → CoreView P S E L → Result (Stepped × Moved E L) StepFault → Type 0
Acts M old t new r = MatchResult r (λ s. IsMoving M old (Act t) new s.0 s.1) (λ e. (e ≡ Memory) × (new ≡ old))

-- why a request isn't made: it isn't ready, or memory was refused
abbrev pub IsUnmade : {P S E R A L : Type 0} → Machine S E R A L → CoreView P S E L → Request S R L → StepFault → Type 0
IsUnmade M c r NotEnabled = IsReady M (state M c) r → ⊥
IsUnmade M c r Full = ⊥
IsUnmade M c r Memory = Unit {0}

-- t made its step by the request, or didn't make it and the core is as it was
abbrev pub ActsIfReady : {P S E R A L : Type 0} → Machine S E R A L → CoreView P S E L → Name E → Request S R L → CoreView P S E L → Result (Stepped × Moved E L) StepFault → Type 0
ActsIfReady M old t r new result = MatchResult result (λ s. IsMoving M old (Act t) new s.0 s.1) (λ e. IsUnmade M old r e × (new ≡ old))
