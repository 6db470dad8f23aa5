-- Names, configurations, steps and runs.
use Rattle.std.specs.Prelude.{◌≡◌, ◌≢◌, ◌⊎◌, ℕ, suc, Bool, true, false, not, ◌&&◌, ◌||◌, List, [], ◌∷◌, Option, Some, None, IsSome, Contains, nat_eq, if◌then◌else◌, unwrap_or}
use Rattle.lvish_names.specs.Names.{Name, main, forked, handed, Handler, handler_of, is_deep, same_name, same_handler}
pub use Rattle.lvish_calculus.specs.declared.label.Label.{Label}
pub use Rattle.lvish_calculus.specs.declared.label.Label.TheVariants.{Act, Hand}
use Rattle.lvish_calculus.specs.Machine.{ErrorKind, Conflict, Frozen, Late, Deep, Request, Put, Get, Fork, Add, Freeze, Pause, End, Fault, Done, Answer, Content, Machine, IsBelow}

-- what runs under a name: nothing yet, a task in a local state with its numbers of forks, adds and puts, or an ended task
pub data Task (L : Type 0) : Type 0 where
  Absent : Task L
  Live : (local : L) (forks adds puts : ℕ) → Task L
  Ended : Task L

-- the pool and the procedure of a handler
pub record Post : Type 0 where
  pub pool : ℕ
  pub procedure : ℕ

-- a configuration without an error
pub record State (S E L : Type 0) : Type 0 where
  pub content : ℕ → S
  pub frozen : ℕ → Bool
  pub tasks : Name E → Task L
  pub handlers : Handler E → Option Post
  pub handed : Handler E → E → Bool

-- a state, or the error that the run met: its kind, its variable if it has one, and the task (LVars and LVish: error)
pub data Configuration (S E L : Type 0) : Type 0 where
  Running : State S E L → Configuration S E L
  Error : ErrorKind → Option ℕ → Name E → Configuration S E L

-- what a step changes; all that it doesn't name stays
pub record Change (S E L : Type 0) : Type 0 where
  pub own : Option (Name E × Task L)  -- the acting task, as it goes on
  pub made : Option (Name E × Task L)  -- a new task
  pub added : Option (Handler E × Post)  -- a new handler
  pub joined : Option (ℕ × S)  -- a state that is joined to a variable's
  pub froze : Option ℕ  -- a variable that is frozen
  pub handing : Option (Handler E × E)  -- an event that is handed to a handler

-- what a step comes to: a change, or an error. Nothing stands for labels that aren't enabled
pub data Effect (S E L : Type 0) : Type 0 where
  Changes : Change S E L → Effect S E L
  Fails : ErrorKind → Option ℕ → Name E → Effect S E L
  Nothing : Effect S E L

-- a task belongs to one of these pools
pub record IsIn {S E L : Type 0} (c : State S E L) (t : Name E) (pools : List ℕ) : Type 0 where
  pub handler : Handler E
  pub of : handler_of t ≡ Some handler
  pub post : Post
  pub is : c.handlers handler ≡ Some post
  pub listed : Contains pools post.pool

-- a task that is there and hasn't ended
pub data IsLive {L : Type 0} : Task L → Type 0 where
  is_live : {l : L} {f a p : ℕ} → IsLive (Live l f a p)

module _ {S E R A L : Type 0} (M : Machine S E R A L) where
  -- every variable at bottom and unfrozen, main alone in its first local state, and no handler
  abbrev pub start : State S E L
  start = record {
    content = λ v. M.bottom;
    frozen = λ v. false;
    tasks = λ t. if same_name M.event_same t main then Live M.start 0 0 0 else Absent;
    handlers = λ h. None;
    handed = λ h e. false;
  }

  -- a handler handles the events of this variable
  pub record IsOn (c : State S E L) (h : Handler E) (v : ℕ) : Type 0 where
    pub post : Post
    pub is : c.handlers h ≡ Some post
    pub of : M.pool_variable post.pool ≡ Some v

  -- every event below the variable's state was handed to every handler on it, and every task of the pools has ended
  pub record IsQuiescent (c : State S E L) (v : ℕ) (pools : List ℕ) : Type 0 where
    pub drained : (h : Handler E) (e : E) → IsOn c h v → IsBelow M e (c.content v) → c.handed h e ≡ true
    pub ended : (t : Name E) → IsIn c t pools → IsLive (c.tasks t) → ⊥

  -- the request can be made: a Get has its answer, a Freeze finds its variable quiescent, and every other request is always ready (LVars: threshold reads block; LVish: freeze after, and here any freeze waits for the handlers of its variable)
  abbrev pub IsReady : State S E L → Request S R L → Type 0
  IsReady c (Get v r) = IsSome (M.answer r (c.content v))
  IsReady c (Freeze v pools) = IsQuiescent c v pools
  IsReady c _ = Unit {0}

  -- a live task whose request is ready
  abbrev pub IsReadyTask : State S E L → Task L → Type 0
  IsReadyTask c (Live l f a p) = IsReady c (M.request l)
  IsReadyTask c Absent = ⊥
  IsReadyTask c Ended = ⊥

  -- the handler is on a variable, the event is below its state, and wasn't handed to this handler
  pub record IsToHand (c : State S E L) (h : Handler E) (e : E) : Type 0 where
    pub variable : ℕ
    pub on : IsOn c h variable
    pub below : IsBelow M e (c.content variable)
    pub not_handed : c.handed h e ≡ false

  -- a task's step is enabled where its request is ready, a handing where the event is to be handed
  abbrev pub IsEnabled : State S E L → Label E → Type 0
  IsEnabled c (Act t) = IsReadyTask c (c.tasks t)
  IsEnabled c (Hand h e) = IsToHand c h e

-- no change
abbrev pub unchanged : {S E L : Type 0} → Change S E L
unchanged = record { own = None; made = None; added = None; joined = None; froze = None; handing = None }

-- nothing but the acting task changes
abbrev pub just : {S E L : Type 0} → Name E → Task L → Change S E L
just {S} {E} {L} t k = record (unchanged {S = S} {E = E} {L = L}) { own = Some (t, k) }

-- a handler that comes to a frozen variable is the error Late; else it is there under its name
abbrev pub add_effect : {S E L : Type 0} → State S E L → Name E → Task L → Handler E → Post → Option ℕ → Effect S E L
add_effect c t k h post None = Nothing
add_effect {S} c t k h post (Some v) =
    if c.frozen v then Fails Late (Some v) t
    else Changes (record (just {S = S} t k) { added = Some (h, post) })

module _ {S E R A L : Type 0} (M : Machine S E R A L) where
  -- a put whose join is top is the error Conflict; one that would raise a frozen variable the error Frozen; else the join is made (LVish: put and frozen contents)
  abbrev pub put_effect : State S E L → Name E → Task L → ℕ → S → Option S → Effect S E L
  put_effect c t k v d None = Fails Conflict (Some v) t
  put_effect c t k v d (Some s) =
      if c.frozen v && not (M.same s (c.content v)) then Fails Frozen (Some v) t
      else Changes (record (just {S = S} t k) { joined = Some (v, d) })

  -- a get goes on with its answer, and changes nothing else
  abbrev pub get_effect : Name E → L → ℕ → ℕ → ℕ → Option A → Effect S E L
  get_effect t l f a p None = Nothing
  get_effect t l f a p (Some x) = Changes (just t (Live (M.resume l (Answer x)) f a p))

  -- what a task's request does; l is the local state in which it is made
  abbrev pub request_effect : State S E L → Name E → L → ℕ → ℕ → ℕ → Request S R L → Effect S E L
  request_effect c t l f a p (Put v d) = put_effect c t (Live (M.resume l Done) f a (suc p)) v d (M.join (c.content v) d)
  request_effect c t l f a p (Get v r) = get_effect t l f a p (M.answer r (c.content v))
  request_effect c t l f a p (Fork child) =
      if is_deep t then Fails Deep None t
      else Changes (record (just {S = S} t (Live (M.resume l Done) (suc f) a p)) { made = Some (forked t (suc f), Live child 0 0 0) })
  request_effect c t l f a p (Add pool procedure) =
      if is_deep t then Fails Deep None t
      else add_effect c t (Live (M.resume l Done) f (suc a) p) (record { adder = t; number = suc a }) (record { pool = pool; procedure = procedure }) (M.pool_variable pool)
  request_effect c t l f a p (Freeze v pools) = Changes (record (just {S = S} t (Live (M.resume l (Content (c.content v))) f a p)) { froze = Some v })
  request_effect c t l f a p Pause = Changes (just t (Live (M.resume l Done) f a p))
  request_effect c t l f a p End = Changes (just t Ended)
  request_effect c t l f a p (Fault kind) = Fails kind None t

  -- what the step of a live task comes to
  abbrev pub task_effect : State S E L → Name E → Task L → Effect S E L
  task_effect c t (Live l f a p) = request_effect c t (M.at l) f a p (M.request l)
  task_effect c t Absent = Nothing
  task_effect c t Ended = Nothing

  -- a handing starts the handler's procedure on the event, as a new task in the handler's pool (LVish: spawning handlers)
  abbrev pub hand_effect : Handler E → E → Option Post → Effect S E L
  hand_effect h e None = Nothing
  hand_effect h e (Some post) =
      Changes (record (unchanged {S = S} {E = E} {L = L}) { made = Some (handed h.adder h.number e, Live (M.start_handler post.procedure e) 0 0 0); handing = Some (h, e) })

  -- what a step with an enabled label does
  abbrev pub effect : State S E L → Label E → Effect S E L
  effect c (Act t) = task_effect c t (c.tasks t)
  effect c (Hand h e) = hand_effect h e (c.handlers h)

-- the tasks, with another one under one name
abbrev pub with_task : {E L : Type 0} → (E → E → Bool) → Option (Name E × Task L) → (Name E → Task L) → Name E → Task L
with_task eq None tasks u = tasks u
with_task eq (Some new) tasks u = if same_name eq u new.0 then new.1 else tasks u

-- the handlers, with another one under its name
abbrev pub with_handler : {E : Type 0} → (E → E → Bool) → Option (Handler E × Post) → (Handler E → Option Post) → Handler E → Option Post
with_handler eq None handlers h = handlers h
with_handler eq (Some new) handlers h = if same_handler eq h new.0 then Some new.1 else handlers h

-- the contents, with a state joined to those of one variable
abbrev pub with_join : {S : Type 0} → (S → S → Option S) → Option (ℕ × S) → (ℕ → S) → ℕ → S
with_join join None content v = content v
with_join join (Some new) content v = if nat_eq v new.0 then unwrap_or (join (content v) new.1) (content v) else content v

-- the frozen marks, and one more
abbrev pub with_frozen : Option ℕ → (ℕ → Bool) → ℕ → Bool
with_frozen None frozen v = frozen v
with_frozen (Some new) frozen v = nat_eq v new || frozen v

-- what was handed to which handler, and one event more
abbrev pub with_handed : {E : Type 0} → (E → E → Bool) → Option (Handler E × E) → (Handler E → E → Bool) → Handler E → E → Bool
with_handed eq None before h e = before h e
with_handed eq (Some new) before h e = (same_handler eq h new.0 && eq e new.1) || before h e

module _ {S E R A L : Type 0} (M : Machine S E R A L) where
  -- a state with a change made to it
  abbrev pub changed : Change S E L → State S E L → State S E L
  changed ch c = record {
    content = with_join M.join ch.joined c.content;
    frozen = with_frozen ch.froze c.frozen;
    tasks = with_task M.event_same ch.own (with_task M.event_same ch.made c.tasks);
    handlers = with_handler M.event_same ch.added c.handlers;
    handed = with_handed M.event_same ch.handing c.handed;
  }

  -- the configuration after a step that comes to this
  abbrev pub after : State S E L → Effect S E L → Configuration S E L
  after c (Changes ch) = Running (changed ch c)
  after c (Fails kind v t) = Error kind v t
  after c Nothing = Running c

  -- the configuration after a step with an enabled label
  abbrev pub step : State S E L → Label E → Configuration S E L
  step c l = after c (effect M c l)

  -- a run from c: each label is enabled in its turn, and d is the last configuration
  abbrev pub IsRun : Configuration S E L → List (Label E) → Configuration S E L → Type 0
  IsRun d [] last = d ≡ last
  IsRun (Running c) (l ∷ ls) last = IsEnabled M c l × IsRun (step c l) ls last
  IsRun (Error kind v t) (l ∷ ls) last = ⊥

  -- in a configuration the label is enabled; after an error nothing is
  abbrev pub CanStep : Configuration S E L → Label E → Type 0
  CanStep (Running c) l = IsEnabled M c l
  CanStep (Error kind v t) l = ⊥

  -- the configuration after a step with a label that is enabled in this one
  abbrev pub next : Configuration S E L → Label E → Configuration S E L
  next (Running c) l = step c l
  next (Error kind v t) l = Error kind v t

  -- no label is enabled
  abbrev pub IsEnd : State S E L → Type 0
  IsEnd c = (l : Label E) → IsEnabled M c l → ⊥

  -- an end without an error: no label is enabled
  abbrev pub IsEnded : Configuration S E L → Type 0
  IsEnded (Running c) = IsEnd c
  IsEnded (Error kind v t) = ⊥

  -- some task is at a step that is an error
  abbrev pub IsDoomedRequest : State S E L → Name E → Request S R L → Type 0
  IsDoomedRequest c t (Put v d) =
      (M.join (c.content v) d ≡ None)
      ⊎ ((s : S) × (M.join (c.content v) d ≡ Some s) × (c.frozen v ≡ true) × (s ≢ c.content v))
  IsDoomedRequest c t (Fork child) = is_deep t ≡ true
  IsDoomedRequest c t (Add pool procedure) = (is_deep t ≡ true) ⊎ ((v : ℕ) × (M.pool_variable pool ≡ Some v) × (c.frozen v ≡ true))
  IsDoomedRequest c t (Fault kind) = Unit {0}
  IsDoomedRequest c t _ = ⊥

  -- some task that hasn't ended is at a step that is an error
  pub record IsDoomed (c : State S E L) : Type 0 where
    pub task : Name E
    pub local : L
    pub forks : ℕ
    pub adds : ℕ
    pub puts : ℕ
    pub is : c.tasks task ≡ Live local forks adds puts
    pub doomed : IsDoomedRequest c task (M.request local)

  -- the label is a step of a task that asks to freeze this variable
  pub record Freezes (c : State S E L) (l : Label E) (v : ℕ) : Type 0 where
    pub task : Name E
    pub local : L
    pub forks : ℕ
    pub adds : ℕ
    pub puts : ℕ
    pub pools : List ℕ
    pub label : l ≡ Act task
    pub is : c.tasks task ≡ Live local forks adds puts
    pub asked : M.request local ≡ Freeze v pools
