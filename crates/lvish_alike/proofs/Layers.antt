-- Along each run of layered code, what is frozen stands above the place of main, and so do all freezes above it.
use Rattle.std.proofs.Common.{◌≡◌, inl, inr, ℕ, ◌<◌, ◌≤◌, ℤ, Bool, true, false, List, Option, Some, None, refl, ap, subst}
use Rattle.std.specs.List.{slice_get}
use Rattle.lvish_names.specs.Names.{Name, main, Handler, handler_of}
use Rattle.lvish_calculus.specs.declared.request.Request.TheVariants as ask
use Rattle.lvish_calculus.specs.Program.{IsReplyTo}
use Rattle.lvish_calculus.specs.Machine.{Machine, IsLawful}
use Rattle.lvish_calculus.specs.Calculus.{Task, Live, Ended, Post, State}
use Rattle.lvish_calculus.specs.Handing.{IsAmong}
use Rattle.lvish_calculus.proofs.SameThere.{Base, over}
use Rattle.lvish_calculus.proofs.Names.{cases_name}
use Rattle.lvish_calculus.proofs.Sound.{IsSound, live≢absent}
use Rattle.lvish_code.specs.Flat as flat
use Rattle.lvish_task.specs.Vocabulary.{Any, AnyRead, Event, Reply, Instruction, Ask, Call, Fork, Handle, Freeze}
use Rattle.lvish_task.specs.declared.script_code.ScriptCode.{ScriptCode}
use Rattle.lvish_task.specs.declared.stack.Stack.{Stack}
use Rattle.lvish_task.specs.Run.{functions, stack_fits, asked, resumed, instructions_in}
use Rattle.lvish_task.specs.laws.Fits.{asked_fits, of_local, misfit}
use Rattle.lvish_alike.specs.Reaching.{Leads, at_once, further, CanRun}
use Rattle.lvish_alike.specs.Sought.{instruction_names, instruction_calls, instruction_forks, instruction_stays, instruction_freezes, given_by, IsAt, code_outline}
use Rattle.lvish_alike.specs.Layered.{FreeRuns, PoolRuns, FreezesAt, IsLayered}
use Rattle.lvish_alike.proofs.OneEnd.{all_given}
use Rattle.lvish_alike.proofs.Tasks.{StackIn, RequestIn, given_at, asked_in}
use Rattle.lvish_alike.proofs.Main.{Same, main_can, bottom, MainStack, RequestMain, asked_main}
use Rattle.lvish_alike.proofs.Resumed.{ResumedAt, end_silent, resumed_main}

calls_stay : (i : Instruction) (k : ℕ) → instruction_calls i ≡ Some k → instruction_stays i ≡ Some k
calls_stay (Ask (Freeze x v ps each)) k e = e
calls_stay (Call j os) k e = e
calls_stay i k e = absurd (cc e)

pub forks_stay : (i : Instruction) (k : ℕ) → instruction_forks i ≡ Some k → instruction_stays i ≡ Some k
forks_stay (Ask (Fork j os)) k e = e
forks_stay i k e = absurd (cc e)

stays_named : (i : Instruction) (k : ℕ) → instruction_stays i ≡ Some k → instruction_names i ≡ Some k
stays_named (Ask (Fork j os)) k e = e
stays_named (Ask (Freeze x v ps each)) k e = e
stays_named (Call j os) k e = e
stays_named i k e = absurd (cc e)

forks_named : (i : Instruction) (k : ℕ) → instruction_forks i ≡ Some k → instruction_names i ≡ Some k
forks_named i k e = stays_named i k (forks_stay i k e)

pub live_parts : {L : Type 0} (k m : L) (f a p f' a' p' : ℕ) → ◌≡◌ {A = Task L} (Live k f a p) (Live m f' a' p') → k ≡ m
live_parts k m f a p f' a' p' e = cc

pub ended_live : {L : Type 0} (l : L) (f a p : ℕ) → ◌≡◌ {A = Task L} Ended (Live l f a p) → ⊥
ended_live l f a p e = cc

-- ---- routines of other tasks

module _ (c : flat.Code) (ly : IsLayered c) where
  module _ (f g : Instruction → Option ℕ) (less : (i : Instruction) (k : ℕ) → f i ≡ Some k → g i ≡ Some k) (j k : ℕ) where
    pub wider : IsAmong k (given_by f c.routines j) → IsAmong k (given_by g c.routines j)
    wider a = all_given f g less (instructions_in (slice_get c.routines j)) k a

  stays_can : (j k : ℕ) → CanRun (code_outline c) j → Leads (given_by instruction_stays c.routines) j k → CanRun (code_outline c) k
  stays_can j k can at_once = can
  stays_can j k can (further {j = i} l a) = further (stays_can j i can l) (wider instruction_stays instruction_names stays_named i k a)

  -- a routine that is named isn't main, and what it leads to isn't
  stays_not_main : (i j k : ℕ) → CanRun (code_outline c) i → IsAmong j (given_by instruction_names c.routines i) → Leads (given_by instruction_stays c.routines) j k → k ≡ c.main → ⊥
  stays_not_main i j k can a at_once e = ly.once i can (subst (λ m. IsAmong m (given_by instruction_names c.routines i)) e a)
  stays_not_main i j k can a (further {j = h} l b) e =
      ly.once h (stays_can j h (further can a) l) (subst (λ m. IsAmong m (given_by instruction_names c.routines h)) e (wider instruction_stays instruction_names stays_named h k b))

  pub free_can : (k : ℕ) → FreeRuns c k → CanRun (code_outline c) k
  free_can k (i, j, runs, a, l) = stays_can j k (further (main_can c ly i runs) (wider instruction_forks instruction_names forks_named i j a)) l

  free_not_main : (k : ℕ) → FreeRuns c k → k ≡ c.main → ⊥
  free_not_main k (i, j, runs, a, l) e = stays_not_main i j k (main_can c ly i runs) (wider instruction_forks instruction_names forks_named i j a) l e

  named_at : (i place p j : ℕ) → IsAt c.routines i place (Ask (Handle p j)) → IsAmong j (given_by instruction_names c.routines i)
  named_at i place p j at = given_at instruction_names (instructions_in (slice_get c.routines i)) place _ j at refl

  pub pool_can : (p k : ℕ) → PoolRuns c p k → CanRun (code_outline c) k
  pool_can p k (i, place, j, can, at, l) = stays_can j k (further can (named_at i place p j at)) l

  pool_not_main : (p k : ℕ) → PoolRuns c p k → k ≡ c.main → ⊥
  pool_not_main p k (i, place, j, can, at, l) e = stays_not_main i j k can (named_at i place p j at) l e

  pub free_stays : (j k : ℕ) → FreeRuns c j → IsAmong k (given_by instruction_stays c.routines j) → FreeRuns c k
  free_stays j k (i, m, runs, a, l) b = (i, m, runs, a, further l b)

  pub pool_stays : (p j k : ℕ) → PoolRuns c p j → IsAmong k (given_by instruction_stays c.routines j) → PoolRuns c p k
  pool_stays p j k (i, place, m, can, at, l) b = (i, place, m, can, at, further l b)

  pub free_on : (j k : ℕ) → FreeRuns c j → IsAmong k (given_by instruction_calls c.routines j) → FreeRuns c k
  free_on j k r a = free_stays j k r (wider instruction_calls instruction_stays calls_stay j k a)

  pub pool_on : (p j k : ℕ) → PoolRuns c p j → IsAmong k (given_by instruction_calls c.routines j) → PoolRuns c p k
  pool_on p j k r a = pool_stays p j k r (wider instruction_calls instruction_stays calls_stay j k a)

  -- a task of no pool, and one of a pool
  abbrev pub FreeIn : Stack → Type 0
  FreeIn l = StackIn c (FreeRuns c) free_on l

  abbrev pub PoolIn : ℕ → Stack → Type 0
  PoolIn p l = StackIn c (PoolRuns c p) (pool_on p) l

  -- ---- requests of main, from its local state before the request

  pub record MainAsks (l : Stack) : Type 0 where
    pub frames : MainStack c ly (asked c l).at.top (asked c l).at.below
    pub same : Same c ly (bottom c ly l.top l.below) (bottom c ly (asked c l).at.top (asked c l).at.below)
    pub request : RequestMain c ly (bottom c ly (asked c l).at.top (asked c l).at.below) (asked c l).request

  pub main_asks : (l : Stack) → MainStack c ly l.top l.below → MainAsks l
  main_asks l s = let a = asked_main c ly l s in record { frames = a.at.frames; same = a.at.same; request = a.request }

  -- after a reply main stands where it stood, or behind its freeze
  pub main_goes : (l : Stack) → MainStack c ly l.top l.below → (r : Reply Any ℤ) → IsReplyTo (asked c l).request r → ResumedAt c ly (bottom c ly (asked c l).at.top (asked c l).at.below) (asked c l).request (resumed c (asked c l).at r).top (resumed c (asked c l).at r).below
  main_goes l s r replied = by (stack_fits c l) refl
    where
      by : (b : Bool) → stack_fits c l ≡ b → ResumedAt c ly (bottom c ly (asked c l).at.top (asked c l).at.below) (asked c l).request (resumed c (asked c l).at r).top (resumed c (asked c l).at r).below
      by true e =
          let f = asked_fits c l e in
          let a = asked_main c ly l s in
          resumed_main c ly (asked c l).request r replied (asked c l).at (of_local c (asked c l).at f.at) a.at.frames a.request f.makes
      by false e = absurd (end_silent r (subst (λ q. IsReplyTo q r) (ap (λ a. a.request) (misfit c l e)) replied))

-- ---- runs

module _ (sc : ScriptCode) (ly : IsLayered sc.flat) (B : Base Any Event AnyRead ℤ) (ok : IsLawful (over B (functions sc))) where
  abbrev pub c : flat.Code
  c = sc.flat

  abbrev pub M : Machine Any Event AnyRead ℤ Stack
  M = over B (functions sc)

  abbrev pub place_of : Stack → ℕ
  place_of l = bottom c ly l.top l.below

  pub record Holds (s : State Any Event Stack) : Type 0 where
    pub of_main : (l : Stack) (f a p : ℕ) → s.tasks main ≡ Live l f a p → MainStack c ly l.top l.below
    -- all freezes above the place of main are made
    pub passed : (l : Stack) (f a p : ℕ) → s.tasks main ≡ Live l f a p → (i v : ℕ) (ps : List ℕ) → FreezesAt c i v ps → i < place_of l → s.frozen v ≡ true
    pub free : (t : Name Event) (l : Stack) (f a p : ℕ) → (t ≡ main → ⊥) → handler_of t ≡ None → s.tasks t ≡ Live l f a p → FreeIn c ly l
    pub pooled : (t : Name Event) (h : Handler Event) (post : Post) (l : Stack) (f a p : ℕ) → handler_of t ≡ Some h → s.handlers h ≡ Some post → s.tasks t ≡ Live l f a p → PoolIn c ly post.pool l
    pub handlers : (h : Handler Event) (post : Post) → s.handlers h ≡ Some post → PoolRuns c post.pool post.procedure
    -- what is frozen is frozen by a line of main, all freezes above it are made, and main stands below it
    pub frozen : (v : ℕ) → s.frozen v ≡ true → (i : ℕ) × (ps : List ℕ) × FreezesAt c i v ps × ((j w : ℕ) (qs : List ℕ) → FreezesAt c j w qs → j ≤ i → s.frozen w ≡ true)
        × ((l : Stack) (f a p : ℕ) → s.tasks main ≡ Live l f a p → i < place_of l)

  module _ (s : State Any Event Stack) (h : Holds s) (sound : IsSound s) where
    -- a task is main, of no pool, or of one
    pub data Who (t : Name Event) (l : Stack) : Type 0 where
      is_main : t ≡ main → MainStack c ly l.top l.below → Who t l
      is_free : (t ≡ main → ⊥) → handler_of t ≡ None → FreeIn c ly l → Who t l
      is_pooled : (k : Handler Event) (post : Post) → handler_of t ≡ Some k → s.handlers k ≡ Some post → PoolIn c ly post.pool l → Who t l

    pub who : (t : Name Event) (l : Stack) (f a p : ℕ) → s.tasks t ≡ Live l f a p → Who t l
    who t l f a p is = elim (cases_name M.event_same ok.event_same_is t main) [
      | inl e ↦ is_main e (h.of_main l f a p (subst (λ u. s.tasks u ≡ Live l f a p) e is))
      | inr ne ↦ by ne (handler_of t) refl
    ]
      where
        by : (t ≡ main → ⊥) → (o : Option (Handler Event)) → handler_of t ≡ o → Who t l
        by ne None e = is_free ne e (h.free t l f a p ne e is)
        by ne (Some k) e = let post = sound.pool_known t k (live≢absent _ l f a p is) e in is_pooled k post.0 e post.1 (h.pooled t k post.0 l f a p e post.1 is)

    pub free_asks : (l : Stack) → FreeIn c ly l → RequestIn c (FreeRuns c) (free_on c ly) (asked c l).request
    free_asks l i = (asked_in c (FreeRuns c) (free_on c ly) l i).request

    pub pool_asks : (p : ℕ) (l : Stack) → PoolIn c ly p l → RequestIn c (PoolRuns c p) (pool_on c ly p) (asked c l).request
    pool_asks p l i = (asked_in c (PoolRuns c p) (pool_on c ly p) l i).request

    -- only main freezes
    pub freezer : (t : Name Event) (l : Stack) → Who t l → (v : ℕ) (ps : List ℕ) → (asked c l).request ≡ ask.Freeze v ps → (t ≡ main) × MainStack c ly l.top l.below
    freezer t l (is_main e m) v ps q = (e, m)
    freezer t l (is_free ne none i) v ps q = absurd (never (subst (RequestIn c (FreeRuns c) (free_on c ly)) q (free_asks l i)))
      where
        never : RequestIn c (FreeRuns c) (free_on c ly) (ask.Freeze v ps) → ⊥
        never (j, place, x, each, r, at) = free_not_main c ly j r (ly.alone j v (free_can c ly j r) (given_at instruction_freezes (instructions_in (slice_get c.routines j)) place _ v at refl))
    freezer t l (is_pooled k post of there i) v ps q = absurd (never (subst (RequestIn c (PoolRuns c post.pool) (pool_on c ly post.pool)) q (pool_asks post.pool l i)))
      where
        never : RequestIn c (PoolRuns c post.pool) (pool_on c ly post.pool) (ask.Freeze v ps) → ⊥
        never (j, place, x, each, r, at) = pool_not_main c ly post.pool j r (ly.alone j v (pool_can c ly post.pool j r) (given_at instruction_freezes (instructions_in (slice_get c.routines j)) place _ v at refl))

    -- what a task adds a handler for, a task of its pool runs
    pub adder : (t : Name Event) (l : Stack) → Who t l → (pool k : ℕ) → (asked c l).request ≡ ask.Add pool k → PoolRuns c pool k
    adder t l (is_main e m) pool k q = let z = (subst (RequestMain c ly (place_of (asked c l).at)) q (main_asks c ly l m).request).1 in (z.0, z.1, k, z.2, z.3, at_once)
    adder t l (is_free ne none i) pool k q = let z = subst (RequestIn c (FreeRuns c) (free_on c ly)) q (free_asks l i) in (z.0, z.1, k, free_can c ly z.0 z.2, z.3, at_once)
    adder t l (is_pooled g post of there i) pool k q = let z = subst (RequestIn c (PoolRuns c post.pool) (pool_on c ly post.pool)) q (pool_asks post.pool l i) in (z.0, z.1, k, pool_can c ly post.pool z.0 z.2, z.3, at_once)
