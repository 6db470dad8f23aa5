-- What each act of a task does, over any machine.
use Rattle.std.proofs.Common.{◌≡◌, ◌≤◌, ◌<◌, ◌++◌, ℕ, suc, Bool, true, false, not, ◌&&◌, if◌then◌else◌, List, [], ◌∷◌, Option, Some, None, is_some, slice_get, unwrap_or, option_map, refl, sym, ap, subst, ◌∙◌, arith, length, length-set, append-nil}
use mathlib.Core.Path.{fun_ext}
use Rattle.std.proofs.lemmas.Bool.{false_from_ne_true, false≢true}
use Rattle.std.proofs.lemmas.Option.{same_Some}
use Rattle.lvish_lattice.specs.Lattice.{fresh_of}
use Rattle.lvish_core.specs.Vocabulary.{Request, Put, Get, Fork, Freeze, End, Reply, Done, Answer, Content, Frozen, Deep, Act, Entry, MOST_PROGRAM_STEPS, HandlerPlace, PutOn, EndedIn, Other, Touched}
use Rattle.lvish_calculus.specs.Machine.{Machine, IsLawful}
use Rattle.lvish_calculus.specs.Calculus.{Task, Absent, Live, Ended, IsReady, State, Running, Change, Changes, Fails, just, get_effect, put_effect, request_effect, after, with_task}
use Rattle.lvish_calculus.specs.Program.{IsReplyTo}
use Rattle.lvish_names.specs.Names.{Name, Handler, forked, is_deep, same_name}
use Rattle.lvish_calculus.proofs.Names.{nat_eq-refl, nat_eq-true}
use Rattle.lvish_variable.specs.Variable.{VariableView as Variable, entries}
use Rattle.lvish_handlers.specs.Handlers.{HandlersView as Handlers}
use Rattle.lvish_picture.specs.Picture.{Table, task_of}
use Rattle.lvish_picture.specs.Steps.{IsAsking, AreHeld, AreTasks, IsPutStep, IsFreezeStep, IsPlainStep}
use Rattle.lvish_picture.specs.Laws.{ActKept, NewTaskIsNew}
use Rattle.lvish_picture.specs.Counts.{ActCounted, AreCounts, PlainCounted, StartIsFollowed, EndIsFollowed, RestIsFollowed}
use Rattle.lvish_core.specs.Core.{CoreView, state}
use Rattle.lvish_core.specs.Changes.{put_brings, touching, touched_in}
use Rattle.lvish_core.specs.Places.{IsPlaceOf}
use Rattle.lvish_core.specs.Beside.{PutAt, FrozenAt, CountsAt, one_more_in, one_less_in}
use Rattle.lvish_core.specs.Tasks.{IsAt, KeepsIndices, Sets}
use Rattle.lvish_core.specs.Acts.{IsAsked, IsActing, IsReplied}
use Rattle.lvish_core.specs.Kept.{IsKept}
use Rattle.lvish_core.specs.laws.Runs.{content_at}
use Rattle.lvish_core.proofs.Turns.{Start, Turn, nobody, child, on, off, live_some}
use Rattle.lvish_core.proofs.Counting.{started, stopped, pool_variable_is}
use Rattle.lvish_core.proofs.Goes.{Moves, MovesTo, acted, outcome_is, as_asked, same_log, written_log, was_live}

abbrev put_change : {S E L : Type 0} → Name E → Task L → ℕ → S → Change S E L
put_change t k v d = record { own = Some (t, k); made = None; added = None; joined = Some (v, d); froze = None; handing = None }

abbrev task_change : {S E L : Type 0} → Option (Name E × Task L) → Option (Name E × Task L) → Change S E L
task_change own made = record { own = own; made = made; added = None; joined = None; froze = None; handing = None }

module _ {S E R A L : Type 0} (M : Machine S E R A L) where
  -- a put that is no error makes this change
  put_does : (c : State S E L) (t : Name E) (k : Task L) (v : ℕ) (d : S) (o : Option S) (z : State S E L) → after M c (put_effect M c t k v d o) ≡ Running z → put_effect M c t k v d o ≡ Changes (put_change t k v d)
  put_does c t k v d None z e = absurd (cc e)
  put_does c t k v d (Some s) z e = by (c.frozen v && not (M.same s (c.content v))) e
    where
      by : (b : Bool) → after M c (if b then Fails Frozen (Some v) t else Changes (put_change t k v d)) ≡ Running z → (if b then Fails Frozen (Some v) t else Changes (put_change t k v d)) ≡ Changes (put_change t k v d)
      by true e = absurd (cc e)
      by false e = refl

-- what is known of the acting task
module _ {P S E R A L : Type 0} {M : Machine S E R A L} {c : CoreView P S E L} {t : Name E} {at : L} {f a p : ℕ} {r : Request S R L} (acts : IsActing M c t at f a p r) where
  -- a task asks in the local state
  pub asks : (l : L) × (at ≡ M.at l)
  asks = (acts.local, acts.at_is)

  -- a reply that fits the task's request fits the state in which it asks
  pub fits_there : ((l : L) → M.request (M.at l) ≡ M.request l) → (reply : Reply S A) → IsReplyTo r reply → IsReplyTo (M.request at) reply
  fits_there repeats reply fits = subst (λ q. IsReplyTo q reply) (sym (ap M.request acts.at_is ∙ repeats acts.local ∙ acts.asking.asked)) fits

  -- the task is there
  pub is_there : task_of M.event_same c.table.tasks t ≡ Absent → ⊥
  is_there none = let no : Live acts.local f a p ≡ Absent = sym acts.asking.live ∙ none in cc no

  -- also where another task was put in
  pub there_still : (u : Name E) (l : L) (us : List (Name E × Task L)) → Sets M.event_same c.table.tasks u (Live l 0 0 0) us → task_of M.event_same us t ≡ Absent → ⊥
  there_still u l us sets none = by (same_name M.event_same t u) (sym (sets.each t) ∙ none)
    where
      by : (b : Bool) → (if b then Live l 0 0 0 else task_of M.event_same c.table.tasks t) ≡ Absent → ⊥
      by true e = cc e
      by false e = is_there e

  -- it has fewer forks, handlers and puts than steps may be made
  pub few_numbers : {variables n : ℕ} {places : List (Handler E × HandlerPlace)} → IsKept M variables n places c → c.steps < MOST_PROGRAM_STEPS → (f < MOST_PROGRAM_STEPS) × (a < MOST_PROGRAM_STEPS) × (p < MOST_PROGRAM_STEPS)
  few_numbers kept room = let few = kept.numbers t acts.local f a p acts.asking.live in (omega (arith, few.0), omega (arith, few.1), omega (arith, few.2))

-- a request that is ready is made
pub readied : {P S E R A L : Type 0} {M : Machine S E R A L} {c : CoreView P S E L} {t : Name E} {at : L} {f a p : ℕ} {r : Request S R L} → IsAsked M c t at f a p r → (q : Request S R L) → r ≡ q → IsReady M (state M c) q → IsActing M c t at f a p q
readied {M = M} {c = c} {t = t} {f = f} {a = a} {p = p} asked q is ready = record {
  no_fault = asked.no_fault;
  local = asked.local;
  asking = subst (λ z. IsAsking M c.table t asked.local f a p z) is asked.asking;
  at_is = asked.at_is;
  ready = ready;
}

-- what a get has
module _ {P S E R A L : Type 0} {M : Machine S E R A L} {old : CoreView P S E L} {t : Name E} {at : L} {f a p v : ℕ} {r : R} (asked : IsAsked M old t at f a p (Get v r)) (x : Variable S E) (x_at : slice_get old.table.variables v ≡ Some x) where
  pub get_answered : (y : A) → M.answer r x.state ≡ Some y → IsReplied M old t at f a p (Answer y)
  get_answered y e =
      let answered = ap (M.answer r) (content_at M old v x x_at) ∙ e in
      record { request = Get v r; acting = readied asked (Get v r) refl (ap (λ (q : Option A). is_some q) answered); fits = tt; does = ap (get_effect M t at f a p) answered }

  pub get_waits : M.answer r x.state ≡ None → IsReady M (state M old) (Get v r) → ⊥
  get_waits e ready = false≢true (sym (ap (λ (q : Option A). is_some q) (ap (M.answer r) (content_at M old v x x_at) ∙ e)) ∙ ready)

module _ {P S E R A L : Type 0} {M : Machine S E R A L} (ok : IsLawful M) {variables n : ℕ} {places : List (Handler E × HandlerPlace)} {old : CoreView P S E L} (kept : IsKept M variables n places old) {t : Name E} {at : L} {f a p : ℕ} where
  -- ---- a put

  module _ {v : ℕ} {d : S} (acts : IsActing M old t at f a p (Put v d)) (room : old.steps < MOST_PROGRAM_STEPS) (law : ActKept IsPutStep M) (law2 : ActCounted IsPutStep M)
      {vs : List (Variable S E)} (w : PutAt M.join M.event_same M.events t (suc p) d v old.table.variables vs) {us : List (Name E × Task L)} (sets : Sets M.event_same old.table.tasks t (Live (M.resume at Done) f a (suc p)) us) where
    abbrev put_table : Table S E L
    put_table = record { variables = vs; handlers = old.table.handlers; tasks = us }

    put_step : IsPutStep M old.table t put_table
    put_step = record {
      local = acts.local;
      forks = f;
      adds = a;
      puts = p;
      variable = v;
      put = d;
      asking = acts.asking;
      old = w.from;
      was = w.was;
      new = w.to;
      taken = w.taken;
      variables = w.is;
      handlers = refl;
      tasks = as_asked acts (λ l. Live (M.resume l Done) f a (suc p)) sets;
    }

    abbrev put_makes : Change S E L
    put_makes = put_change t (Live (M.resume at Done) f a (suc p)) v d

    abbrev put_brought : ℕ → List (Entry E)
    put_brought u = put_brings M (state M old) u put_makes.joined put_makes.own

    brought_here : w.to.log ≡ w.from.log ++ put_brought v
    brought_here = w.taken.log
        ∙ ap (λ (q : Option (Variable S E)). w.from.log ++ entries t (suc p) (fresh_of M.join M.event_same M.events (unwrap_or (option_map (λ x. x.state) q) M.bottom) d)) (sym w.was)
        ∙ ap (λ b. w.from.log ++ (if b then entries t (suc p) (fresh_of M.join M.event_same M.events ((state M old).content v) d) else [])) (sym (nat_eq-refl v))

    brought_else : (u : ℕ) → (u ≡ v → ⊥) → put_brought u ≡ []
    brought_else u ne = ap (λ b. if b then entries t (suc p) (fresh_of M.join M.event_same M.events ((state M old).content u) d) else []) (false_from_ne_true _ (λ e. ne (nat_eq-true u v e)))

    pub putting : Moves ok kept (Act t) put_makes put_table places (PutOn v)
    putting = acted ok kept acts put_makes put_table places (PutOn v) refl room (record {
      does = let is = outcome_is acts in
          is ∙ put_does M (state M old) t (Live (M.resume at Done) f a (suc p)) v d (M.join ((state M old).content v) d) _ (ap (after M (state M old)) (sym is) ∙ (law kept.standing.run old.table put_table t kept.standing.pictured put_step).stepped);
      turn = on t acts.local _ f a p f a (suc p) acts.asking.live (omega arith) (omega arith) (omega arith);
      begins = nobody;
      steps = λ xs k. law xs old.table put_table t k put_step;
      logs = written_log old.table.variables v w.from w.to w.was vs w.is put_brought brought_here brought_else;
      long = ap length w.is ∙ length-set old.table.variables v w.to;
      counted = law2 kept.standing.run old.table put_table t kept.standing.pictured kept.counted put_step;
      index = record { posts = kept.index.posts; own = kept.index.own };
      indices = sets.indices;
      last = λ x e. absurd (cc e);
    })

  -- ---- a freeze

  module _ {v : ℕ} {pools : List ℕ} (acts : IsActing M old t at f a p (Freeze v pools)) (room : old.steps < MOST_PROGRAM_STEPS) (law : ActKept IsFreezeStep M) (law2 : ActCounted IsFreezeStep M) {vs : List (Variable S E)} (w : FrozenAt v old.table.variables vs)
      {us : List (Name E × Task L)} (x : Variable S E) (x_at : slice_get old.table.variables v ≡ Some x) (sets : Sets M.event_same old.table.tasks t (Live (M.resume at (Content x.state)) f a p) us) where
    abbrev frozen_table : Table S E L
    frozen_table = record { variables = vs; handlers = old.table.handlers; tasks = us }

    freeze_step : IsFreezeStep M old.table t frozen_table
    freeze_step = record {
      local = acts.local;
      forks = f;
      adds = a;
      puts = p;
      variable = v;
      pools = pools;
      asking = acts.asking;
      quiet = acts.ready;
      old = w.from;
      was = w.was;
      variables = w.is;
      handlers = refl;
      tasks = let e : x ≡ w.from = cc (x_at, w.was) in
          as_asked acts (λ l. Live (M.resume l (Content w.from.state)) f a p) (rw e at sets);
    }

    abbrev freeze_makes : S → Change S E L
    freeze_makes s = record { own = Some (t, Live (M.resume at (Content s)) f a p); made = None; added = None; joined = None; froze = Some v; handing = None }

    listed : (state M old).frozen v ≡ x.frozen
    listed = ap (λ (q : Option (Variable S E)). unwrap_or (option_map (λ z. z.frozen) q) false) x_at

    pub freezing : (freezes : List ℕ) → freezes ≡ (if x.frozen then old.freezes else old.freezes ++ v ∷ []) → MovesTo ok kept (Act t) (freeze_makes x.state) frozen_table places Other freezes
    freezing freezes are = subst (λ fs. MovesTo ok kept (Act t) (freeze_makes x.state) frozen_table places Other fs) (ap (λ b. if b then old.freezes else old.freezes ++ v ∷ []) listed ∙ sym are) (acted ok kept acts (freeze_makes x.state) frozen_table places Other refl room (record {
      does = outcome_is acts ∙ ap (λ (o : Option (Variable S E)). Changes (freeze_makes (unwrap_or (option_map (λ z. z.state) o) M.bottom))) x_at;
      turn = on t acts.local _ f a p f a p acts.asking.live (omega arith) (omega arith) (omega arith);
      begins = nobody;
      steps = λ xs k. law xs old.table frozen_table t k freeze_step;
      logs = written_log old.table.variables v w.from _ w.was vs w.is (λ u. []) (sym (append-nil w.from.log)) (λ u ne. refl);
      long = ap length w.is ∙ length-set old.table.variables v _;
      counted = law2 kept.standing.run old.table frozen_table t kept.standing.pictured kept.counted freeze_step;
      index = record { posts = kept.index.posts; own = kept.index.own };
      indices = sets.indices;
      last = λ x e. absurd (cc e);
    }))

  -- ---- a get, a pause, a fork and an end, which change nothing but tasks and the counts of pools

  plainly : ActKept IsPlainStep M → PlainCounted M → old.steps < MOST_PROGRAM_STEPS → (r : Request S R L) (acts : IsActing M old t at f a p r) (own made : Option (Name E × Task L)) (about : Touched) (hss : List (Handlers E)) (us : List (Name E × Task L))
      → request_effect M (state M old) t at f a p r ≡ Changes (task_change own made) → about ≡ touched_in M (state M old) None own → Turn (state M old).tasks own → Start (state M old).tasks made → AreTasks M.event_same old.table.tasks own made us → KeepsIndices old.table.tasks us
      → ((x : Name E × Task L) → made ≡ Some x → IsAt us (length old.table.tasks) x.0) → AreCounts M (state M old) own made old.table.handlers hss × AreHeld old.table.handlers hss
      → Moves ok kept (Act t) (task_change own made) (record { variables = old.table.variables; handlers = hss; tasks = us }) places about
  plainly law law2 room r acts own made about hss us does touches turn begins tasks stay last counts =
      let new : Table S E L = record { variables = old.table.variables; handlers = hss; tasks = us } in
      let step : IsPlainStep M old.table t new = record {
        local = acts.local;
        forks = f;
        adds = a;
        puts = p;
        request = r;
        asking = acts.asking;
        ready = acts.ready;
        own = own;
        made = made;
        does = ap (λ (l : L). request_effect M (state M old) t l f a p r) (sym acts.at_is) ∙ does;
        variables = refl;
        handlers = counts.1;
        tasks = tasks;
      } in
      acted ok kept acts (task_change own made) new places about touches room (record {
        does = outcome_is acts ∙ does;
        turn = turn;
        begins = begins;
        steps = λ xs k. law xs old.table new t k step;
        logs = same_log old.table.variables;
        long = refl;
        counted = law2 kept.standing.run old.table new t kept.standing.pictured kept.counted step counts.0;
        index = record { posts = kept.index.posts; own = kept.index.own };
        indices = stay;
        last = last;
      })

  -- a get and a pause
  pub going_on : {reply : Reply S A} (h : IsReplied M old t at f a p reply) → old.steps < MOST_PROGRAM_STEPS → ActKept IsPlainStep M → PlainCounted M → RestIsFollowed M → {us : List (Name E × Task L)} → Sets M.event_same old.table.tasks t (Live (M.resume at reply) f a p) us
      → Moves ok kept (Act t) (just t (Live (M.resume at reply) f a p)) (record { variables = old.table.variables; handlers = old.table.handlers; tasks = us }) places Other
  going_on {reply} h room law law2 rest {us} sets =
      let own : Option (Name E × Task L) = Some (t, Live (M.resume at reply) f a p) in
      plainly law law2 room h.request h.acting own None Other old.table.handlers us h.does refl
      (on t h.acting.local _ f a p f a p h.acting.asking.live (omega arith) (omega arith) (omega arith)) nobody sets.each sets.indices (λ x e. absurd (cc e)) (rest (state M old) own None old.table.handlers (λ q. refl) (λ q. refl), refl)

  -- a fork's child isn't there
  pub child_is_new : {child_at : L} → IsActing M old t at f a p (Fork child_at) → NewTaskIsNew M → task_of M.event_same old.table.tasks (forked t (suc f)) ≡ Absent
  child_is_new acts fresh = (fresh kept.standing.run old.table kept.standing.pictured).0 t acts.local f a p acts.asking.live

  module _ (known : (k v : ℕ) → M.pool_variable k ≡ Some v → v < variables) (law : ActKept IsPlainStep M) (law2 : PlainCounted M) (rest : RestIsFollowed M) {us : List (Name E × Task L)} {place : Option HandlerPlace} (place_is : IsPlaceOf M (state M old) t place) {hss : List (Handlers E)} where
    -- a fork
    pub forking : {child_at : L} → IsActing M old t at f a p (Fork child_at) → old.steps < MOST_PROGRAM_STEPS → is_deep t ≡ false → StartIsFollowed M → NewTaskIsNew M → {mid : List (Name E × Task L)}
        → Sets M.event_same old.table.tasks (forked t (suc f)) (Live child_at 0 0 0) mid → (task_of M.event_same old.table.tasks (forked t (suc f)) ≡ Absent → IsAt mid (length old.table.tasks) (forked t (suc f)))
        → Sets M.event_same mid t (Live (M.resume at Done) (suc f) a p) us → CountsAt one_more_in old.table.handlers place hss
        → Moves ok kept (Act t) (task_change (Some (t, Live (M.resume at Done) (suc f) a p)) (Some (forked t (suc f), Live child_at 0 0 0))) (record { variables = old.table.variables; handlers = hss; tasks = us }) places Other
    forking {child_at} acts room shallow follows fresh made added goes counts =
        let own : Option (Name E × Task L) = Some (t, Live (M.resume at Done) (suc f) a p) in
        let new : Option (Name E × Task L) = Some (forked t (suc f), Live child_at 0 0 0) in
        let absent = (fresh kept.standing.run old.table kept.standing.pictured).0 t acts.local f a p acts.asking.live in
        plainly law law2 room (Fork child_at) acts own new Other hss us (ap (λ b. if b then Fails Deep None t else Changes (task_change own new)) shallow) refl
        (on t acts.local _ f a p (suc f) a p acts.asking.live (omega arith) (omega arith) (omega arith)) (child (forked t (suc f)) child_at absent)
        (λ x. goes.each x ∙ ap (λ (z : Name E → Task L). with_task M.event_same own z x) (fun_ext made.each)) (λ i u at. goes.indices i u (made.indices i u at))
        (λ x e. subst (λ u. IsAt us (length old.table.tasks) u) (ap (λ y. y.0) (same_Some _ _ e)) (goes.indices _ _ (added absent)))
        (started kept known follows rest own t (forked t (suc f)) (Live child_at 0 0 0) place hss place_is refl (λ q. refl) counts)

    -- the end of a task
    pub ending : IsActing M old t at f a p End → old.steps < MOST_PROGRAM_STEPS → EndIsFollowed M → Sets M.event_same old.table.tasks t Ended us → CountsAt one_less_in old.table.handlers place hss
        → Moves ok kept (Act t) (just t Ended) (record { variables = old.table.variables; handlers = hss; tasks = us }) places (touching (λ v. EndedIn v) (option_map (λ q. q.variable) place))
    ending acts room follows sets counts =
        plainly law law2 room End acts (Some (t, Ended)) None _ hss us refl (ap (touching (λ v. EndedIn v)) (pool_variable_is M (state M old) t place place_is))
        (off t acts.local f a p acts.asking.live) nobody sets.each sets.indices (λ x e. absurd (cc e)) (stopped kept known follows rest t place hss place_is counts)

  -- some task runs, where one acts
  pub some_runs : IsActing M old t at f a p End → 1 ≤ n
  some_runs acts = live_some M.event_same ok.event_same_is (state M old) n t (was_live acts) kept.live
