-- Programs whose local states are matched have the same runs.
use Rattle.std.proofs.Common.{◌≡◌, ℕ, suc, Bool, true, false, not, ◌&&◌, List, [], ◌∷◌, Option, Some, None, Ordering, if◌then◌else◌, refl, sym, subst}
use Rattle.lvish_calculus.specs.Machine.{Machine, Request, Put, Get, Fork, Add, Freeze, Pause, End, Fault, Reply, Done, Answer, Content, ErrorKind, Conflict, Frozen, Late, Deep}
use Rattle.lvish_calculus.specs.Program.{Functions, IsReplyTo, machine_of}
use Rattle.lvish_calculus.specs.Calculus.{Task, Absent, Live, Ended, Post, State, Configuration, Running, Error, Label, Act, Hand, Change, changed, Effect, Changes, Fails, Nothing, just, put_effect, get_effect, add_effect, request_effect, task_effect, hand_effect, effect, after, step, start, IsRun, with_task, with_handler, with_join, with_frozen, with_handed}
use Rattle.lvish_names.specs.Names.{Name, main, forked, handed, Handler, is_deep, same_name, same_handler}
use Rattle.lvish_calculus.specs.SameRuns.{SameRequest, IsMatch, without_child, SameTask, SameState, SameConfiguration, RunsAreOf, HaveSameRuns}
use Rattle.lvish_calculus.proofs.SameThere.{Base, over, flip_state, flip_configuration, enabled_there}

-- SameRequest by cases
data MatchedRequests {S R L K : Type 0} (P : L → K → Type 0) : Request S R L → Request S R K → Type 0 where
  puts : (v : ℕ) (d : S) → MatchedRequests P (Put v d) (Put v d)
  gets : (v : ℕ) (r : R) → MatchedRequests P (Get v r) (Get v r)
  forks : (l : L) (k : K) → P l k → MatchedRequests P (Fork l) (Fork k)
  adds : (pool procedure : ℕ) → MatchedRequests P (Add pool procedure) (Add pool procedure)
  freezes : (v : ℕ) (pools : List ℕ) → MatchedRequests P (Freeze v pools) (Freeze v pools)
  pauses : MatchedRequests P Pause Pause
  ends : MatchedRequests P End End
  faults : (kind : ErrorKind) → MatchedRequests P (Fault kind) (Fault kind)

-- tasks of one standing, whose local states are matched
data MatchedTasks {L K : Type 0} (P : L → K → Type 0) : Task L → Task K → Type 0 where
  absent : MatchedTasks P Absent Absent
  live : (l : L) (k : K) (f a p : ℕ) → P l k → MatchedTasks P (Live l f a p) (Live k f a p)
  ended : MatchedTasks P Ended Ended

-- no task, or matched tasks of one name
data MatchedWrites {E L K : Type 0} (P : L → K → Type 0) : Option (Name E × Task L) → Option (Name E × Task K) → Type 0 where
  none : MatchedWrites P None None
  one : (t : Name E) (j : Task L) (k : Task K) → MatchedTasks P j k → MatchedWrites P (Some (t, j)) (Some (t, k))

-- the procedure of a post, if there is one, is of those that Q names
abbrev Begins : (ℕ → Type 0) → Option Post → Type 0
Begins Q None = Unit {0}
Begins Q (Some post) = Q post.procedure

-- the same of a new handler's post
abbrev Added : {E : Type 0} → (ℕ → Type 0) → Option (Handler E × Post) → Type 0
Added Q None = Unit {0}
Added Q (Some new) = Q new.1.procedure

-- changes that differ only in local states, which are matched
record MatchedChanges {S E L K : Type 0} (P : L → K → Type 0) (Q : ℕ → Type 0) (x : Change S E L) (y : Change S E K) : Type 0 where
  own : MatchedWrites P x.own y.own
  made : MatchedWrites P x.made y.made
  added : x.added ≡ y.added
  begins : Added Q x.added
  joined : x.joined ≡ y.joined
  froze : x.froze ≡ y.froze
  handing : x.handing ≡ y.handing

-- matched changes, the same error, or nothing on both sides
data MatchedOutcomes {S E L K : Type 0} (P : L → K → Type 0) (Q : ℕ → Type 0) : Effect S E L → Effect S E K → Type 0 where
  changes : (x : Change S E L) (y : Change S E K) → MatchedChanges P Q x y → MatchedOutcomes P Q (Changes x) (Changes y)
  fails : (kind : ErrorKind) (v : Option ℕ) (t : Name E) → MatchedOutcomes P Q (Fails kind v t) (Fails kind v t)
  nothing : MatchedOutcomes P Q Nothing Nothing

-- states that differ only in local states, which are matched, and whose handlers' procedures are of those that Q names
record MatchedStates {S E L K : Type 0} (P : L → K → Type 0) (Q : ℕ → Type 0) (c : State S E L) (d : State S E K) : Type 0 where
  content : (v : ℕ) → c.content v ≡ d.content v
  frozen : (v : ℕ) → c.frozen v ≡ d.frozen v
  tasks : (t : Name E) → MatchedTasks P (c.tasks t) (d.tasks t)
  handlers : (h : Handler E) → c.handlers h ≡ d.handlers h
  begins : (h : Handler E) → Begins Q (c.handlers h)
  handed : (h : Handler E) (e : E) → c.handed h e ≡ d.handed h e

-- matched states, or the same error
data MatchedConfigurations {S E L K : Type 0} (P : L → K → Type 0) (Q : ℕ → Type 0) : Configuration S E L → Configuration S E K → Type 0 where
  running : (c : State S E L) (d : State S E K) → MatchedStates P Q c d → MatchedConfigurations P Q (Running c) (Running d)
  error : (kind : ErrorKind) (v : Option ℕ) (t : Name E) → MatchedConfigurations P Q (Error kind v t) (Error kind v t)

module _ {S R L K : Type 0} (P : L → K → Type 0) where
  -- what equals the one side's request is matched as well
  as_well : (r : Request S R L) (q x : Request S R K) → q ≡ x → MatchedRequests P r q → MatchedRequests P r x
  as_well r q x e m = subst (λ y. MatchedRequests P r y) e m

  -- what SameRequest says is a case
  matched : (r : Request S R L) (q : Request S R K) → SameRequest P r q → MatchedRequests P r q
  matched (Put v d) (Put w e) z = as_well _ _ (Put w e) (λ i. Put (z.0 i) (z.1 i)) (puts v d)
  matched (Get v r) (Get w q) z = as_well _ _ (Get w q) (λ i. Get (z.0 i) (z.1 i)) (gets v r)
  matched (Fork l) (Fork k) z = forks l k z
  matched (Add i p) (Add j q) z = as_well _ _ (Add j q) (λ x. Add (z.0 x) (z.1 x)) (adds i p)
  matched (Freeze v is) (Freeze w js) z = as_well _ _ (Freeze w js) (λ i. Freeze (z.0 i) (z.1 i)) (freezes v is)
  matched Pause Pause z = pauses
  matched End End z = ends
  matched (Fault i) (Fault j) z = as_well _ _ (Fault j) (λ x. Fault (z x)) (faults i)
  matched r q z = absurd z

  -- matched requests are the same but for a fork's child
  same_outside : {r : Request S R L} {q : Request S R K} → MatchedRequests P r q → without_child r ≡ without_child q
  same_outside (forks l k m) = refl
  same_outside m = refl

module _ {S E R A L K : Type 0} (B : Base S E R A) (f : Functions S E R A L) (g : Functions S E R A K) (P : L → K → Type 0) (Q : ℕ → Type 0) (ok : IsMatch f g P Q) where
  abbrev M : Machine S E R A L
  M = over B f

  abbrev N : Machine S E R A K
  N = over B g

  -- matched local states ask for the same
  asks : (l : L) (k : K) → P l k → MatchedRequests P (f.request l) (g.request k)
  asks l k m = matched P (f.request l) (g.request k) (ok.request l k m)

  -- matched tasks, and so matched configurations, are the same from outside
  seen_task : {j : Task L} {k : Task K} → MatchedTasks P j k → SameTask M N j k
  seen_task absent = tt
  seen_task (live l k n a p m) = (same_outside P (asks l k m), refl, refl, refl)
  seen_task ended = tt

  seen_state : (c : State S E L) (d : State S E K) → MatchedStates P Q c d → SameState M N c d
  seen_state c d s = record { content = s.content; frozen = s.frozen; tasks = λ t. seen_task (s.tasks t); handlers = s.handlers; handed = s.handed }

  seen : (c : Configuration S E L) (d : Configuration S E K) → MatchedConfigurations P Q c d → SameConfiguration M N c d
  seen u w (running c d s) = seen_state c d s
  seen u w (error kind v t) = (refl, refl, refl)

  if_task : (b : Bool) {i j : Task L} {k m : Task K} → MatchedTasks P i k → MatchedTasks P j m → MatchedTasks P (if b then i else j) (if b then k else m)
  if_task true x y = x
  if_task false x y = y

  if_outcome : (a b : Bool) → a ≡ b → {w x : Effect S E L} {y z : Effect S E K} → MatchedOutcomes P Q w y → MatchedOutcomes P Q x z → MatchedOutcomes P Q (if a then w else x) (if b then y else z)
  if_outcome true true e m n = m
  if_outcome true false e m n = let z : ⊥ = cc in absurd z
  if_outcome false true e m n = let z : ⊥ = cc in absurd z
  if_outcome false false e m n = n

  module _ (c : State S E L) (d : State S E K) (s : MatchedStates P Q c d) where
    -- a step comes to the same: an outcome that is matched
    just_over : (t : Name E) (j : Task L) (k : Task K) → MatchedTasks P j k → MatchedOutcomes {S = S} P Q (Changes (just t j)) (Changes (just t k))
    just_over t j k m = changes _ _ (record { own = one t j k m; made = none; added = refl; begins = tt; joined = refl; froze = refl; handing = refl })

    put_over : (t : Name E) (j : Task L) (k : Task K) (v : ℕ) (x : S) (o : Option S) → MatchedTasks P j k → MatchedOutcomes P Q (put_effect M c t j v x o) (put_effect N d t k v x o)
    put_over t j k v x None m = fails Conflict (Some v) t
    put_over t j k v x (Some y) m = if_outcome _ _ (λ i. s.frozen v i && not (B.same y (s.content v i))) (fails Frozen (Some v) t)
        (changes _ _ (record { own = one t j k m; made = none; added = refl; begins = tt; joined = refl; froze = refl; handing = refl }))

    late_over : (t : Name E) (j : Task L) (k : Task K) (h : Handler E) (post : Post) (o : Option ℕ) → MatchedTasks P j k → Q post.procedure → MatchedOutcomes P Q (add_effect c t j h post o) (add_effect d t k h post o)
    late_over t j k h post None m q = nothing
    late_over t j k h post (Some v) m q = if_outcome _ _ (s.frozen v) (fails Late (Some v) t)
        (changes _ _ (record { own = one t j k m; made = none; added = refl; begins = q; joined = refl; froze = refl; handing = refl }))

    module _ (t : Name E) (l : L) (k : K) (n a p : ℕ) (m : P l k) where
      -- the local states after a reply
      resumed : (r : Request S R L) → f.request l ≡ r → (reply : Reply S A) → IsReplyTo r reply → P (f.resume (f.at l) reply) (g.resume (g.at k) reply)
      resumed r e reply z = ok.resume l k reply m (subst (λ x. IsReplyTo x reply) (sym e) z)

      get_over : (v : ℕ) (r : R) → f.request l ≡ Get v r → (o : Option A) → MatchedOutcomes P Q (get_effect M t (f.at l) n a p o) (get_effect N t (g.at k) n a p o)
      get_over v r e None = nothing
      get_over v r e (Some x) = just_over t _ _ (live _ _ n a p (resumed (Get v r) e (Answer x) tt))

      request_over : (r : Request S R L) (q : Request S R K) → MatchedRequests P r q → f.request l ≡ r → MatchedOutcomes P Q (request_effect M c t (f.at l) n a p r) (request_effect N d t (g.at k) n a p q)
      request_over r q (puts v x) e =
          subst (λ y. MatchedOutcomes P Q (request_effect M c t (f.at l) n a p (Put v x)) (put_effect N d t (Live (g.resume (g.at k) Done) n a (suc p)) v x (B.join y x))) (s.content v)
          (put_over t _ _ v x (B.join (c.content v) x) (live _ _ n a (suc p) (resumed (Put v x) e Done tt)))
      request_over r q (gets v x) e =
          subst (λ y. MatchedOutcomes P Q (request_effect M c t (f.at l) n a p (Get v x)) (get_effect N t (g.at k) n a p (B.answer x y))) (s.content v)
          (get_over v x e (B.answer x (c.content v)))
      request_over r q (forks i j z) e = if_outcome (is_deep t) _ refl (fails Deep None t)
          (changes _ _ (record { own = one t _ _ (live _ _ (suc n) a p (resumed (Fork i) e Done tt)); made = one (forked t (suc n)) _ _ (live i j 0 0 0 z); added = refl; begins = tt; joined = refl; froze = refl; handing = refl }))
      request_over r q (adds pool procedure) e = if_outcome (is_deep t) _ refl (fails Deep None t)
          (subst (λ o. MatchedOutcomes P Q (add_effect c t (Live (f.resume (f.at l) Done) n (suc a) p) (record { adder = t; number = suc a }) (record { pool = pool; procedure = procedure }) (f.pool_variable pool)) (add_effect d t (Live (g.resume (g.at k) Done) n (suc a) p) (record { adder = t; number = suc a }) (record { pool = pool; procedure = procedure }) o)) (ok.pools pool)
          (late_over t _ _ _ (record { pool = pool; procedure = procedure }) (f.pool_variable pool) (live _ _ n (suc a) p (resumed (Add pool procedure) e Done tt)) (ok.adds l k m pool procedure e)))
      request_over r q (freezes v pools) e =
          let on : P (f.resume (f.at l) (Content (c.content v))) (g.resume (g.at k) (Content (d.content v))) =
          subst (λ y. P (f.resume (f.at l) (Content (c.content v))) (g.resume (g.at k) (Content y))) (s.content v) (resumed (Freeze v pools) e (Content (c.content v)) tt) in
          changes _ _ (record { own = one t _ _ (live _ _ n a p on); made = none; added = refl; begins = tt; joined = refl; froze = refl; handing = refl })
      request_over r q pauses e = just_over t _ _ (live _ _ n a p (resumed Pause e Done tt))
      request_over r q ends e = just_over t _ _ ended
      request_over r q (faults kind) e = fails kind None t

    task_over : (t : Name E) (j : Task L) (k : Task K) → MatchedTasks P j k → MatchedOutcomes P Q (task_effect M c t j) (task_effect N d t k)
    task_over t j k absent = nothing
    task_over t j k (live l i n a p m) = request_over t l i n a p m (f.request l) (g.request i) (asks l i m) refl
    task_over t j k ended = nothing

    hand_over : (h : Handler E) (e : E) (o : Option Post) → Begins Q o → MatchedOutcomes P Q (hand_effect M h e o) (hand_effect N h e o)
    hand_over h e None q = nothing
    hand_over h e (Some post) q =
        changes _ _ (record { own = none; made = one (handed h.adder h.number e) _ _ (live _ _ 0 0 0 (ok.start_handler post.procedure e q)); added = refl; begins = tt; joined = refl; froze = refl; handing = refl })

    outcome_over : (x : Label E) → MatchedOutcomes P Q (effect M c x) (effect N d x)
    outcome_over (Act t) = task_over t (c.tasks t) (d.tasks t) (s.tasks t)
    outcome_over (Hand h e) = subst (λ o. MatchedOutcomes P Q (hand_effect M h e (c.handlers h)) (hand_effect N h e o)) (s.handlers h) (hand_over h e (c.handlers h) (s.begins h))

    -- so the states after it are matched
    writes_over : (a : Option (Name E × Task L)) (b : Option (Name E × Task K)) (i : Name E → Task L) (j : Name E → Task K) → MatchedWrites P a b → ((t : Name E) → MatchedTasks P (i t) (j t)) → (t : Name E) → MatchedTasks P (with_task B.event_same a i t) (with_task B.event_same b j t)
    writes_over a b i j none m t = m t
    writes_over a b i j (one u x y w) m t = if_task (same_name B.event_same t u) w (m t)

    if_begins : (b : Bool) (post : Post) (o : Option Post) → Q post.procedure → Begins Q o → Begins Q (if b then Some post else o)
    if_begins true post o x y = x
    if_begins false post o x y = y

    begins_over : (o : Option (Handler E × Post)) → Added Q o → (h : Handler E) → Begins Q (with_handler B.event_same o c.handlers h)
    begins_over None q h = s.begins h
    begins_over (Some new) q h = if_begins (same_handler B.event_same h new.0) new.1 (c.handlers h) q (s.begins h)

    changed_over : (x : Change S E L) (y : Change S E K) → MatchedChanges P Q x y → MatchedStates P Q (changed M x c) (changed N y d)
    changed_over x y m = record {
      content = λ v i. with_join B.join (m.joined i) (λ w. s.content w i) v;
      frozen = λ v i. with_frozen (m.froze i) (λ w. s.frozen w i) v;
      tasks = writes_over x.own y.own _ _ m.own (writes_over x.made y.made _ _ m.made s.tasks);
      handlers = λ h i. with_handler B.event_same (m.added i) (λ k. s.handlers k i) h;
      begins = begins_over x.added m.begins;
      handed = λ h e i. with_handed B.event_same (m.handing i) (λ k u. s.handed k u i) h e;
    }

    after_over : (x : Effect S E L) (y : Effect S E K) → MatchedOutcomes P Q x y → MatchedConfigurations P Q (after M c x) (after N d y)
    after_over u w (changes x y m) = running _ _ (changed_over x y m)
    after_over u w (fails kind v t) = error kind v t
    after_over u w nothing = running c d s

  -- from matched configurations the same labels lead to matched ones
  runs_over : (xs : List (Label E)) (c : Configuration S E L) (d : Configuration S E K) → MatchedConfigurations P Q c d → (last : Configuration S E L) → IsRun M c xs last → (e : Configuration S E K) × IsRun N d xs e × SameConfiguration M N last e
  runs_over [] c d m last z = (d, refl, subst (λ x. SameConfiguration M N x d) z (seen c d m))
  runs_over (x ∷ xs) u w (running c d s) last z =
      let r = runs_over xs (step M c x) (step N d x) (after_over c d s (effect M c x) (effect N d x) (outcome_over c d s x)) last z.1 in
      (r.0, (enabled_there B f g ok.pools c d (seen_state c d s) x z.0, r.1), r.2)
  runs_over (x ∷ xs) u w (error kind v t) last z = absurd z

  -- and back
  runs_back : (xs : List (Label E)) (c : Configuration S E L) (d : Configuration S E K) → MatchedConfigurations P Q c d → (last : Configuration S E K) → IsRun N d xs last → (e : Configuration S E L) × IsRun M c xs e × SameConfiguration N M last e
  runs_back [] c d m last z = (c, refl, subst (λ x. SameConfiguration N M x c) z (flip_configuration M N c d (seen c d m)))
  runs_back (x ∷ xs) u w (running c d s) last z =
      let r = runs_back xs (step M c x) (step N d x) (after_over c d s (effect M c x) (effect N d x) (outcome_over c d s x)) last z.1 in
      (r.0, (enabled_there B g f (λ p. sym (ok.pools p)) d c (flip_state M N c d (seen_state c d s)) x z.0, r.1), r.2)
  runs_back (x ∷ xs) u w (error kind v t) last z = absurd z

  start_over : MatchedStates P Q (start M) (start N)
  start_over = record {
    content = λ v. refl;
    frozen = λ v. refl;
    tasks = λ t. if_task (same_name B.event_same t main) (live f.start g.start 0 0 0 ok.start) absent;
    handlers = λ h. refl;
    begins = λ h. tt;
    handed = λ h e. refl;
  }

  runs_are_of : RunsAreOf M N
  runs_are_of xs d run = runs_over xs (Running (start M)) (Running (start N)) (running _ _ start_over) d run

  runs_are_back : RunsAreOf N M
  runs_are_back xs d run = runs_back xs (Running (start M)) (Running (start N)) (running _ _ start_over) d run

-- programs whose local states are matched have the same runs
pub matching_runs : {S E R A L K : Type 0} (same : S → S → Bool) (event_same : E → E → Bool) (cmp : E → E → Ordering) (bottom : S) (join : S → S → Option S) (events : S → List E) (answer : R → S → Option A)
    (f : Functions S E R A L) (g : Functions S E R A K) (P : L → K → Type 0) (Q : ℕ → Type 0)
    → IsMatch f g P Q → HaveSameRuns (machine_of same event_same cmp bottom join events answer f) (machine_of same event_same cmp bottom join events answer g)
matching_runs {S} {E} {R} {A} same event_same cmp bottom join events answer f g P Q ok = record {
  pools = ok.pools;
  there = runs_are_of base f g P Q ok;
  back = runs_are_back base f g P Q ok;
}
  where
    base : Base S E R A
    base = record { same = same; event_same = event_same; cmp = cmp; bottom = bottom; join = join; events = events; answer = answer }
