-- What holds along runs of layered code is kept by each step.
use Rattle.std.proofs.Common.{◌≡◌, ◌≢◌, ◌⊎◌, inl, inr, ℕ, suc, ◌+◌, ◌<◌, ◌≤◌, ℤ, true, List, [], ◌∷◌, Option, Some, None, refl, sym, ◌∙◌, ap, subst, arith}
use Rattle.std.specs.Prelude.{nat_eq}
use Rattle.std.proofs.Math.Nat.{eq-or-lt_of_le}
use Rattle.std.proofs.lemmas.Bool.{or_cases, or_left}
use Rattle.lvish_names.specs.Names.{Name, main, forked, handed, Handler, handler_of}
use Rattle.lvish_calculus.specs.declared.label.Label.{Label}
use Rattle.lvish_calculus.specs.declared.request.Request.TheVariants as ask
use Rattle.lvish_calculus.specs.declared.request.Reply.TheVariants as reply
use Rattle.lvish_calculus.specs.Program.{IsReplyTo}
use Rattle.lvish_calculus.specs.Machine.{Machine, IsLawful}
use Rattle.lvish_calculus.specs.Calculus.{Task, Live, Post, State, Change, changed, with_frozen, with_task, IsEnabled}
use Rattle.lvish_calculus.proofs.SameThere.{Base, over}
use Rattle.lvish_calculus.proofs.Names.{nat_eq-true, nat_eq-refl, with_task-same}
use Rattle.lvish_calculus.proofs.Steps.{Makes, puts, gets, forks, adds, freezes, pauses, ends, hands}
use Rattle.lvish_calculus.proofs.Sound.{IsSound, first, second, some_is, live≢absent, maker_is}
use Rattle.lvish_calculus.proofs.Keeps.{tasks_after, handlers_after, handlers_stay}
use Rattle.lvish_calculus.proofs.Moves.{frozen_stays}
use Rattle.lvish_code.specs.Flat as flat
use Rattle.lvish_task.specs.Vocabulary.{Any, AnyRead, Event, Request, Reply}
use Rattle.lvish_task.specs.declared.script_code.ScriptCode.{ScriptCode}
use Rattle.lvish_task.specs.declared.stack.Stack.{Stack}
use Rattle.lvish_task.specs.Run.{functions, started, asked, resumed, instructions_in}
use Rattle.std.specs.List.{slice_get}
use Rattle.lvish_alike.specs.Reaching.{at_once}
use Rattle.lvish_alike.specs.Sought.{instruction_forks}
use Rattle.lvish_alike.specs.Layered.{FreeRuns, PoolRuns, FreezesAt, IsLayered}
use Rattle.lvish_alike.proofs.Marks.{below_or_at}
use Rattle.lvish_alike.proofs.Tasks.{given_at, started_in, asked_in, resumed_in, RequestIn}
use Rattle.lvish_alike.proofs.Main.{Same, bottom, MainStack, RequestMain}
use Rattle.lvish_alike.proofs.Resumed.{ResumedAt}
use Rattle.lvish_alike.proofs.Layers.{live_parts, ended_live, forks_stay, wider, free_stays, pool_stays, free_on, pool_on, FreeIn, PoolIn, main_asks, main_goes, Holds, Who, is_main, is_free, is_pooled, who, free_asks, pool_asks, freezer, adder}

abbrev Replied : Request Any AnyRead Stack → Reply Any ℤ → Type 0
Replied q r = IsReplyTo q r

-- one place freezes one variable
pub one_freeze : (c : flat.Code) (i v w : ℕ) (ps qs : List ℕ) → FreezesAt c i v ps → FreezesAt c i w qs → v ≡ w
one_freeze c i v w ps qs f g = cc (sym f.2 ∙ g.2)

module _ (sc : ScriptCode) (ly : IsLayered sc.flat) (B : Base Any Event AnyRead ℤ) (ok : IsLawful (over B (functions sc))) (s : State Any Event Stack) (h : Holds sc ly B ok s) (sound : IsSound s)
    (l : Label Event) (ch : Change Any Event Stack) (m : Makes (over B (functions sc)) s l ch) (en : IsEnabled (over B (functions sc)) s l) where
  abbrev c : flat.Code
  c = sc.flat

  abbrev M : Machine Any Event AnyRead ℤ Stack
  M = over B (functions sc)

  abbrev place_of : Stack → ℕ
  place_of k = bottom c ly k.top k.below

  -- a freeze is told by its change
  abbrev Froze : Stack → Type 0
  Froze k = ((ch.froze ≡ None) × ((v : ℕ) (ps : List ℕ) → (asked c k).request ≢ ask.Freeze v ps)) ⊎ ((v : ℕ) × (ps : List ℕ) × ((asked c k).request ≡ ask.Freeze v ps) × (ch.froze ≡ Some v))

  -- the acting task was live, and goes on after the reply to its request
  record Went (u : Name Event) (n : Stack) : Type 0 where
    local : Stack
    forked_before : ℕ
    added_before : ℕ
    put_before : ℕ
    was : s.tasks u ≡ Live local forked_before added_before put_before
    reply : Reply Any ℤ
    replied : IsReplyTo (asked c local).request reply
    goes : n ≡ resumed c (asked c local).at reply
    froze : Froze local

  went_as : (t u : Name Event) (k n : Stack) (f a p f' a' p' f0 a0 p0 : ℕ) (r : Reply Any ℤ) (x : Task Stack) → s.tasks t ≡ Live k f0 a0 p0 → IsReplyTo (asked c k).request r → Froze k
      → ◌≡◌ {A = Option (Name Event × Task Stack)} (Some (t, Live (resumed c (asked c k).at r) f a p)) (Some (u, x)) → x ≡ Live n f' a' p' → Went u n
  went_as t u k n f a p f' a' p' f0 a0 p0 r x is rep fr e z = record {
    local = k;
    forked_before = f0;
    added_before = a0;
    put_before = p0;
    was = subst (λ y. s.tasks y ≡ Live k f0 a0 p0) (first e) is;
    reply = r;
    replied = rep;
    goes = sym (live_parts _ _ _ _ _ _ _ _ (second e ∙ z));
    froze = fr;
  }

  own_went : (l : Label Event) (ch' : Change Any Event Stack) → Makes M s l ch' → ch' ≡ ch → (u : Name Event) (x : Task Stack) (n : Stack) (f' a' p' : ℕ) → ch'.own ≡ Some (u, x) → x ≡ Live n f' a' p' → Went u n
  own_went l ch' (puts t o f a p v d y is q j same) w u x n f' a' p' e z =
      went_as t u o n f a (suc p) f' a' p' f a p reply.Done x is (subst (λ k. Replied k reply.Done) (sym q) tt) (inl (ap (λ (k : Change Any Event Stack). k.froze) (sym w), λ v ps k. cc (sym q ∙ k))) e z
  own_went l ch' (gets t o f a p v r y is q j) w u x n f' a' p' e z =
      went_as t u o n f a p f' a' p' f a p (reply.Answer y) x is (subst (λ k. Replied k (reply.Answer y)) (sym q) tt) (inl (ap (λ (k : Change Any Event Stack). k.froze) (sym w), λ v ps k. cc (sym q ∙ k))) e z
  own_went l ch' (forks t o f a p k is q b) w u x n f' a' p' e z =
      went_as t u o n (suc f) a p f' a' p' f a p reply.Done x is (subst (λ k. Replied k reply.Done) (sym q) tt) (inl (ap (λ (k : Change Any Event Stack). k.froze) (sym w), λ v ps k. cc (sym q ∙ k))) e z
  own_went l ch' (adds t o f a p pool procedure v is q b y g) w u x n f' a' p' e z =
      went_as t u o n f (suc a) p f' a' p' f a p reply.Done x is (subst (λ k. Replied k reply.Done) (sym q) tt) (inl (ap (λ (k : Change Any Event Stack). k.froze) (sym w), λ v ps k. cc (sym q ∙ k))) e z
  own_went l ch' (freezes t o f a p v pools is q) w u x n f' a' p' e z =
      went_as t u o n f a p f' a' p' f a p (reply.Content (s.content v)) x is (subst (λ k. Replied k (reply.Content (s.content v))) (sym q) tt) (inr (v, pools, q, ap (λ (k : Change Any Event Stack). k.froze) (sym w))) e z
  own_went l ch' (pauses t o f a p is q) w u x n f' a' p' e z =
      went_as t u o n f a p f' a' p' f a p reply.Done x is (subst (λ k. Replied k reply.Done) (sym q) tt) (inl (ap (λ (k : Change Any Event Stack). k.froze) (sym w), λ v ps k. cc (sym q ∙ k))) e z
  own_went l ch' (ends t o f a p is q) w u x n f' a' p' e z = absurd (ended_live n f' a' p' (second e ∙ z))
  own_went l ch' (hands k y post o) w u x n f' a' p' e z = absurd (cc e)

  -- who makes a task
  data Made (u : Name Event) (n : Stack) : Type 0 where
    by_fork : (t : Name Event) (k : Stack) (f a p i : ℕ) → s.tasks t ≡ Live k f a p → (asked c k).request ≡ ask.Fork n → u ≡ forked t i → Made u n
    by_hand : (k : Handler Event) (e : Event) (post : Post) → s.handlers k ≡ Some post → u ≡ handed k.adder k.number e → n ≡ started c post.procedure (e.key ∷ e.number ∷ []) → Made u n

  made_by : (l : Label Event) (ch' : Change Any Event Stack) → Makes M s l ch' → (u : Name Event) (x : Task Stack) (n : Stack) (f' a' p' : ℕ) → ch'.made ≡ Some (u, x) → x ≡ Live n f' a' p' → Made u n
  made_by l ch' (forks t o f a p k is q b) u x n f' a' p' e z = by_fork t o f a p (suc f) is (q ∙ ap ask.Fork (live_parts _ _ _ _ _ _ _ _ (second e ∙ z))) (sym (first e))
  made_by l ch' (hands k y post o) u x n f' a' p' e z = by_hand k y post o (sym (first e)) (sym (live_parts _ _ _ _ _ _ _ _ (second e ∙ z)))
  made_by l ch' k u x n f' a' p' e z = absurd (cc e)

  -- ---- other tasks

  free_goes : (u : Name Event) (n : Stack) (w : Went u n) → FreeIn c ly (w.local) → FreeIn c ly n
  free_goes u n w i = subst (FreeIn c ly) (sym w.goes) (resumed_in c (FreeRuns c) (free_on c ly) (asked c w.local).at (asked_in c (FreeRuns c) (free_on c ly) w.local i).at w.reply)

  pool_goes : (pool : ℕ) (u : Name Event) (n : Stack) (w : Went u n) → PoolIn c ly pool (w.local) → PoolIn c ly pool n
  pool_goes pool u n w i = subst (PoolIn c ly pool) (sym w.goes) (resumed_in c (PoolRuns c pool) (pool_on c ly pool) (asked c w.local).at (asked_in c (PoolRuns c pool) (pool_on c ly pool) w.local i).at w.reply)

  main_child : (k n : Stack) → MainStack c ly k.top k.below → (asked c k).request ≡ ask.Fork n → FreeIn c ly n
  main_child k n i q =
      let z = subst (RequestMain c ly (place_of (asked c k).at)) q (main_asks c ly k i).request in
      subst (FreeIn c ly) (sym z.6.1) (started_in c (FreeRuns c) (free_on c ly) z.2 z.6.0 (z.0, z.2, z.4, given_at instruction_forks (instructions_in (slice_get c.routines z.0)) z.1 _ z.2 z.5 refl, at_once))

  free_child : (k n : Stack) → FreeIn c ly k → (asked c k).request ≡ ask.Fork n → FreeIn c ly n
  free_child k n i q =
      let z = subst (RequestIn c (FreeRuns c) (free_on c ly)) q (free_asks sc ly B ok s h sound k i) in
      let a = given_at instruction_forks (instructions_in (slice_get c.routines z.0)) z.1 _ z.2 z.5 refl in
      subst (FreeIn c ly) (sym z.6.1) (started_in c (FreeRuns c) (free_on c ly) z.2 z.6.0 (free_stays c ly z.0 z.2 z.4 (wider c ly _ _ forks_stay z.0 z.2 a)))

  pool_child : (pool : ℕ) (k n : Stack) → PoolIn c ly pool k → (asked c k).request ≡ ask.Fork n → PoolIn c ly pool n
  pool_child pool k n i q =
      let z = subst (RequestIn c (PoolRuns c pool) (pool_on c ly pool)) q (pool_asks sc ly B ok s h sound pool k i) in
      let a = given_at instruction_forks (instructions_in (slice_get c.routines z.0)) z.1 _ z.2 z.5 refl in
      subst (PoolIn c ly pool) (sym z.6.1) (started_in c (PoolRuns c pool) (pool_on c ly pool) z.2 z.6.0 (pool_stays c ly pool z.0 z.2 z.4 (wider c ly _ _ forks_stay z.0 z.2 a)))

  free_made : (u : Name Event) (n : Stack) → handler_of u ≡ None → Made u n → FreeIn c ly n
  free_made u n none (by_fork t k f a p i is q e) = by (who sc ly B ok s h sound t k f a p is)
    where
      by : Who sc ly B ok s h sound t k → FreeIn c ly n
      by (is_main z y) = main_child k n y q
      by (is_free ne z y) = free_child k n y q
      by (is_pooled g post of there y) = absurd (cc (sym of ∙ ap handler_of (sym e) ∙ none))
  free_made u n none (by_hand k x post o e z) = absurd (cc (ap handler_of (sym e) ∙ none))

  free_after : (t : Name Event) (n : Stack) (f a p : ℕ) → (t ≡ main → ⊥) → handler_of t ≡ None → (changed M ch s).tasks t ≡ Live n f a p → FreeIn c ly n
  free_after t n f a p ne none is = elim (tasks_after M ok s l ch m en sound t) [
    | inl w ↦ let g = own_went l ch m refl t w.0 n f a p w.1 (sym w.2 ∙ is) in free_goes t n g (h.free t g.local g.forked_before g.added_before g.put_before ne none g.was)
    | inr (inl w) ↦ free_made t n none (made_by l ch m t w.0 n f a p w.1 (sym w.2 ∙ is))
    | inr (inr w) ↦ h.free t n f a p ne none (sym w ∙ is)
  ]

  -- a handler that was there is the same
  post_same : (k : Handler Event) (old post : Post) → s.handlers k ≡ Some old → (changed M ch s).handlers k ≡ Some post → old ≡ post
  post_same k old post was is = some_is (sym (handlers_stay M ok s l ch m en sound k old was) ∙ is)

  pooled_before : (t : Name Event) (k : Handler Event) (post : Post) (n : Stack) (f a p : ℕ) → handler_of t ≡ Some k → (changed M ch s).handlers k ≡ Some post → s.tasks t ≡ Live n f a p → PoolIn c ly post.pool n
  pooled_before t k post n f a p of there is =
      let old = sound.pool_known t k (live≢absent _ n f a p is) of in
      subst (λ (q : Post). PoolIn c ly q.pool n) (post_same k old.0 post old.1 there) (h.pooled t k old.0 n f a p of old.1 is)

  pooled_made : (u : Name Event) (k : Handler Event) (post : Post) (n : Stack) → handler_of u ≡ Some k → (changed M ch s).handlers k ≡ Some post → Made u n → PoolIn c ly post.pool n
  pooled_made u k post n of there (by_fork t o f a p i is q e) = pool_child post.pool o n (pooled_before t k post o f a p (ap handler_of (sym e) ∙ of) there is) q
  pooled_made u k post n of there (by_hand g x old o e z) =
      let same : g ≡ k = some_is (ap handler_of (sym e) ∙ of) in
      let posts = post_same k old post (subst (λ y. s.handlers y ≡ Some old) same o) there in
      subst (λ (q : Post). PoolIn c ly q.pool n) posts (subst (PoolIn c ly old.pool) (sym z) (started_in c (PoolRuns c old.pool) (pool_on c ly old.pool) old.procedure (x.key ∷ x.number ∷ []) (h.handlers g old o)))

  pooled_after : (t : Name Event) (k : Handler Event) (post : Post) (n : Stack) (f a p : ℕ) → handler_of t ≡ Some k → (changed M ch s).handlers k ≡ Some post → (changed M ch s).tasks t ≡ Live n f a p → PoolIn c ly post.pool n
  pooled_after t k post n f a p of there is = elim (tasks_after M ok s l ch m en sound t) [
    | inl w ↦ let g = own_went l ch m refl t w.0 n f a p w.1 (sym w.2 ∙ is) in pool_goes post.pool t n g (pooled_before t k post g.local g.forked_before g.added_before g.put_before of there g.was)
    | inr (inl w) ↦ pooled_made t k post n of there (made_by l ch m t w.0 n f a p w.1 (sym w.2 ∙ is))
    | inr (inr w) ↦ pooled_before t k post n f a p of there (sym w ∙ is)
  ]

  added_runs : (l : Label Event) (ch' : Change Any Event Stack) → Makes M s l ch' → (k : Handler Event) (post : Post) → ch'.added ≡ Some (k, post) → PoolRuns c post.pool post.procedure
  added_runs l ch' (adds t o f a p pool procedure v is q b y g) k post e =
      subst (λ (x : Post). PoolRuns c x.pool x.procedure) (second e) (adder sc ly B ok s h sound t o (who sc ly B ok s h sound t o f a p is) pool procedure q)
  added_runs l ch' n k post e = absurd (cc e)

  handlers_runs : (k : Handler Event) (post : Post) → (changed M ch s).handlers k ≡ Some post → PoolRuns c post.pool post.procedure
  handlers_runs k post is = elim (handlers_after M ok s l ch m en sound k) [
    | inl w ↦ let same : w.0 ≡ post = some_is (sym w.2 ∙ is) in subst (λ (x : Post). PoolRuns c x.pool x.procedure) same (added_runs l ch m k w.0 w.1)
    | inr w ↦ h.handlers k post (sym w ∙ is)
  ]

  -- ---- main

  main_after : (n : Stack) (f a p : ℕ) → (changed M ch s).tasks main ≡ Live n f a p → Went main n ⊎ (s.tasks main ≡ Live n f a p)
  main_after n f a p is = elim (tasks_after M ok s l ch m en sound main) [
    | inl w ↦ inl (own_went l ch m refl main w.0 n f a p w.1 (sym w.2 ∙ is))
    | inr (inl w) ↦ absurd (cc (maker_is M ok s l ch m main w.0 w.1))
    | inr (inr w) ↦ inr (sym w ∙ is)
  ]

  module _ (n : Stack) (w : Went main n) where
    abbrev k : Stack
    k = w.local

    stood : MainStack c ly (w.local).top (w.local).below
    stood = h.of_main w.local w.forked_before w.added_before w.put_before w.was

    stands : ResumedAt c ly (place_of (asked c (w.local)).at) (asked c (w.local)).request n.top n.below
    stands = subst (λ (x : Stack). ResumedAt c ly (place_of (asked c w.local).at) (asked c w.local).request x.top x.below) (sym w.goes) (main_goes c ly w.local stood w.reply w.replied)

    -- what it had passed before its request is frozen
    passed_before : (i v : ℕ) (ps : List ℕ) → FreezesAt c i v ps → i < place_of (asked c (w.local)).at → s.frozen v ≡ true
    passed_before i v ps f lt = h.passed w.local w.forked_before w.added_before w.put_before w.was i v ps f (((main_asks c ly w.local stood).same i (v, ps, f)).1 lt)

    passed_went : (i v : ℕ) (ps : List ℕ) → FreezesAt c i v ps → i < place_of n → (changed M ch s).frozen v ≡ true
    passed_went i v ps f lt = by stands.stands
      where
        at_freeze : (v0 : ℕ) (ps0 : List ℕ) → (asked c (w.local)).request ≡ ask.Freeze v0 ps0 → v ≡ v0 → Froze (w.local) → (changed M ch s).frozen v ≡ true
        at_freeze v0 ps0 q same (inl (none, never)) = absurd (never v0 ps0 q)
        at_freeze v0 ps0 q same (inr (v1, ps1, q1, fr)) =
            let one : v0 ≡ v1 = cc (sym q ∙ q1) in
            ap (λ x. with_frozen x s.frozen v) fr ∙ or_left _ _ (subst (λ x. nat_eq v x ≡ true) (same ∙ one) (nat_eq-refl v))

        by : (Same c ly (place_of (asked c (w.local)).at) (place_of n) × ((v : ℕ) (ps : List ℕ) → (asked c (w.local)).request ≢ ask.Freeze v ps))
            ⊎ ((v : ℕ) × (ps : List ℕ) × FreezesAt c (place_of (asked c (w.local)).at) v ps × ((asked c (w.local)).request ≡ ask.Freeze v ps) × (place_of n ≡ place_of (asked c (w.local)).at + 1)) → (changed M ch s).frozen v ≡ true
        by (inl (same, never)) = frozen_stays M ok s l ch m en sound v (passed_before i v ps f ((same i (v, ps, f)).1 lt))
        by (inr (v0, ps0, f0, q, e)) = elim (below_or_at i (place_of (asked c w.local).at) (subst (λ x. i < x) e lt)) [
          | inl at ↦ at_freeze v0 ps0 q (one_freeze c (place_of (asked c w.local).at) v v0 ps ps0 (subst (λ x. FreezesAt c x v ps) at f) f0) w.froze
          | inr less ↦ frozen_stays M ok s l ch m en sound v (passed_before i v ps f less)
        ]

    -- it stands below what it stood below
    below_went : (i v : ℕ) (ps : List ℕ) → FreezesAt c i v ps → i < place_of (w.local) → i < place_of n
    below_went i v ps f lt = by stands.stands
      where
        before : i < place_of (asked c (w.local)).at
        before = ((main_asks c ly w.local stood).same i (v, ps, f)).0 lt

        by : (Same c ly (place_of (asked c (w.local)).at) (place_of n) × ((v : ℕ) (ps : List ℕ) → (asked c (w.local)).request ≢ ask.Freeze v ps))
            ⊎ ((v : ℕ) × (ps : List ℕ) × FreezesAt c (place_of (asked c (w.local)).at) v ps × ((asked c (w.local)).request ≡ ask.Freeze v ps) × (place_of n ≡ place_of (asked c (w.local)).at + 1)) → i < place_of n
        by (inl (same, never)) = (same i (v, ps, f)).0 before
        by (inr (v0, ps0, f0, q, e)) = omega (arith, before, e)

    -- behind its freeze
    behind_freeze : (v : ℕ) (ps : List ℕ) → (asked c (w.local)).request ≡ ask.Freeze v ps → place_of n ≡ place_of (asked c (w.local)).at + 1
    behind_freeze v ps q = by stands.stands
      where
        by : (Same c ly (place_of (asked c (w.local)).at) (place_of n) × ((v : ℕ) (ps : List ℕ) → (asked c (w.local)).request ≢ ask.Freeze v ps))
            ⊎ ((v : ℕ) × (ps : List ℕ) × FreezesAt c (place_of (asked c (w.local)).at) v ps × ((asked c (w.local)).request ≡ ask.Freeze v ps) × (place_of n ≡ place_of (asked c (w.local)).at + 1)) → place_of n ≡ place_of (asked c (w.local)).at + 1
        by (inl (same, never)) = absurd (never v ps q)
        by (inr (v0, ps0, f0, q0, e)) = e

  -- ---- what is frozen

  frozen_by : (o : Option ℕ) (v : ℕ) → ch.froze ≡ o → with_frozen o s.frozen v ≡ true → (s.frozen v ≡ true) ⊎ (ch.froze ≡ Some v)
  frozen_by None v e z = inl z
  frozen_by (Some w) v e z = elim (or_cases (nat_eq v w) (s.frozen v) z) [ inl t ↦ inr (e ∙ ap Some (sym (nat_eq-true v w t))) | inr t ↦ inl t ]

  abbrev IsFrozenBy : ℕ → Type 0
  IsFrozenBy v = (i : ℕ) × (ps : List ℕ) × FreezesAt c i v ps × ((j w : ℕ) (qs : List ℕ) → FreezesAt c j w qs → j ≤ i → (changed M ch s).frozen w ≡ true)
      × ((n : Stack) (f a p : ℕ) → (changed M ch s).tasks main ≡ Live n f a p → i < place_of n)

  frozen_still : (v : ℕ) → s.frozen v ≡ true → IsFrozenBy v
  frozen_still v z =
      let b = h.frozen v z in (
        b.0,
        b.1,
        b.2,
        (λ j w qs g le. frozen_stays M ok s l ch m en sound w (b.3 j w qs g le)),
        (λ n f a p is. elim (main_after n f a p is) [
          | inl w ↦ below_went n w b.0 v b.1 b.2 (b.4 w.local w.forked_before w.added_before w.put_before w.was)
          | inr same ↦ b.4 n f a p same
        ]),
      )

  -- the freeze of this step is main's
  record IsFreezeStep (v : ℕ) : Type 0 where
    local : Stack
    forks0 : ℕ
    adds0 : ℕ
    puts0 : ℕ
    was : s.tasks main ≡ Live local forks0 adds0 puts0
    pools : List ℕ
    asks : (asked c local).request ≡ ask.Freeze v pools
    own : ch.own ≡ Some (main, Live (resumed c (asked c local).at (reply.Content (s.content v))) forks0 adds0 puts0)

  freeze_step : (l : Label Event) (ch' : Change Any Event Stack) → Makes M s l ch' → ch' ≡ ch → (v : ℕ) → ch'.froze ≡ Some v → IsFreezeStep v
  freeze_step l ch' (freezes t o f a p v0 pools is q) w v e =
      let one : v0 ≡ v = cc e in
      let q' : (asked c o).request ≡ ask.Freeze v pools = q ∙ ap (λ x. ask.Freeze x pools) one in
      let z = freezer sc ly B ok s h sound t o (who sc ly B ok s h sound t o f a p is) v pools q' in
      record {
        local = o;
        forks0 = f;
        adds0 = a;
        puts0 = p;
        was = subst (λ u. s.tasks u ≡ Live o f a p) z.0 is;
        pools = pools;
        asks = q';
        own = ap (λ (x : Change Any Event Stack). x.own) (sym w) ∙ (λ i. Some (z.0 i, Live (resumed c (asked c o).at (reply.Content (s.content (one i)))) f a p));
      }
  freeze_step l ch' k w v e = absurd (cc e)

  frozen_now : (v : ℕ) → (changed M ch s).frozen v ≡ true → ch.froze ≡ Some v → IsFrozenBy v
  frozen_now v z e =
      let y = freeze_step l ch m refl v e in
      let stood = h.of_main y.local y.forks0 y.adds0 y.puts0 y.was in
      let asks = main_asks c ly y.local stood in
      let at : FreezesAt c (place_of (asked c y.local).at) v y.pools = subst (RequestMain c ly (place_of (asked c y.local).at)) y.asks asks.request in (
        place_of (asked c y.local).at,
        y.pools,
        at,
        (λ j w qs g le. elim (eq-or-lt_of_le le) [
          | inl same ↦ subst (λ x. (changed M ch s).frozen x ≡ true) (one_freeze c (place_of (asked c y.local).at) v w y.pools qs at (subst (λ x. FreezesAt c x w qs) same g)) z
          | inr less ↦ frozen_stays M ok s l ch m en sound w (h.passed y.local y.forks0 y.adds0 y.puts0 y.was j w qs g ((asks.same j (w, qs, g)).1 less))
        ]),
        (λ n f a p is.
            let after = ap (λ x. with_task M.event_same x (with_task M.event_same ch.made s.tasks) main) y.own ∙ with_task-same M.event_same ok.event_same_is main _ (with_task M.event_same ch.made s.tasks) in
            let w = own_went l ch m refl main _ n f a p y.own (sym after ∙ is) in
            let same : w.local ≡ y.local = live_parts _ _ _ _ _ _ _ _ (sym w.was ∙ y.was) in
            let behind = behind_freeze n w v y.pools (ap (λ k. (asked c k).request) same ∙ y.asks) in
            let here : place_of (asked c w.local).at ≡ place_of (asked c y.local).at = ap (λ k. place_of (asked c k).at) same in
            omega (arith, behind, here)),
      )

  pub holds_after : Holds sc ly B ok (changed M ch s)
  holds_after = record {
    of_main = λ n f a p is. elim (main_after n f a p is) [ inl w ↦ (stands n w).frames | inr same ↦ h.of_main n f a p same ];
    passed = λ n f a p is i v ps g lt. elim (main_after n f a p is) [ inl w ↦ passed_went n w i v ps g lt | inr same ↦ frozen_stays M ok s l ch m en sound v (h.passed n f a p same i v ps g lt) ];
    free = free_after;
    pooled = pooled_after;
    handlers = handlers_runs;
    frozen = λ v z. elim (frozen_by ch.froze v refl z) [ inl old ↦ frozen_still v old | inr now ↦ frozen_now v z now ];
  }
