-- What holds of a run of one machine holds of the same run of a machine that has the same runs.
use Rattle.std.proofs.Common.{◌≡◌, ◌↔◌, inl, inr, ℕ, Bool, List, [], ◌∷◌, ◌++◌, Option, IsSome, refl, sym, ◌∙◌, ap, subst, if◌then◌else◌, Contains}
use Rattle.std.specs.declared.cmp.Ordering.{Ordering}
use Rattle.lvish_calculus.specs.Machine.{Machine, Request, Get, Freeze, IsBelow}
use Rattle.lvish_calculus.specs.Program.{Functions, machine_of}
use Rattle.lvish_calculus.specs.Calculus.{Label, Act, Hand, Task, Absent, Live, Ended, State, Configuration, Running, Error, IsOn, IsIn, IsLive, is_live, IsQuiescent, IsReady, IsReadyTask, IsEnabled, CanStep, IsRun, IsEnd, Freezes, start, step}
use Rattle.lvish_names.specs.Names.{Name, Handler, same_handler}
use Rattle.lvish_calculus.specs.Laws.{Reaches, FreezesBefore, IsCrossed, FreezesAllBy, NeverErrs}
use Rattle.lvish_calculus.specs.Handing.{handed_to, IsAmong, NoRepeats, ComesBefore, Introduces, IsNoLater, HandsOldestFirst, HandsWell, HandsTo, IsWellHanded}
use Rattle.lvish_calculus.specs.Live.{HasLive}
use Rattle.lvish_calculus.specs.SameRuns.{without_child, SameTask, SameState, SameConfiguration, HaveSameRuns}

-- ---- the other way round

module _ {S E R A L K : Type 0} (M : Machine S E R A L) (N : Machine S E R A K) where
  flip_task : (k : Task L) (j : Task K) → SameTask M N k j → SameTask N M j k
  flip_task Absent Absent h = tt
  flip_task (Live l f a p) (Live k g b q) h = (sym h.0, sym h.1, sym h.2, sym h.3)
  flip_task Ended Ended h = tt
  flip_task k j h = absurd h

  pub flip_state : (c : State S E L) (d : State S E K) → SameState M N c d → SameState N M d c
  flip_state c d s = record {
    content = λ v. sym (s.content v);
    frozen = λ v. sym (s.frozen v);
    tasks = λ t. flip_task (c.tasks t) (d.tasks t) (s.tasks t);
    handlers = λ h. sym (s.handlers h);
    handed = λ h e. sym (s.handed h e);
  }

  pub flip_configuration : (C : Configuration S E L) (D : Configuration S E K) → SameConfiguration M N C D → SameConfiguration N M D C
  flip_configuration (Running c) (Running d) s = flip_state c d s
  flip_configuration (Error k v t) (Error j u r) s = (sym s.0, sym s.1, sym s.2)
  flip_configuration C D s = absurd s

  pub flip_runs : HaveSameRuns M N → HaveSameRuns N M
  flip_runs h = record { pools = λ p. sym (h.pools p); there = h.back; back = h.there }

-- ---- of one configuration

-- the functions of a lattice with its reads
pub record Base (S E R A : Type 0) : Type 0 where
  pub same : S → S → Bool
  pub event_same : E → E → Bool
  pub cmp : E → E → Ordering
  pub bottom : S
  pub join : S → S → Option S
  pub events : S → List E
  pub answer : R → S → Option A

-- a program over them
abbrev pub over : {S E R A L : Type 0} → Base S E R A → Functions S E R A L → Machine S E R A L
over B f = machine_of B.same B.event_same B.cmp B.bottom B.join B.events B.answer f

asks_get : {S R L : Type 0} (q : Request S R L) (v : ℕ) (r : R) → without_child q ≡ Get v r → q ≡ Get v r
asks_get (Get w x) v r e = let a : w ≡ v = cc in let b : x ≡ r = cc in λ i. Get (a i) (b i)
asks_get q v r e = absurd (cc e)

asks_freeze : {S R L : Type 0} (q : Request S R L) (v : ℕ) (ks : List ℕ) → without_child q ≡ Freeze v ks → q ≡ Freeze v ks
asks_freeze (Freeze w js) v ks e = let a : w ≡ v = cc in let b : js ≡ ks = cc in λ i. Freeze (a i) (b i)
asks_freeze q v ks e = absurd (cc e)

module _ {S E R A L K : Type 0} (B : Base S E R A) (f : Functions S E R A L) (g : Functions S E R A K) (pools : (p : ℕ) → f.pool_variable p ≡ g.pool_variable p) (c : State S E L) (d : State S E K) (s : SameState (over B f) (over B g) c d) where
  pub on_there : (h : Handler E) (v : ℕ) → IsOn (over B f) c h v → IsOn (over B g) d h v
  on_there h v on = record { post = on.post; is = sym (s.handlers h) ∙ on.is; of = sym (pools on.post.pool) ∙ on.of }

  pool_there : (t : Name E) (ks : List ℕ) → IsIn c t ks → IsIn d t ks
  pool_there t ks is = record { handler = is.handler; of = is.of; post = is.post; is = sym (s.handlers is.handler) ∙ is.is; listed = is.listed }

  pub below_there : (e : E) (v : ℕ) → IsBelow (over B f) e (c.content v) → IsBelow (over B g) e (d.content v)
  below_there e v b = subst (λ x. Contains (B.events x) e) (s.content v) b

  task_live : (k : Task L) (j : Task K) → SameTask (over B f) (over B g) k j → IsLive k → IsLive j
  task_live (Live l a b p) (Live k x y z) h is = is_live
  task_live Absent Absent h is = elim is [ ]
  task_live Ended Ended h is = elim is [ ]
  task_live k j h is = absurd h

  live_there : (t : Name E) → IsLive (c.tasks t) → IsLive (d.tasks t)
  live_there t is = task_live (c.tasks t) (d.tasks t) (s.tasks t) is

  live_of : (j : Task K) (l : L) (a b p : ℕ) → SameTask (over B f) (over B g) (Live l a b p) j → (k : K) × (j ≡ Live k a b p) × (without_child (f.request l) ≡ without_child (g.request k))
  live_of (Live k x y z) l a b p h = (k, (λ i. Live k ((sym h.1) i) ((sym h.2) i) ((sym h.3) i)), h.0)
  live_of j l a b p h = absurd h

  pub freezes_there : (l : Label E) (v : ℕ) → Freezes (over B f) c l v → Freezes (over B g) d l v
  freezes_there l v fr =
      let same : SameTask (over B f) (over B g) (Live fr.local fr.forks fr.adds fr.puts) (d.tasks fr.task) = subst (λ k. SameTask (over B f) (over B g) k (d.tasks fr.task)) fr.is (s.tasks fr.task) in
      let o = live_of (d.tasks fr.task) fr.local fr.forks fr.adds fr.puts same in
      record { task = fr.task; local = o.0; forks = fr.forks; adds = fr.adds; puts = fr.puts; pools = fr.pools; label = fr.label; is = o.1; asked = asks_freeze (g.request o.0) v fr.pools (sym o.2 ∙ ap without_child fr.asked) }

module _ {S E R A L K : Type 0} (B : Base S E R A) (f : Functions S E R A L) (g : Functions S E R A K) (pools : (p : ℕ) → f.pool_variable p ≡ g.pool_variable p) (c : State S E L) (d : State S E K) (s : SameState (over B f) (over B g) c d) where
  abbrev sloop : (p : ℕ) → g.pool_variable p ≡ f.pool_variable p
  sloop p = sym (pools p)

  abbrev flipped : SameState (over B g) (over B f) d c
  flipped = flip_state (over B f) (over B g) c d s

  quiet_there : (v : ℕ) (ks : List ℕ) → IsQuiescent (over B f) c v ks → IsQuiescent (over B g) d v ks
  quiet_there v ks q = record {
    drained = λ h e on below. sym (s.handed h e) ∙ q.drained h e (on_there B g f sloop d c flipped h v on) (below_there B g f sloop d c flipped e v below);
    ended = λ t is live. q.ended t (pool_there B g f sloop d c flipped t ks is) (live_there B g f sloop d c flipped t live);
  }

  ready_there : (r : Request S R L) (q : Request S R K) → without_child r ≡ without_child q → IsReady (over B f) c r → IsReady (over B g) d q
  ready_there r (Get v x) e h = subst (λ y. IsSome (B.answer x y)) (s.content v) (subst (λ y. IsReady (over B f) c y) (asks_get r v x e) h)
  ready_there r (Freeze v ks) e h = quiet_there v ks (subst (λ y. IsReady (over B f) c y) (asks_freeze r v ks e) h)
  ready_there r q e h = tt

  task_there : (k : Task L) (j : Task K) → SameTask (over B f) (over B g) k j → IsReadyTask (over B f) c k → IsReadyTask (over B g) d j
  task_there (Live l a b p) (Live k x y z) h is = ready_there (f.request l) (g.request k) h.0 is
  task_there Absent j h is = absurd is
  task_there Ended j h is = absurd is
  task_there k j h is = absurd h

  pub enabled_there : (l : Label E) → IsEnabled (over B f) c l → IsEnabled (over B g) d l
  enabled_there (Act t) en = task_there (c.tasks t) (d.tasks t) (s.tasks t) en
  enabled_there (Hand h e) en = record {
    variable = en.variable;
    on = on_there B f g pools c d s h en.variable en.on;
    below = below_there B f g pools c d s e en.variable en.below;
    not_handed = sym (s.handed h e) ∙ en.not_handed;
  }

  pub live_count : (n : ℕ) → HasLive c n → HasLive d n
  live_count n h = record {
    names = h.names;
    once = h.once;
    just = λ t. ((λ a. live_there B f g pools c d s t ((h.just t).0 a)), (λ is. (h.just t).1 (live_there B g f sloop d c flipped t is)));
    count = h.count;
  }

module _ {S E R A L K : Type 0} (B : Base S E R A) (f : Functions S E R A L) (g : Functions S E R A K) (pools : (p : ℕ) → f.pool_variable p ≡ g.pool_variable p) where
  pub end_there : (c : State S E L) (d : State S E K) → SameState (over B f) (over B g) c d → IsEnd (over B f) c → IsEnd (over B g) d
  end_there c d s end l en = end l (enabled_there B g f (λ p. sym (pools p)) d c (flip_state (over B f) (over B g) c d s) l en)

  pub can_there : (C : Configuration S E L) (D : Configuration S E K) → SameConfiguration (over B f) (over B g) C D → (l : Label E) → CanStep (over B f) C l → CanStep (over B g) D l
  can_there (Running c) (Running d) s l en = enabled_there B f g pools c d s l en
  can_there (Running c) (Error k v t) s l en = absurd s
  can_there (Error k v t) D s l en = absurd en

-- ---- runs in two parts

module _ {S E R A L : Type 0} (M : Machine S E R A L) where
  pub run_join : (ps ls : List (Label E)) (X Y Z : Configuration S E L) → IsRun M X ps Y → IsRun M Y ls Z → IsRun M X (ps ++ ls) Z
  run_join [] ls X Y Z r q = subst (λ x. IsRun M x ls Z) (sym r) q
  run_join (l ∷ ps) ls (Running c) Y Z r q = (r.0, run_join ps ls (step M c l) Y Z r.1 q)
  run_join (l ∷ ps) ls (Error k v t) Y Z r q = absurd r

  pub run_split : (ps ls : List (Label E)) (X Y Z : Configuration S E L) → IsRun M X ps Y → IsRun M X (ps ++ ls) Z → IsRun M Y ls Z
  run_split [] ls X Y Z r q = subst (λ x. IsRun M x ls Z) r q
  run_split (l ∷ ps) ls (Running c) Y Z r q = run_split ps ls (step M c l) Y Z r.1 q.1
  run_split (l ∷ ps) ls (Error k v t) Y Z r q = absurd r

-- ---- of runs

module _ {S E R A L K : Type 0} (M : Machine S E R A L) (N : Machine S E R A K) (H : HaveSameRuns M N) where
  -- where the run of one leads, the other's leads as well
  pub reached : (xs : List (Label E)) (c : State S E L) → Reaches M xs c → (d : State S E K) × Reaches N xs d × SameState M N c d
  reached xs c r = by (H.there xs (Running c) r).0 (H.there xs (Running c) r).1 (H.there xs (Running c) r).2
    where
      by : (e : Configuration S E K) → IsRun N (Running (start N)) xs e → SameConfiguration M N (Running c) e → (d : State S E K) × Reaches N xs d × SameState M N c d
      by (Running d) run same = (d, run, same)
      by (Error k v t) run same = absurd same

  pub started : SameConfiguration M N (Running (start M)) (Running (start N))
  started = let z = H.there [] (Running (start M)) refl in subst (λ x. SameConfiguration M N (Running (start M)) x) (sym z.1) z.2

  -- a step leads from the same to the same
  pub step_there : (ps : List (Label E)) (c : State S E L) (d : State S E K) → Reaches M ps c → Reaches N ps d → (l : Label E) → IsEnabled M c l → SameConfiguration M N (step M c l) (step N d l)
  step_there ps c d r q l en =
      let more : IsRun M (Running (start M)) (ps ++ l ∷ []) (step M c l) = run_join M ps (l ∷ []) (Running (start M)) (Running c) (step M c l) r (en, refl) in
      let z = H.there (ps ++ l ∷ []) (step M c l) more in
      let one : IsRun N (Running d) (l ∷ []) z.0 = run_split N ps (l ∷ []) (Running (start N)) (Running d) z.0 q z.1 in
      subst (λ x. SameConfiguration M N (step M c l) x) (sym one.1) z.2

  pub never_there : NeverErrs M → NeverErrs N
  never_there never ls kind v t run = by (H.back ls (Error kind v t) run).0 (H.back ls (Error kind v t) run).1 (H.back ls (Error kind v t) run).2
    where
      by : (e : Configuration S E L) → IsRun M (Running (start M)) ls e → SameConfiguration N M (Error kind v t) e → ⊥
      by (Running c) r same = same
      by (Error k w u) r same = never ls k w u r

module _ {S E R A L K : Type 0} (B : Base S E R A) (f : Functions S E R A L) (g : Functions S E R A K) (H : HaveSameRuns (over B f) (over B g)) where
  abbrev back : HaveSameRuns (over B g) (over B f)
  back = flip_runs (over B f) (over B g) H

  -- a run, and the same steps of the other
  pub record Both (ps : List (Label E)) (C : Configuration S E L) (D : Configuration S E K) : Type 0 where
    pub one : IsRun (over B f) (Running (start (over B f))) ps C
    pub other : IsRun (over B g) (Running (start (over B g))) ps D
    pub same : SameConfiguration (over B f) (over B g) C D

  pub both_start : Both [] (Running (start (over B f))) (Running (start (over B g)))
  both_start = record { one = refl; other = refl; same = started (over B f) (over B g) H }

  pub both_step : (ps : List (Label E)) (c : State S E L) (d : State S E K) (l : Label E) → Both ps (Running c) (Running d) → IsEnabled (over B f) c l → Both (ps ++ l ∷ []) (step (over B f) c l) (step (over B g) d l)
  both_step ps c d l b en = record {
    one = run_join (over B f) ps (l ∷ []) (Running (start (over B f))) (Running c) (step (over B f) c l) b.one (en, refl);
    other = run_join (over B g) ps (l ∷ []) (Running (start (over B g))) (Running d) (step (over B g) d l) b.other (enabled_there B f g H.pools c d b.same l en, refl);
    same = step_there (over B f) (over B g) H ps c d b.one b.other l en;
  }

  before_there : (ps xs : List (Label E)) (C : Configuration S E L) (D : Configuration S E K) (last : Configuration S E L) (v w : ℕ) → Both ps C D → IsRun (over B f) C xs last → FreezesBefore (over B f) C xs v w → FreezesBefore (over B g) D xs v w
  before_there ps [] C D last v w b run z = absurd z
  before_there ps (l ∷ ls) (Running c) (Running d) last v w b run z = elim z [
    | inl y ↦ inl (freezes_there B f g H.pools c d b.same l v y.0, sym (b.same.frozen w) ∙ y.1)
    | inr y ↦ inr (before_there (ps ++ l ∷ []) ls (step (over B f) c l) (step (over B g) d l) last v w (both_step ps c d l b run.0) run.1 y)
  ]
  before_there ps (l ∷ ls) (Running c) (Error k x t) last v w b run z = absurd b.same
  before_there ps (l ∷ ls) (Error k x t) D last v w b run z = absurd run

  pub all_by_there : (t : Name E) (ps xs : List (Label E)) (C : Configuration S E L) (D : Configuration S E K) (last : Configuration S E L) → Both ps C D → IsRun (over B f) C xs last → FreezesAllBy (over B f) t C xs → FreezesAllBy (over B g) t D xs
  all_by_there t ps [] C D last b run z = tt
  all_by_there t ps (l ∷ ls) (Running c) (Running d) last b run z = (
    λ v fr. z.0 v (freezes_there B g f back.pools d c (flip_state (over B f) (over B g) c d b.same) l v fr),
    all_by_there t (ps ++ l ∷ []) ls (step (over B f) c l) (step (over B g) d l) last (both_step ps c d l b run.0) run.1 z.1,
  )
  all_by_there t ps (l ∷ ls) (Running c) (Error k x u) last b run z = absurd b.same
  all_by_there t ps (l ∷ ls) (Error k x u) D last b run z = absurd run

  pub crossed_there : (xs ys : List (Label E)) (a b : Configuration S E L) → IsRun (over B f) (Running (start (over B f))) xs a → IsRun (over B f) (Running (start (over B f))) ys b → IsCrossed (over B f) xs ys → IsCrossed (over B g) xs ys
  crossed_there xs ys a b p q z = (z.0, z.1, z.2, before_there [] xs _ _ a z.0 z.1 both_start p z.3, before_there [] ys _ _ b z.1 z.0 both_start q z.4)

  -- ---- what handlers are handed

  no_later_there : (p : List (Label E)) (v : ℕ) (e x : E) → IsNoLater (over B f) p v e x → IsNoLater (over B g) p v e x
  no_later_there p v e x later q r d is run below =
      let k = reached (over B g) (over B f) back q d run in
      let same = flip_state (over B g) (over B f) d k.0 k.2 in
      below_there B f g H.pools k.0 d same e v (later q r k.0 is k.1 (below_there B g f back.pools d k.0 k.2 x v below))

module _ {S E R A L K : Type 0} (B : Base S E R A) (f : Functions S E R A L) (g : Functions S E R A K) (H : HaveSameRuns (over B f) (over B g)) where
  pub core_there : (xs : List (Label E)) → HandsOldestFirst (over B f) xs → HandsOldestFirst (over B g) xs
  core_there xs core p s h e is d run v on x below not_handed =
      let k = reached (over B g) (over B f) (back B f g H) p d run in
      let z = core p s h e is k.0 k.1 v (on_there B g f (back B f g H).pools d k.0 k.2 h v on) x (below_there B g f (back B f g H).pools d k.0 k.2 x v below) (sym (k.2.handed h x) ∙ not_handed) in
      (no_later_there B f g H p v e x z.0, λ n. z.1 (no_later_there B g f (back B f g H) p v x e n))

  handed_same : (h : Handler E) (xs : List (Label E)) → handed_to (over B f) h xs ≡ handed_to (over B g) h xs
  handed_same h [] = refl
  handed_same h (Act t ∷ ls) = handed_same h ls
  handed_same h (Hand k e ∷ ls) = ap (λ zs. if same_handler B.event_same k h then e ∷ zs else zs) (handed_same h ls)

  introduced_there : (p : List (Label E)) (t : Name E) (v : ℕ) (e : E) → Introduces (over B f) p t v e → Introduces (over B g) p t v e
  introduced_there p t v e i =
      let k = reached (over B f) (over B g) H p i.before i.reaches_before in
      let j = reached (over B f) (over B g) H (p ++ Act t ∷ []) i.after i.reaches_after in
      record {
        before = k.0;
        after = j.0;
        reaches_before = k.1;
        reaches_after = j.1;
        new = λ b. i.new (below_there B g f (back B f g H).pools k.0 i.before (flip_state (over B f) (over B g) i.before k.0 k.2) e v b);
        below = below_there B f g H.pools i.after j.0 j.2 e v i.below;
      }

module _ {S E R A L K : Type 0} (B : Base S E R A) (f : Functions S E R A L) (g : Functions S E R A K) (H : HaveSameRuns (over B f) (over B g)) where
  -- what a list has among it, said of the other machine
  among_there : (h : Handler E) (p : List (Label E)) (v : ℕ) (c : State S E L) (d : State S E K) → SameState (over B f) (over B g) c d → (e : E) → (IsAmong e (handed_to (over B f) h p) ↔ IsBelow (over B f) e (c.content v)) → (IsAmong e (handed_to (over B g) h p) ↔ IsBelow (over B g) e (d.content v))
  among_there h p v c d s e z = (
    λ a. below_there B f g H.pools c d s e v (z.0 (subst (λ ys. IsAmong e ys) (sym (handed_same B f g H h p)) a)),
    λ b. subst (λ ys. IsAmong e ys) (handed_same B f g H h p) (z.1 (below_there B g f (back B f g H).pools d c (flip_state (over B f) (over B g) c d s) e v b)),
  )

  hands_there : (xs : List (Label E)) (c : State S E L) (d : State S E K) → SameState (over B f) (over B g) c d → HandsWell (over B f) xs c → HandsWell (over B g) xs d
  hands_there xs c d same w = record {
    once = λ h. subst (λ ys. NoRepeats ys) (handed_same B f g H h xs) (w.once h);
    at_freeze = λ p s l d1 is run v fr h on.
        let k = reached (over B g) (over B f) (back B f g H) p d1 run in
        let z = w.at_freeze p s l k.0 is k.1 v (freezes_there B g f (back B f g H).pools d1 k.0 k.2 l v fr) h (on_there B g f (back B f g H).pools d1 k.0 k.2 h v on) in
        ((λ e. among_there h p v k.0 d1 (flip_state (over B g) (over B f) d1 k.0 k.2) e (z.0 e)), sym (handed_same B f g H h s) ∙ z.1);
    none_later = λ p s l d1 is run v fr h on.
        let k = reached (over B g) (over B f) (back B f g H) p d1 run in
        let z = w.none_later p s l k.0 is k.1 v (freezes_there B g f (back B f g H).pools d1 k.0 k.2 l v fr) h (on_there B g f (back B f g H).pools d c (flip_state (over B f) (over B g) c d same) h v on) in
        on_there B f g H.pools k.0 d1 (flip_state (over B g) (over B f) d1 k.0 k.2) h v z;
    at_end = λ end h v on e. among_there h xs v c d same e
        (w.at_end (end_there B g f (back B f g H).pools d c (flip_state (over B f) (over B g) c d same) end) h v (on_there B g f (back B f g H).pools d c (flip_state (over B f) (over B g) c d same) h v on) e);
    in_order = λ core h v on t e x p q s r is i there j less among.
        subst (λ ys. ComesBefore e x ys) (handed_same B f g H h xs)
        (w.in_order (core_there B g f (back B f g H) xs core) h v (on_there B g f (back B f g H).pools d c (flip_state (over B f) (over B g) c d same) h v on) t e x p q s r
        is (introduced_there B g f (back B f g H) p t v e i) there (introduced_there B g f (back B f g H) q t v x j) less (subst (λ ys. IsAmong x ys) (sym (handed_same B f g H h xs)) among));
  }

  hands_to_there : (xs : List (Label E)) (C : Configuration S E L) (D : Configuration S E K) → SameConfiguration (over B f) (over B g) C D → HandsTo (over B f) xs C → HandsTo (over B g) xs D
  hands_to_there xs (Running c) (Running d) same w = hands_there xs c d same w
  hands_to_there xs (Running c) (Error k v t) same w = absurd same
  hands_to_there xs (Error k v t) (Running d) same w = absurd same
  hands_to_there xs (Error k v t) (Error j u r) same w =
      let z = reached (over B f) (over B g) H w.0 w.1 w.3 in
      (w.0, z.0, w.2 ∙ ap (λ (x : Name E). w.0 ++ Act x ∷ []) same.2, z.1, hands_there w.0 w.1 z.0 z.2 w.4)

  pub handed_there : (xs : List (Label E)) → IsWellHanded (over B f) xs → IsWellHanded (over B g) xs
  handed_there xs well =
      let z = H.there xs well.0 well.1 in
      (z.0, z.1, hands_to_there xs well.0 z.0 z.2 well.2)
