-- Machines of which the same runs and the same plays have the same models.
use Rattle.std.proofs.Common.{◌≡◌, ℕ, Bool, List, Option, Some, None, Ordering, if◌then◌else◌, sym, ◌∙◌, ap, subst}
use mathlib.Core.Path.{fun_ext}
use Rattle.lvish_lattice.specs.Lattice.{IsAtOrBelow}
use Rattle.lvish_names.specs.Names.{Name}
use Rattle.lvish_calculus.specs.declared.request.Request.{Request}
use Rattle.lvish_calculus.specs.declared.request.Request.TheVariants.{Put, Get, Fork, Add, Freeze, Pause, End, Fault}
use Rattle.lvish_calculus.specs.Program.{Functions, machine_of}
use Rattle.lvish_calculus.specs.declared.label.Label.{Label}
use Rattle.lvish_calculus.specs.Calculus.{Task, Live, State, IsEnd}
use Rattle.lvish_calculus.specs.Laws.{Reaches}
use Rattle.lvish_calculus.specs.LeastModel.{IsMet, IsClosed, HasAllPuts, frozen_contents, LeavesNoFreeze, EndsAreClosed, RunsAreLeast, FrozenDecides}
use Rattle.lvish_calculus.specs.SameRuns.{without_child, SameTask, SameState, HaveSameRuns}
use Rattle.lvish_calculus.proofs.SameThere.{Base, over, flip_runs, reached, end_there}
use Rattle.lvish_task.specs.SamePlays.{PlaysAreOf, HaveSamePlays}

-- a request that is a put or a freeze, but for a fork's child, is this put or freeze
put_outside : {S R L : Type 0} (q : Request S R L) (v : ℕ) (d : S) → without_child q ≡ Put v d → q ≡ Put v d
put_outside (Put w x) v d e = let a : w ≡ v = cc in let b : x ≡ d = cc in λ i. Put (a i) (b i)
put_outside q v d e = absurd (cc e)

freeze_outside : {S R L : Type 0} (q : Request S R L) (v : ℕ) (pools : List ℕ) → without_child q ≡ Freeze v pools → q ≡ Freeze v pools
freeze_outside (Freeze w ks) v pools e = let a : w ≡ v = cc in let b : ks ≡ pools = cc in λ i. Freeze (a i) (b i)
freeze_outside q v pools e = absurd (cc e)

module _ {S E R A L K : Type 0} (B : Base S E R A) (f : Functions S E R A L) (g : Functions S E R A K) where
  -- what is met doesn't depend on a fork's child
  met_there : (X : ℕ → S) (t : Name E) (r : Request S R L) (q : Request S R K) → without_child r ≡ without_child q → IsMet (over B g) X t q → IsMet (over B f) X t r
  met_there X t (Put v d) (Put w x) e m = let a : w ≡ v = cc in let b : x ≡ d = cc in subst (λ u. IsAtOrBelow B.join u (X v)) b (subst (λ u. IsAtOrBelow B.join x (X u)) a m)
  met_there X t (Fork l) (Fork k) e m = m
  met_there X t (Add p n) (Add j i) e m = m
  met_there X t (Fault i) (Fault j) e m = m
  met_there X t (Get v x) q e m = tt
  met_there X t (Freeze v ks) q e m = tt
  met_there X t Pause q e m = tt
  met_there X t End q e m = tt
  met_there X t r q e m = absurd (cc e)

  module _ (one : PlaysAreOf (over B f) (over B g)) where
    -- the models of the one, and its closed contents, are those of the other
    pub all_puts_there : (X : ℕ → S) (F : ℕ → Option S) → HasAllPuts (over B g) X F → HasAllPuts (over B f) X F
    all_puts_there X F all t l n a v d play q =
        let z = one X F t l n a play in
        all t z.0 n a v d z.1 (put_outside (g.request z.0) v d (sym z.2 ∙ ap without_child q))

    pub closed_there : (X : ℕ → S) (F : ℕ → Option S) → IsClosed (over B g) X F → IsClosed (over B f) X F
    closed_there X F closed t l n a play =
        let z = one X F t l n a play in
        met_there X t (f.request l) (g.request z.0) z.2 (closed t z.0 n a z.1)

  module _ (c : State S E L) (d : State S E K) (s : SameState (over B f) (over B g) c d) where
    -- the same is frozen, with the same contents
    pub frozen_same : frozen_contents (over B f) c ≡ frozen_contents (over B g) d
    frozen_same = fun_ext (λ v i. if s.frozen v i then Some (s.content v i) else None)

    live_of : (j : Task L) (k : K) (n a p : ℕ) → SameTask (over B f) (over B g) j (Live k n a p) → (l : L) × (j ≡ Live l n a p) × (without_child (f.request l) ≡ without_child (g.request k))
    live_of (Live l x y z) k n a p h = (l, (λ i. Live l (h.1 i) (h.2 i) (h.3 i)), h.0)
    live_of j k n a p h = absurd h

    -- and tasks are left at the same freezes
    pub leaves_there : LeavesNoFreeze (over B f) c → LeavesNoFreeze (over B g) d
    leaves_there left t k n a p v pools is q =
        let z = live_of (c.tasks t) k n a p (subst (λ y. SameTask (over B f) (over B g) (c.tasks t) y) is (s.tasks t)) in
        sym (s.frozen v) ∙ left t z.0 n a p v pools z.1 (freeze_outside (f.request z.0) v pools (z.2 ∙ ap without_child q))

module _ {S E R A L K : Type 0} (B : Base S E R A) (f : Functions S E R A L) (g : Functions S E R A K) (H : HaveSameRuns (over B f) (over B g)) (plays : HaveSamePlays (over B f) (over B g)) where
  -- where a run of the other leads, the same run of the one leads
  led : (xs : List (Label E)) (d : State S E K) → Reaches (over B g) xs d → (c : State S E L) × Reaches (over B f) xs c × SameState (over B g) (over B f) d c
  led xs d run = reached (over B g) (over B f) (flip_runs (over B f) (over B g) H) xs d run

  least_there : RunsAreLeast (over B f) → RunsAreLeast (over B g)
  least_there least xs d run Y all v =
      let z = led xs d run in
      let same = frozen_same B g f d z.0 z.2 in
      let le = least xs z.0 z.1 Y (all_puts_there B f g plays.there Y (frozen_contents (over B f) z.0) (subst (λ F. HasAllPuts (over B g) Y F) same all)) v in
      subst (λ x. IsAtOrBelow B.join x (Y v)) (sym (z.2.content v)) le

  end_back : (d : State S E K) (c : State S E L) → SameState (over B g) (over B f) d c → IsEnd (over B g) d → IsEnd (over B f) c
  end_back d c s end = end_there B g f (λ p. sym (H.pools p)) d c s end

  closed_ends_there : EndsAreClosed (over B f) → EndsAreClosed (over B g)
  closed_ends_there closed xs d run end left =
      let z = led xs d run in
      let here = closed xs z.0 z.1 (end_back d z.0 z.2 end) (leaves_there B g f d z.0 z.2 left) in
      let there = closed_there B g f plays.back z.0.content (frozen_contents (over B f) z.0) here in
      let contents : z.0.content ≡ d.content = fun_ext (λ v. sym (z.2.content v)) in
      subst (λ X. IsClosed (over B g) X (frozen_contents (over B g) d)) contents (subst (λ F. IsClosed (over B g) z.0.content F) (sym (frozen_same B g f d z.0 z.2)) there)

  frozen_decides_there : FrozenDecides (over B f) → FrozenDecides (over B g)
  frozen_decides_there decides xs ys a b ra rb enda endb lefta leftb same v =
      let x = led xs a ra in
      let y = led ys b rb in
      let alike : (u : ℕ) → frozen_contents (over B f) x.0 u ≡ frozen_contents (over B f) y.0 u = λ u. sym (ap (λ (F : ℕ → Option S). F u) (frozen_same B g f a x.0 x.2)) ∙ same u ∙ ap (λ (F : ℕ → Option S). F u) (frozen_same B g f b y.0 y.2) in
      x.2.content v ∙ decides xs ys x.0 y.0 x.1 y.1 (end_back a x.0 x.2 enda) (end_back b y.0 y.2 endb) (leaves_there B g f a x.0 x.2 lefta) (leaves_there B g f b y.0 y.2 leftb) alike v ∙ sym (y.2.content v)

-- what the calculus says of the models of the one holds of the other
module _ {S E R A L K : Type 0} (same : S → S → Bool) (event_same : E → E → Bool) (cmp : E → E → Ordering) (bottom : S) (join : S → S → Option S) (events : S → List E) (answer : R → S → Option A) (f : Functions S E R A L) (g : Functions S E R A K)
    (H : HaveSameRuns (machine_of same event_same cmp bottom join events answer f) (machine_of same event_same cmp bottom join events answer g)) (plays : HaveSamePlays (machine_of same event_same cmp bottom join events answer f) (machine_of same event_same cmp bottom join events answer g)) where
  abbrev base : Base S E R A
  base = record { same = same; event_same = event_same; cmp = cmp; bottom = bottom; join = join; events = events; answer = answer }

  pub runs_least : RunsAreLeast (machine_of same event_same cmp bottom join events answer f) → RunsAreLeast (machine_of same event_same cmp bottom join events answer g)
  runs_least = least_there base f g H plays

  pub ends_closed : EndsAreClosed (machine_of same event_same cmp bottom join events answer f) → EndsAreClosed (machine_of same event_same cmp bottom join events answer g)
  ends_closed = closed_ends_there base f g H plays

  pub frozen_decide : FrozenDecides (machine_of same event_same cmp bottom join events answer f) → FrozenDecides (machine_of same event_same cmp bottom join events answer g)
  frozen_decide = frozen_decides_there base f g H plays
