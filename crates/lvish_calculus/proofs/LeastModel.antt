-- The contents of a run are the least.
use Rattle.std.proofs.Common.{◌≡◌, inl, inr, ℕ, suc, Bool, true, List, [], ◌∷◌, ◌++◌, Option, Some, None, nat_eq, refl, sym, ◌∙◌, ap, subst, if◌then◌else◌}
use Rattle.std.proofs.lemmas.Bool.{cases_Bool}
use mathlib.Core.Path.{fun_ext}
use Rattle.lvish_names.specs.Names.{Name, main, handed, Handler, same_name}
use Rattle.lvish_calculus.specs.Machine.{Machine, IsLawful, IsBelow, Put, Freeze}
use Rattle.lvish_calculus.specs.Calculus.{Task, Absent, Live, Post, State, Label, Change, changed, start, with_join, IsEnabled, IsEnd}
use Rattle.lvish_calculus.specs.Laws.{Reaches}
use Rattle.lvish_calculus.specs.LeastModel.{Plays, main_starts, after_put, after_get, after_fork, child_starts, after_add, handler_starts, after_freeze, after_pause, IsMet, PlaysAgainst, IsClosed, HasAllPuts, frozen_contents, LeavesNoFreeze, RunsAreLeast, FrozenDecides, HasOnly, PutsOnly, EventsAreSupported, WasThere, PlaysAreTasks}
use Rattle.lvish_calculus.proofs.Names.{nat_eq-true, same_name-true}
use Rattle.lvish_calculus.proofs.Steps.{Makes, puts, gets, forks, adds, freezes, pauses, ends, hands}
use Rattle.lvish_calculus.proofs.Order.{IsLe, below_le, with_join-same, with_join-other}
use Rattle.lvish_calculus.proofs.Sound.{IsSound, some_is}
use Rattle.lvish_calculus.proofs.Keeps.{tasks_after, handlers_after, sound_after, sound_start}
use Rattle.lvish_calculus.proofs.Ends.{Way, here, goes, frozen_now}
use Rattle.lvish_calculus.proofs.CoreRuns.{split, one_end, run_way}
use Rattle.lvish_calculus.proofs.Made.{frozen_way, way_append}
use Rattle.lvish_calculus.proofs.ClosedEnds.{plays_there, ends_are_closed}

module _ {S E R A L : Type 0} (M : Machine S E R A L) (ok : IsLawful M) where
  -- ---- what all runs keep

  froze_as : (x : State S E L) (m : Label E) (ch : Change S E L) → Makes M x m ch → (v : ℕ) → ch.froze ≡ Some v → ((changed M ch x).frozen v ≡ true) × ((changed M ch x).content v ≡ x.content v)
  froze_as x m ch (freezes t o f a p w pools is q) v e =
      (frozen_now M ok x m ch (freezes t o f a p w pools is q) v (record { task = t; local = o; forks = f; adds = a; puts = p; pools = pools; label = refl; is = is; asked = q ∙ ap (λ y. Freeze y pools) (some_is e) }), refl)
  froze_as x m ch mm v e = absurd (cc e)

  module _ (seen frozen : ℕ → S → Type 0) where
    -- bottom is seen, and the join of what is seen with what can be put
    pub record KeepsSeen : Type 0 where
      pub bottom : (v : ℕ) → seen v M.bottom
      pub put : (t : Name E) (l : L) (f a v : ℕ) (d s u : S) → Plays M seen frozen t l f a → M.request l ≡ Put v d → seen v s → M.join s d ≡ Some u → seen v u

    -- a live task plays
    abbrev pub IsPlayed : Name E → Task L → Type 0
    IsPlayed t (Live l f a p) = Plays M seen frozen t l f a
    IsPlayed t k = Unit {0}

    -- all tasks play, the contents are seen, and what can be handed is played
    pub record IsWithin (x : State S E L) : Type 0 where
      pub tasks : (t : Name E) → IsPlayed t (x.tasks t)
      pub contents : (v : ℕ) → seen v (x.content v)
      pub handlers : (h : Handler E) (post : Post) (v : ℕ) (s : S) (e : E) → x.handlers h ≡ Some post → M.pool_variable post.pool ≡ Some v → seen v s → IsBelow M e s
          → Plays M seen frozen (handed h.adder h.number e) (M.start_handler post.procedure e) 0 0

    pub played : (x : State S E L) → IsWithin x → (t : Name E) (l : L) (f a p : ℕ) → x.tasks t ≡ Live l f a p → Plays M seen frozen t l f a
    played x u t l f a p is = subst (λ k. IsPlayed t k) is (u.tasks t)

    this_one : {t u : Name E} {k k' : Task L} → ◌≡◌ {A = Option (Name E × Task L)} (Some (t, k)) (Some (u, k')) → IsPlayed t k → IsPlayed u k'
    this_one e p = subst (λ (y : Name E × Task L). IsPlayed y.0 y.1) (some_is e) p

    own_played : (x : State S E L) (m : Label E) (ch : Change S E L) → Makes M x m ch → IsWithin x → ((v : ℕ) → ch.froze ≡ Some v → frozen v (x.content v))
        → (u : Name E) (k : Task L) → ch.own ≡ Some (u, k) → IsPlayed u k
    own_played x m ch (puts t o f a p v d s is q j same) under fr u k e = this_one e (after_put v d (played x under t o f a p is) q)
    own_played x m ch (gets t o f a p v r y is q j) under fr u k e = this_one e (after_get v r (x.content v) y (played x under t o f a p is) q (under.contents v) j)
    own_played x m ch (forks t o f a p k2 is q b) under fr u k e = this_one e (after_fork k2 (played x under t o f a p is) q)
    own_played x m ch (adds t o f a p pool procedure v is q b w z) under fr u k e = this_one e (after_add pool procedure (played x under t o f a p is) q)
    own_played x m ch (freezes t o f a p v pools is q) under fr u k e = this_one e (after_freeze v pools (x.content v) (played x under t o f a p is) q (fr v refl))
    own_played x m ch (pauses t o f a p is q) under fr u k e = this_one e (after_pause (played x under t o f a p is) q)
    own_played x m ch (ends t o f a p is q) under fr u k e = this_one e (tt {0})
    own_played x m ch (hands h y post o) under fr u k e = absurd (cc e)

    made_played : (x : State S E L) (m : Label E) (ch : Change S E L) → Makes M x m ch → IsEnabled M x m → IsWithin x → (u : Name E) (k : Task L) → ch.made ≡ Some (u, k) → IsPlayed u k
    made_played x m ch (forks t o f a p k2 is q b) en under u k e = this_one e (child_starts k2 (played x under t o f a p is) q)
    made_played x m ch (hands h y post o) en under u k e =
        let on_post : en.on.post ≡ post = some_is (sym en.on.is ∙ o) in
        let of : M.pool_variable post.pool ≡ Some en.variable = subst (λ (z : Post). M.pool_variable z.pool ≡ Some en.variable) on_post en.on.of in
        this_one e (under.handlers h post en.variable (x.content en.variable) y o of (under.contents en.variable) en.below)
    made_played x m ch mm en under u k e = absurd (cc e)

    handler_played : (x : State S E L) (m : Label E) (ch : Change S E L) → Makes M x m ch → IsWithin x → (h : Handler E) (post : Post) → ch.added ≡ Some (h, post)
        → (v : ℕ) (s : S) (e : E) → M.pool_variable post.pool ≡ Some v → seen v s → IsBelow M e s → Plays M seen frozen (handed h.adder h.number e) (M.start_handler post.procedure e) 0 0
    handler_played x m ch (adds t o f a p pool procedure w is q b wp z) under h post added v s e of is_seen below =
        let G : Handler E × Post → Type 0 = λ (y : Handler E × Post). M.pool_variable (y.1).pool ≡ Some v → Plays M seen frozen (handed (y.0).adder (y.0).number e) (M.start_handler (y.1).procedure e) 0 0 in
        let g : G (record { adder = t; number = suc a }, record { pool = pool; procedure = procedure }) = λ of2. handler_starts pool procedure v s e (played x under t o f a p is) q of2 is_seen below in
        (subst G (some_is added) g) of
    handler_played x m ch mm under h post added v s e of is_seen below = absurd (cc added)

    module _ (keeps : KeepsSeen) where
      content_seen : (x : State S E L) (m : Label E) (ch : Change S E L) → Makes M x m ch → IsWithin x → (v : ℕ) → seen v ((changed M ch x).content v)
      content_seen x m ch (puts t o f a p w d s is q j same) under v = elim (cases_Bool (nat_eq v w)) [
        | inl b ↦
            let vw : w ≡ v = sym (nat_eq-true v w b) in
            let now : with_join M.join (Some (w, d)) x.content w ≡ s = with_join-same M ok w d x.content s j in
            subst (λ u. seen u (with_join M.join (Some (w, d)) x.content u)) vw
            (subst (λ z. seen w z) (sym now) (keeps.put t o f a w d (x.content w) s (played x under t o f a p is) q (under.contents w) j))
        | inr b ↦ subst (λ z. seen v z) (sym (with_join-other M ok w d x.content v b)) (under.contents v)
      ]
      content_seen x m ch mm under v = under.contents v

      within_start : IsWithin (start M)
      within_start = record {
        tasks = λ t. elim (cases_Bool (same_name M.event_same t main)) [
          | inl e ↦ subst (λ u. IsPlayed u ((start M).tasks u)) (sym (same_name-true M.event_same ok.event_same_is t main e)) main_starts
          | inr e ↦ subst (λ b. IsPlayed t (if b then Live M.start 0 0 0 else Absent)) (sym e) (tt {0})
        ];
        contents = keeps.bottom;
        handlers = λ h post v s e is of is_seen below. let z : ⊥ = cc in absurd z;
      }

      -- c is where the run leads
      module _ (c : State S E L) (freezes_ok : (v : ℕ) → c.frozen v ≡ true → seen v (c.content v) → frozen v (c.content v)) where
        within_after : (x : State S E L) (m : Label E) (ch : Change S E L) (mm : Makes M x m ch) → IsEnabled M x m → IsSound x → IsWithin x → (ls : List (Label E)) → Way M (changed M ch x) ls c → IsWithin (changed M ch x)
        within_after x m ch mm en s under ls w = record {
          tasks = λ t. elim (tasks_after M ok x m ch mm en s t) [
            | inl g ↦ subst (λ k. IsPlayed t k) (sym g.2) (own_played x m ch mm under froze_ok t g.0 g.1)
            | inr (inl g) ↦ subst (λ k. IsPlayed t k) (sym g.2) (made_played x m ch mm en under t g.0 g.1)
            | inr (inr g) ↦ subst (λ k. IsPlayed t k) (sym g) (under.tasks t)
          ];
          contents = content_seen x m ch mm under;
          handlers = λ h post v z e is of is_seen below. elim (handlers_after M ok x m ch mm en s h) [
            | inl g ↦
                let same : g.0 ≡ post = some_is (sym g.2 ∙ is) in
                handler_played x m ch mm under h post (g.1 ∙ ap (λ (y : Post). Some (h, y)) same) v z e of is_seen below
            | inr g ↦ under.handlers h post v z e (sym g ∙ is) of is_seen below
          ];
        }
          where
            froze_ok : (v : ℕ) → ch.froze ≡ Some v → frozen v (x.content v)
            froze_ok v e =
                let now = froze_as x m ch mm v e in
                let later = frozen_way M ok (changed M ch x) c ls (sound_after M ok x m ch mm en s) w v now.0 in
                let same : c.content v ≡ x.content v = later.1 ∙ now.1 in
                subst (λ z. frozen v z) same (freezes_ok v later.0 (subst (λ z. seen v z) (sym same) (under.contents v)))

        within_way : (x d : State S E L) (ls : List (Label E)) → IsSound x → IsWithin x → Way M x ls d → d ≡ c → IsWithin d
        within_way x d [] s under here e = under
        within_way x d (m ∷ ls) s under (goes ch mm en w) e =
            within_way (changed M ch x) d ls (sound_after M ok x m ch mm en s) (within_after x m ch mm en s under ls (subst (λ y. Way M (changed M ch x) ls y) e w)) w e

        -- and at each state of the run
        pub within_at : (x d : State S E L) (ls back : List (Label E)) → IsSound x → IsWithin x → Way M x ls d → Way M d back c → IsWithin d
        within_at x d [] back s under here w2 = under
        within_at x d (m ∷ ls) back s under (goes ch mm en w) w2 =
            within_at (changed M ch x) d ls back (sound_after M ok x m ch mm en s) (within_after x m ch mm en s under (ls ++ back) (way_append M ok (changed M ch x) d c ls back w w2)) w w2

        -- what every run keeps: its contents are seen, and its tasks play
        pub within : (xs : List (Label E)) → Reaches M xs c → IsWithin c
        within xs run = within_way (start M) c xs (sound_start M ok) within_start (run_way M ok xs c run) refl

  -- ---- the contents of a run are the least

  module _ (Y : ℕ → S) (F : ℕ → Option S) where
    abbrev pub IsUnder : ℕ → S → Type 0
    IsUnder v s = IsLe M ok s (Y v)

    abbrev pub IsFroze : ℕ → S → Type 0
    IsFroze v s = F v ≡ Some s

    -- what plays against states at or below Y plays against Y
    pub raised : {t : Name E} {l : L} {f a : ℕ} → Plays M IsUnder IsFroze t l f a → PlaysAgainst M Y F t l f a
    raised main_starts = main_starts
    raised (after_put v d play q) = after_put v d (raised play) q
    raised (after_get {l = l} v r s x play q le e) = after_get v r (Y v) x (raised play) q refl (ok.answer_stays l v r q s (Y v) x le e)
    raised (after_fork k play q) = after_fork k (raised play) q
    raised (child_starts k play q) = child_starts k (raised play) q
    raised (after_add pool procedure play q) = after_add pool procedure (raised play) q
    raised (handler_starts pool procedure v s e play q of le below) = handler_starts pool procedure v (Y v) e (raised play) q of refl (below_le M ok e s (Y v) le below)
    raised (after_freeze v pools s play q fr) = after_freeze v pools s (raised play) q fr
    raised (after_pause play q) = after_pause (raised play) q

    -- a join with a put that is below Y is below it
    joined_under : (b d s y : S) → M.join b d ≡ Some s → IsLe M ok d y → IsLe M ok b y → IsLe M ok s y
    joined_under b d s y j low under = rw (j, low, under) at (ok.join_assoc b d y)

    pub all_puts : IsClosed M Y F → HasAllPuts M Y F
    all_puts closed t l f a v d play q = subst (λ r. IsMet M Y t r) q (closed t l f a play)

    pub keeps_under : HasAllPuts M Y F → KeepsSeen IsUnder IsFroze
    keeps_under closed = record {
      bottom = λ v. ok.join_bottom (Y v);
      put = λ t l f a v d s u play q le j.
          let low : IsLe M ok d (Y v) = closed t l f a v d (raised play) q in
          joined_under s d u (Y v) j low le;
    }

  pub runs_are_least : RunsAreLeast M
  runs_are_least xs c run Y closed v =
      let F = frozen_contents M c in
      (within (IsUnder Y F) (IsFroze Y F) (keeps_under Y F closed) c (λ u z le. ap (λ b. if b then Some (c.content u) else None) z) xs run).contents v

  pub frozen_decides : FrozenDecides M
  frozen_decides xs ys a b ra rb enda endb lefta leftb same v =
      let F : frozen_contents M a ≡ frozen_contents M b = fun_ext same in
      let closed_a = ends_are_closed M ok xs a ra enda lefta in
      let closed_b = ends_are_closed M ok ys b rb endb leftb in
      let up : IsLe M ok (a.content v) (b.content v) = runs_are_least xs a ra b.content (all_puts b.content (frozen_contents M a) (subst (λ f. IsClosed M b.content f) (sym F) closed_b)) v in
      let down : IsLe M ok (b.content v) (a.content v) = runs_are_least ys b rb a.content (all_puts a.content (frozen_contents M b) (subst (λ f. IsClosed M a.content f) F closed_a)) v in
      some_is (sym down ∙ ok.join_comm (b.content v) (a.content v) ∙ up)

  keeps_only : (Q : ℕ → E → Bool) → PutsOnly M Q → KeepsSeen (HasOnly M Q) (HasOnly M Q)
  keeps_only Q only = record {
    bottom = λ v e below. absurd (ok.events_bottom e below);
    put = λ t l f a v d s u play q seen j e below. elim ((ok.events_join s d u j e).0 below) [
      | inl h ↦ seen e h
      | inr h ↦ only t l f a v d play q e h
    ];
  }

  pub events_are_supported : EventsAreSupported M
  events_are_supported Q only xs c run = (within (HasOnly M Q) (HasOnly M Q) (keeps_only Q only) c (λ v z seen. seen) xs run).contents

  -- what was there in the run plays
  there_plays : (xs : List (Label E)) (c : State S E L) → Reaches M xs c → IsEnd M c → LeavesNoFreeze M c → (t : Name E) (l : L) (f a : ℕ) → WasThere M xs t l f a → PlaysAgainst M c.content (frozen_contents M c) t l f a
  there_plays xs c run end left t l f a w =
      let F = frozen_contents M c in
      let cut_way : Way M (start M) (w.front ++ w.back) c = subst (λ x. Way M (start M) x c) w.cut (run_way M ok xs c run) in
      let g = split M ok (start M) c w.front w.back cut_way in
      let same : g.mid ≡ w.there = one_end M ok (start M) g.mid w.there w.front g.front (run_way M ok w.front w.there w.reached) in
      let back : Way M (w.there) w.back c = subst (λ x. Way M x w.back c) same g.back in
      let keeps = keeps_under c.content F (all_puts c.content F (ends_are_closed M ok xs c run end left)) in
      let under = within_at (IsUnder c.content F) (IsFroze c.content F) keeps c (λ u z le. ap (λ b. if b then Some (c.content u) else None) z) (start M) w.there w.front w.back
      (sound_start M ok) (within_start (IsUnder c.content F) (IsFroze c.content F) keeps) (run_way M ok w.front w.there w.reached) back in
      raised c.content F (played (IsUnder c.content F) (IsFroze c.content F) w.there under t l f a w.puts w.is)

  pub plays_are_tasks : PlaysAreTasks M
  plays_are_tasks xs c run end left t l f a = (plays_there M ok xs c run end left t l f a, there_plays xs c run end left t l f a)
