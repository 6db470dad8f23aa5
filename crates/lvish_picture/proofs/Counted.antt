-- The counts of running tasks are kept by each step, and tell what has ended.
use Rattle.std.proofs.Common.{◌≡◌, inl, inr, ℕ, suc, ◌<◌, List, [], ◌∷◌, length, Contains, slice_get, slice_index, Option, Some, None, option_and_then, option_map, refl, sym, ap, ◌∙◌, subst, arith}
use Rattle.std.proofs.lemmas.Option.{slice_get_within}
use mathlib.Core.Path.{fun_ext}
use Rattle.lvish_calculus.specs.declared.label.Label.{Label}
use Rattle.lvish_calculus.specs.declared.label.Label.TheVariants.{Act, Hand}
use Rattle.lvish_calculus.specs.declared.request.Reply.TheVariants.{Done, Content}
use Rattle.lvish_calculus.specs.Machine.{Machine, IsLawful}
use Rattle.lvish_calculus.specs.Calculus.{Task, Absent, Live, Post, State, Running, Change, Changes, Fails, Nothing, Effect, IsLive, is_live, IsIn, IsEnabled, after, changed, effect, with_handler}
use Rattle.lvish_names.specs.Names.{Name, handed, Handler, handler_of}
use Rattle.lvish_calculus.specs.Handing.{IsAmong}
use Rattle.lvish_calculus.proofs.Steps.{Makes, adds, view}
use Rattle.lvish_calculus.proofs.Sound.{IsSound, first, second, own_is, made_live, some_is}
use Rattle.lvish_calculus.proofs.Keeps.{present_before, handlers_stay, made_absent, next_present}
use Rattle.lvish_calculus.proofs.Runs.{reached}
use Rattle.lvish_handlers.specs.Handlers.{HandlersView as Handlers}
use Rattle.lvish_picture.specs.Picture.{Table, table_picture, IsPictured}
use Rattle.lvish_picture.specs.Steps.{IsPutStep, IsFreezeStep, IsAddStep, AreTasks}
use Rattle.lvish_picture.specs.Laws.{IsOrdered, IsTableStep}
use Rattle.lvish_picture.specs.Counts.{pool_of, PoolHasRunning, CountsRunning, AreCounts, ActCounted, PlainCounted, HandCounted, FreezesByCounts, EndedByCounts}
use Rattle.lvish_picture.proofs.Seats.{all_among, among_all}
use Rattle.lvish_picture.proofs.Slots.{written, earlier, read, contained, among}
use Rattle.lvish_picture.proofs.Kept.{act_outcome}
use Rattle.lvish_picture.proofs.Acts.{put_kept, freeze_kept, add_kept, plain_kept}
use Rattle.lvish_picture.proofs.Hands.{hand_kept}
use Rattle.lvish_picture.proofs.Cursors.{drained_at_the_end, new_task}
use Rattle.lvish_picture.proofs.Running.{not_live, OwnLive, MadeNew, follow}

live_of : {L : Type 0} (k : Task L) (l : L) (f a p : ℕ) → k ≡ Live l f a p → IsLive k
live_of {L} k l f a p e = subst (λ (q : Task L). IsLive q) (sym e) is_live

running_is : {S E L : Type 0} {c d : State S E L} → Running c ≡ Running d → c ≡ d
running_is e = cc

module _ {S E R A L : Type 0} (M : Machine S E R A L) (ok : IsLawful M) where
  -- a step that makes a task adds no handler
  apart_made : (c : State S E L) (l : Label E) (ch : Change S E L) → Makes M c l ch → (u : Name E) (k : Task L) → ch.made ≡ Some (u, k) → ch.added ≡ None
  apart_made c l ch (adds t o f a p pool procedure v is q b w z) u k e = absurd (cc e)
  apart_made c l ch m u k e = refl

  pools_same : (c d : State S E L) (u : Name E) → ((h : Handler E) → d.handlers h ≡ c.handlers h) → pool_of d u ≡ pool_of c u
  pools_same c d u same = ap (λ (f : Handler E → Option Post). option_and_then (λ h. option_map (λ (post : Post). post.pool) (f h)) (handler_of u)) (fun_ext same)

  pools_known : (c d : State S E L) (u : Name E) (o : Option (Handler E)) → handler_of u ≡ o → ((h : Handler E) → o ≡ Some h → (post : Post) × (c.handlers h ≡ Some post)) → ((h : Handler E) (post : Post) → c.handlers h ≡ Some post → d.handlers h ≡ Some post)
      → pool_of d u ≡ pool_of c u
  pools_known c d u None e known stay = rw e
  pools_known c d u (Some h) e known stay = let g = known h refl in rw (e, stay h g.0 g.1, g.1)

  -- the pool of a task that is live after a step
  pools_changed : (c : State S E L) (l : Label E) (ch : Change S E L) → Makes M c l ch → IsEnabled M c l → IsSound c → (u : Name E) → IsLive ((changed M ch c).tasks u) → pool_of (changed M ch c) u ≡ pool_of c u
  pools_changed c l ch m en s u live = elim (present_before M ok c l ch m en s u (λ e. not_live _ e live)) [
    | inl z ↦ pools_same c (changed M ch c) u (λ h. ap (λ o. with_handler M.event_same o c.handlers h) (apart_made c l ch m u z.0 z.1))
    | inr there ↦ pools_known c (changed M ch c) u (handler_of u) refl (λ h e. s.pool_known u h there e) (handlers_stay M ok c l ch m en s)
  ]

  module _ (xs : List (Label E)) (c d : Table S E L) (l : Label E) (k : IsPictured M c xs) (s : IsTableStep M c xs l d) where
    pools_stay : (u : Name E) → IsLive ((table_picture M d).tasks u) → pool_of (table_picture M d) u ≡ pool_of (table_picture M c) u
    pools_stay u = by (effect M (table_picture M c) l) refl s.stepped
      where
        by : (o : Effect S E L) → effect M (table_picture M c) l ≡ o → after M (table_picture M c) o ≡ Running (table_picture M d) → IsLive ((table_picture M d).tasks u) → pool_of (table_picture M d) u ≡ pool_of (table_picture M c) u
        by (Changes ch) e q = subst (λ (z : State S E L). IsLive (z.tasks u) → pool_of z u ≡ pool_of (table_picture M c) u) (running_is q)
            (pools_changed (table_picture M c) l ch (view M ok (table_picture M c) l ch e) s.enabled (reached M ok xs (table_picture M c) k.reached) u)
        by (Fails kind v t) e q = absurd (cc q)
        by Nothing e q = subst (λ (z : State S E L). IsLive (z.tasks u) → pool_of z u ≡ pool_of (table_picture M c) u) (running_is q) (λ live. refl)

    counted : (own made : Option (Name E × Task L)) → AreTasks M.event_same c.tasks own made d.tasks → OwnLive M.event_same ok.event_same_is (table_picture M c) 0 (table_picture M c).tasks own → MadeNew M.event_same ok.event_same_is (table_picture M c) 0 (table_picture M c).tasks made
        → CountsRunning M c → AreCounts M (table_picture M c) own made c.handlers d.handlers → CountsRunning M d
    counted own made tasks o m before follows v ks p at of =
        let g = follows v ks p at of in
        let b = before v g.0 p g.1 of in (
          subst (λ n. p < n) (sym g.2) b.0,
          subst (λ n. PoolHasRunning (table_picture M d) p n) (sym g.3)
              (follow M.event_same ok.event_same_is (table_picture M c) p (table_picture M d) own made (slice_index g.0.running p) tasks (λ t q e. o t q e) (record { absent = m.absent; live = m.live }) pools_stay b.1),
        )

  -- the counts stay where the handlers do
  same_counts : (c : Table S E L) (d : List (Handlers E)) (t : Name E) (l : L) (f a p : ℕ) → d ≡ c.handlers → AreCounts M (table_picture M c) (Some (t, Live l f a p)) None c.handlers d
  same_counts c d t l f a p e v ks q at of = (ks, ap (λ (z : List (Handlers E)). slice_get z v) (sym e) ∙ at, refl, omega arith)

  own_live : (c : State S E L) (t : Name E) (l0 l : L) (f a p f2 a2 p2 : ℕ) → c.tasks t ≡ Live l0 f a p → OwnLive M.event_same ok.event_same_is c 0 c.tasks (Some (t, Live l f2 a2 p2))
  own_live c t l0 l f a p f2 a2 p2 is u k e =
      (subst (λ z. IsLive (c.tasks z)) (first e) (live_of (c.tasks t) l0 f a p is), λ z. not_live k z (subst (λ (q : Task L). IsLive q) (second e) is_live))

  none_made : (c : State S E L) → MadeNew M.event_same ok.event_same_is c 0 c.tasks None
  none_made c = record { absent = λ t k e. absurd (cc e); live = λ t k e. absurd (cc e) }

  pub put_counted : IsOrdered M → ActCounted IsPutStep M
  put_counted ord xs c d t k before s =
      counted xs c d (Act t) k (put_kept M ok ord xs c d t k s) (Some (t, Live (M.resume (M.at s.local) Done) s.forks s.adds (suc s.puts))) None s.tasks
      (own_live (table_picture M c) t s.local (M.resume (M.at s.local) Done) s.forks s.adds s.puts s.forks s.adds (suc s.puts) s.asking.live) (none_made (table_picture M c)) before
      (same_counts c d.handlers t (M.resume (M.at s.local) Done) s.forks s.adds (suc s.puts) s.handlers)

  pub freeze_counted : ActCounted IsFreezeStep M
  freeze_counted xs c d t k before s =
      counted xs c d (Act t) k (freeze_kept M ok xs c d t k s) (Some (t, Live (M.resume (M.at s.local) (Content s.old.state)) s.forks s.adds s.puts)) None s.tasks
      (own_live (table_picture M c) t s.local (M.resume (M.at s.local) (Content s.old.state)) s.forks s.adds s.puts s.forks s.adds s.puts s.asking.live) (none_made (table_picture M c)) before
      (same_counts c d.handlers t (M.resume (M.at s.local) (Content s.old.state)) s.forks s.adds s.puts s.handlers)

  pub add_counted : ActCounted IsAddStep M
  add_counted xs c d t k before s =
      counted xs c d (Act t) k (add_kept M ok xs c d t k s) (Some (t, Live (M.resume (M.at s.local) Done) s.forks (suc s.adds) s.puts)) None s.tasks
      (own_live (table_picture M c) t s.local (M.resume (M.at s.local) Done) s.forks s.adds s.puts s.forks (suc s.adds) s.puts s.asking.live) (none_made (table_picture M c)) before
      (λ v ks p at of. elim (read c.handlers s.variable s.new v ks (slice_get_within c.handlers s.variable s.old s.was) (ap (λ (z : List (Handlers E)). slice_get z v) (sym s.handlers) ∙ at)) [
        | written vv kn ↦
            let same : ks.running ≡ s.old.running = ap (λ (q : Handlers E). q.running) kn ∙ s.added.pools in
            let value : slice_index ks.running p ≡ slice_index s.old.running p = ap (λ q. slice_index q p) same in
            (s.old, ap (λ u. slice_get c.handlers u) vv ∙ s.was, ap length same, omega arith)
        | earlier ne old ↦ (ks, old, refl, omega arith)
      ])

  pub plain_counted : PlainCounted M
  plain_counted xs c d t k before s follows =
      let C : State S E L = table_picture M c in
      let ch : Change S E L = record { own = s.own; made = s.made; added = None; joined = None; froze = None; handing = None } in
      let st : IsTableStep M c xs (Act t) d = plain_kept M ok xs c d t k s in
      let sound : IsSound C = reached M ok xs C k.reached in
      let m : Makes M C (Act t) ch = view M ok C (Act t) ch (act_outcome M ok c xs t s.local s.forks s.adds s.puts s.request k s.asking s.ready ∙ s.does) in
      counted xs c d (Act t) k st s.own s.made s.tasks
      (λ u q e. let g = own_is M ok C (Act t) ch m u q e in (live_of (C.tasks u) g.local g.forks g.adds g.puts g.was, next_present q g.forks g.adds g.next))
      (record { absent = made_absent M ok C (Act t) ch m st.enabled sound; live = λ u q e. let g = made_live M ok C (Act t) ch m u q e in live_of q g.0 0 0 0 g.1 })
      before follows

  pub hand_counted : HandCounted M
  hand_counted xs c d h e k before s follows =
      let C : State S E L = table_picture M c in
      let st : IsTableStep M c xs (Hand h e) d = hand_kept M ok xs c d h e k s in
      counted xs c d (Hand h e) k st None (Some (handed h.adder h.number e, Live (M.start_handler s.advanced.handler.procedure e) 0 0 0)) s.tasks
      (λ u q z. absurd (cc z))
      (record {
        absent = λ u q z. subst (λ (n : Name E). C.tasks n ≡ Absent) (first z) ((new_task M ok xs c k).1 h e st.enabled);
        live = λ u q z. subst (λ (n : Task L). IsLive n) (second z) is_live;
      })
      before follows

  -- a task of a pool, by its handler
  pool_in : (c : State S E L) (t : Name E) (q : ℕ) (pools : List ℕ) → pool_of c t ≡ Some q → Contains pools q → IsIn c t pools
  pool_in c t q pools e listed = by (handler_of t) refl e
    where
      at_post : (h : Handler E) → handler_of t ≡ Some h → (o : Option Post) → c.handlers h ≡ o → option_map (λ (post : Post). post.pool) o ≡ Some q → IsIn c t pools
      at_post h is None known z = absurd (cc z)
      at_post h is (Some post) known z = record { handler = h; of = is; post = post; is = known; listed = subst (λ p. Contains pools p) (sym (some_is z)) listed }

      by : (o : Option (Handler E)) → handler_of t ≡ o → option_and_then (λ h. option_map (λ (post : Post). post.pool) (c.handlers h)) o ≡ Some q → IsIn c t pools
      by None is z = absurd (cc z)
      by (Some h) is z = at_post h is (c.handlers h) refl z

  in_pool : (c : State S E L) (t : Name E) (pools : List ℕ) (i : IsIn c t pools) → pool_of c t ≡ Some i.post.pool
  in_pool c t pools i = rw (i.of, i.is)

  no_names : (ns : List (Name E)) (n : ℕ) → length ns ≡ n → ((t : Name E) → IsAmong t ns → ⊥) → n ≡ 0
  no_names [] n e none = omega arith
  no_names (t ∷ ns) n e none = absurd (none t (inl refl))

  some_names : (ns : List (Name E)) (t : Name E) → IsAmong t ns → length ns ≡ 0 → ⊥
  some_names [] t z e = z
  some_names (u ∷ ns) t z e = absurd (omega arith)

  pub ended_by_counts : EndedByCounts M
  ended_by_counts c v hs pools counts at of = (
    λ all t i live.
        let q : ℕ = i.post.pool in
        let own : M.pool_variable q ≡ Some v = of q i.listed in
        let h = (counts v hs q at own).1 in
        some_names h.names t ((h.just t).1 (live, in_pool (table_picture M c) t pools i)) (h.count ∙ all_among (λ p. slice_index hs.running p ≡ 0) q pools all (among pools q i.listed)),
    λ none. among_all (λ p. slice_index hs.running p ≡ 0) pools (λ q i.
        let listed : Contains pools q = contained pools q i in
        let h = (counts v hs q at (of q listed)).1 in
        no_names h.names (slice_index hs.running q) h.count (λ t z. let y = (h.just t).0 z in none t (pool_in (table_picture M c) t q pools y.1 listed) y.0)),
  )

  pub freezes_by_counts : FreezesByCounts M
  freezes_by_counts xs c v x hs pools k counts at beside of =
      let drained = drained_at_the_end M ok xs c v x hs k at beside in
      let ended = ended_by_counts c v hs pools counts beside of in (
        λ z. record { drained = drained.0 z.0; ended = ended.0 z.1 },
        λ quiet. (drained.1 quiet.drained, ended.1 quiet.ended),
      )
