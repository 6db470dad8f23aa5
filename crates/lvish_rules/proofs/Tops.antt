-- A run of an analysis is in error only where what follows joins to top, or too deep.
use Rattle.std.proofs.Common.{◌≡◌, ◌⊎◌, inl, inr, ℕ, suc, Bool, true, false, List, [], ◌∷◌, Option, Some, None, Ordering, Contains, refl, subst}
use Rattle.std.specs.Prelude.{if◌then◌else◌, slice_get}
use Rattle.lvish_names.specs.Names.{Name, is_deep}
use Rattle.lvish_calculus.specs.declared.label.Label.TheVariants.{Act}
use Rattle.lvish_calculus.specs.declared.request.ErrorKind.{ErrorKind}
use Rattle.lvish_calculus.specs.declared.request.ErrorKind.TheVariants.{Conflict, Deep}
use Rattle.lvish_calculus.specs.declared.request.Request.{Request}
use Rattle.lvish_calculus.specs.declared.request.Request.TheVariants.{Put as AskPut, Get, Fork, Add, Freeze, Pause, End, Fault}
use Rattle.lvish_calculus.specs.declared.request.Reply.TheVariants.{Done}
use Rattle.lvish_calculus.specs.Machine.{Machine, IsLawful}
use Rattle.lvish_calculus.specs.Calculus.{Task, Absent, Live, Ended, State, Running, Error, Fails, put_effect, add_effect, request_effect, effect, start, IsRun}
use Rattle.lvish_calculus.specs.Laws.{Reaches}
use Rattle.lvish_calculus.specs.LeastModel.{Plays}
use Rattle.lvish_calculus.proofs.CoreRuns.{way_run}
use Rattle.lvish_calculus.proofs.Handing.{Front, front_of}
use Rattle.lvish_calculus.proofs.LeastModel.{KeepsSeen, within, played}
use Rattle.lvish_calculus.proofs.ModelErrors.{is_fails, rest_run, none_frozen}
use Rattle.lvish_rules.specs.Rules.{Put, RuleSet, Follows, at_first, fires, Holds, IsJoined, of_none, with_put, JoinsToTop}
use Rattle.lvish_rules.specs.Ruled.{At, moves_of}
use Rattle.lvish_rules.specs.RuledLaws.{never_asks}
use Rattle.lvish_rules.specs.Analysis.{ErrsAtTop}
use Rattle.lvish_rules.proofs.Plays.{M, put_is, never_asks_freeze}

module _ {S E R A : Type 0} (same : S → S → Bool) (event_same : E → E → Bool) (cmp : E → E → Ordering) (bottom : S) (join : S → S → Option S) (events : S → List E) (answer : R → S → Option A) (rules : RuleSet S E) where
  abbrev N : Machine S E R A (At E)
  N = M same event_same cmp bottom join events answer rules

  module _ (ok : IsLawful N) where
    -- what is seen is joined of puts that follow
    abbrev Joined : ℕ → S → Type 0
    Joined v s = IsJoined join bottom events rules v s

    joined_holds : {v : ℕ} {s : S} → IsJoined join bottom events rules v s → (e : E) → Contains (events s) e → Holds events rules v e
    joined_holds of_none e below = absurd (ok.events_bottom e below)
    joined_holds (with_put {s = s} {u = u} d j follows is) e below = elim ((ok.events_join s d u is e).0 below) [
      | inl h ↦ joined_holds j e h
      | inr h ↦ (d, follows, h)
    ]

    put_follows : {t : Name E} {l : At E} {f a : ℕ} → Plays N Joined Joined t l f a → (v : ℕ) (d : S) → N.request l ≡ AskPut v d → Follows events rules (Put v d)
    put_follows play v d q = put_is same event_same cmp bottom join events answer rules Joined Joined (Follows events rules) (λ m h. at_first h) (λ m r w s e watch all below h. let g = joined_holds all e below in fires r w g.0 e watch g.1 g.2 h) play v d q

    joined_keeps : KeepsSeen N ok Joined Joined
    joined_keeps = record { bottom = λ v. of_none; put = λ t l f a v d s u play q seen j. with_put d seen (put_follows play v d q) j }

    module _ (c : State S E (At E)) (unfrozen : (v : ℕ) → c.frozen v ≡ false) (t : Name E) (l : At E) (f a p : ℕ) (play : Plays N Joined Joined t l f a) (contents : (v : ℕ) → Joined v (c.content v)) (kind : ErrorKind) (x : Option ℕ) (u : Name E) where
      abbrev IsTold : Type 0
      IsTold = ((kind ≡ Conflict) × (relation : ℕ) × (x ≡ Some relation) × JoinsToTop join bottom events rules relation) ⊎ (kind ≡ Deep)

      put_error : (v : ℕ) (d : S) (o : Option S) → N.request l ≡ AskPut v d → join (c.content v) d ≡ o → put_effect N c t (Live (N.resume (N.at l) Done) f a (suc p)) v d o ≡ Fails kind x u → IsTold
      put_error v d None q j e =
          let k : kind ≡ Conflict = cc in
          let at : x ≡ Some v = cc in
          inl (k, v, at, record { state = c.content v; joined = contents v; put = d; follows = put_follows play v d q; top = j })
      put_error v d (Some s) q j e = let z : ⊥ = cc (rw (unfrozen v) at e) in absurd z

      add_error : (pool procedure : ℕ) (o : Option ℕ) → add_effect c t (Live (N.resume (N.at l) Done) f (suc a) p) (record { adder = t; number = suc a }) (record { pool = pool; procedure = procedure }) o ≡ Fails kind x u → ⊥
      add_error pool procedure None e = cc e
      add_error pool procedure (Some v) e = cc (rw (unfrozen v) at e)

      deep_error : (pool procedure : ℕ) (b : Bool)
          → (if b then Fails Deep None t else add_effect c t (Live (N.resume (N.at l) Done) f (suc a) p) (record { adder = t; number = suc a }) (record { pool = pool; procedure = procedure }) (N.pool_variable pool)) ≡ Fails kind x u → IsTold
      deep_error pool procedure true e = inr cc
      deep_error pool procedure false e = absurd (add_error pool procedure (N.pool_variable pool) e)

      request_error : (r : Request S R (At E)) → N.request l ≡ r → request_effect N c t (N.at l) f a p r ≡ Fails kind x u → IsTold
      request_error (AskPut v d) q e = put_error v d _ q refl e
      request_error (Get v r) q e = absurd (never_asks rules.relations (slice_get (moves_of rules l.0) l.1) (Get v r) q tt)
      request_error (Fork k) q e = absurd (never_asks rules.relations (slice_get (moves_of rules l.0) l.1) (Fork k) q tt)
      request_error (Add pool procedure) q e = deep_error pool procedure (is_deep t) e
      request_error (Freeze v pools) q e = absurd (cc e)
      request_error Pause q e = absurd (cc e)
      request_error End q e = absurd (cc e)
      request_error (Fault k) q e = absurd (never_asks rules.relations (slice_get (moves_of rules l.0) l.1) (Fault k) q tt)

    pub errs_at_top : ErrsAtTop N rules
    errs_at_top xs kind v t run = by _ refl (is_fails N ok g.mid _ kind v t last.1)
      where
        g : Front N ok xs (start N) t
        g = front_of N ok xs (start N) kind v t run

        reached : Reaches N (g.front) (g.mid)
        reached = way_run N ok (start N) g.mid g.front g.way

        last : IsRun N (Running (g.mid)) (Act t ∷ []) (Error kind v t)
        last = rest_run N ok (start N) g.mid g.front (Act t ∷ []) (Error kind v t) g.way (subst (λ q. IsRun N (Running (start N)) q (Error kind v t)) g.is run)

        unfrozen : (w : ℕ) → (g.mid).frozen w ≡ false
        unfrozen w = none_frozen N ok (start N) g.mid g.front (λ ms e x. never_asks_freeze same event_same cmp bottom join events answer rules ms e (way_run N ok (start N) e ms x)) g.way w refl

        by : (k : Task (At E)) → (g.mid).tasks t ≡ k → effect N g.mid (Act t) ≡ Fails kind v t
            → ((kind ≡ Conflict) × (relation : ℕ) × (v ≡ Some relation) × JoinsToTop join bottom events rules relation) ⊎ (kind ≡ Deep)
        by (Live l f a p) is e =
            let all = within N ok Joined Joined joined_keeps g.mid (λ v z seen. seen) g.front reached in
            request_error g.mid unfrozen t l f a p (played N ok Joined Joined g.mid all t l f a p is) all.contents kind v t (N.request l) refl (rw is at e)
        by Absent is e = absurd (cc (rw is at e))
        by Ended is e = absurd (cc (rw is at e))
