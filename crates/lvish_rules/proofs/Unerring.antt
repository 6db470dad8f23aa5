-- No run of an analysis is in error, where joins are never top and watches have ranks.
use Rattle.std.proofs.Common.{◌≡◌, ◌<◌, ◌≤◌, ℕ, suc, Bool, false, List, [], ◌∷◌, Option, Some, None, Ordering, Contains, refl, subst, arith}
use Rattle.std.specs.Prelude.{slice_get}
use Rattle.std.proofs.lemmas.Bool.{lt-leb}
use Rattle.lvish_lattice.specs.Top.{IsNeverTop}
use Rattle.lvish_names.specs.Names.{Name, part_count, is_deep}
use Rattle.lvish_names.specs.declared.limits.TheConstants.{MOST_PARTS}
use Rattle.lvish_calculus.specs.declared.label.Label.TheVariants.{Act}
use Rattle.lvish_calculus.specs.declared.request.ErrorKind.{ErrorKind}
use Rattle.lvish_calculus.specs.declared.request.Request.{Request}
use Rattle.lvish_calculus.specs.declared.request.Request.TheVariants.{Put as AskPut, Get, Fork, Add, Freeze, Pause, End, Fault}
use Rattle.lvish_calculus.specs.declared.request.Reply.TheVariants.{Done}
use Rattle.lvish_calculus.specs.Machine.{Machine, IsLawful}
use Rattle.lvish_calculus.specs.Calculus.{Task, Absent, Live, Ended, State, Running, Error, Fails, put_effect, add_effect, request_effect, effect, start, IsRun}
use Rattle.lvish_calculus.specs.Laws.{Reaches, NeverErrs}
use Rattle.lvish_calculus.specs.LeastModel.{Plays, main_starts, after_put, after_get, after_fork, child_starts, after_add, handler_starts, after_freeze, after_pause}
use Rattle.lvish_calculus.proofs.CoreRuns.{way_run}
use Rattle.lvish_calculus.proofs.Handing.{Front, front_of}
use Rattle.lvish_calculus.proofs.LeastModel.{KeepsSeen, within, played}
use Rattle.lvish_calculus.proofs.ModelErrors.{is_fails, rest_run, none_frozen}
use Rattle.lvish_rules.specs.Rules.{Watch, RuleSet}
use Rattle.lvish_rules.specs.Ruled.{At, moves_of}
use Rattle.lvish_rules.specs.RuledLaws.{asked_add, never_asks}
use Rattle.lvish_rules.specs.Analysis.{IsRanked}
use Rattle.lvish_rules.proofs.Plays.{contained, M, never_asks_freeze}

module _ {S E R A : Type 0} (same : S → S → Bool) (event_same : E → E → Bool) (cmp : E → E → Ordering) (bottom : S) (join : S → S → Option S) (events : S → List E) (answer : R → S → Option A) (rules : RuleSet S E) where
  abbrev N : Machine S E R A (At E)
  N = M same event_same cmp bottom join events answer rules

  module _ (ok : IsLawful N) (never_top : IsNeverTop join) (rank : ℕ → ℕ) (ranked : IsRanked rules rank) where
    -- the parts of a task's name, by the rank of its watch
    abbrev HasParts : Option (ℕ × E) → Name E → Type 0
    HasParts None t = part_count t ≡ 0
    HasParts (Some of) t = part_count t ≤ suc (rank of.0)

    -- a watch that a task makes has a rank of at least the parts of its name
    makes_rank : (of : Option (ℕ × E)) (t : Name E) (r w : ℕ) → HasParts of t → Contains (moves_of rules of) (Watch r w) → part_count t ≤ rank w
    makes_rank None t r w h watch = omega (arith, h)
    makes_rank (Some of) t r w h watch = let up : rank of.0 < rank w = ranked.rises of.0 of.1 r w watch in omega (arith, h, up)

    any : ℕ → S → Type 0
    any v s = Unit {0}

    next_watch : (l : At E) (pool procedure : ℕ) → N.request l ≡ Add pool procedure → Contains (moves_of rules l.0) (Watch pool procedure)
    next_watch l pool procedure q = contained (moves_of rules l.0) l.1 (Watch pool procedure) (asked_add rules.relations (slice_get (moves_of rules l.0) l.1) pool procedure q).1

    has_parts : {t : Name E} {l : At E} {f a : ℕ} → Plays N any any t l f a → HasParts l.0 t
    has_parts main_starts = refl
    has_parts (after_put v d play q) = has_parts play
    has_parts (after_get {l = l} v r s x play q sn an) = absurd (never_asks rules.relations (slice_get (moves_of rules l.0) l.1) (Get v r) q tt)
    has_parts (after_fork {l = l} k play q) = absurd (never_asks rules.relations (slice_get (moves_of rules l.0) l.1) (Fork k) q tt)
    has_parts (child_starts {l = l} k play q) = absurd (never_asks rules.relations (slice_get (moves_of rules l.0) l.1) (Fork k) q tt)
    has_parts (after_add pool procedure play q) = has_parts play
    has_parts (handler_starts {t = t} {l = l} pool procedure v s e play q of sn below) =
        let h : part_count t ≤ rank procedure = makes_rank l.0 t pool procedure (has_parts play) (next_watch l pool procedure q) in
        omega (arith, h)
    has_parts (after_freeze {l = l} v pools s play q fr) = absurd (never_asks rules.relations (slice_get (moves_of rules l.0) l.1) (Freeze v pools) q tt)
    has_parts (after_pause play q) = has_parts play

    any_keeps : KeepsSeen N ok any any
    unfolding any
    any_keeps = record { bottom = λ v. tt; put = λ t l f a v d s u play q seen j. tt }

    module _ (c : State S E (At E)) (unfrozen : (v : ℕ) → c.frozen v ≡ false) (t : Name E) (l : At E) (f a p : ℕ) (parts : HasParts l.0 t) (kind : ErrorKind) (x : Option ℕ) (u : Name E) where
      put_error : (v : ℕ) (d : S) (o : Option S) → join (c.content v) d ≡ o → put_effect N c t (Live (N.resume (N.at l) Done) f a (suc p)) v d o ≡ Fails kind x u → ⊥
      put_error v d None j e = never_top (c.content v) d j
      put_error v d (Some s) j e = cc (rw (unfrozen v) at e)

      add_error : (pool procedure : ℕ) (o : Option ℕ) → add_effect c t (Live (N.resume (N.at l) Done) f (suc a) p) (record { adder = t; number = suc a }) (record { pool = pool; procedure = procedure }) o ≡ Fails kind x u → ⊥
      add_error pool procedure None e = cc e
      add_error pool procedure (Some v) e = cc (rw (unfrozen v) at e)

      shallow : (pool procedure : ℕ) → N.request l ≡ Add pool procedure → is_deep t ≡ false
      shallow pool procedure q =
          let h : part_count t ≤ rank procedure = makes_rank l.0 t pool procedure parts (next_watch l pool procedure q) in
          let few : rank procedure < MOST_PARTS = ranked.few procedure in
          let fits : part_count t < MOST_PARTS = omega (arith, h, few) in lt-leb MOST_PARTS (part_count t) fits

      request_error : (r : Request S R (At E)) → N.request l ≡ r → request_effect N c t (N.at l) f a p r ≡ Fails kind x u → ⊥
      request_error (AskPut v d) q e = put_error v d _ refl e
      request_error (Get v r) q e = never_asks rules.relations (slice_get (moves_of rules l.0) l.1) (Get v r) q tt
      request_error (Fork k) q e = never_asks rules.relations (slice_get (moves_of rules l.0) l.1) (Fork k) q tt
      request_error (Add pool procedure) q e = add_error pool procedure _ (rw (shallow pool procedure q) at e)
      request_error (Freeze v pools) q e = cc e
      request_error Pause q e = cc e
      request_error End q e = cc e
      request_error (Fault k) q e = never_asks rules.relations (slice_get (moves_of rules l.0) l.1) (Fault k) q tt

    pub never_errs : NeverErrs N
    never_errs xs kind v t run = by _ refl (is_fails N ok g.mid _ kind v t last.1)
      where
        g : Front N ok xs (start N) t
        g = front_of N ok xs (start N) kind v t run

        reached : Reaches N (g.front) (g.mid)
        reached = way_run N ok (start N) g.mid g.front g.way

        last : IsRun N (Running (g.mid)) (Act t ∷ []) (Error kind v t)
        last = rest_run N ok (start N) g.mid g.front (Act t ∷ []) (Error kind v t) g.way (subst (λ q. IsRun N (Running (start N)) q (Error kind v t)) g.is run)

        unfrozen : (w : ℕ) → (g.mid).frozen w ≡ false
        unfrozen w = none_frozen N ok (start N) g.mid g.front (λ ms e x. never_asks_freeze same event_same cmp bottom join events answer rules ms e (way_run N ok (start N) e ms x)) g.way w refl

        by : (k : Task (At E)) → (g.mid).tasks t ≡ k → effect N g.mid (Act t) ≡ Fails kind v t → ⊥
        by (Live l f a p) is e =
            let all = within N ok any any any_keeps g.mid (λ v z seen. seen) g.front reached in
            request_error g.mid unfrozen t l f a p (has_parts (played N ok any any g.mid all t l f a p is)) kind v t (N.request l) refl (rw is at e)
        by Absent is e = cc (rw is at e)
        by Ended is e = cc (rw is at e)
