-- Where some contents are closed, a run meets no error but those of freezing.
use Rattle.std.proofs.Common.{◌≡◌, ◌≢◌, ◌⊎◌, inl, inr, ℕ, suc, Bool, true, false, not, ◌&&◌, List, [], ◌∷◌, ◌++◌, Option, Some, None, refl, sym, ◌∙◌, ap, subst, if◌then◌else◌}
use Rattle.std.proofs.lemmas.Bool.{and_parts, both_ways, false_from_ne_true}
use mathlib.Core.Path.{fun_ext}
use Rattle.lvish_names.specs.Names.{Name}
use Rattle.lvish_calculus.specs.Machine.{Machine, IsLawful, Request, Put, Get, Fork, Add, Freeze, Pause, End, Fault, Done, ErrorKind, Frozen, Late}
use Rattle.lvish_calculus.specs.Calculus.{Task, Absent, Live, Ended, Post, State, Configuration, Running, Error, Label, Act, Hand, Effect, Changes, Fails, Nothing, put_effect, get_effect, add_effect, hand_effect, request_effect, effect, after, changed, start, IsRun}
use Rattle.lvish_calculus.specs.Laws.{Reaches}
use Rattle.lvish_calculus.specs.LeastModel.{IsMet, IsClosed, frozen_contents, OnlyFrozenOrLate, ClosedNeverErrs}
use Rattle.lvish_calculus.proofs.Order.{IsLe, top_above}
use Rattle.lvish_calculus.proofs.Moves.{frozen_by}
use Rattle.lvish_calculus.proofs.Ends.{Way, here, goes}
use Rattle.lvish_calculus.proofs.Runs.{step_is}
use Rattle.lvish_calculus.proofs.CoreRuns.{way_run}
use Rattle.lvish_calculus.proofs.Handing.{front_of}
use Rattle.lvish_calculus.proofs.LeastModel.{within, played, IsUnder, IsFroze, raised, all_puts, keeps_under}

module _ {S E R A L : Type 0} (M : Machine S E R A L) (ok : IsLawful M) where
  module _ (c : State S E L) (Y : ℕ → S) (t : Name E) (l : L) (f a p : ℕ) (under : (v : ℕ) → IsLe M ok (c.content v) (Y v)) (kind : ErrorKind) (x : Option ℕ) (u : Name E) where
    abbrev IsFreezeError : Type 0
    IsFreezeError = (w : ℕ) × (x ≡ Some w) × (c.frozen w ≡ true) × ((kind ≡ Frozen) ⊎ (kind ≡ Late))

    put_error : (v : ℕ) (d : S) → IsLe M ok d (Y v) → (o : Option S) → M.join (c.content v) d ≡ o → put_effect M c t (Live (M.resume (M.at l) Done) f a (suc p)) v d o ≡ Fails kind x u → IsFreezeError
    put_error v d low None j e =
        let top : M.join (Y v) d ≡ None = top_above M ok (c.content v) d (Y v) (Y v) j (under v) in
        absurd (cc (sym low ∙ ok.join_comm d (Y v) ∙ top))
    put_error v d low (Some s) j e = by _ refl e
      where
        by : (b : Bool) → (c.frozen v && not (M.same s (c.content v))) ≡ b
            → (if b then Fails Frozen (Some v) t else Changes (record { own = Some (t, Live (M.resume (M.at l) Done) f a (suc p)); made = None; added = None; joined = Some (v, d); froze = None; handing = None })) ≡ Fails kind x u
            → IsFreezeError
        by true b e =
            let k : Frozen ≡ kind = cc in
            let w : Some v ≡ x = cc in
            (v, sym w, (and_parts _ _ b).0, inl (sym k))
        by false b e = absurd (cc e)

    add_error : (pool procedure : ℕ) (o : Option ℕ) → add_effect c t (Live (M.resume (M.at l) Done) f (suc a) p) (record { adder = t; number = suc a }) (record { pool = pool; procedure = procedure }) o ≡ Fails kind x u → IsFreezeError
    add_error pool procedure None e = absurd (cc e)
    add_error pool procedure (Some v) e = by _ refl e
      where
        by : (b : Bool) → c.frozen v ≡ b
            → ◌≡◌ {A = Effect S E L} (if b then Fails Late (Some v) t else Changes (record { own = Some (t, Live (M.resume (M.at l) Done) f (suc a) p); made = None; added = Some (record { adder = t; number = suc a }, record { pool = pool; procedure = procedure }); joined = None; froze = None; handing = None })) (Fails kind x u)
            → IsFreezeError
        by true b e =
            let k : Late ≡ kind = cc in
            let w : Some v ≡ x = cc in
            (v, sym w, b, inr (sym k))
        by false b e = absurd (cc e)

    get_error : (o : Option A) → get_effect M t (M.at l) f a p o ≡ Fails kind x u → IsFreezeError
    get_error None e = absurd (cc e)
    get_error (Some y) e = absurd (cc e)

    request_error : (r : Request S R L) → IsMet M Y t r → request_effect M c t (M.at l) f a p r ≡ Fails kind x u → IsFreezeError
    request_error (Put v d) m e = put_error v d m _ refl e
    request_error (Get v r) m e = get_error _ e
    request_error (Fork k) m e = absurd (cc (rw m at e))
    request_error (Add pool procedure) m e = add_error pool procedure _ (rw m at e)
    request_error (Freeze v pools) m e = absurd (cc e)
    request_error Pause m e = absurd (cc e)
    request_error End m e = absurd (cc e)
    request_error (Fault k) m e = absurd m

  pub is_fails : (c : State S E L) (o : Effect S E L) (kind : ErrorKind) (v : Option ℕ) (t : Name E) → after M c o ≡ Error kind v t → o ≡ Fails kind v t
  is_fails c (Changes ch) kind v t e = absurd (cc e)
  is_fails c (Fails k w u) kind v t e =
      let a : k ≡ kind = cc in
      let b : w ≡ v = cc in
      let d : u ≡ t = cc in
      λ i. Fails (a i) (b i) (d i)
  is_fails c Nothing kind v t e = absurd (cc e)

  pub only_frozen_or_late : OnlyFrozenOrLate M
  only_frozen_or_late xs c run Y closed (Act n) kind v t en st = by _ refl (is_fails c _ kind v t st)
    where
      by : (k : Task L) → c.tasks n ≡ k → effect M c (Act n) ≡ Fails kind v t → (w : ℕ) × (v ≡ Some w) × (c.frozen w ≡ true) × ((kind ≡ Frozen) ⊎ (kind ≡ Late))
      by (Live l f a p) is e =
          let F = frozen_contents M c in
          let g = within M ok (IsUnder M ok Y F) (IsFroze M ok Y F) (keeps_under M ok Y F (all_puts M ok Y F closed)) c (λ u z le. ap (λ b. if b then Some (c.content u) else None) z) xs run in
          let m : IsMet M Y n (M.request l) = closed n l f a (raised M ok Y F (played M ok (IsUnder M ok Y F) (IsFroze M ok Y F) c g n l f a p is)) in
          request_error c Y n l f a p g.contents kind v t (M.request l) m (rw is at e)
      by Absent is e = absurd (cc (rw is at e))
      by Ended is e = absurd (cc (rw is at e))
  only_frozen_or_late xs c run Y closed (Hand h y) kind v t en st = absurd (no_error (c.handlers h) (is_fails c _ kind v t st))
    where
      no_error : (o : Option Post) → hand_effect M h y o ≡ Fails kind v t → ⊥
      no_error None q = cc
      no_error (Some post) q = cc

  -- what comes after a way in a run
  pub rest_run : (c d : State S E L) (ls tail : List (Label E)) (last : Configuration S E L) → Way M c ls d → IsRun M (Running c) (ls ++ tail) last → IsRun M (Running d) tail last
  rest_run c d [] tail last here run = run
  rest_run c d (l ∷ ls) tail last (goes ch m en w) run =
      rest_run (changed M ch c) d ls tail last w (subst (λ x. IsRun M x (ls ++ tail) last) (step_is M ok c l ch m) run.1)

  pub none_frozen : (c d : State S E L) (ls : List (Label E)) → ((ms : List (Label E)) (e : State S E L) → Way M c ms e → (t : Name E) (l : L) (f a p : ℕ) → e.tasks t ≡ Live l f a p → (v : ℕ) (pools : List ℕ) → M.request l ≢ Freeze v pools)
      → Way M c ls d → (v : ℕ) → c.frozen v ≡ false → d.frozen v ≡ false
  none_frozen c d ls none here v z = z
  none_frozen c d (l ∷ ls) none (goes ch m en w) v z =
      none_frozen (changed M ch c) d ls (λ ms e x. none (l ∷ ms) e (goes ch m en x)) w v (false_from_ne_true _ (λ y.
      let fr = frozen_by M ok c l ch m v z y in
      none [] c here fr.task fr.local fr.forks fr.adds fr.puts fr.is v fr.pools fr.asked))

  pub closed_never_errs : ClosedNeverErrs M
  closed_never_errs none Y closed xs kind v t run =
      let g = front_of M ok xs (start M) kind v t run in
      let reached : Reaches M (g.front) (g.mid) = way_run M ok (start M) g.mid g.front g.way in
      let last = rest_run (start M) g.mid g.front (Act t ∷ []) (Error kind v t) g.way (subst (λ q. IsRun M (Running (start M)) q (Error kind v t)) g.is run) in
      let unfrozen : (w : ℕ) → (g.mid).frozen w ≡ false = λ w. none_frozen (start M) g.mid g.front (λ ms e x. none ms e (way_run M ok (start M) e ms x)) g.way w refl in
      let F : frozen_contents M g.mid ≡ (λ w. None) = fun_ext (λ w. ap (λ b. if b then Some ((g.mid).content w) else None) (unfrozen w)) in
      let z = only_frozen_or_late g.front g.mid reached Y (subst (λ q. IsClosed M Y q) (sym F) closed) (Act t) kind v t last.0 last.1 in
      both_ways _ (unfrozen z.0) z.2
