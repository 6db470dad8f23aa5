-- A step that is an error, over any machine.
use Rattle.std.proofs.Common.{◌≡◌, ◌⊎◌, inl, inr, take, drop, ◌+◌, ◌≤◌, ◌<◌, ◌++◌, ℕ, List, [], ◌∷◌, length, Option, Some, append_assoc, refl, sym, ap, subst, ◌∙◌, arith, append-nil, length-append}
use Rattle.lvish_core.specs.Vocabulary.{MOST_PROGRAM_STEPS, ErrorKind, Conflict, Frozen, Put, Label, Act, PutFault, PutConflict, PutFrozen, HandlerPlace, Other, ErrorStep}
use Rattle.lvish_calculus.specs.Machine.{Machine}
use Rattle.lvish_calculus.specs.Calculus.{State, Configuration, Running, Error, Changes, Fails, Nothing, Effect, IsEnabled, CanStep, IsRun, after, next, effect, start, step}
use Rattle.lvish_names.specs.Names.{Name, Handler}
use Rattle.lvish_calculus.specs.Laws.{Reaches}
use Rattle.lvish_calculus.specs.Handing.{IsNoLater, HandsOldestFirst}
use Rattle.lvish_variable.specs.Variable.{VariableView as Variable, logged}
use Rattle.lvish_picture.specs.Logs.{IsInOrder}
use Rattle.lvish_picture.specs.Picture.{IsPictured}
use Rattle.lvish_picture.specs.Steps.{IsErring}
use Rattle.lvish_picture.specs.Laws.{ErrorsAreSteps}
use Rattle.lvish_calculus.proofs.CoreRuns.{whole, within, cut}
use Rattle.lvish_core.specs.Core.{CoreView, state, IsRunTo, IsStep}
use Rattle.lvish_core.specs.Changes.{nothing_moved, moved_in, more_frozen, task_touches, brings}
use Rattle.lvish_calculus.specs.FreezeOrder.{froze_by, freeze_order}
use Rattle.lvish_core.specs.Puts.{brought_by_run}
use Rattle.lvish_core.specs.Beside.{RefusedAt}
use Rattle.lvish_core.specs.Acts.{IsActing, IsFailing, IsRefused, IsMoving}
use Rattle.lvish_core.specs.Kept.{IsKept}
use Rattle.lvish_core.proofs.Gets.{rewritten}
use Rattle.lvish_core.specs.laws.Runs.{at_state, pictured_by}
use Rattle.lvish_core.proofs.Puts.{brought_more}
use Rattle.lvish_core.proofs.Freezes.{freezes_more}
use Rattle.lvish_core.proofs.Goes.{same_log}

module _ {S E R A L : Type 0} (M : Machine S E R A L) where
  -- a run doesn't lead to an error and to a configuration without one
  no_both : (d : Configuration S E L) (xs : List (Label E)) (c : State S E L) (kind : ErrorKind) (v : Option ℕ) (t : Name E) → IsRun M d xs (Running c) → IsRun M d xs (Error kind v t) → ⊥
  no_both d [] c kind v t r e = absurd (cc (r, e))
  no_both (Running s) (l ∷ xs) c kind v t r e = no_both (step M s l) xs c kind v t r.1 e.1
  no_both (Error k w u) (l ∷ xs) c kind v t r e = r

  -- a last step that is an error brings no event earlier or later
  module _ (xs : List (Label E)) (l : Label E) (kind : ErrorKind) (w : Option ℕ) (t : Name E) (errs : IsRun M (Running (start M)) (xs ++ l ∷ []) (Error kind w t)) where
    later_too : (v : ℕ) (e x : E) → IsNoLater M xs v e x → IsNoLater M (xs ++ l ∷ []) v e x
    later_too v e x h q r c cuts rc below = elim (cut xs l q r cuts) [
      | whole all ↦ absurd (no_both (Running (start M)) (xs ++ l ∷ []) c kind w t (subst (λ ys. Reaches M ys c) all rc) errs)
      | within s part ↦ h q s c part rc below
    ]

    before_too : (v : ℕ) (e x : E) → IsNoLater M (xs ++ l ∷ []) v e x → IsNoLater M xs v e x
    before_too v e x h q r c cuts rc below = h q (r ++ l ∷ []) c (ap (λ ys. ys ++ l ∷ []) cuts ∙ append_assoc q r (l ∷ [])) rc below

    pub order_kept : (c : State S E L) (v : ℕ) (events : List E) → IsInOrder M xs c v events → IsInOrder M (xs ++ l ∷ []) c v events
    order_kept c v events o = record {
      all = o.all;
      order = λ i j d lt len. let b = o.order i j d lt len in record {
        other = b.other;
        no_later = later_too v _ _ b.no_later;
        lesser = λ h. b.lesser (before_too v _ _ h);
      };
    }

  -- what an error is told by
  fails_does : (c : State S E L) (o : Effect S E L) (kind : ErrorKind) (v : Option ℕ) (t : Name E) → after M c o ≡ Error kind v t → o ≡ Fails kind v t
  fails_does c (Changes ch) kind v t e = absurd (cc e)
  fails_does c (Fails k w u) kind v t e = cc e
  fails_does c Nothing kind v t e = absurd (cc e)

module _ {P S E R A L : Type 0} {M : Machine S E R A L} (law : ErrorsAreSteps M) {variables n : ℕ} {places : List (Handler E × HandlerPlace)} {old : CoreView P S E L}
    (kept : IsKept M variables n places old) {t : Name E} {kind : ErrorKind} {v : Option ℕ} (h : IsFailing M old t kind v) (room : old.steps < MOST_PROGRAM_STEPS) where
  abbrev later : Name E → CoreView P S E L
  later u = record { program = old.program; table = old.table; steps = old.steps + 1; fault = Some (record { kind = kind; variable = v; task = u }); touched = Some Other; freezes = old.freezes }

  abbrev said : (xs : List (Label E)) → IsPictured M old.table xs → IsEnabled M (state M old) (Act t) × (step M (state M old) (Act t) ≡ Error kind v t)
      × IsRun M (Running (start M)) (xs ++ Act t ∷ []) (Error kind v t) × HandsOldestFirst M (xs ++ Act t ∷ [])
  said xs k = law xs old.table t h.acting.local h.forks h.adds h.puts h.request kind v k h.acting.asking h.errs

  does : effect M (state M old) (Act t) ≡ Fails kind v t
  does = fails_does M (state M old) (effect M (state M old) (Act t)) kind v t (said kept.standing.run kept.standing.pictured).1

  leads : (xs : List (Label E)) → IsRunTo M old xs → IsRunTo M (later t) (xs ++ Act t ∷ [])
  leads xs r = let s = said xs (pictured_by M old xs h.acting.no_fault r) in record {
    reached = s.2;
    core = s.3;
    logs = λ u x at. order_kept M xs (Act t) kind v t s.2 (state M old) u (logged x.log) (r.logs u x at);
    brings = λ u x at. r.brings u x at ∙ sym (brought_more M xs (state M old) (Act t) (pictured_by M old xs h.acting.no_fault r).reached u
        ∙ ap (λ o. brought_by_run M (Running (start M)) xs u ++ brings M (state M old) u o) does ∙ append-nil (brought_by_run M (Running (start M)) xs u));
    freezes = r.freezes ∙ sym (freezes_more M xs (state M old) (Act t) (pictured_by M old xs h.acting.no_fault r).reached
        ∙ ap (λ o. more_frozen (freeze_order M xs) (state M old).frozen (froze_by o)) does);
    table = r.table;
  }

  failed_step : IsStep M old (Act t) (later t) (ErrorStep kind)
  failed_step =
      let s = said kept.standing.run kept.standing.pictured in
      record {
        enabled = (subst (λ (q : Configuration S E L). CanStep M q (Act t)) (sym (at_state M old h.acting.no_fault)) s.0, tt);
        program = refl;
        steps = refl;
        small = omega arith;
        stepped = sym (ap (λ (q : Configuration S E L). next M q (Act t)) (at_state M old h.acting.no_fault) ∙ s.1);
        answer = refl;
        leads = leads;
        logs = λ u x y a b. same_log old.table.variables u x y a b ∙ ap (λ o. x.log ++ brings M (state M old) u o) (sym does);
        touched = ap Some (sym (ap (λ o. task_touches M (state M old) o) does));
        indices = λ i u at. at;
        started = λ m e. absurd (cc (sym (ap (λ o. (moved_in o).made) does) ∙ e));
        shows_before = λ k e. refl;
      }

  failed_kept : IsKept M variables n places (later t)
  failed_kept =
      record {
        reached = record {
          labels = kept.reached.labels ++ Act t ∷ [];
          count = length-append kept.reached.labels (Act t ∷ []) ∙ ap (λ i. i + 1) kept.reached.count;
          leads = leads kept.reached.labels kept.reached.leads;
        };
        standing = record { run = kept.standing.run; few = let short : length kept.standing.run ≤ old.steps = kept.standing.few in omega arith; pictured = kept.standing.pictured };
        there = kept.there;
        counted = kept.counted;
        live = kept.live;
        index = kept.index;
        steps = omega arith;
        few = let was : n ≤ old.steps + 1 = kept.few in omega arith;
        numbers = λ u l f a p e. let w = kept.numbers u l f a p e in (omega (arith, w.0), omega (arith, w.1), omega (arith, w.2));
      }

  pub failed : (u : Name E) → u ≡ t → IsMoving M old (Act t) (later u) (ErrorStep kind) nothing_moved × IsKept M variables n places (later u)
  failed u is = subst (λ z. IsMoving M old (Act t) (later z) (ErrorStep kind) nothing_moved × IsKept M variables n places (later z)) (sym is)
      (record { step = failed_step; change = sym (ap moved_in does) }, failed_kept)

-- a put that the variable refuses
module _ {P S E R A L : Type 0} {M : Machine S E R A L} {old : CoreView P S E L} {t : Name E} where
  pub refused_fails : {v : ℕ} {o : PutFault} {kind : ErrorKind} → IsRefused M old t v o → ((o ≡ PutConflict) × (kind ≡ Conflict)) ⊎ ((o ≡ PutFrozen) × (kind ≡ Frozen)) → IsFailing M old t kind (Some v)
  refused_fails {v} {o} {kind} r by = record { at = r.at; forks = r.forks; adds = r.adds; puts = r.puts; request = Put v r.put; acting = r.acting; errs = errs by }
    where
      errs : ((o ≡ PutConflict) × (kind ≡ Conflict)) ⊎ ((o ≡ PutFrozen) × (kind ≡ Frozen)) → IsErring M old.table t (Put v r.put) kind (Some v)
      errs (inl e) = let z = rw e.0 at r.why in rw e.1 (z.from, z.was, z.refused, refl)
      errs (inr e) = let z = rw e.0 at r.why in rw e.1 (z.from, z.was, z.refused, refl)

  -- as the core stands after its slice was handed out
  pub refused : {at : L} {f a p v : ℕ} {d : S} → IsActing M old t at f a p (Put v d) → {slice new : List (Variable S E)} {n : ℕ} → slice ≡ old.table.variables → n ≡ length old.table.variables → new ≡ slice → (o : PutFault) → RefusedAt M.join d v slice o
      → IsRefused M (record { program = old.program; table = record { variables = take n (new ++ drop (length new) old.table.variables); handlers = old.table.handlers; tasks = old.table.tasks }; steps = old.steps; fault = old.fault; touched = old.touched; freezes = old.freezes }) t v o
  refused {at} {f} {a} {p} {v} {d} acts {slice} {new} {n} is len same o w =
      subst (λ l. IsRefused M (record { program = old.program; table = record { variables = l; handlers = old.table.handlers; tasks = old.table.tasks }; steps = old.steps; fault = old.fault; touched = old.touched; freezes = old.freezes }) t v o)
      (sym (same ∙ is) ∙ rewritten old.table.variables new n len (ap length (same ∙ is)))
      (record { at = at; forks = f; adds = a; puts = p; put = d; acting = acts; why = subst (λ l. RefusedAt M.join d v l o) is w })
