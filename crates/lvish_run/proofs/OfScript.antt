-- A report of one machine's run is one of a machine that has the same runs.
use Rattle.std.proofs.Common.{◌≡◌, ◌↔◌, ℕ, Bool, List, [], ◌∷◌, ◌++◌, length, slice_get, Option, Some, None, sym, ◌∙◌, ap, subst, Ordering}
use Rattle.lvish_calculus.specs.declared.label.Label.{Label}
use Rattle.lvish_calculus.specs.declared.request.ErrorKind.{ErrorKind}
use Rattle.lvish_calculus.specs.Machine.{Machine}
use Rattle.lvish_calculus.specs.Program.{Functions, machine_of}
use Rattle.lvish_calculus.specs.Calculus.{State, Configuration, Running, Error, IsRun, start, step}
use Rattle.lvish_names.specs.Names.{Name}
use Rattle.lvish_calculus.specs.Laws.{Reaches, IsCrossed, FreezesAllBy, NeverErrs}
use Rattle.lvish_calculus.specs.Handing.{IsWellHanded}
use Rattle.lvish_calculus.specs.SameRuns.{SameState, SameConfiguration, HaveSameRuns}
use Rattle.lvish_calculus.proofs.SameThere.{Base, over, Both, both_start, both_step, flip_state, flip_configuration, flip_runs, reached, never_there, end_there, can_there, enabled_there, live_count, all_by_there, crossed_there, core_there, handed_there}
use Rattle.lvish_report.specs.declared.report.FinalState.{FinalState}
use Rattle.lvish_report.specs.declared.report.Report.{Report}
use Rattle.lvish_trace.specs.declared.outcome.Outcome.{Outcome}
use Rattle.lvish_trace.specs.declared.outcome.Outcome.TheVariants.{Ended, Error as ErrorOutcome, Budget}
use Rattle.lvish_run.specs.Honest.{AreFinalStates, Comes, IsOutcome, IsHonest}
use Rattle.lvish_trace.specs.Traced.{labels_of}
use Rattle.lvish_run.specs.Picked.{ComesNext, IsNamed, IsPicked}
use Rattle.lvish_run.specs.Alike.{EndsAlikeIf, IsAlike}
use Rattle.lvish_run.specs.Least.{IsLeast, IsClosedEnd}
use Rattle.lvish_task.specs.SamePlays.{HaveSamePlays}
use Rattle.lvish_run.proofs.SameOrder.{same_order_uncrossed}
use Rattle.lvish_run.proofs.FreezesThere.{freeze_order_there}
use Rattle.lvish_run.proofs.LeastThere.{least_report_there, closed_report_there}

abbrev back : {S E R A L K : Type 0} (B : Base S E R A) (f : Functions S E R A L) (g : Functions S E R A K) → HaveSameRuns (over B f) (over B g) → HaveSameRuns (over B g) (over B f)
back B f g H = flip_runs (over B f) (over B g) H

-- a variable's content and mark
abbrev final : {S : Type 0} → S → Bool → FinalState S
final s frozen = record { content = s; frozen = frozen }

-- the states of a configuration are those of each that looks the same
module _ {S E R A L K : Type 0} (M : Machine S E R A L) (N : Machine S E R A K) where
  pub same_states : (variables : ℕ) (c : State S E L) (d : State S E K) (states : List (FinalState S)) → SameState M N c d → AreFinalStates variables c states → AreFinalStates variables d states
  same_states variables c d states s a = record {
    count = a.count;
    each = λ v small. a.each v small ∙ ap (λ (q : FinalState S). Some q) (alike v (s.content v) (s.frozen v));
  }
    where
      alike : (v : ℕ) → c.content v ≡ d.content v → c.frozen v ≡ d.frozen v → final (c.content v) (c.frozen v) ≡ final (d.content v) (d.frozen v)
      alike v x y = λ i. final (x i) (y i)

module _ {S E R A L K : Type 0} (B : Base S E R A) (f : Functions S E R A L) (g : Functions S E R A K) (H : HaveSameRuns (over B f) (over B g)) where
  comes_there : (variables : ℕ) (r : Report S E) (h : Comes (over B f) variables r) → (k : Comes (over B g) variables r) × SameState (over B f) (over B g) h.last k.last
  comes_there variables r h =
      let z = reached (over B f) (over B g) H (labels_of r.trace) h.last h.reached in (
        record { last = z.0; reached = z.1; states = same_states (over B f) (over B g) variables h.last z.0 r.states z.2 h.states; blocked = live_count B f g H.pools h.last z.0 z.2 r.blocked h.blocked },
        z.2,
      )

  -- the error of the same run
  error_there : (xs : List (Label E)) (kind : ErrorKind) (v : _) (t : Name E) → IsRun (over B f) (Running (start (over B f))) xs (Error kind v t) → IsRun (over B g) (Running (start (over B g))) xs (Error kind v t)
  error_there xs kind v t run = by (H.there xs (Error kind v t) run).0 (H.there xs (Error kind v t) run).1 (H.there xs (Error kind v t) run).2
    where
      by : (e : Configuration S E K) → IsRun (over B g) (Running (start (over B g))) xs e → SameConfiguration (over B f) (over B g) (Error kind v t) e → IsRun (over B g) (Running (start (over B g))) xs (Error kind v t)
      by (Running d) r same = absurd same
      by (Error j w u) r same =
          let e : Error j w u ≡ Error kind v t = λ i. Error ((sym same.0) i) ((sym same.1) i) ((sym same.2) i) in
          subst (λ (x : Configuration S E K). IsRun (over B g) (Running (start (over B g))) xs x) e r

  outcome_there : (variables budget : ℕ) (r : Report S E) (o : Outcome E) → IsOutcome (over B f) variables budget r o → IsOutcome (over B g) variables budget r o
  outcome_there variables budget r Ended h = let k = comes_there variables r h.0 in (k.0, end_there B f g H.pools h.0.last k.0.last k.1 h.1)
  outcome_there variables budget r (ErrorOutcome kind v t) h = (error_there (labels_of r.trace) kind v t h.0, h.1, h.2)
  outcome_there variables budget r Budget h =
      let k = comes_there variables r h.0 in
      (k.0, h.1, (h.2.0, enabled_there B f g H.pools h.0.last k.0.last k.1 h.2.0 h.2.1))

  -- the configuration to which the run of an honest report leads
  run_of : (variables budget : ℕ) (r : Report S E) (o : Outcome E) → IsOutcome (over B f) variables budget r o → (last : Configuration S E L) × IsRun (over B f) (Running (start (over B f))) (labels_of r.trace) last
  run_of variables budget r Ended h = (Running h.0.last, h.0.reached)
  run_of variables budget r (ErrorOutcome kind v t) h = (Error kind v t, h.0)
  run_of variables budget r Budget h = (Running h.0.last, h.0.reached)

  -- an honest report is one of the other
  pub honest_there : (variables workers budget : ℕ) (r : Report S E) → IsHonest (over B f) variables workers budget r → IsHonest (over B g) variables workers budget r
  honest_there variables workers budget r h = record {
    core_run = core_there B f g H (labels_of r.trace) h.core_run;
    steps = h.steps;
    within = h.within;
    outcome = outcome_there variables budget r r.outcome h.outcome;
    by_worker = h.by_worker;
    freezes = let run = run_of variables budget r r.outcome h.outcome in h.freezes ∙ freeze_order_there B f g H (labels_of r.trace) run.0 run.1;
  }

  -- the same labels come next
  comes_next : (xs : List (Label E)) (C : Configuration S E L) (D : Configuration S E K) → SameConfiguration (over B f) (over B g) C D → (l : Label E) → ComesNext (over B f) xs C l ↔ ComesNext (over B g) xs D l
  comes_next xs C D s l = (
    λ z. (can_there B f g H.pools C D s l z.0, core_there B f g H (xs ++ l ∷ []) z.1),
    λ z. (can_there B g f (back B f g H).pools D C (flip_configuration (over B f) (over B g) C D s) l z.0, core_there B g f (back B f g H) (xs ++ l ∷ []) z.1),
  )

  -- so the picks name the same
  named_there : (cmp : E → E → Ordering) (xs : List (Label E)) (C : Configuration S E L) (D : Configuration S E K) → SameConfiguration (over B f) (over B g) C D → (n : Option ℕ) (l : Label E) → IsNamed cmp (over B f) xs C n l → IsNamed cmp (over B g) xs D n l
  named_there cmp xs C D s (Some n) l h = record {
    all = h.all;
    enabled = record {
      ascending = h.enabled.ascending;
      just = λ m. (λ among. (comes_next xs C D s m).0 ((h.enabled.just m).0 among), λ z. (h.enabled.just m).1 ((comes_next xs C D s m).1 z));
    };
    chosen = h.chosen;
  }
  named_there cmp xs C D s None l h = record { comes = (comes_next xs C D s l).0 h.comes; before = λ m z. h.before m ((comes_next xs C D s m).1 z) }

  picked_from : (cmp : E → E → Ordering) (picks : List ℕ) (xs : List (Label E)) (C : Configuration S E L) (D : Configuration S E K) (ls : List (Label E)) (last : Configuration S E L) → Both B f g H xs C D → IsRun (over B f) C ls last → IsPicked cmp (over B f) picks xs C ls → IsPicked cmp (over B g) picks xs D ls
  picked_from cmp picks xs C D [] last b run p = tt
  picked_from cmp picks xs (Running c) (Running d) (l ∷ ls) last b run p = (
    named_there cmp xs (Running c) (Running d) b.same (slice_get picks (length xs)) l p.0,
    picked_from cmp picks (xs ++ l ∷ []) (step (over B f) c l) (step (over B g) d l) ls last (both_step B f g H xs c d l b run.0) run.1 p.1,
  )
  picked_from cmp picks xs (Running c) (Error k v t) (l ∷ ls) last b run p = absurd b.same
  picked_from cmp picks xs (Error k v t) D (l ∷ ls) last b run p = absurd run

  -- the picks name the same labels
  pub picked_there : (cmp : E → E → Ordering) (picks : List ℕ) (variables workers budget : ℕ) (r : Report S E) → IsHonest (over B f) variables workers budget r
      → IsPicked cmp (over B f) picks [] (Running (start (over B f))) (labels_of r.trace) → IsPicked cmp (over B g) picks [] (Running (start (over B g))) (labels_of r.trace)
  picked_there cmp picks variables workers budget r h p =
      let run = run_of variables budget r r.outcome h.outcome in
      picked_from cmp picks [] _ _ (labels_of r.trace) run.0 (both_start B f g H) run.1 p

module _ {S E R A L K : Type 0} (B : Base S E R A) (f : Functions S E R A L) (g : Functions S E R A K) (H : HaveSameRuns (over B f) (over B g)) (variables workers budget : ℕ) (r : Report S E) (honest : IsHonest (over B f) variables workers budget r) where
  abbrev trace : List (Label E)
  trace = labels_of r.trace

  alike_if : (P Q : List (Label E) → List (Label E) → Type 0) → EndsAlikeIf (over B f) variables r P
      → ((ys : List (Label E)) (a : State S E L) → Reaches (over B f) ys a → Q trace ys → P trace ys) → EndsAlikeIf (over B g) variables r Q
  alike_if P Q alike from ys b run end q =
      let z = reached (over B g) (over B f) (back B f g H) ys b run in
      let same = flip_state (over B g) (over B f) b z.0 z.2 in
      let k = alike ys z.0 z.1 (end_there B g f (back B f g H).pools b z.0 z.2 end) (from ys z.0 z.1 q) in
      (same_states (over B f) (over B g) variables z.0 b r.states same k.0, live_count B f g H.pools z.0 b same r.blocked k.1, k.2)

  -- what is asked of two runs of the one and of the other
  abbrev Apart : {X : Type 0} → Machine S E R A X → List (Label E) → List (Label E) → Type 0
  Apart M xs ys = IsCrossed M xs ys → ⊥

  abbrev OneAsks : {X : Type 0} → Machine S E R A X → List (Label E) → List (Label E) → Type 0
  OneAsks M xs ys = (t : Name E) × FreezesAllBy M t (Running (start M)) xs × FreezesAllBy M t (Running (start M)) ys

  abbrev NoError : {X : Type 0} → Machine S E R A X → List (Label E) → List (Label E) → Type 0
  NoError M xs ys = NeverErrs M

  freezes_back : (xs : List (Label E)) (last : Configuration S E L) → IsRun (over B f) (Running (start (over B f))) xs last → (t : Name E) → FreezesAllBy (over B g) t (Running (start (over B g))) xs → FreezesAllBy (over B f) t (Running (start (over B f))) xs
  freezes_back xs last one t z =
      let k = H.there xs last one in
      all_by_there B g f (back B f g H) t [] xs (Running (start (over B g))) (Running (start (over B f))) k.0 (both_start B g f (back B f g H)) k.1 z

  -- where an end of the one is like all others, so is it of the other
  pub alike_there : IsAlike (over B f) variables r → IsAlike (over B g) variables r
  alike_there alike ended =
      let run = run_of B f g H variables budget r r.outcome honest.outcome in
      let a = alike ended in
      record {
        same_order = λ ys b reach end same. alike_if (Apart (over B f)) (Apart (over B g)) a.uncrossed (λ zs d z apart crossed. apart (crossed_there B f g H trace zs run.0 (Running d) run.1 z crossed)) ys b reach end
            (same_order_uncrossed (over B g) trace ys same);
        uncrossed = alike_if (Apart (over B f)) (Apart (over B g)) a.uncrossed (λ ys b reach apart crossed. apart (crossed_there B f g H trace ys run.0 (Running b) run.1 reach crossed));
        one_asks = alike_if (OneAsks (over B f)) (OneAsks (over B g)) a.one_asks (λ ys b reach q. (q.0, freezes_back trace run.0 run.1 q.0 q.1, freezes_back ys (Running b) reach q.0 q.2));
        no_error = alike_if (NoError (over B f)) (NoError (over B g)) a.no_error (λ ys b reach never. never_there (over B g) (over B f) (back B f g H) never);
      }

-- what is said of the flat code's report is said of the script's
module _ {S E R A L K : Type 0} (same : S → S → Bool) (event_same : E → E → Bool) (cmp : E → E → Ordering) (bottom : S) (join : S → S → Option S) (events : S → List E) (answer : R → S → Option A) (f : Functions S E R A L) (g : Functions S E R A K)
    (H : HaveSameRuns (machine_of same event_same cmp bottom join events answer f) (machine_of same event_same cmp bottom join events answer g)) (variables workers budget : ℕ) (r : Report S E)
    (honest : IsHonest (machine_of same event_same cmp bottom join events answer f) variables workers budget r) where
  abbrev base : Base S E R A
  base = record { same = same; event_same = event_same; cmp = cmp; bottom = bottom; join = join; events = events; answer = answer }

  pub said_there : IsWellHanded (machine_of same event_same cmp bottom join events answer f) (labels_of r.trace)
      → IsAlike (machine_of same event_same cmp bottom join events answer f) variables r
      → IsHonest (machine_of same event_same cmp bottom join events answer g) variables workers budget r
      × IsWellHanded (machine_of same event_same cmp bottom join events answer g) (labels_of r.trace)
      × IsAlike (machine_of same event_same cmp bottom join events answer g) variables r
  said_there handed alike = (
    honest_there base f g H variables workers budget r honest,
    handed_there base f g H (labels_of r.trace) handed,
    alike_there base f g H variables workers budget r honest alike,
  )

  pub models_there : HaveSamePlays (machine_of same event_same cmp bottom join events answer f) (machine_of same event_same cmp bottom join events answer g)
      → IsLeast (machine_of same event_same cmp bottom join events answer f) r → IsClosedEnd (machine_of same event_same cmp bottom join events answer f) r
      → IsLeast (machine_of same event_same cmp bottom join events answer g) r × IsClosedEnd (machine_of same event_same cmp bottom join events answer g) r
  models_there plays least closed = (least_report_there base f g H plays r least, closed_report_there base f g H plays r closed)

  pub picks_there : (order : E → E → Ordering) (picks : List ℕ) → IsPicked order (machine_of same event_same cmp bottom join events answer f) picks [] (Running (start (machine_of same event_same cmp bottom join events answer f))) (labels_of r.trace)
      → IsPicked order (machine_of same event_same cmp bottom join events answer g) picks [] (Running (start (machine_of same event_same cmp bottom join events answer g))) (labels_of r.trace)
  picks_there order picks picked = picked_there base f g H order picks variables workers budget r honest picked
