-- The report of a run is honest, and says of other ends that they are alike.
use Rattle.std.proofs.Common.{◌≡◌, ◌⊎◌, inl, inr, ℕ, suc, zero, ◌+◌, ◌<◌, ◌==◌, List, [], ◌∷◌, length, Option, Some, None, slice_get, cond, Result, Ok, Err, IfOk, IsSome, refl, sym, ap, ◌∙◌, subst, arith, Ordering}
use Rattle.std.specs.List.{AllByRecursion, count_by, fold}
use Rattle.std.proofs.lemmas.List.{length-map}
use Rattle.std.proofs.lemmas.Option.{slice_get_within, get_or_from_slice_get}
use Rattle.lvish_calculus.specs.declared.label.Label.{Label}
use Rattle.lvish_calculus.specs.Machine.{Machine}
use Rattle.lvish_calculus.specs.Calculus.{Configuration, Running, Error, CanStep, IsRun, IsEnd, IsEnded, start}
use Rattle.lvish_names.specs.Names.{Name}
use Rattle.lvish_calculus.specs.FreezeOrder.{freeze_order}
use Rattle.lvish_calculus.specs.Laws.{IsCrossed, FreezesAllBy, NeverErrs, SameEndIf}
use Rattle.lvish_core.specs.declared.fault.RunError.{RunError}
use Rattle.lvish_calculus.specs.Handing.{HandsOldestFirst, IsWellHanded, HandingKept}
use Rattle.lvish_core.specs.Core.{CoreView, picture, state, at_fault, CanTake, IsRunTo}
use Rattle.lvish_core.specs.CoreLaws.{TakesSomething}
use Rattle.lvish_core.specs.Labels.{AreLabels}
use Rattle.lvish_core.specs.laws.Runs.{no_error_before}
use Rattle.lvish_report.specs.declared.report.FinalState.{FinalState}
use Rattle.lvish_trace.specs.declared.trace_entry.TraceEntry.{TraceEntry}
use Rattle.lvish_trace.specs.declared.packed_step.PackedStep.{PackedStep}
use Rattle.lvish_trace.specs.Packed.{IsPacked, entry_at, entries_of}
use Rattle.lvish_report.specs.declared.report.Report.{Report}
use Rattle.lvish_trace.specs.declared.outcome.Outcome.{Outcome}
use Rattle.lvish_trace.specs.declared.outcome.Outcome.TheVariants.{Ended, Error as ErrorOutcome, Budget}
use Rattle.lvish_run.specs.Honest.{AreFinalStates, Comes, IsOutcome, IsCountByWorker, IsHonest}
use Rattle.lvish_trace.specs.Traced.{labels_of}
use Rattle.lvish_board.specs.Board.{Standing, OverIs, IsBoardSound}
use Rattle.lvish_calculus.specs.Live.{HasLive}
use Rattle.lvish_run.specs.Alike.{EndsAlikeIf, IsAlike, IsTold}
use Rattle.lvish_run.specs.Least.{IsLeast, IsClosedEnd}
use Rattle.lvish_run.specs.Walk.{IsStuck, IsWalked, IsAccount, IsHow}
use Rattle.lvish_picture.proofs.Slots.{among}
use Rattle.lvish_run.proofs.SameOrder.{same_order_uncrossed}

-- ---- the counts of one worker

-- a count goes up by the length of a list whose entries are all of worker 0
fold_all : {E : Type 0} (n : ℕ) (xs : List (TraceEntry E)) → AllByRecursion (λ e. e.worker ≡ 0) xs → fold (λ a x. a + cond (x.worker == 0) 1 0) n xs ≡ n + length xs
fold_all n [] h = omega arith
fold_all n (x ∷ xs) h =
    ap (λ k. fold (λ a y. a + cond (y.worker == 0) 1 0) (n + cond (k == 0) 1 0) xs) h.0 ∙ fold_all (n + 1) xs h.1 ∙ omega arith

-- the steps of one worker
counted_of_one : {E : Type 0} (steps : ℕ) (trace : List (TraceEntry E)) → steps ≡ length trace → AllByRecursion (λ e. e.worker ≡ 0) trace → IsCountByWorker 1 trace (steps ∷ [])
counted_of_one {E} steps trace long one = record { count = refl; each = each; adds_up = omega (arith, long) }
  where
    each : (k : ℕ) → k < 1 → slice_get (steps ∷ []) k ≡ Some (count_by (λ (e : TraceEntry E). e.worker == k) trace)
    each zero small = ap (λ (n : ℕ). Some n) (long ∙ sym (fold_all 0 trace one ∙ omega arith))
    each (suc k) small = absurd (omega arith)

-- ---- cores that have stopped

module _ {P S E R A L : Type 0} (M : Machine S E R A L) (c : CoreView P S E L) where
  -- a core that can take a label has no error
  able : (l : Label E) → CanTake M c l → c.fault ≡ None
  able l can = no_error_before M (state M c) c.fault l can.0

  -- a core at an end has no error, and can take no label
  unfailed : IsEnded M (picture M c) → c.fault ≡ None
  unfailed end = by c.fault (λ i. c.fault)
    where
      by : (f : Option (RunError E)) → c.fault ≡ f → c.fault ≡ None
      by None e = e
      by (Some f) e = absurd (subst (λ g. IsEnded M (at_fault (state M c) g)) e end)

  pub stuck_at_end : IsEnded M (picture M c) → IsStuck M c
  stuck_at_end end l can =
      let at_end : IsEnded M (Running (state M c)) = subst (λ g. IsEnded M (at_fault (state M c) g)) (unfailed end) end in
      at_end l (subst (λ g. CanStep M (at_fault (state M c) g) l) (unfailed end) can.0)

  -- a core with an error can take no label
  failed_then : (f : RunError E) → c.fault ≡ Some f → IsStuck M c
  failed_then f is l can = (let none : Some f ≡ None = sym is ∙ able l can in let no : ⊥ = cc in no)

  -- the label that was chosen can be taken
  pub chosen_can : (cmp : E → E → Ordering) (ls : List (Label E)) (k : ℕ) (l : Label E) → AreLabels cmp M c ls → slice_get ls k ≡ Some l → CanTake M c l
  chosen_can cmp ls k l a e = (a.just l).0 (among ls l (k, slice_get_within ls k l e, get_or_from_slice_get ls k l l e))

  -- a core without an error that has a label can go on
  pub some_label : (cmp : E → E → Ordering) (ls : List (Label E)) → c.fault ≡ None → AreLabels cmp M c ls → (length ls ≡ 0 → ⊥) → IsHow M c Budget
  some_label cmp [] none a some = absurd (some refl)
  some_label cmp (x ∷ xs) none a some = (none, (x, (a.just x).0 (inl refl)))

-- where a board is over, its run has stopped
pub over_stops : {P S E R A L : Type 0} (M : Machine S E R A L) (budget : ℕ) (s : Standing P S E L) (o : Option (Outcome E)) → IsSome o → OverIs M budget s o → (length s.trace ≡ budget) ⊎ IsStuck M s.core
over_stops M budget s None some h = absurd cc
over_stops M budget s (Some Ended) some h = inr (stuck_at_end M s.core h)
over_stops M budget s (Some Budget) some h = inl h.0
over_stops M budget s (Some (ErrorOutcome kind v t)) some h = inr (failed_then M s.core (record { kind = kind; variable = v; task = t }) h)

-- with what a board is over
pub board_over : {P S E R A L : Type 0} (M : Machine S E R A L) (p : P) (budget : ℕ) (s : Standing P S E L) (o q : Outcome E) → IsBoardSound M p budget s → s.over ≡ Some o → q ≡ o → OverIs M budget s (Some q)
board_over M p budget s o q sound over same = subst (λ x. OverIs M budget s x) (over ∙ ap (λ z. Some z) (sym same)) sound.over_is

-- ---- a run by picks that has stopped

module _ {P S E R A L : Type 0} (cmp : E → E → Ordering) (machine : P → Machine S E R A L) (p : P) (picks : List ℕ) (budget : ℕ) (s : Standing P S E L) (walked : IsWalked cmp (machine p) p picks budget s.core s.trace) where
  -- its outcome is what its core shows
  pub walked_over : (core : CoreView P S E L) (o : Outcome E) → TakesSomething P (machine p) → core ≡ s.core → IsHow (machine core.program) core o → OverIs (machine p) budget s (Some o)
  walked_over core o something same how = by o (subst (λ q. IsHow (machine q) s.core o) walked.walk.program (subst (λ (c : CoreView P S E L). IsHow (machine c.program) c o) same how))
    where
      by : (q : Outcome E) → IsHow (machine p) s.core q → OverIs (machine p) budget s (Some q)
      by Ended h = subst (λ f. IsEnded (machine p) (at_fault (state (machine p) s.core) f)) (sym h.0) (λ l can.
          let k = something s.core (labels_of s.trace) walked.walk.leads l (subst (λ f. CanStep (machine p) (at_fault (state (machine p) s.core) f) l) (sym h.0) can) in
          h.1 k.0 k.1)
      by Budget h = (elim walked.stopped [ inl used ↦ used | inr stuck ↦ absurd (stuck h.1.0 h.1.1) ], h.1)
      by (ErrorOutcome kind v t) h = h

  -- its one worker made all its steps
  pub walked_counts : (core : CoreView P S E L) (counts : List ℕ) → core ≡ s.core → counts ≡ core.steps ∷ [] → IsCountByWorker (length counts) s.trace counts
  walked_counts core counts same is = subst (λ ns. IsCountByWorker (length ns) s.trace ns) (sym is) (counted_of_one core.steps s.trace (ap (λ c. c.steps) same ∙ walked.walk.steps) walked.walk.workers)

-- ---- the report of a board

-- noted steps are the trace that they are by the names of the tasks
module _ {E : Type 0} (names theirs : List (Name E)) (noted : List PackedStep) (trace : List (TraceEntry E)) (same : names ≡ theirs) (is : trace ≡ entries_of theirs noted) where
  pub named_trace : entries_of names noted ≡ trace
  named_trace = ap (λ ns. entries_of ns noted) same ∙ sym is

  pub named_all : AllByRecursion (IsPacked theirs) noted → AllByRecursion (IsPacked names) noted
  named_all all = subst (λ ns. AllByRecursion (IsPacked ns) noted) (sym same) all

  pub named_long : (steps : ℕ) → steps ≡ length noted → steps ≡ length (entries_of names noted)
  named_long steps long = long ∙ sym (length-map noted (entry_at names))

module _ {P S E R A L : Type 0} (M : Machine S E R A L) (variables budget : ℕ) (s : Standing P S E L) (r : Report S E) (leads : IsRunTo M s.core (labels_of s.trace)) (trace_is : r.trace ≡ s.trace) (steps : r.steps ≡ length s.trace) where
  -- the run of its trace
  at : (f : Option (RunError E)) → s.core.fault ≡ f → IsRun M (Running (start M)) (labels_of r.trace) (at_fault (state M s.core) f)
  at f is = subst (λ t. IsRun M (Running (start M)) (labels_of t) (at_fault (state M s.core) f)) (sym trace_is) (subst (λ g. IsRun M (Running (start M)) (labels_of s.trace) (at_fault (state M s.core) g)) is leads.reached)

  abbrev comes : s.core.fault ≡ None → AreFinalStates variables (state M s.core) r.states × HasLive (state M s.core) r.blocked → Comes M variables r
  comes is h = record { last = state M s.core; reached = at None is; states = h.0; blocked = h.1 }

  outcome_is : (o : Outcome E) → OverIs M budget s (Some o) → IsAccount M variables s.core o r.states r.blocked → IsOutcome M variables budget r o
  outcome_is Ended h a = let none = unfailed M s.core h in (comes none a, subst (λ f. IsEnded M (at_fault (state M s.core) f)) none h)
  outcome_is Budget h a = let none = able M s.core h.1.0 h.1.1 in (comes none a, steps ∙ h.0, (h.1.0, subst (λ f. CanStep M (at_fault (state M s.core) f) h.1.0) none h.1.1.0))
  outcome_is (ErrorOutcome kind v t) h a = (at (Some (record { kind = kind; variable = v; task = t })) h, a.0, a.1)

module _ {P S E R A L : Type 0} (machine : P → Machine S E R A L) (variables : P → ℕ) (p : P) (budget : ℕ) (s : Standing P S E L) (core : CoreView P S E L) (trace : List (TraceEntry E)) (o q : Outcome E) (states : List (FinalState S)) (steps blocked : ℕ) (by_worker freezes : List ℕ) (r : Report S E)
    (sound : IsBoardSound (machine p) p budget s) (core_is : core ≡ s.core) (trace_is : trace ≡ s.trace) (over : OverIs (machine p) budget s (Some o)) (same : q ≡ o)
    (account : IsAccount (machine core.program) (variables core.program) core q states blocked) (long : steps ≡ length trace)
    (made : r ≡ record { outcome = q; states = states; steps = steps; blocked = blocked; trace = trace; by_worker = by_worker; freezes = freezes }) where
  pub told_trace : r.trace ≡ s.trace
  told_trace = ap (λ x. x.trace) made ∙ trace_is

  told_steps : r.steps ≡ length r.trace
  told_steps = ap (λ x. x.steps) made ∙ long ∙ sym (ap (λ x. length x.trace) made)

  told_outcome : IsOutcome (machine p) (variables p) budget r r.outcome
  told_outcome = outcome_is (machine p) (variables p) budget s r sound.leads told_trace (told_steps ∙ ap length told_trace) r.outcome
      (subst (λ x. OverIs (machine p) budget s (Some x)) (sym (ap (λ x. x.outcome) made ∙ same)) over)
      (subst (λ x. IsAccount (machine p) (variables p) s.core x.outcome x.states x.blocked) (sym made)
      (subst (λ x. IsAccount (machine x) (variables x) s.core q states blocked) sound.program_is (subst (λ (x : CoreView P S E L). IsAccount (machine x.program) (variables x.program) x q states blocked) core_is account)))

  pub told_honest : (workers : ℕ) → IsCountByWorker workers s.trace by_worker → freezes ≡ core.freezes → IsHonest (machine p) (variables p) workers budget r
  told_honest workers tally listed = record {
    core_run = subst (λ t. HandsOldestFirst (machine p) (labels_of t)) (sym told_trace) sound.leads.core;
    steps = told_steps;
    within = omega (arith, told_steps, ap length told_trace, sound.within);
    outcome = told_outcome;
    by_worker = subst (λ x. IsCountByWorker workers x.trace x.by_worker) (sym made) (subst (λ t. IsCountByWorker workers t by_worker) (sym trace_is) tally);
    freezes = ap (λ x. x.freezes) made ∙ listed ∙ ap (λ (x : CoreView P S E L). x.freezes) core_is ∙ sound.leads.freezes ∙ ap (λ t. freeze_order (machine p) (labels_of t)) (sym told_trace);
  }

  alike_if : (Q : List (Label E) → List (Label E) → Type 0) → SameEndIf (machine p) Q → r.outcome ≡ Ended → EndsAlikeIf (machine p) (variables p) r Q
  alike_if Q alike ended ys b reached end holds =
      let o : (h : Comes (machine p) (variables p) r) × IsEnd (machine p) h.last = subst (λ x. IsOutcome (machine p) (variables p) budget r x) ended told_outcome in
      let z : (o.0.last ≡ b) × (length (labels_of r.trace) ≡ length ys) = alike (labels_of r.trace) ys o.0.last b o.0.reached reached o.1 end holds in (
        subst (λ d. AreFinalStates (variables p) d r.states) z.0 o.0.states,
        subst (λ d. HasLive d r.blocked) z.0 o.0.blocked,
        sym z.1 ∙ length-map r.trace (λ (e : TraceEntry E). e.label) ∙ sym told_steps,
      )

  pub told_alike : SameEndIf (machine p) (λ xs ys. IsCrossed (machine p) xs ys → ⊥)
      → SameEndIf (machine p) (λ xs ys. (t : Name E) × FreezesAllBy (machine p) t (Running (start (machine p))) xs × FreezesAllBy (machine p) t (Running (start (machine p))) ys)
      → SameEndIf (machine p) (λ xs ys. NeverErrs (machine p)) → IsAlike (machine p) (variables p) r
  told_alike uncrossed one_asks no_error ended = record {
    same_order = λ ys b reached end same. alike_if _ uncrossed ended ys b reached end (same_order_uncrossed (machine p) (labels_of r.trace) ys same);
    uncrossed = alike_if _ uncrossed ended;
    one_asks = alike_if _ one_asks ended;
    no_error = alike_if _ no_error ended;
  }

-- the configuration to which the run of a report leads
run_in : {S E R A L : Type 0} (M : Machine S E R A L) (variables budget : ℕ) (r : Report S E) (o : Outcome E) → IsOutcome M variables budget r o → (last : Configuration S E L) × IsRun M (Running (start M)) (labels_of r.trace) last
run_in M variables budget r Ended h = (Running h.0.last, h.0.reached)
run_in M variables budget r (ErrorOutcome kind v t) h = (Error kind v t, h.0)
run_in M variables budget r Budget h = (Running h.0.last, h.0.reached)

-- an honest report's run hands well, as every run does
pub well_handed : {S E R A L : Type 0} (M : Machine S E R A L) (variables workers budget : ℕ) (r : Report S E) → HandingKept M → IsHonest M variables workers budget r → IsWellHanded M (labels_of r.trace)
well_handed M variables workers budget r kept h =
    let run = run_in M variables budget r r.outcome h.outcome in
    (run.0, run.1, kept (labels_of r.trace) run.0 run.1)

-- a report by n workers is one by as many
pub by_workers : {S E R A L : Type 0} (M : Machine S E R A L) (variables n workers budget : ℕ) (r : Report S E) → n ≡ workers → IsHonest M variables n budget r → IsHonest M variables workers budget r
by_workers M variables n workers budget r same h = subst (λ k. IsHonest M variables k budget r) same h

-- what five clauses say of a report
pub is_told : {S E R A L X : Type 0} (M : Machine S E R A L) (variables workers budget : ℕ) (r : Result (Report S E) X) → IfOk r (λ x. IsHonest M variables workers budget x)
    → IfOk r (λ x. IsWellHanded M (labels_of x.trace)) → IfOk r (λ x. IsAlike M variables x) → IfOk r (λ x. IsLeast M x) → IfOk r (λ x. IsClosedEnd M x) → IfOk r (λ x. IsTold M variables workers budget x)
is_told M variables workers budget (Ok x) h k a l c = record { honest = h; handed = k; alike = a; least = l; closed = c }
is_told M variables workers budget (Err e) h k a l c = tt

-- what two clauses say of a good answer
pub both_ok : {T X : Type 0} (P Q : T → Type 0) (r : Result T X) → IfOk r P → IfOk r Q → IfOk r (λ x. P x × Q x)
both_ok P Q (Ok x) p q = (p, q)
both_ok P Q (Err e) p q = tt
