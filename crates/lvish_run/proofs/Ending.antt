-- What one run without picks shows of all runs.
use Rattle.std.proofs.Common.{◌≡◌, ◌<◌, ◌≤◌, ◌↔◌, ◌⊎◌, inl, inr, ℕ, Bool, List, [], ◌∷◌, ◌++◌, length, Option, Some, None, refl, sym, ap, ◌∙◌, subst, arith, Ordering}
use Rattle.std.proofs.lemmas.List.{length-map, append-nil}
use Rattle.std.proofs.lemmas.Bool.{cases_lt}
use Rattle.std.proofs.lemmas.Option.{none-some}
use Rattle.std.specs.Cmp.{IsTotalOrder}
use Rattle.lvish_calculus.specs.declared.label.Label.{Label}
use Rattle.lvish_calculus.specs.declared.request.ErrorKind.{ErrorKind}
use Rattle.lvish_calculus.specs.Machine.{Machine}
use Rattle.lvish_calculus.specs.Program.{Functions, machine_of}
use Rattle.lvish_calculus.specs.Calculus.{State, Configuration, Running, Error, IsEnabled, IsRun, IsEnd, start}
use Rattle.lvish_names.specs.Names.{Name}
use Rattle.lvish_calculus.specs.Laws.{Reaches, NoLateError, AsksNoFreeze}
use Rattle.lvish_calculus.specs.SameRuns.{HaveSameRuns}
use Rattle.lvish_calculus.proofs.SameThere.{Base, over, flip_runs, reached, never_there, end_there}
use Rattle.lvish_compound.specs.declared.any.Any.{Any}
use Rattle.lvish_compound.specs.declared.event.Event.{Event}
use Rattle.lvish_syntax.specs.declared.script.Script.{Script}
use Rattle.lvish_trace.specs.declared.trace_entry.TraceEntry.{TraceEntry}
use Rattle.lvish_trace.specs.declared.outcome.Outcome.{Outcome}
use Rattle.lvish_trace.specs.declared.outcome.Outcome.TheVariants.{Ended, Error as ErrorOutcome, Budget}
use Rattle.lvish_report.specs.declared.report.Report.{Report}
use Rattle.lvish_run.specs.Honest.{Comes, IsOutcome, IsHonest}
use Rattle.lvish_trace.specs.Traced.{labels_of}
use Rattle.lvish_run.specs.Picked.{IsPicked}
use Rattle.lvish_compound.specs.contracts.event.EventOrd.TheImpl.{ghosts as event_order}
use Rattle.lvish_run.specs.Scripts.{script_machine, IsPickedRun}
use Rattle.lvish_run.specs.Ends.{EndsAfter, IsEndWithoutPicks, AlwaysEnds, IsBoundIf}
use Rattle.lvish_alike.specs.OneEnd.{OneEndShowsAll}
use Rattle.lvish_run.proofs.Once.{goes_on}

module _ {S E R A L : Type 0} (M : Machine S E R A L) where
  -- no run goes on from an end
  ends_there : (a : State S E L) (rest : List (Label E)) (f : Configuration S E L) → IsEnd M a → IsRun M (Running a) rest f → (rest ≡ []) × (Running a ≡ f)
  ends_there a [] f end run = (refl, run)
  ends_there a (l ∷ rest) f end run = absurd (end l run.0)

  -- and none from an error
  errs_there : (kind : ErrorKind) (v : Option ℕ) (t : Name E) (rest : List (Label E)) (a : State S E L) → IsRun M (Error kind v t) rest (Running a) → ⊥
  errs_there kind v t [] a run = let n : ⊥ = cc in n
  errs_there kind v t (l ∷ rest) a run = run

module _ {S E R A L : Type 0} (cmp : E → E → Ordering) (o : IsTotalOrder cmp) (M : Machine S E R A L) (variables budget : ℕ) (r : Report S E)
    (honest : IsHonest M variables 1 budget r) (picked : IsPicked cmp M [] [] (Running (start M)) (labels_of r.trace)) where
  abbrev trace : List (Label E)
  trace = labels_of r.trace

  long : length trace ≡ r.steps
  long = length-map r.trace (λ (e : TraceEntry E). e.label) ∙ sym honest.steps

  -- a run that ends, and the report's, where that is no shorter
  before : (n : ℕ) (h : EndsAfter cmp M n) (f : Configuration S E L) → IsRun M (Running (start M)) trace f → length h.labels ≤ length trace → (length trace ≡ n) × (Running h.last ≡ f)
  before n h f run le =
      let z = goes_on cmp o M [] [] (Running (start M)) h.labels trace (Running h.last) f h.first picked h.reached run le in
      let e = ends_there M h.last z.0 f h.end z.2 in
      (ap length (z.1 ∙ ap (λ xs. h.labels ++ xs) e.0 ∙ append-nil h.labels) ∙ h.steps, e.1)

  -- and where it is no longer
  beyond : (n : ℕ) (h : EndsAfter cmp M n) (f : Configuration S E L) → IsRun M (Running (start M)) trace f → length trace ≤ length h.labels → (rest : List (Label E)) × (h.labels ≡ trace ++ rest) × IsRun M f rest (Running h.last)
  beyond n h f run le = goes_on cmp o M [] [] (Running (start M)) trace h.labels f (Running h.last) picked h.first run h.reached le

  -- where the report's run ends, no other has an end
  one_end : (n : ℕ) → EndsAfter cmp M n → (a : State S E L) → Reaches M trace a → IsEnd M a → r.steps ≡ n
  one_end n h a run end = sym long ∙ by (cases_lt (length trace) (length h.labels))
    where
      by : (length trace < length h.labels) ⊎ (length h.labels ≤ length trace) → length trace ≡ n
      by (inr le) = (before n h (Running a) run le).0
      by (inl lt) =
          let z = beyond n h (Running a) run (omega (arith, lt)) in
          let e = ends_there M a z.0 (Running h.last) end z.2 in
          sym (ap length (z.1 ∙ ap (λ xs. trace ++ xs) e.0 ∙ append-nil trace)) ∙ h.steps

  -- where it errs, there is no end
  no_end_at_error : (n : ℕ) → EndsAfter cmp M n → (kind : ErrorKind) (v : Option ℕ) (t : Name E) → IsRun M (Running (start M)) trace (Error kind v t) → ⊥
  no_end_at_error n h kind v t run = by (cases_lt (length trace) (length h.labels))
    where
      by : (length trace < length h.labels) ⊎ (length h.labels ≤ length trace) → ⊥
      by (inr le) = let e : Running h.last ≡ Error kind v t = (before n h (Error kind v t) run le).1 in let no : ⊥ = cc in no
      by (inl lt) = let z = beyond n h (Error kind v t) run (omega (arith, lt)) in errs_there M kind v t z.0 h.last z.2

  -- where it stops at the budget, there is no end within it
  no_end_at_budget : (n : ℕ) → EndsAfter cmp M n → n ≤ budget → (a : State S E L) → Reaches M trace a → r.steps ≡ budget → (l : Label E) → IsEnabled M a l → ⊥
  no_end_at_budget n h within a run used l enabled =
      let le : length h.labels ≤ length trace = omega (arith, long, used, within, h.steps) in
      let same : Running h.last ≡ Running a = (before n h (Running a) run le).1 in
      let at : h.last ≡ a = cc in
      h.end l (subst (λ c. IsEnabled M c l) (sym at) enabled)

  -- the run without picks ends after as many steps as the report has, and after no other number
  pub ended_exactly : r.outcome ≡ Ended → (n : ℕ) → (r.steps ≡ n) ↔ (EndsAfter cmp M n × (n ≤ budget))
  ended_exactly is n =
      let h : (h : Comes M variables r) × IsEnd M h.last = subst (λ q. IsOutcome M variables budget r q) is honest.outcome in (
        λ e. (record { labels = trace; last = h.0.last; first = picked; reached = h.0.reached; end = h.1; steps = long ∙ e }, subst (λ k. k ≤ budget) e honest.within),
        λ k. one_end n k.0 h.0.last h.0.reached h.1,
      )

  -- a report of no end
  other_by : (q : Outcome E) → IsOutcome M variables budget r q → (q ≡ Ended → ⊥) → (n : ℕ) → EndsAfter cmp M n → n ≤ budget → ⊥
  other_by Ended h unended n k within = unended refl
  other_by (ErrorOutcome kind v t) h unended n k within = no_end_at_error n k kind v t h.0
  other_by Budget h unended n k within = no_end_at_budget n k within h.0.last h.0.reached h.1 h.2.0 h.2.1

  pub never_ended : (r.outcome ≡ Ended → ⊥) → (n : ℕ) → EndsAfter cmp M n → n ≤ budget → ⊥
  never_ended unended = other_by r.outcome honest.outcome unended

-- ---- all runs

-- where one end shows all runs, the end of the run without picks bounds them
pub shown_by_one : {S E R A L : Type 0} (cmp : E → E → Ordering) (M : Machine S E R A L) → OneEndShowsAll M → (n : ℕ) → EndsAfter cmp M n → AlwaysEnds M n
shown_by_one cmp M all n h =
    let z = all h.labels h.last h.reached h.end in
    record { never_errs = z.0; longest = λ ys b run. subst (λ k. length ys ≤ k) h.steps (z.1 ys b run) }

-- where code asks for no freeze, an end of its script's statements bounds all their runs
module _ {S E R A L K : Type 0} (same : S → S → Bool) (event_same : E → E → Bool) (cmp : E → E → Ordering) (bottom : S) (join : S → S → Option S) (events : S → List E) (answer : R → S → Option A) (f : Functions S E R A L) (g : Functions S E R A K)
    (H : HaveSameRuns (machine_of same event_same cmp bottom join events answer f) (machine_of same event_same cmp bottom join events answer g))
    (law : NoLateError (machine_of same event_same cmp bottom join events answer f)) (none : AsksNoFreeze (machine_of same event_same cmp bottom join events answer f)) where
  abbrev base : Base S E R A
  base = record { same = same; event_same = event_same; cmp = cmp; bottom = bottom; join = join; events = events; answer = answer }

  abbrev M : Machine S E R A L
  M = over base f

  abbrev N : Machine S E R A K
  N = over base g

  abbrev back : HaveSameRuns N M
  back = flip_runs M N H

  pub bounds_all : (order : E → E → Ordering) (n : ℕ) → EndsAfter order (machine_of same event_same cmp bottom join events answer g) n → AlwaysEnds (machine_of same event_same cmp bottom join events answer g) n
  bounds_all order n h =
      let z = reached N M back h.labels h.last h.reached in
      let all = law none h.labels z.0 z.1 (end_there base g f back.pools h.last z.0 z.2 h.end) in
      record {
        never_errs = never_there M N H all.0;
        longest = λ ys b run. let y = reached N M back ys b run in subst (λ k. length ys ≤ k) h.steps (all.1 ys y.0 y.1);
      }

-- ---- what is answered about a script

module _ (script : Script) (budget : ℕ) (o : IsTotalOrder event_order.cmp) (r : Report Any Event) (run : IsPickedRun script [] budget r) where
  -- a script whose run doesn't end, or errs
  pub without_end : (r.outcome ≡ Ended → ⊥) → IsEndWithoutPicks script budget None
  without_end unended n = (λ e. absurd (none-some n e), λ k. absurd (never_ended event_order.cmp o (script_machine script) _ budget r run.honest run.picked unended n k.0 k.1))

  -- and one whose run ends
  pub with_end : r.outcome ≡ Ended → IsEndWithoutPicks script budget (Some r.steps)
  with_end ended n = (
    λ e. let same : r.steps ≡ n = cc in exactly.0 same,
    λ k. ap (λ (m : ℕ). Some m) (exactly.1 k),
  )
    where
      exactly : (r.steps ≡ n) ↔ (EndsAfter event_order.cmp (script_machine script) n × (n ≤ budget))
      exactly = ended_exactly event_order.cmp o (script_machine script) _ budget r run.honest run.picked ended n

module _ (shown : Type 0) (script : Script) (budget : ℕ) where
  -- a script of which nothing is shown
  pub not_shown : (shown → ⊥) → IsBoundIf shown script budget None
  not_shown never = record { exact = λ n. (λ e. absurd (none-some n e), λ k. absurd (never k.0)); always = λ n e. absurd (none-some n e) }

  -- and one of which one end shows all runs
  pub shown_of : shown → (end : Option ℕ) → IsEndWithoutPicks script budget end → ((n : ℕ) → EndsAfter event_order.cmp (script_machine script) n → AlwaysEnds (script_machine script) n) → IsBoundIf shown script budget end
  shown_of is end exactly all = record {
    exact = λ n. (λ e. let k = (exactly n).0 e in (is, k.0, k.1), λ k. (exactly n).1 (k.1, k.2));
    always = λ n e. all n ((exactly n).0 e).0;
  }
