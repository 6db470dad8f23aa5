-- Reports of ends of one script tell the same, and what they are where it always ends.
use Rattle.std.proofs.Common.{◌≡◌, ◌<◌, ◌≤◌, ◌⊎◌, inl, inr, ℕ, Bool, List, [], ◌∷◌, ◌++◌, length, Some, refl, sym, ◌∙◌, ap, subst, arith}
use Rattle.std.proofs.lemmas.List.{length-append}
use Rattle.lvish_compound.specs.declared.any.Any.{Any}
use Rattle.lvish_compound.specs.declared.event.Event.{Event}
use Rattle.lvish_compound.specs.contracts.event.EventOrd.TheImpl.{ghosts as event_order}
use Rattle.lvish_names.specs.Names.{Name}
use Rattle.lvish_calculus.specs.declared.label.Label.{Label}
use Rattle.lvish_calculus.specs.Machine.{Machine}
use Rattle.lvish_calculus.specs.Calculus.{State, Configuration, Running, Error, IsEnabled, start, step}
use Rattle.lvish_calculus.specs.Laws.{Reaches, FreezesAllBy, NeverErrs}
use Rattle.lvish_calculus.specs.FreezeOrder.{freeze_order}
use Rattle.lvish_calculus.specs.Live.{HasLive}
use Rattle.lvish_calculus.proofs.ModelRuns.{none_left}
use Rattle.lvish_calculus.proofs.SameThere.{run_join}
use Rattle.lvish_syntax.specs.declared.script.Script.{Script}
use Rattle.lvish_report.specs.declared.report.Report.{Report}
use Rattle.lvish_report.specs.Text.{variables_of, variable_lines, count_lines, outcome_text}
use Rattle.lvish_trace.specs.declared.outcome.Outcome.{Outcome}
use Rattle.lvish_trace.specs.declared.outcome.Outcome.TheVariants.{Ended, Error as ErrorOutcome, Budget}
use Rattle.lvish_trace.specs.Traced.{labels_of}
use Rattle.lvish_run.specs.Alike.{EndsAlikeIf, IsAlike, EndsAlike}
use Rattle.lvish_run.specs.Ends.{EndsAfter, AlwaysEnds, IsBoundIf}
use Rattle.lvish_run.specs.Honest.{AreFinalStates, IsOutcome, IsHonest}
use Rattle.lvish_run.specs.Scripts.{script_machine}
use Rattle.lvish_run.specs.SameReports.{TellTheSame}
use Rattle.lvish_run.specs.OneScript.{IsReportOf, text_of, ReportsAgreeIf, IsEndAfter}
use Rattle.lvish_run.specs.Least.{IsLeast, IsClosedEnd, IsLeastModel, content_in, frozen_in}
use Rattle.lvish_run.proofs.SameReports.{long, end_of, told_the_same}

-- ---- of scripts

module _ (script : Script) where
  abbrev variables : ℕ
  variables = length (variables_of script.declarations)

  -- what every report of a script says
  pub workers_of : (budget : ℕ) (r : Report Any Event) → IsReportOf script budget r → (w : ℕ) × IsHonest (script_machine script) variables w budget r × IsAlike (script_machine script) variables r
  workers_of budget r (inl x) = (x.0, x.1.honest, x.1.alike)
  workers_of budget r (inr x) = (1, x.1.honest, x.1.alike)

  -- reports that tell the same have the same text
  pub same_text : (r q : Report Any Event) → r.outcome ≡ Ended → q.outcome ≡ Ended → TellTheSame r q → (all : Bool) → text_of script r all ≡ text_of script q all
  same_text r q ended as_well t all =
      ap (λ o. outcome_text (λ (e : Event). e.key) (λ (e : Event). e.number) (variables_of script.declarations) r all o) ended
      ∙ (λ i. variable_lines all (variables_of script.declarations) (t.states i) ++ count_lines (t.steps i) (t.blocked i))
      ∙ sym (ap (λ o. outcome_text (λ (e : Event). e.key) (λ (e : Event). e.number) (variables_of script.declarations) q all o) as_well)

  agree : (P : List (Label Event) → List (Label Event) → Type 0) → ((r : Report Any Event) → EndsAlike (script_machine script) variables r → EndsAlikeIf (script_machine script) variables r P)
      → (b c : ℕ) (r q : Report Any Event) → IsReportOf script b r → IsReportOf script c q → r.outcome ≡ Ended → q.outcome ≡ Ended
      → P (labels_of r.trace) (labels_of q.trace) → TellTheSame r q × ((all : Bool) → text_of script r all ≡ text_of script q all)
  agree P part b c r q x y ended as_well holds =
      let k = workers_of b r x in
      let l = workers_of c q y in
      let t = told_the_same (script_machine script) variables k.0 b l.0 c r q k.1 l.1 ended as_well P (part r (k.2 ended)) holds in
      (t, same_text r q ended as_well t)

pub agree_in_order : ReportsAgreeIf (λ s r q. r.freezes ≡ q.freezes)
agree_in_order s b c r q x y ended as_well same = agree s (λ xs ys. freeze_order (script_machine s) xs ≡ freeze_order (script_machine s) ys) (λ p a. a.same_order) b c r q x y ended as_well
    (sym (workers_of s b r x).1.freezes ∙ same ∙ (workers_of s c q y).1.freezes)

abbrev OneAsks : Script → List (Label Event) → List (Label Event) → Type 0
OneAsks s xs ys = (t : Name Event) × FreezesAllBy (script_machine s) t (Running (start (script_machine s))) xs × FreezesAllBy (script_machine s) t (Running (start (script_machine s))) ys

pub agree_one_asks : ReportsAgreeIf (λ s r q. OneAsks s (labels_of r.trace) (labels_of q.trace))
agree_one_asks s = agree s (OneAsks s) (λ r a. a.one_asks)

pub agree_no_error : ReportsAgreeIf (λ s r q. NeverErrs (script_machine s))
agree_no_error s = agree s (λ xs ys. NeverErrs (script_machine s)) (λ r a. a.no_error)

-- ---- the least model

least_of : (script : Script) (budget : ℕ) (r : Report Any Event) → IsReportOf script budget r → IsLeast (script_machine script) r × IsClosedEnd (script_machine script) r
least_of script budget r (inl x) = (x.1.least, x.1.closed)
least_of script budget r (inr x) = (x.1.least, x.1.closed)

pub ends_are_least : (script : Script) (budget : ℕ) (r : Report Any Event) → IsReportOf script budget r → r.outcome ≡ Ended → r.blocked ≡ 0
    → IsLeastModel (script_machine script) (content_in (script_machine script).bottom r.states) (frozen_in r.states)
ends_are_least script budget r is ended none =
    let k = workers_of script budget r is in
    let h = end_of (script_machine script) (variables script) k.0 budget r k.1 ended in
    let l = least_of script budget r is in
    let over : HasLive h.0.last 0 = subst (λ n. HasLive h.0.last n) none h.0.blocked in
    record { closed = l.1 ended h.0.last h.0.reached (none_left (script_machine script) h.0.last over); least = l.0.told }

-- ---- where a script always ends

module _ {S E R A L : Type 0} (M : Machine S E R A L) (n : ℕ) (always : AlwaysEnds M n) where
  -- a run goes on while it isn't over
  goes_on : (xs : List (Label E)) (a : State S E L) → Reaches M xs a → (l : Label E) → IsEnabled M a l → length xs < n
  goes_on xs a run l enabled = by (step M a l) refl
    where
      by : (e : Configuration S E L) → step M a l ≡ e → length xs < n
      by (Error kind v t) is = absurd (always.never_errs (xs ++ l ∷ []) kind v t (run_join M xs (l ∷ []) _ (Running a) _ run (enabled, is)))
      by (Running b) is =
          let longer : length (xs ++ l ∷ []) ≤ n = always.longest (xs ++ l ∷ []) b (run_join M xs (l ∷ []) _ (Running a) _ run (enabled, is)) in
          omega (arith, longer, length-append xs (l ∷ []))

module _ (shown : Type 0) (script : Script) (b n : ℕ) (bound : IsBoundIf shown script b (Some n)) (budget : ℕ) (r : Report Any Event) (is : IsReportOf script budget r) where
  abbrev many : ℕ
  many = length (variables_of script.declarations)

  always : AlwaysEnds (script_machine script) n
  always = bound.always n refl

  -- the run without picks ends after n steps
  ends : EndsAfter event_order.cmp (script_machine script) n
  ends = ((bound.exact n).0 refl).1

  abbrev about : (w : ℕ) × IsHonest (script_machine script) many w budget r × IsAlike (script_machine script) many r
  about = workers_of script budget r is

  -- a report of an end has its steps, states and blocked tasks
  at_end : r.outcome ≡ Ended → (h : EndsAfter event_order.cmp (script_machine script) n) → AreFinalStates many h.last r.states × HasLive h.last r.blocked × (n ≡ r.steps)
  at_end ended h = let z = (about.2 ended).no_error h.labels h.last h.reached h.end always.never_errs in (z.0, z.1, sym h.steps ∙ z.2)

  by_outcome : (o : Outcome Event) → r.outcome ≡ o → IsOutcome (script_machine script) many budget r o → (r.outcome ≡ Ended) ⊎ ((r.outcome ≡ Budget) × (r.steps ≡ budget) × (budget < n))
  by_outcome Ended e h = inl e
  by_outcome (ErrorOutcome kind v t) e h = absurd (always.never_errs (labels_of r.trace) kind v t h.0)
  by_outcome Budget e h =
      let less = goes_on (script_machine script) n always (labels_of r.trace) h.0.last h.0.reached h.2.0 h.2.1 in
      inr (e, h.1, omega (arith, less, long (script_machine script) many about.0 budget r about.1, h.1))

  pub enough : n ≤ budget → IsEndAfter script n r
  enough le = elim (by_outcome r.outcome refl about.1.outcome) [
    | inl ended ↦ record { ended = ended; steps = sym (at_end ended ends).2; states = λ h. (at_end ended h).0; blocked = λ h. (at_end ended h).1 }
    | inr z ↦ absurd (omega (arith, le, z.2))
  ]

  pub too_few : budget < n → (r.outcome ≡ Budget) × (r.steps ≡ budget)
  too_few less = elim (by_outcome r.outcome refl about.1.outcome) [
    | inl ended ↦ absurd (omega (arith, less, (at_end ended ends).2, about.1.within))
    | inr z ↦ (z.0, z.1)
  ]
