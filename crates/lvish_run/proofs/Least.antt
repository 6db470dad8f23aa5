-- The contents of a report are the least.
use Rattle.std.proofs.Common.{◌≡◌, ◌<◌, ℕ, Bool, List, [], ◌∷◌, Option, Some, None, Ordering, option_map, unwrap_or, refl, sym, ◌∙◌, ap, subst}
use Rattle.std.specs.List.{slice_get}
use Rattle.std.proofs.lemmas.Option.{slice_get_within}
use Rattle.lvish_lattice.specs.Lattice.{IsAtOrBelow}
use Rattle.lvish_names.specs.Names.{Name}
use Rattle.lvish_calculus.specs.declared.label.Label.{Label}
use Rattle.lvish_calculus.specs.declared.request.Request.{Request}
use Rattle.lvish_calculus.specs.declared.request.Request.TheVariants.{Put, Get, Fork, Add, Freeze, Pause, End, Fault}
use Rattle.lvish_calculus.specs.Machine.{Machine, IsLawful}
use Rattle.lvish_calculus.specs.Program.{Functions, IsProgram, machine_of}
use Rattle.lvish_calculus.specs.Calculus.{State, Configuration, Running, Error, IsRun, IsEnd, start, step}
use Rattle.lvish_calculus.specs.LeastModel.{main_starts, after_put, after_get, after_fork, child_starts, after_add, handler_starts, after_freeze, after_pause, IsMet, PlaysAgainst, HasAllPuts, frozen_contents, EndsAreClosed, RunsAreLeast}
use Rattle.lvish_report.specs.declared.report.FinalState.{FinalState}
use Rattle.lvish_report.specs.declared.report.Report.{Report}
use Rattle.lvish_trace.specs.declared.outcome.Outcome.{Outcome}
use Rattle.lvish_trace.specs.declared.outcome.Outcome.TheVariants.{Ended, Error as ErrorOutcome, Budget}
use Rattle.lvish_trace.specs.Traced.{labels_of}
use Rattle.lvish_run.specs.Honest.{AreFinalStates, Comes, IsOutcome, IsHonest}
use Rattle.lvish_run.specs.Least.{content_in, frozen_content, frozen_in, IsLeast, IsClosedEnd}

-- ---- contents and lists of states

module _ {S E R A L : Type 0} (M : Machine S E R A L) (variables : ℕ) (c : State S E L) (states : List (FinalState S)) (are : AreFinalStates variables c states) where
  content_at : (v : ℕ) → v < variables → content_in M.bottom states v ≡ c.content v
  content_at v small = ap (λ o. unwrap_or (option_map (λ (s : FinalState S). s.content) o) M.bottom) (are.each v small)

  frozen_at : (v : ℕ) → v < variables → frozen_in states v ≡ frozen_contents M c v
  frozen_at v small = ap frozen_content (are.each v small)

  -- a variable that the list has is one of the variables
  listed_small : (v : ℕ) (s : FinalState S) → slice_get states v ≡ Some s → v < variables
  listed_small v s e = subst (λ n. v < n) are.count (slice_get_within states v s e)

-- ---- what plays against contents depends on the variables that there are

module _ {S E R A L : Type 0} (M : Machine S E R A L) (variables : ℕ)
    (gets : (l : L) (v : ℕ) (r : R) → M.request l ≡ Get v r → v < variables)
    (freezes : (l : L) (v : ℕ) (pools : List ℕ) → M.request l ≡ Freeze v pools → v < variables)
    (known : (p v : ℕ) → M.pool_variable p ≡ Some v → v < variables) (X Y : ℕ → S) (F G : ℕ → Option S)
    (same : (v : ℕ) → v < variables → X v ≡ Y v) (alike : (v : ℕ) → v < variables → F v ≡ G v) where
  pub plays_alike : {t : Name E} {l : L} {f a : ℕ} → PlaysAgainst M X F t l f a → PlaysAgainst M Y G t l f a
  plays_alike main_starts = main_starts
  plays_alike (after_put v d play q) = after_put v d (plays_alike play) q
  plays_alike (after_get {l = l} v r s x play q e y) = after_get v r s x (plays_alike play) q (e ∙ same v (gets l v r q)) y
  plays_alike (after_fork k play q) = after_fork k (plays_alike play) q
  plays_alike (child_starts k play q) = child_starts k (plays_alike play) q
  plays_alike (after_add pool procedure play q) = after_add pool procedure (plays_alike play) q
  plays_alike (handler_starts pool procedure v s e play q of is below) = handler_starts pool procedure v s e (plays_alike play) q of (is ∙ same v (known pool v of)) below
  plays_alike (after_freeze {l = l} v pools s play q e) = after_freeze v pools s (plays_alike play) q (sym (alike v (freezes l v pools q)) ∙ e)
  plays_alike (after_pause play q) = after_pause (plays_alike play) q

-- ---- one run leads to one configuration

run_once : {S E R A L : Type 0} (M : Machine S E R A L) (d : Configuration S E L) (ls : List (Label E)) (e f : Configuration S E L) → IsRun M d ls e → IsRun M d ls f → e ≡ f
run_once M d [] e f p q = sym p ∙ q
run_once M (Running c) (l ∷ ls) e f p q = run_once M (step M c l) ls e f p.1 q.1
run_once M (Error kind v t) (l ∷ ls) e f p q = absurd p

-- ---- a report

module _ {S E R A L : Type 0} (M : Machine S E R A L) (ok : IsLawful M) (variables : ℕ)
    (puts : (l : L) (v : ℕ) (d : S) → M.request l ≡ Put v d → v < variables)
    (gets : (l : L) (v : ℕ) (r : R) → M.request l ≡ Get v r → v < variables)
    (freezes : (l : L) (v : ℕ) (pools : List ℕ) → M.request l ≡ Freeze v pools → v < variables)
    (known : (p v : ℕ) → M.pool_variable p ≡ Some v → v < variables) (least : RunsAreLeast M) (closed : EndsAreClosed M) (budget : ℕ) (r : Report S E) where
  comes_least : Comes M variables r → (Y : ℕ → S) → HasAllPuts M Y (frozen_in r.states) → (v : ℕ) → IsAtOrBelow M.join (content_in M.bottom r.states v) (Y v)
  comes_least h Y all v = by (slice_get r.states v) refl
    where
      against : HasAllPuts M Y (frozen_contents M h.last)
      against t l f a w d play q = all t l f a w d
          (plays_alike M variables gets freezes known Y Y (frozen_contents M h.last) (frozen_in r.states) (λ u small. refl) (λ u small. sym (frozen_at M variables h.last r.states h.states u small)) play) q

      by : (o : Option (FinalState S)) → slice_get r.states v ≡ o → IsAtOrBelow M.join (unwrap_or (option_map (λ (s : FinalState S). s.content) o) M.bottom) (Y v)
      by None e = ok.join_bottom (Y v)
      by (Some s) e =
          let is : h.last.content v ≡ s.content = sym (content_at M variables h.last r.states h.states v (listed_small M variables h.last r.states h.states v s e)) ∙ ap (λ o. unwrap_or (option_map (λ (s : FinalState S). s.content) o) M.bottom) e in
          subst (λ x. IsAtOrBelow M.join x (Y v)) is (least (labels_of r.trace) h.last h.reached Y against v)

  nothing_least : r.states ≡ [] → (Y : ℕ → S) (v : ℕ) → IsAtOrBelow M.join (content_in M.bottom r.states v) (Y v)
  nothing_least none Y v = subst (λ ss. IsAtOrBelow M.join (content_in M.bottom ss v) (Y v)) (sym none) (ok.join_bottom (Y v))

  outcome_least : (o : Outcome E) → IsOutcome M variables budget r o → (Y : ℕ → S) → HasAllPuts M Y (frozen_in r.states) → (v : ℕ) → IsAtOrBelow M.join (content_in M.bottom r.states v) (Y v)
  outcome_least Ended h Y all v = comes_least h.0 Y all v
  outcome_least (ErrorOutcome kind u t) h Y all v = nothing_least h.1 Y v
  outcome_least Budget h Y all v = comes_least h.0 Y all v

  pub is_least : IsOutcome M variables budget r r.outcome → IsLeast M r
  is_least outcome = record { told = outcome_least r.outcome outcome; before = λ xs ys c cut run Y all v. least xs c run Y all v }

  met_at : (X Y : ℕ → S) → ((v : ℕ) → v < variables → X v ≡ Y v) → (t : Name E) (l : L) (q : Request S R L) → M.request l ≡ q → IsMet M X t q → IsMet M Y t q
  met_at X Y same t l (Put v d) e m = subst (λ x. IsAtOrBelow M.join d x) (same v (puts l v d e)) m
  met_at X Y same t l (Fork k) e m = m
  met_at X Y same t l (Add p n) e m = m
  met_at X Y same t l (Fault kind) e m = m
  met_at X Y same t l (Get v x) e m = tt
  met_at X Y same t l (Freeze v ks) e m = tt
  met_at X Y same t l Pause e m = tt
  met_at X Y same t l End e m = tt

  pub is_closed_end : IsOutcome M variables budget r r.outcome → IsClosedEnd M r
  is_closed_end outcome ended c run left t l f a play =
      let o : (h : Comes M variables r) × IsEnd M h.last = subst (λ x. IsOutcome M variables budget r x) ended outcome in
      let led : Running o.0.last ≡ Running c = run_once M (Running (start M)) (labels_of r.trace) (Running o.0.last) (Running c) o.0.reached run in
      let at : o.0.last ≡ c = cc in
      let are : AreFinalStates variables c r.states = subst (λ x. AreFinalStates variables x r.states) at o.0.states in
      let end : IsEnd M c = subst (λ x. IsEnd M x) at o.1 in
      let here = plays_alike M variables gets freezes known (content_in M.bottom r.states) c.content (frozen_in r.states) (frozen_contents M c) (content_at M variables c r.states are) (frozen_at M variables c r.states are) play in
      met_at c.content (content_in M.bottom r.states) (λ v small. sym (content_at M variables c r.states are v small)) t l (M.request l) refl (closed (labels_of r.trace) c run end left t l f a here)

-- what every honest report of a program says
pub report_least : {S E R A L : Type 0} (same : S → S → Bool) (event_same : E → E → Bool) (cmp : E → E → Ordering) (bottom : S) (join : S → S → Option S) (events : S → List E) (member : R → S → A → Type 0) (answer : R → S → Option A) (p : Functions S E R A L)
    → IsLawful (machine_of same event_same cmp bottom join events answer p) → IsProgram join member p → RunsAreLeast (machine_of same event_same cmp bottom join events answer p) → EndsAreClosed (machine_of same event_same cmp bottom join events answer p)
    → (workers budget : ℕ) (r : Report S E) → IsHonest (machine_of same event_same cmp bottom join events answer p) p.variables workers budget r
    → IsLeast (machine_of same event_same cmp bottom join events answer p) r × IsClosedEnd (machine_of same event_same cmp bottom join events answer p) r
report_least {S} {E} {R} {A} {L} same event_same cmp bottom join events member answer p ok program least closed workers budget r honest = (
  is_least M ok p.variables program.puts gets freezes program.known least closed budget r honest.outcome,
  is_closed_end M ok p.variables program.puts gets freezes program.known least closed budget r honest.outcome,
)
  where
    M : Machine S E R A L
    M = machine_of same event_same cmp bottom join events answer p

    gets : (l : L) (v : ℕ) (q : R) → p.request l ≡ Get v q → v < p.variables
    gets l v q e = (program.gets l v q e).0

    freezes : (l : L) (v : ℕ) (pools : List ℕ) → p.request l ≡ Freeze v pools → v < p.variables
    freezes l v pools e = (program.freezes l v pools e).0
