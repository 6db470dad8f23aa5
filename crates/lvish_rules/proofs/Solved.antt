-- That the answer by an honest report is what follows from the rules.
use Rattle.std.proofs.Common.{◌≡◌, ◌<◌, inl, inr, ℕ, Bool, true, false, List, length, Option, Some, None, refl, sym, ◌∙◌, subst, slice_get, option_map, Contains, ◌↔◌}
use Rattle.std.proofs.lemmas.Option.{slice_get-map, slice_get_within}
use Rattle.std.proofs.lemmas.List.{length-map}
use Rattle.lvish_calculus.specs.declared.request.ErrorKind.{ErrorKind}
use Rattle.lvish_calculus.specs.Machine.{Machine}
use Rattle.lvish_calculus.specs.Calculus.{State, IsEnd}
use Rattle.lvish_trace.specs.Traced.{labels_of}
use Rattle.lvish_trace.specs.declared.outcome.Outcome.{Outcome}
use Rattle.lvish_trace.specs.declared.outcome.Outcome.TheVariants.{Ended, Error, Budget}
use Rattle.lvish_report.specs.declared.report.FinalState.{FinalState}
use Rattle.lvish_report.specs.declared.report.Report.{Report}
use Rattle.lvish_run.specs.Honest.{AreFinalStates, Comes, IsHonest, IsOutcome}
use Rattle.lvish_rules.specs.Rules.{RuleSet, Holds, Errs}
use Rattle.lvish_rules.specs.Analysis.{EndsAreExact, RunsAreSound, ErrsAtTop}
use Rattle.lvish_rules.specs.Answer.{AnswerView, states_of, IsAnswerOf, TellsError, HasExactly, HasOnly}

-- where the state of a relation stands among the last states
state_there : {S : Type 0} (xs : List (FinalState S)) (k : ℕ) (s : S) → slice_get (states_of xs) k ≡ Some s → (x : FinalState S) × (slice_get xs k ≡ Some x) × (x.content ≡ s)
state_there {S} xs k s e = by (slice_get xs k) refl (sym (slice_get-map (λ x. x.content) xs k) ∙ e)
  where
    by : (o : Option (FinalState S)) → slice_get xs k ≡ o → option_map (λ x. x.content) o ≡ Some s → (x : FinalState S) × (slice_get xs k ≡ Some x) × (x.content ≡ s)
    by None z q = absurd (cc q)
    by (Some x) z q = (x, z, cc)

module _ {S E R A L : Type 0} (M : Machine S E R A L) (rules : RuleSet S E) (workers budget : ℕ) (r : Report S E) (honest : IsHonest M rules.relations workers budget r) where
  -- a state among the last ones is the content of that variable
  content_is : (c : State S E L) → AreFinalStates rules.relations c r.states → (k : ℕ) (s : S) → slice_get (states_of r.states) k ≡ Some s → c.content k ≡ s
  content_is c final k s e =
      let x = state_there r.states k s e in
      let within : k < rules.relations = subst (λ n. k < n) final.count (slice_get_within r.states k x.0 x.1) in
      let same : Some x.0 ≡ Some (record { content = c.content k; frozen = c.frozen k }) = sym x.1 ∙ final.each k within in
      let content : x.0.content ≡ c.content k = cc same in
      sym content ∙ x.2

  count_is : (c : State S E L) → AreFinalStates rules.relations c r.states → length (states_of r.states) ≡ rules.relations
  count_is c final = length-map r.states (λ x. x.content) ∙ final.count

  outcome_is : (o : Outcome E) → r.outcome ≡ o → IsOutcome M rules.relations budget r o
  outcome_is o e = subst (λ q. IsOutcome M rules.relations budget r q) e honest.outcome

  states_sound : Comes M rules.relations r → RunsAreSound M rules → HasOnly M.events rules (states_of r.states)
  states_sound h sound = record {
    count = count_is h.last h.states;
    each = λ k s e n below. sound (labels_of r.trace) h.last h.reached k n (subst (λ (z : S). Contains (M.events z) n) (sym (content_is h.last h.states k s e)) below);
  }

  states_exact : (h : Comes M rules.relations r) → IsEnd M h.last → EndsAreExact M rules → HasExactly M.events rules (states_of r.states)
  states_exact h end exact = record {
    count = count_is h.last h.states;
    each = λ k s e n. subst (λ (z : S). Contains (M.events z) n ↔ Holds M.events rules k n) (content_is h.last h.states k s e) (exact (labels_of r.trace) h.last h.reached end k n);
  }

  module _ (a : AnswerView S) (is : IsAnswerOf r a) where
    -- the run that the report tells came without an error to its states
    came : Comes M rules.relations r
    came = by a.is_whole refl
      where
        by : (b : Bool) → a.is_whole ≡ b → Comes M rules.relations r
        by true e = (outcome_is Ended (is.whole e)).0
        by false e = (outcome_is Budget (is.stopped e)).0

    -- an answer has only what follows
    pub answer_is_sound : RunsAreSound M rules → HasOnly M.events rules a.states
    answer_is_sound sound = subst (λ xs. HasOnly M.events rules xs) (sym is.states) (states_sound came sound)

    -- an answer that is whole has exactly what follows
    pub answer_is_exact : EndsAreExact M rules → a.is_whole ≡ true → HasExactly M.events rules a.states
    answer_is_exact exact w =
        let there = outcome_is Ended (is.whole w) in
        subst (λ xs. HasExactly M.events rules xs) (sym is.states) (states_exact there.0 there.1 exact)

    -- an answer that isn't whole has used up its steps
    pub answer_spends : a.is_whole ≡ false → a.steps ≡ budget
    answer_spends w = is.steps ∙ (outcome_is Budget (is.stopped w)).1

  -- an error that is told is one that the rules make
  pub error_is_due : ErrsAtTop M rules → (kind : ErrorKind) → TellsError r kind → Errs M.join M.bottom M.events rules kind
  error_is_due errs kind (v, t, told) =
      elim (errs (labels_of r.trace) kind v t (outcome_is (Error kind v t) told).0) [
        | inl e ↦ inl (e.0, e.1, e.3)
        | inr e ↦ inr e
      ]
