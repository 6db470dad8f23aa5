-- What is said of a core's last configuration.
use Rattle.std.proofs.Common.{◌≡◌, ◌⊎◌, inl, inr, ℕ, List, length, Some, ap, ◌∙◌, sym, subst, slice_get}
use Rattle.std.specs.Option.{option_map}
use Rattle.std.proofs.lemmas.List.{length-map}
use Rattle.std.proofs.lemmas.Option.{slice_get-map}
use Rattle.lvish_calculus.specs.Machine.{Machine}
use Rattle.lvish_calculus.specs.Live.{HasLive}
use Rattle.lvish_variable.specs.Variable.{VariableView as Variable}
use Rattle.lvish_core.specs.Core.{CoreView, state}
use Rattle.lvish_core.specs.Reads.{AreStates}
use Rattle.lvish_trace.specs.declared.outcome.Outcome.{Outcome}
use Rattle.lvish_trace.specs.declared.outcome.Outcome.TheVariants.{Ended, Budget}
use Rattle.lvish_report.specs.declared.report.FinalState.{FinalState}
use Rattle.lvish_run.specs.Honest.{AreFinalStates}
use Rattle.lvish_run.specs.Walk.{IsAccount, AreStatesOf, final_state}

module _ {P S E R A L : Type 0} (M : Machine S E R A L) (variables : ℕ) (c : CoreView P S E L) where
  final_states : (xs : List (Variable S E)) (states : List (FinalState S)) → AreStates M variables c xs → AreStatesOf xs states → AreFinalStates variables (state M c) states
  final_states xs states k of = record {
    count = ap length of ∙ length-map xs final_state ∙ k.count;
    each = λ v within. let x = k.each v within in
        ap (λ ss. slice_get ss v) of ∙ slice_get-map final_state xs v ∙ ap (option_map final_state) x.1 ∙ (λ i. Some (record { content = x.2 i; frozen = x.3 i }));
  }

  -- a core's states and running tasks are the account of steps that gave no error
  pub account : (xs : List (Variable S E)) (states : List (FinalState S)) (blocked : ℕ) (o : Outcome E) → (o ≡ Ended) ⊎ (o ≡ Budget)
      → AreStates M variables c xs → AreStatesOf xs states → HasLive (state M c) blocked → IsAccount M variables c o states blocked
  account xs states blocked o (inl ended) k of live = subst (λ q. IsAccount M variables c q states blocked) (sym ended) (final_states xs states k of, live)
  account xs states blocked o (inr budget) k of live = subst (λ q. IsAccount M variables c q states blocked) (sym budget) (final_states xs states k of, live)
