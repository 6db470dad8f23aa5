-- What an analysis computed, and that it is what follows from the rules.
use Rattle.std.specs.Prelude.{◌≡◌, ◌↔◌, ℕ, Bool, true, false, List, Option, Some, Contains, length, map, slice_get}
use Rattle.lvish_names.specs.Names.{Name}
use Rattle.lvish_calculus.specs.declared.request.ErrorKind.{ErrorKind}
use Rattle.lvish_trace.specs.declared.outcome.Outcome.TheVariants.{Ended, Error, Budget}
use Rattle.lvish_report.specs.declared.report.FinalState.{FinalState}
use Rattle.lvish_report.specs.declared.report.Report.{Report}
use Rattle.lvish_rules.specs.Rules.{RuleSet, Holds}

-- what contracts see of an answer: the state of each relation, whether that is all that follows, and how many steps it took
pub record AnswerView (S : Type 0) : Type 0 where
  pub states : List S
  pub is_whole : Bool
  pub steps : ℕ

-- the states of relations, by the last states of a run
abbrev pub states_of : {S : Type 0} → List (FinalState S) → List S
states_of xs = map (λ x. x.content) xs

-- the answer is what the report tells, and it is whole where the run has ended
pub record IsAnswerOf {S E : Type 0} (r : Report S E) (a : AnswerView S) : Type 0 where
  pub states : a.states ≡ states_of r.states
  pub steps : a.steps ≡ r.steps
  pub whole : a.is_whole ≡ true → r.outcome ≡ Ended
  pub stopped : a.is_whole ≡ false → r.outcome ≡ Budget

-- the run that the report tells is in error
abbrev pub TellsError : {S E : Type 0} → Report S E → ErrorKind → Type 0
TellsError {E = E} r kind = (v : Option ℕ) × (t : Name E) × (r.outcome ≡ Error kind v t)

module _ {S E : Type 0} (events : S → List E) (rules : RuleSet S E) (states : List S) where
  -- there is a state of each relation, and its events are those that follow from the rules
  pub record HasExactly : Type 0 where
    pub count : length states ≡ rules.relations
    pub each : (relation : ℕ) (s : S) → slice_get states relation ≡ Some s → (e : E) → Contains (events s) e ↔ Holds events rules relation e

  -- there is a state of each relation, and it has no event but those that follow from the rules
  pub record HasOnly : Type 0 where
    pub count : length states ≡ rules.relations
    pub each : (relation : ℕ) (s : S) → slice_get states relation ≡ Some s → (e : E) → Contains (events s) e → Holds events rules relation e
