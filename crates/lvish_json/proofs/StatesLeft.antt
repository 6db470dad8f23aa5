-- The states of variables, one declaration at a time.
use Rattle.std.proofs.Common.{◌≡◌, ℕ, ◌+◌, ◌<◌, ◌≤◌, List, [], ◌∷◌, ◌++◌, Option, length, drop, get_or, sym, ap, ap₂, subst, ◌∙◌, refl}
use Rattle.std.proofs.lemmas.List.{drop_more, drop_all}
use Rattle.json.specs.Token.{Token}
use Rattle.json.specs.Tree.{json_tokens}
use Rattle.lvish_compound.specs.declared.any.Any.{Any}
use Rattle.lvish_syntax.specs.Words.{Word}
use Rattle.lvish_syntax.specs.declared.declaration.Declaration.{Declaration}
use Rattle.lvish_syntax.specs.declared.kind.VariableKind.{VariableKind}
use Rattle.lvish_report.specs.declared.report.FinalState.{FinalState}
use Rattle.lvish_report.specs.Text.{declared_variable, variables_of}
use Rattle.lvish_json.specs.Report.{state_value, state_values}
use Rattle.lvish_json.specs.Adds.{Adds}
use Rattle.lvish_json.proofs.Adding.{Leads, leads_more, closing}

-- without a state nothing is told
no_states : (vs : List (Word × VariableKind)) → state_values vs [] ≡ []
no_states [] = refl
no_states (v ∷ vs) = refl

-- what is left to tell, from a declaration and a state on
abbrev pub left_states : List Declaration → ℕ → List (FinalState Any) → ℕ → List Token
left_states ds i ss place = closing (state_values (variables_of (drop i ds)) (drop place ss))

module _ (ds : List Declaration) (i : ℕ) (d : Declaration) (within : i < length ds) (is : d ≡ get_or ds i d) where
  -- what is left of the variables, from a declaration on
  variables_from : (vs : List (Word × VariableKind)) → declared_variable d ≡ vs → variables_of (drop i ds) ≡ vs ++ variables_of (drop (i + 1) ds)
  variables_from vs own = ap variables_of (drop_more ds i d within ∙ ap (λ e. e ∷ drop (i + 1) ds) (sym is)) ∙ ap (λ us. us ++ variables_of (drop (i + 1) ds)) own

  module _ (ss : List (FinalState Any)) (place : ℕ) where
    -- a pool has no state
    pub no_variable : declared_variable d ≡ [] → left_states ds i ss place ≡ left_states ds (i + 1) ss place
    no_variable own = ap (λ vs. closing (state_values vs (drop place ss))) (variables_from [] own)

    -- a variable's state is told, and is the first of those that are left
    pub state_written : (v : Word × VariableKind) → declared_variable d ≡ v ∷ [] → (s : FinalState Any) → place < length ss → s ≡ get_or ss place s → (old y z : Option (List Token)) (whole : List Token) → Adds y z (json_tokens (state_value v s))
        → Leads old y (left_states ds i ss place) whole → Leads old z (left_states ds (i + 1) ss (place + 1)) whole
    state_written v own s there state old y z whole adds leads =
        let here : drop place ss ≡ s ∷ drop (place + 1) ss = drop_more ss place s there ∙ ap (λ t. t ∷ drop (place + 1) ss) (sym state) in
        leads_more old y z (json_tokens (state_value v s)) (left_states ds (i + 1) ss (place + 1)) whole
        (subst (λ js. Leads old y (closing js) whole) (ap₂ state_values (variables_from (v ∷ []) own) here) leads) adds

    -- where no state is left, none is told
    pub no_state : length ss ≤ place → left_states ds i ss place ≡ left_states ds (i + 1) ss place
    no_state past =
        let none : drop place ss ≡ [] = drop_all place ss past in
        ap closing (ap (state_values (variables_of (drop i ds))) none ∙ no_states _ ∙ sym (ap (state_values (variables_of (drop (i + 1) ds))) none ∙ no_states _))
