-- The lines of variables, one declaration at a time.
use Rattle.std.proofs.Common.{◌≡◌, ℕ, ◌+◌, ◌<◌, Bool, List, [], ◌∷◌, ◌++◌, length, drop, get_or, sym, ap, ap₂, ◌∙◌, arith, append_assoc}
use Rattle.std.proofs.lemmas.List.{drop_more}
use Rattle.lvish_compound.specs.declared.any.Any.{Any}
use Rattle.lvish_syntax.specs.Words.{Word}
use Rattle.lvish_syntax.specs.declared.declaration.Declaration.{Declaration}
use Rattle.lvish_syntax.specs.declared.kind.VariableKind.{VariableKind}
use Rattle.lvish_report.specs.declared.report.FinalState.{FinalState}
use Rattle.lvish_report.specs.Text.{declared_variable, variables_of, shown_line, variable_lines}

module _ (ds : List Declaration) (i : ℕ) (d : Declaration) (lt : i < length ds) (is : d ≡ get_or ds i d) where
  -- what is left of the variables, from a declaration on
  pub left_from : (vs : List (Word × VariableKind)) → declared_variable d ≡ vs → variables_of (drop i ds) ≡ vs ++ variables_of (drop (i + 1) ds)
  left_from vs own = ap variables_of (drop_more ds i d lt ∙ ap (λ e. e ∷ drop (i + 1) ds) (sym is)) ∙ ap (λ us. us ++ variables_of (drop (i + 1) ds)) own

  -- where the declaration is a variable's, there is a state for it, and its line is the first of those that are left
  module _ (v : Word × VariableKind) (own : declared_variable d ≡ v ∷ []) (ss : List (FinalState Any)) (place : ℕ) (long : length ss ≡ place + length (variables_of (drop i ds))) where
    pub state_there : place < length ss
    state_there = omega (arith, long, ap length (left_from (v ∷ []) own))

    pub line_first : (all : Bool) (s : FinalState Any) (old line new whole : List ℕ) → line ≡ shown_line all v (get_or ss place s) → new ≡ old ++ line
        → old ++ variable_lines all (variables_of (drop i ds)) (drop place ss) ≡ whole → new ++ variable_lines all (variables_of (drop (i + 1) ds)) (drop (place + 1) ss) ≡ whole
    line_first all s old line new whole said grown before =
        let rest = variable_lines all (variables_of (drop (i + 1) ds)) (drop (place + 1) ss) in
        ap (λ t. t ++ rest) (grown ∙ ap (λ t. old ++ t) said) ∙ append_assoc old (shown_line all v (get_or ss place s)) rest
        ∙ ap (λ t. old ++ t) (sym (ap₂ (variable_lines all) (left_from (v ∷ []) own) (drop_more ss place s state_there))) ∙ before
