use Rattle.std.proofs.Common.{◌++◌, ◌<◌, refl, sym, ap, subst, ◌∙◌}
use Rattle.std.proofs.lemmas.Result.{on_ok_weaker}
use Rattle.lvish_code.specs.Compile.{operand_of, statement_code, if_code, if_else_code, while_code, list_code}
use Rattle.lvish_code.specs.InScope.{names_in}
use Rattle.lvish_syntax.specs.Nested.{statements}
use Rattle.lvish_code.specs.laws.Trees.{code_if, code_if_else, code_while}
use Rattle.lvish_code.proofs.Patch.{before_end, patch_if, patch_if_else, patch_while}
use Rattle.lvish_code.proofs.compile.+emit.Goals as goal

pub emit_statement-end_if-requires : goal.emit_statement-end_if-requires
emit_statement-end_if-requires t c = before_end _ _ _ _ _ _ c.in_ok-test-in-If.ensures.place c.in_ok-test-in-If.ensures.room c.in_ok-emit_block-in-If.ensures

pub emit_statement-returns-in_ok-emit_block-in-If :
    goal.emit_statement-returns-in_ok-emit_block-in-If
emit_statement-returns-in_ok-emit_block-in-If t c =
    let names = names_in c.args.scope.now in
    let a = list_code names (statements c.in-If.block) in
    c.end_if.ensures
    ∙ patch_if c.operand.result _ _ _ _ _ _ _ c.in_ok-test-in-If.ensures.place c.in_ok-test-in-If.ensures.room c.in_ok-emit_block-in-If.ensures refl
    ∙ ap (λ o. c.args.code.now.items ++ if_code o a) (c.operand.ensures ∙ ap (operand_of names) c.get-in-If.ensures)
    ∙ ap (λ l. c.args.code.now.items ++ l) (sym (code_if names c.in-If.term c.in-If.block) ∙ ap (statement_code names) (sym c.in-If.is))

pub emit_statement-end_if_else-requires-clause-first : goal.emit_statement-end_if_else-requires-clause-first
emit_statement-end_if_else-requires-clause-first t c = subst (λ n. c.in_ok-test-in-IfElse.test < n) (sym c.in_ok-first_end-in-IfElse.ensures.place) (before_end _ _ _ _ _ _ c.in_ok-test-in-IfElse.ensures.place c.in_ok-test-in-IfElse.ensures.room c.in_ok-emit_block-in-IfElse.ensures)

pub emit_statement-end_if_else-requires-clause-second : goal.emit_statement-end_if_else-requires-clause-second
emit_statement-end_if_else-requires-clause-second t c = before_end _ _ _ _ _ _ c.in_ok-first_end-in-IfElse.ensures.place c.in_ok-first_end-in-IfElse.ensures.room c.in_ok-emit_block-in-IfElse-2.ensures

pub emit_statement-returns-in_ok-emit_block-in-IfElse-2 :
    goal.emit_statement-returns-in_ok-emit_block-in-IfElse-2
emit_statement-returns-in_ok-emit_block-in-IfElse-2 t c =
    let names = names_in c.args.scope.now in
    let a = list_code names (statements c.in-IfElse.first) in
    let b = list_code names (statements c.in-IfElse.second) in
    c.end_if_else.ensures
    ∙ patch_if_else c.operand-in-IfElse.result _ _ _ _ _ _ _ _ _ _ _ _ c.in_ok-test-in-IfElse.ensures.place c.in_ok-test-in-IfElse.ensures.room c.in_ok-emit_block-in-IfElse.ensures c.in_ok-first_end-in-IfElse.ensures.place c.in_ok-first_end-in-IfElse.ensures.room c.in_ok-emit_block-in-IfElse-2.ensures refl
    ∙ ap (λ o. c.args.code.now.items ++ if_else_code o a b) (c.operand-in-IfElse.ensures ∙ ap (operand_of names) c.get-in-IfElse.ensures)
    ∙ ap (λ l. c.args.code.now.items ++ l) (sym (code_if_else names c.in-IfElse.term c.in-IfElse.first c.in-IfElse.second) ∙ ap (statement_code names) (sym c.in-IfElse.is))

pub emit_statement-end_while-requires : goal.emit_statement-end_while-requires
emit_statement-end_while-requires t c = before_end _ _ _ _ _ _ c.in_ok-test-in-While.ensures.place c.in_ok-test-in-While.ensures.room c.in_ok-emit_block-in-While.ensures

pub emit_statement-returns-in_ok-emit_block-in-While :
    goal.emit_statement-returns-in_ok-emit_block-in-While
emit_statement-returns-in_ok-emit_block-in-While t c =
    let names = names_in c.args.scope.now in
    let a = list_code names (statements c.in-While.block) in
    on_ok_weaker c.end_while.result (λ e. e
    ∙ patch_while c.operand-in-While.result _ _ _ _ _ _ _ _ c.in_ok-test-in-While.ensures.place c.in_ok-test-in-While.ensures.room c.in_ok-emit_block-in-While.ensures refl refl
    ∙ ap (λ o. c.args.code.now.items ++ while_code o a) (c.operand-in-While.ensures ∙ ap (operand_of names) c.get-in-While.ensures)
    ∙ ap (λ l. c.args.code.now.items ++ l) (sym (code_while names c.in-While.term c.in-While.block) ∙ ap (statement_code names) (sym c.in-While.is)))
    c.end_while.ensures
