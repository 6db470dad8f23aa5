use Rattle.std.proofs.Common.{◌≡◌, OnOk, ◌++◌, sym, ap, ◌∙◌, subst, append_assoc}
use Rattle.std.specs.List.{flat_map}
use Rattle.lvish_syntax.specs.Nested.{statements}
use Rattle.lvish_graph.specs.Deeds.{statement_deeds}
use Rattle.lvish_graph.proofs.Layers.{deeds_if, deeds_if_else, deeds_while}
use Rattle.lvish_graph.proofs.deed.+push.Goals as goal

pub push_statement-returns-in-If : goal.push_statement-returns-in-If
push_statement-returns-in-If t c =
    let e : flat_map statement_deeds (statements c.in-If.block) ≡ statement_deeds c.args.statement.now = sym (ap statement_deeds c.in-If.is ∙ deeds_if _ c.in-If.block) in
    subst (λ l. OnOk c.push_block.result (c.push_block.new.deeds.items ≡ c.args.deeds.now.items ++ l)) e c.push_block.ensures

pub push_statement-returns-in_ok-push_block-in-IfElse : goal.push_statement-returns-in_ok-push_block-in-IfElse
push_statement-returns-in_ok-push_block-in-IfElse t c =
    let a = flat_map statement_deeds (statements c.in-IfElse.first) in
    let b = flat_map statement_deeds (statements c.in-IfElse.second) in
    let e : a ++ b ≡ statement_deeds c.args.statement.now = sym (ap statement_deeds c.in-IfElse.is ∙ deeds_if_else _ c.in-IfElse.first c.in-IfElse.second) in
    let f : c.push_block-in-IfElse.new.deeds.items ++ b ≡ c.args.deeds.now.items ++ statement_deeds c.args.statement.now =
    ap (λ ds. ds ++ b) c.in_ok-push_block-in-IfElse.ensures ∙ append_assoc c.args.deeds.now.items a b ∙ ap (λ ds. c.args.deeds.now.items ++ ds) e in
    subst (λ l. OnOk c.push_block-in-IfElse-2.result (c.push_block-in-IfElse-2.new.deeds.items ≡ l)) f c.push_block-in-IfElse-2.ensures

pub push_statement-returns-in-While : goal.push_statement-returns-in-While
push_statement-returns-in-While t c =
    let e : flat_map statement_deeds (statements c.in-While.block) ≡ statement_deeds c.args.statement.now = sym (ap statement_deeds c.in-While.is ∙ deeds_while _ c.in-While.block) in
    subst (λ l. OnOk c.push_block-in-While.result (c.push_block-in-While.new.deeds.items ≡ c.args.deeds.now.items ++ l)) e c.push_block-in-While.ensures
