use Rattle.std.proofs.Common.{◌≡◌, OnOk, ◌++◌, sym, ap, ◌∙◌, subst}
use Rattle.std.specs.List.{fold, flat_map}
use Rattle.std.proofs.lemmas.List.Sums.{fold-append}
use Rattle.lvish_syntax.specs.Nested.{statements}
use Rattle.lvish_code.specs.Numbering.{with_name}
use Rattle.lvish_code.specs.Compile.{binds_of}
use Rattle.lvish_code.specs.laws.Trees.{binds_if, binds_if_else, binds_while}
use Rattle.lvish_code.proofs.locals.+binds.Goals as goal

pub add_in_statement-returns-in-If : goal.add_in_statement-returns-in-If
add_in_statement-returns-in-If t c =
    let e : flat_map binds_of (statements c.in-If.block) ≡ binds_of c.args.statement.now = sym (ap binds_of c.in-If.is ∙ binds_if _ c.in-If.block) in
    subst (λ l. OnOk c.add_in_block.result (c.add_in_block.new.locals ≡ fold with_name c.args.locals.now l)) e c.add_in_block.ensures

pub add_in_statement-returns-in_ok-add_in_block-in-IfElse :
    goal.add_in_statement-returns-in_ok-add_in_block-in-IfElse
add_in_statement-returns-in_ok-add_in_block-in-IfElse t c =
    let a = flat_map binds_of (statements c.in-IfElse.first) in
    let b = flat_map binds_of (statements c.in-IfElse.second) in
    let e : a ++ b ≡ binds_of c.args.statement.now = sym (ap binds_of c.in-IfElse.is ∙ binds_if_else _ c.in-IfElse.first c.in-IfElse.second) in
    let f : fold with_name c.add_in_block-in-IfElse.new.locals b ≡ fold with_name c.args.locals.now (binds_of c.args.statement.now) =
    ap (λ ls. fold with_name ls b) c.in_ok-add_in_block-in-IfElse.ensures ∙ sym (fold-append with_name c.args.locals.now a b) ∙ ap (fold with_name c.args.locals.now) e in
    subst (λ l. OnOk c.add_in_block-in-IfElse-2.result (c.add_in_block-in-IfElse-2.new.locals ≡ l)) f c.add_in_block-in-IfElse-2.ensures

pub add_in_statement-returns-in-While : goal.add_in_statement-returns-in-While
add_in_statement-returns-in-While t c =
    let e : flat_map binds_of (statements c.in-While.block) ≡ binds_of c.args.statement.now = sym (ap binds_of c.in-While.is ∙ binds_while _ c.in-While.block) in
    subst (λ l. OnOk c.add_in_block-in-While.result (c.add_in_block-in-While.new.locals ≡ fold with_name c.args.locals.now l)) e c.add_in_block-in-While.ensures
