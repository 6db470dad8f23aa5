use Rattle.std.proofs.Common.{◌++◌, sym, ap, ◌∙◌}
use Rattle.std.specs.Prelude.{string_bytes}
use Rattle.lvish_syntax.specs.Nested.{statements}
use Rattle.lvish_checks.specs.declared.line.Line.TheVariants as line
use Rattle.lvish_script.specs.Spells.{statement_lines, body_lines}
use Rattle.lvish_script.specs.Canonical.{lines_text}
use Rattle.lvish_script.proofs.Layers.{block_of, parts_of_if, lines_if, lines_if_else, lines_while}
use Rattle.lvish_script.proofs.Blocks.{block_written, parts_written}
use Rattle.lvish_script.proofs.write.+write.Goals as goal

pub write_statement-returns-in_ok-push_str-in-If : goal.write_statement-returns-in_ok-push_str-in-If
write_statement-returns-in_ok-push_str-in-If t c =
    block_written _ _ _ _ (line.If c.get-in-If.result.now) (body_lines (statements c.in-If.block)) c.in_ok-opening-in-If.ensures c.in_ok-write_block-in-If.ensures c.in_ok-push_str-in-If.ensures.bytes
    ∙ ap (λ ls. string_bytes c.args.text.now ++ lines_text ls) (ap (λ t. block_of (line.If t) (body_lines (statements c.in-If.block))) c.get-in-If.ensures ∙ sym (lines_if c.in-If.test c.in-If.block) ∙ ap statement_lines (sym c.in-If.is))

pub write_statement-returns-in_ok-push_str-in-IfElse-2 : goal.write_statement-returns-in_ok-push_str-in-IfElse-2
write_statement-returns-in_ok-push_str-in-IfElse-2 t c =
    parts_written _ _ _ _ _ _ c.get-in-IfElse.result.now (body_lines (statements c.in-IfElse.first)) (body_lines (statements c.in-IfElse.second)) c.in_ok-opening-in-IfElse.ensures c.in_ok-write_block-in-IfElse.ensures c.in_ok-push_str-in-IfElse.ensures.bytes c.in_ok-write_block-in-IfElse-2.ensures c.in_ok-push_str-in-IfElse-2.ensures.bytes
    ∙ ap (λ ls. string_bytes c.args.text.now ++ lines_text ls) (ap (λ t. parts_of_if t (body_lines (statements c.in-IfElse.first)) (body_lines (statements c.in-IfElse.second))) c.get-in-IfElse.ensures ∙ sym (lines_if_else c.in-IfElse.test c.in-IfElse.first c.in-IfElse.second) ∙ ap statement_lines (sym c.in-IfElse.is))

pub write_statement-returns-in_ok-push_str-in-While : goal.write_statement-returns-in_ok-push_str-in-While
write_statement-returns-in_ok-push_str-in-While t c =
    block_written _ _ _ _ (line.While c.get-in-While.result.now) (body_lines (statements c.in-While.block)) c.in_ok-opening-in-While.ensures c.in_ok-write_block-in-While.ensures c.in_ok-push_str-in-While.ensures.bytes
    ∙ ap (λ ls. string_bytes c.args.text.now ++ lines_text ls) (ap (λ t. block_of (line.While t) (body_lines (statements c.in-While.block))) c.get-in-While.ensures ∙ sym (lines_while c.in-While.test c.in-While.block) ∙ ap statement_lines (sym c.in-While.is))
