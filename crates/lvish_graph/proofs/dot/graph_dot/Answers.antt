use Rattle.std.proofs.Common.{◌++◌, ◌∙◌, ap, refl}
use Rattle.std.specs.Prelude.{string_bytes}
use Rattle.std.specs.List.{flat_map}
use Rattle.lvish_graph.specs.Dot.{declaration_lines, procedure_line, procedure_edges}
use Rattle.lvish_graph.proofs.Loops.{joined_more, joined_all, five}
use Rattle.lvish_graph.proofs.dot.graph_dot.Goals as goal

pub loop-declaration-preserved : goal.loop-declaration-preserved
loop-declaration-preserved c =
    joined_more declaration_lines c.declarations-declaration-items.result.now c.loop-declaration.declaration-index c.declaration-item.result c.loop-declaration-test.true c.declaration-item.is
    _ _ _ _ c.loop-declaration.invariant c.in_ok-push_declaration.ensures refl

pub loop-procedure-preserved : goal.loop-procedure-preserved
loop-procedure-preserved c =
    joined_more procedure_line c.procedures-procedure-items.result.now c.loop-procedure.procedure-index c.procedure-item.result c.loop-procedure-test.true c.procedure-item.is
    _ _ _ _ c.loop-procedure.invariant c.in_ok-push_procedure.ensures refl

pub loop-procedure-2-preserved : goal.loop-procedure-2-preserved
loop-procedure-2-preserved c =
    joined_more (procedure_edges c.args.script.now) c.procedures-procedure-items-2.result.now c.loop-procedure-2.procedure-index c.procedure-item-in-loop-procedure-2.result c.loop-procedure-2-test.true c.procedure-item-in-loop-procedure-2.is
    _ _ _ _ c.loop-procedure-2.invariant c.in_ok-push_procedure_edges.ensures refl

pub returns : goal.returns
returns c =
    five _ _ _ _ _ _ _ _ _ _ _ c.new-text.ensures.bytes c.in_ok-push_str.ensures.bytes
    (joined_all declaration_lines _ _ _ _ c.loop-declaration-test.false c.loop-declaration.invariant ∙ ap (λ ds. string_bytes c.push_str.new.self ++ flat_map declaration_lines ds) c.declarations-declaration-items.ensures.value)
    (joined_all procedure_line _ _ _ _ c.loop-procedure-test.false c.loop-procedure.invariant ∙ ap (λ ps. string_bytes c.loop-declaration.text ++ flat_map procedure_line ps) c.procedures-procedure-items.ensures.value)
    (joined_all (procedure_edges c.args.script.now) _ _ _ _ c.loop-procedure-2-test.false c.loop-procedure-2.invariant ∙ ap (λ ps. string_bytes c.loop-procedure.text ++ flat_map (procedure_edges c.args.script.now) ps) c.procedures-procedure-items-2.ensures.value)
    c.in_ok-push_str-2.ensures.bytes
