use Rattle.std.proofs.Common.{◌≡◌, [], ◌++◌, sym, ap, ◌∙◌, arith}
use Rattle.std.specs.List.{fold, flat_map}
use Rattle.std.proofs.lemmas.List.Sums.{fold-append}
use Rattle.std.proofs.lemmas.Grind.{common_steps}
use Rattle.lvish_syntax.specs.Nested.{statements}
use Rattle.lvish_code.specs.Numbering.{with_name, each_once}
use Rattle.lvish_code.specs.Compile.{binds_of}
use Rattle.lvish_code.specs.laws.Trees.{binds_all}
use Rattle.lvish_code.proofs.locals.locals_of.Goals as goal

pub returns : goal.returns
returns c =
    let p = c.args.procedure.now in
    let bs = flat_map binds_of (statements p.body) in
    let start : c.loop-parameter.locals ≡ each_once p.parameters = grind (arith, common_steps) in
    c.in_ok-add_in_block.ensures ∙ ap (λ ls. fold with_name ls bs) start ∙ sym (fold-append with_name [] p.parameters bs)
    ∙ ap (λ l. each_once (p.parameters ++ l)) (sym (binds_all (statements p.body)))
