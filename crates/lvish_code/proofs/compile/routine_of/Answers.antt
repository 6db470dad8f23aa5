use Rattle.std.proofs.Common.{List, [], ◌∷◌, ◌++◌, length, ap, ◌∙◌}
use Rattle.lvish_syntax.specs.Nested.{statements}
use Rattle.lvish_code.specs.Vocabulary.{Word, Instruction, Return}
use Rattle.lvish_code.specs.Compile.{list_code}
use Rattle.lvish_code.specs.InScope.{names_with}
use Rattle.lvish_code.proofs.compile.routine_of.Goals as goal

pub returns : goal.returns
returns c =
    let body = statements c.args.procedure.now.body in
    let locals = c.in_ok-locals.ensures in
    let code =
    c.new.ensures ∙ c.in_ok-append.ensures
    ∙ ap (λ (l : List Instruction). l ++ Return ∷ []) (c.in_ok-emit_block.ensures
    ∙ ap (λ (l : List Instruction). l ++ list_code (names_with c.args.tables.now c.in_ok-locals.locals) body) c.new-code.ensures.items
    ∙ ap (λ (ls : List Word). list_code (names_with c.args.tables.now ls) body) locals) in
    λ i. record { parameters = ap length c.as_slice.ensures i; locals = (c.len.ensures ∙ ap length locals) i; instructions = code i }
