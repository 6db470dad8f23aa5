use Rattle.std.proofs.Common.{◌∙◌, sym, subst}
use Rattle.std.specs.Int.{w64}
use Rattle.std.specs.Str.Parse.{ParsesSigned}
use Rattle.lvish_checks.proofs.Numbers.{parsed, no_plus, no_text}
use Rattle.lvish_checks.proofs.word.number_by_text.Goals as goal

pub returns-in-Ok : goal.returns-in-Ok
returns-in-Ok c = c.ok.ensures.value ∙ parsed c.args.word.now c.parse.result (no_plus c.args.word.now (sym c.starts_with.ensures.value ∙ c.if-starts_with.false)) (subst (λ t. ParsesSigned w64 10 t c.parse.result) c.in-Ok.ensures.cases.0 c.parse.ensures.value.0)

pub returns-in-Err : goal.returns-in-Err
returns-in-Err c = sym (no_text c.args.word.now c.in-Err.ensures.cases.0)
