use Rattle.std.proofs.Common.{inl, inr, subst, sym}
use Rattle.lvish_run.specs.contracts.scripts.ScriptRunMeaning.TheImpl.{ghosts}
use Rattle.lvish_cli.specs.Answers.{IsScriptAnswer}
use Rattle.lvish_cli.proofs.answering.answer_about.Goals as goal

pub returns-in-Ok-script_answer-clause-ok : goal.returns-in-Ok-script_answer-clause-ok
returns-in-Ok-script_answer-clause-ok g c =
    let answer = c.in-Ok-script_answer.answer in
    let of = IsScriptAnswer ghosts c.in-Ok.script c.args.order.now in
    let text = subst (λ v. of answer.status v.items) (sym c.about.ensures.text) c.in-Ok-script_answer.ensures.ok in
    inl (c.in-Ok.script, c.in-Ok.ensures, subst (λ s. of s c.about.result.text.items) (sym c.about.ensures.status) text)

pub returns-in-Err-script_answer-clause-err : goal.returns-in-Err-script_answer-clause-err
returns-in-Err-script_answer-clause-err g c = inr (c.in-Ok.script, c.in-Ok.ensures, c.in-Err-script_answer.ensures.err)
