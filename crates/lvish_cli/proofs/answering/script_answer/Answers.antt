-- Written out: where a wrong body makes it false, a search goes into what a run is, for minutes.
use Rattle.std.proofs.Common.{subst, sym}
use Rattle.std.proofs.lemmas.Result.{IfOk-weaker}
use Rattle.lvish_run.specs.contracts.scripts.ScriptRunMeaning.TheImpl.{ghosts}
use Rattle.lvish_cli.specs.Answers.{IsScriptAnswer}
use Rattle.lvish_cli.proofs.answering.script_answer.Goals as goal

pub returns-in-Run-clause-ok : goal.returns-in-Run-clause-ok
returns-in-Run-clause-ok g c = IfOk-weaker c.run_answer.result _ _ (λ answer h. subst (λ q. IsScriptAnswer ghosts c.args.script.now q answer.status answer.text.items) (sym c.in-Run.is) h) c.run_answer.ensures.ok
