use Rattle.std.proofs.lemmas.Result.{IfOk-weaker}
use Rattle.lvish_task.specs.Meaning.{script_functions}
use Rattle.lvish_task.specs.Run.{functions}
use Rattle.lvish_again.proofs.OfScript.{answer_there}
use Rattle.lvish_again.proofs.picks.picks_of.Goals as goal

pub returns-clause-picks : goal.returns-clause-picks
returns-clause-picks c =
    let same = c.same_runs.ensures c.args.script.now c.in_ok-code.code c.in_ok-code.ensures in
    let given = rw (c.as_slice.ensures.value, c.in_ok-entries.ensures) at c.picks_of_entries.ensures.picks in
    IfOk-weaker c.picks_of_entries.result _ _ (λ o z. answer_there _ _ _ _ _ _ _ (functions c.in_ok-code.code) (script_functions c.args.script.now) same (λ v. v.items) _ _ o z) given

pub returns-clause-no_zero : goal.returns-clause-no_zero
returns-clause-no_zero c = c.picks_of_entries.ensures.no_zero
