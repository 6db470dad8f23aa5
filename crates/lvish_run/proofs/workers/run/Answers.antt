use Rattle.std.proofs.Common.{◌∙◌, ap, length}
use Rattle.std.proofs.lemmas.Result.{IfOk-weaker}
use Rattle.lvish_task.specs.Meaning.{script_functions}
use Rattle.lvish_task.specs.Run.{functions}
use Rattle.lvish_run.proofs.OfScript.{said_there, models_there}
use Rattle.lvish_run.proofs.Reports.{is_told}
use Rattle.lvish_run.proofs.VariableKinds.{kinds_count}
use Rattle.lvish_run.proofs.workers.run.Goals as goal

pub returns-clause-honest : goal.returns-clause-honest
returns-clause-honest g c =
    let many = ap length c.in_ok-code.ensures.kinds ∙ kinds_count c.args.script.now.declarations in
    let e = c.run_program.ensures in
    let same = c.same_runs.ensures c.args.script.now c.in_ok-code.code c.in_ok-code.ensures in
    IfOk-weaker c.run_program.result _ _
    (λ r z.
    let said = said_there _ _ _ _ _ _ _ (functions c.in_ok-code.code) (script_functions c.args.script.now) same _ _ _ r (rw many at z.honest) z.handed (rw many at z.alike) in
    let models = models_there _ _ _ _ _ _ _ (functions c.in_ok-code.code) (script_functions c.args.script.now) same _ _ _ r (rw many at z.honest) (c.same_models.ensures.plays c.args.script.now c.in_ok-code.code c.in_ok-code.ensures) z.least z.closed in
    record { honest = said.0; handed = said.1; alike = said.2; least = models.0; closed = models.1 })
    (is_told _ _ _ _ c.run_program.result e.honest e.handed e.alike e.least e.closed)
