use Rattle.std.proofs.Common.{◌∙◌, ap, length}
use Rattle.std.proofs.lemmas.Result.{IfOk-weaker}
use Rattle.lvish_task.specs.Meaning.{script_functions}
use Rattle.lvish_task.specs.Run.{functions}
use Rattle.lvish_run.proofs.OfScript.{said_there, picks_there, models_there}
use Rattle.lvish_run.proofs.Reports.{both_ok, is_told}
use Rattle.lvish_run.proofs.VariableKinds.{kinds_count}
use Rattle.lvish_run.proofs.scripts.run_picks.Goals as goal

pub returns : goal.returns
returns c =
    let many = ap length c.in_ok-code.ensures.kinds ∙ kinds_count c.args.script.now.declarations in
    let same = c.same_runs.ensures c.args.script.now c.in_ok-code.code c.in_ok-code.ensures in
    let h = c.run_program_picks.ensures in
    IfOk-weaker c.run_program_picks.result _ _
    (λ r z.
    let said = said_there _ _ _ _ _ _ _ (functions c.in_ok-code.code) (script_functions c.args.script.now) same _ _ _ r (rw many at z.0.honest) z.0.handed (rw many at z.0.alike) in
    let picks = picks_there _ _ _ _ _ _ _ (functions c.in_ok-code.code) (script_functions c.args.script.now) same _ _ _ r (rw many at z.0.honest) _ _ z.1 in
    let models = models_there _ _ _ _ _ _ _ (functions c.in_ok-code.code) (script_functions c.args.script.now) same _ _ _ r (rw many at z.0.honest) (c.same_models.ensures.plays c.args.script.now c.in_ok-code.code c.in_ok-code.ensures) z.0.least z.0.closed in
    record { honest = said.0; picked = picks; handed = said.1; alike = said.2; least = models.0; closed = models.1 })
    (both_ok _ _ c.run_program_picks.result (is_told _ _ _ _ c.run_program_picks.result h.honest h.handed h.alike h.least h.closed) h.picked)
