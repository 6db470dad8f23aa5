-- Written out: where a wrong body makes it false, a search goes into what a run is, for minutes.
use Rattle.std.proofs.Common.{None, true, subst, sym}
use Rattle.lvish_run.specs.Scripts.{IsPickedRun}
use Rattle.lvish_cli.specs.Runs.{IsReportText}
use Rattle.lvish_cli.proofs.running.pick_answer.Goals as goal

pub returns : goal.returns
returns c =
    let report = c.in_ok-report.report in
    let run = subst (λ picks. IsPickedRun c.args.script.now picks c.args.asked.now.budget report) c.as_slice.ensures c.in_ok-report.ensures in
    let text = subst (λ v. IsReportText c.args.asked.now.json c.args.script.now report c.args.asked.now.all true None v.items) (sym c.report_output.ensures.text) c.in_ok-text.ensures in
    (report, run, c.report_output.ensures.status, text)
