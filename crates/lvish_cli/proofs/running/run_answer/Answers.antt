-- Written out: where a wrong body makes it false, a search goes into what a run is, for minutes.
use Rattle.std.proofs.Common.{option_map, subst, sym}
use Rattle.lvish_cli.specs.Runs.{ArePicksKnown, IsReportText}
use Rattle.lvish_cli.proofs.running.run_answer.Goals as goal

pub returns-clause-ok : goal.returns-clause-ok
returns-clause-ok g c =
    let report = c.in_ok-report.report in
    let picks = option_map (λ p. p.now) c.slice_of.result in
    let known = subst (ArePicksKnown c.args.asked.now.picks c.args.script.now report) (sym c.slice_of.ensures) c.in_ok-picks.ensures in
    let text = subst (λ v. IsReportText c.args.asked.now.json c.args.script.now report c.args.asked.now.all c.args.asked.now.trace picks v.items) (sym c.report_output.ensures.text) c.in_ok-text.ensures in
    (report, c.in_ok-report.ensures.honest, c.report_output.ensures.status, (picks, known, text))
