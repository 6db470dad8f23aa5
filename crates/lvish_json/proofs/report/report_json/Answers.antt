use Rattle.std.proofs.Common.{arith, option_map}
use Rattle.std.proofs.lemmas.Result.{IfOk-weaker}
use Rattle.lvish_report.specs.Text.{variables_of}
use Rattle.lvish_json.specs.Report.{report_value}
use Rattle.lvish_json.proofs.Adding.{told_line}
use Rattle.lvish_json.proofs.Depths.{report_within}
use Rattle.lvish_json.proofs.report.report_json.Goals as goal

pub returns : goal.returns
returns g c =
    let variables = variables_of c.args.script.now.declarations in
    let picks = option_map (λ p. p.now) c.args.picks in
    let told = report_value variables g.E.Numbered.key_of g.E.Numbered.number_of c.args.report.now picks in
    IfOk-weaker c.into_line.result _ _ (λ bytes line. told_line told _ _ bytes.items c.new-text.ensures c.put_report.ensures (omega (arith, report_within variables g.E.Numbered.key_of g.E.Numbered.number_of c.args.report.now picks)) line) c.into_line.ensures
