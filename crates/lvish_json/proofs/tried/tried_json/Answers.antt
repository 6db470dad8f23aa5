use Rattle.std.proofs.Common.{arith}
use Rattle.std.proofs.lemmas.Result.{IfOk-weaker}
use Rattle.lvish_report.specs.Text.{variables_of}
use Rattle.lvish_json.specs.Tried.{tried_value}
use Rattle.lvish_json.proofs.Adding.{told_line}
use Rattle.lvish_json.proofs.Depths.{tried_within}
use Rattle.lvish_json.proofs.tried.tried_json.Goals as goal

pub returns : goal.returns
returns c =
    let variables = variables_of c.args.script.now.declarations in
    let told = tried_value variables c.args.tried.now in
    IfOk-weaker c.into_line.result _ _ (λ bytes line. told_line told _ _ bytes.items c.new-text.ensures c.put_tried.ensures (omega (arith, tried_within variables c.args.tried.now)) line) c.into_line.ensures
