use Rattle.std.proofs.Common.{arith}
use Rattle.std.proofs.lemmas.Result.{IfOk-weaker}
use Rattle.lvish_json.specs.Answers.{check_value}
use Rattle.lvish_json.proofs.Adding.{told_line}
use Rattle.lvish_json.proofs.Depths.{check_within}
use Rattle.lvish_json.proofs.answers.check_json.Goals as goal

pub returns : goal.returns
returns c =
    let told = check_value c.args.ends c.args.alike in
    IfOk-weaker c.into_line.result _ _ (λ bytes line. told_line told _ _ bytes.items c.new-text.ensures c.put_check.ensures (omega (arith, check_within c.args.ends c.args.alike)) line) c.into_line.ensures
