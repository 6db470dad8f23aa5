use Rattle.std.proofs.Common.{arith}
use Rattle.std.proofs.lemmas.Result.{IfOk-weaker}
use Rattle.lvish_json.specs.Answers.{refusal_value}
use Rattle.lvish_json.proofs.Adding.{told_line}
use Rattle.lvish_json.proofs.Depths.{refusal_within}
use Rattle.lvish_json.proofs.answers.refusal_json.Goals as goal

pub returns : goal.returns
returns c =
    let told = refusal_value c.args.fault in
    IfOk-weaker c.into_line.result _ _ (λ bytes line. told_line told _ _ bytes.items c.new-text.ensures c.put_refusal.ensures (omega (arith, refusal_within c.args.fault)) line) c.into_line.ensures
