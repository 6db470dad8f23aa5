use Rattle.std.proofs.Common.{◌≡◌, ◌↔◌, sym, subst, true}
use Rattle.std.proofs.lemmas.Result.{IfOk-weaker}
use Rattle.lvish_alike.specs.Reaching.{HasOneOrder}
use Rattle.lvish_alike.proofs.Lines.{same_outline}
use Rattle.lvish_alike.proofs.alike.ends_alike.Goals as goal

pub returns : goal.returns
returns c =
    let script = c.args.script.now in
    let is = c.in_ok-code.ensures in
    IfOk-weaker c.has_one_order.result _ _
    (λ alike z.
    let exact = subst (λ o. (alike ≡ true) ↔ HasOneOrder o) (sym (same_outline script c.in_ok-code.code is)) z in
    record { exact = exact; ends = λ t. c.one_end.ensures script c.in_ok-code.code is (exact.0 t) })
    c.has_one_order.ensures
