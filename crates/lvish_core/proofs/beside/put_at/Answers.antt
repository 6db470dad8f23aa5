use Rattle.std.proofs.Common.{refl}
use Rattle.std.proofs.lemmas.Result.{IfOk-weaker, IfErr-weaker}
use Rattle.std.proofs.lemmas.Option.{slice_get-get_or}
use Rattle.lvish_core.proofs.beside.put_at.Goals as goal

pub returns-clause-ok : goal.returns-clause-ok
returns-clause-ok g c = IfOk-weaker c.put.result _ _
    (λ _ taken. record { from = _; was = slice_get-get_or c.args.variables.now c.args.number c.index-variables-number.result c.requires; to = c.put.new.self; taken = taken; is = refl })
    c.put.ensures.ok

pub returns-clause-why : goal.returns-clause-why
returns-clause-why g c = IfErr-weaker c.put.result _ _
    (λ f refused. record { from = _; was = slice_get-get_or c.args.variables.now c.args.number c.index-variables-number.result c.requires; refused = refused })
    c.put.ensures.why
