use Rattle.std.proofs.Common.{Some, ◌∙◌, sym, ap}
use Rattle.std.proofs.lemmas.Int.{to_z-of_z}
use mir.Syntax.{w64}
use Rattle.lvish_compound.specs.declared.any.Any as any
use Rattle.lvish_compound.proofs.Values.{amount_is}
use Rattle.lvish_compound.proofs.any.Any.amount.Goals as goal

pub returns-clause-ok : goal.returns-clause-ok
returns-clause-ok c =
    amount_is c.in_ok-tally.tally c.args.key _ c.args.number c.in_ok-amount.amount (c.in_ok-amount.ensures.ok ∙ to_z-of_z w64 c.args.number c.ranges.number) (to_z-of_z w64 c.args.key c.ranges.key) c.in_ok-tally.ensures
    ∙ ap (λ (s : any.Any). Some s) (sym c.of_tally.ensures)
