use Rattle.std.proofs.Common.{Some, ◌∙◌, sym, ap}
use Rattle.lvish_compound.specs.declared.any.Any as any
use Rattle.lvish_compound.proofs.Values.{first_side, second_side}
use Rattle.lvish_compound.proofs.any.Any.side.Goals as goal

pub returns-in-1-clause-ok : goal.returns-in-1-clause-ok
returns-in-1-clause-ok c = first_side c.args.number c.args.state c.in-Part.part _ c.in-Part.is c.in-1.is c.new.ensures.one c.new.ensures.two ∙ ap (λ (s : any.Any). Some s) (sym c.of_pair.ensures)

pub returns-in-2-clause-ok : goal.returns-in-2-clause-ok
returns-in-2-clause-ok c = second_side c.args.number c.args.state c.in-Part.part _ c.in-Part.is c.in-2.is c.new-in-2.ensures.one c.new-in-2.ensures.two ∙ ap (λ (s : any.Any). Some s) (sym c.of_pair-in-2.ensures)
