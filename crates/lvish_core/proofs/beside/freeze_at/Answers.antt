use Rattle.std.proofs.Common.{ap, slice_set}
use Rattle.std.proofs.lemmas.Option.{slice_get-get_or}
use Rattle.lvish_core.proofs.beside.freeze_at.Goals as goal

pub returns : goal.returns
returns g c = record {
  from = _;
  was = slice_get-get_or c.args.variables.now c.args.number c.index-variables-number.result c.requires;
  is = ap (λ x. slice_set c.args.variables.now c.args.number x) c.mark.ensures;
}
