use Rattle.std.proofs.Common.{◌∙◌, ap, sym}
use Rattle.std.proofs.lemmas.Int.{to_z-of_z}
use mir.Syntax.{w64}
use Rattle.lvish_compound.specs.declared.any.Any.TheVariants.{Part}
use Rattle.lvish_compound.specs.declared.part.Part.TheVariants.{Empty, Set}
use Rattle.lvish_compound.specs.Held.{held, held_above}
use Rattle.lvish_compound.proofs.Values.{only_is, set_rises}
use Rattle.lvish_compound.proofs.any.Any.set.Goals as goal

pub rising-requires : goal.rising-requires
rising-requires c = set_rises c.one-set.result _ c.one-set.ensures

pub returns : goal.returns
returns c = ap Part (sym (held_above Set Empty c.rising.result) ∙ ap (held Set Empty) (c.rising.ensures ∙ only_is c.one-set.result c.args.element _ (to_z-of_z w64 c.args.element c.ranges.element) c.one-set.ensures))
