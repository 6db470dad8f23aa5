use Rattle.std.proofs.Common.{◌∙◌, ap, sym}
use Rattle.std.proofs.lemmas.Int.{to_z-of_z}
use mir.Syntax.{w64}
use Rattle.lvish_compound.specs.Held.{held_above}
use Rattle.lvish_compound.specs.States.{Map, nothing, of_map}
use Rattle.lvish_compound.proofs.Values.{entry_rises, entry_is}
use Rattle.lvish_compound.proofs.any.Any.entry.Goals as goal

pub rising-requires : goal.rising-requires
rising-requires c = entry_rises c.rising-map.result _ _ c.rising-map.ensures

pub returns : goal.returns
returns c =
    sym (held_above Map nothing c.rising.result) ∙ ap of_map c.rising.ensures
    ∙ entry_is c.rising-map.result c.args.key c.args.value _ _ (to_z-of_z w64 c.args.key c.ranges.key) (to_z-of_z w64 c.args.value c.ranges.value) c.rising-map.ensures
