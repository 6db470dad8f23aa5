use Rattle.std.proofs.Common.{◌≡◌, rules, sym, ap, ◌∙◌, w64}
use Rattle.std.proofs.lemmas.Int.{to_z-of_z}
use mir.Val.{SFits}
use Rattle.lvish_compound.specs.declared.place.Place.TheVariants as place
use Rattle.lvish_task.specs.Run.{target_place}
use Rattle.lvish_task.proofs.AtOnce.{read_of}
use Rattle.lvish_task.proofs.at_once.read_at_once.Goals as goal

pub returns-in-Whole-Cell : goal.returns-in-Whole-Cell
returns-in-Whole-Cell c =
    let at : place.Cell ≡ target_place c.args.values.now c.args.target = search rules in
    read_of _ _ _ _ _ (sym at) c.in_ok-test.ensures

pub returns-in-Whole-Set : goal.returns-in-Whole-Set
returns-in-Whole-Set c =
    let at : place.Set ≡ target_place c.args.values.now c.args.target = search rules in
    read_of _ _ _ _ _ (sym at) c.in_ok-test.ensures

pub returns-in-Entry : goal.returns-in-Entry
returns-in-Entry c =
    let fits : SFits w64 c.operand.result = search rules in
    read_of _ _ _ _ _ (ap (target_place c.args.values.now) c.in-Entry.is ∙ ap place.Key (sym c.operand.ensures ∙ sym (to_z-of_z w64 c.operand.result fits))) c.in_ok-test.ensures
