use Rattle.std.proofs.Common.{w64}
use Rattle.std.specs.Fmt.{signed_decimal}
use Rattle.std.proofs.lemmas.Int.{to_z-of_z}
use Rattle.lvish_explain.proofs.Adding.{adds_then}
use Rattle.lvish_outcome.proofs.trouble.push_range.Goals as goal

pub returns : goal.returns
returns c =
    let number = to_z-of_z w64 c.args.number c.ranges.number in
    let highest = to_z-of_z w64 c.args.highest c.ranges.highest in
    let end = c.push_takes.new.text in
    adds_then c.args.text.now c.add.new.self end _ _ c.add.ensures
    (adds_then c.add.new.self c.add_integer.new.self end (signed_decimal c.args.number) _ (rw number at c.add_integer.ensures)
    (adds_then c.add_integer.new.self c.add-2.new.self end _ _ c.add-2.ensures
    (adds_then c.add-2.new.self c.push.new.text end _ _ c.push.ensures (rw highest at c.push_takes.ensures))))
