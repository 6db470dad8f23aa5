use Rattle.std.proofs.Common.{map}
use Rattle.lvish_explain.specs.Text.{shown_byte}
use Rattle.lvish_explain.proofs.Adding.{adds_then}
use Rattle.lvish_explain.proofs.hint.push_near_hint.Goals as goal

pub returns : goal.returns
returns c =
    let end = c.add-4.new.self in
    adds_then c.args.text.now c.add.new.self end _ _ c.add.ensures
    (adds_then c.add.new.self c.add_number.new.self end _ _ c.add_number.ensures
    (adds_then c.add_number.new.self c.add-2.new.self end _ _ c.add-2.ensures
    (adds_then c.add-2.new.self c.add_shown.new.self end (map shown_byte c.args.known.now.name.now) _ c.add_shown.ensures
    (adds_then c.add_shown.new.self c.add-3.new.self end _ _ c.add-3.ensures c.add-4.ensures))))
