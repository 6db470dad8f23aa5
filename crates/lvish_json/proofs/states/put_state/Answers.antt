use Rattle.std.proofs.Common.{[], ◌∷◌}
use Rattle.std.specs.Prelude.{codes}
use Rattle.json.specs.Token.{key, string}
use Rattle.lvish_json.proofs.Adding.{adds_then}
use Rattle.lvish_json.proofs.states.put_state.Goals as goal

pub returns : goal.returns
returns c =
    adds_then _ _ _ _ _ c.begin_object.ensures
    (adds_then _ _ _ (key (codes "name") ∷ string c.args.name.now ∷ []) _ (rw c.as_str.ensures at c.text_member.ensures)
    (adds_then _ _ _ _ _ c.kind_member.ensures
    (adds_then _ _ _ _ _ c.boolean_member.ensures
    (adds_then _ _ _ _ _ c.content_member.ensures c.end_object.ensures))))
