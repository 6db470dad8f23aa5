use Rattle.json.specs.Tree.{json_tokens}
use Rattle.lvish_json.specs.Shape.{each, count}
use Rattle.lvish_json.proofs.Adding.{adds_then}
use Rattle.lvish_json.proofs.report.end_with_numbers.Goals as goal

pub returns : goal.returns
returns g c =
    adds_then _ _ _ _ _ c.count_member.ensures
    (adds_then _ _ _ _ _ c.count_member-2.ensures
    (adds_then _ _ _ _ _ c.key.ensures
    (adds_then _ _ _ (json_tokens (each count c.args.report.now.by_worker)) _ (rw c.as_slice.ensures at c.put_counts.ensures) c.end_with_states.ensures)))
