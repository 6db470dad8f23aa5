use Rattle.std.proofs.Common.{pos, get_or, sym, ap, ◌∙◌}
use Rattle.lvish_task.proofs.Changes.{made, changed_next}
use Rattle.lvish_task.proofs.shared_numbers.give_all.Goals as goal

pub loop-change-preserved : goal.loop-change-preserved
loop-change-preserved c =
    let one = get_or c.args.changes.now c.loop-change.change-index (record { local = 0; value = pos 0 }) in
    c.make.ensures
    ∙ ap (λ numbers. made numbers one) c.loop-change.invariant
    ∙ sym (changed_next c.args.numbers.now c.args.changes.now c.loop-change.change-index (record { local = 0; value = pos 0 }) c.loop-change-test.true)
