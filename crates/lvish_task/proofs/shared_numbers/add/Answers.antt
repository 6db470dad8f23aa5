use Rattle.std.proofs.Common.{◌++◌, ◌∷◌, [], if◌then◌else◌, sym, ap, ◌∙◌}
use Rattle.lvish_task.proofs.Changes.{added}
use Rattle.lvish_task.proofs.shared_numbers.add.Goals as goal

pub returns : goal.returns
returns c =
    let before = c.args.changes.now.items in
    let more = before ++ c.args.change ∷ [] in
    λ numbers. added numbers before c.push.new.self.items c.args.change c.is_ok.result (c.push.ensures.items ∙ ap (λ b. if b then more else before) (sym c.is_ok.ensures.value))
