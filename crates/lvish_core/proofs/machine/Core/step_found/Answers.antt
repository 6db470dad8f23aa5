use Rattle.std.proofs.Common.{ap, sym, ◌∙◌}
use Rattle.std.specs.Option.{unwrap_or}
use Rattle.lvish_core.specs.Tasks.{standing}
use Rattle.lvish_core.proofs.machine.Core.step_found.Goals as goal

pub step_live-requires-clause-live : goal.step_live-requires-clause-live
step_live-requires-clause-live g c =
    let live = c.in-Some-default-Live.ensures.task ∙ ap standing c.in-Some-default-Live.field-0-1-is in
    rw (← c.self.view_is) (_, (live, c.in-Some-default-Live.ensures.at))

-- the copy is where the task asks
pub step_live-requires-clause-at : goal.step_live-requires-clause-at
step_live-requires-clause-at g c = λ l is own f a p live. c.requires.at own f a p live ∙ sym c.in_ok-copy_local.ensures ∙ ap (λ o. unwrap_or o l) is
