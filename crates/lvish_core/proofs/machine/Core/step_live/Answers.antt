use Rattle.std.proofs.Common.{◌∙◌, sym}
use Rattle.lvish_core.proofs.Shown.{asked_live, moved_live, stepped_live}
use Rattle.lvish_core.proofs.machine.Core.step_live.Goals as goal

pub act-requires-clause-asked : goal.act-requires-clause-asked
act-requires-clause-asked g c =
    let live = (rw (← c.self.view_is) at c.requires.live).1.0 in
    let asked = rw (← c.self.view_is) at c.requires.request in
    let placed = rw (← c.self.view_is) at c.requires.at in
    let there = sym c.take.ensures.value ∙ c.in-Some.is in
    rw (← c.self.view_is) (asked_live _ _ (sym c.is_some.ensures ∙ c.if-is_some.false) c.args.name.now _ _ _ _ live _ (asked _ _ _ _ live) _ (placed c.in-Some.local there _ _ _ _ live))

pub returns-clause-stepped : goal.returns-clause-stepped
returns-clause-stepped g c =
    let live = (rw (← c.self.view_is) at c.requires.live).1.0 in
    let asked = rw (← c.self.view_is) at c.requires.request in
    rw (← c.self.view_is) (stepped_live _ _ _ _ _ c.self.invariant c.args.name.now _ _ _ _ live _ (asked _ _ _ _ live) _ _ (rw (← c.self.view_is) at c.act.ensures.acts))

pub returns-clause-moved : goal.returns-clause-moved
returns-clause-moved g c = moved_live _ _ _ _ _ _ c.act.ensures.acts
