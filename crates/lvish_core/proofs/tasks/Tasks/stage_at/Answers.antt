use Rattle.std.proofs.Common.{sym, ap, ◌∙◌, slice_get}
use Rattle.lvish_names.specs.laws.OrderLaws.{name_equiv}
use Rattle.lvish_core.specs.Tasks.{standing_at}
use Rattle.lvish_core.proofs.Indexing.{one_at, under_index}
use Rattle.lvish_core.proofs.Staged.{item_at}
use Rattle.lvish_core.proofs.tasks.Tasks.stage_at.Goals as goal

pub returns-clause-task : goal.returns-clause-task
returns-clause-task g c =
    let there = item_at _ c.args.index c.get.result c.get.ensures.lookup ∙ ap (λ ss. slice_get ss c.args.index) c.deref.ensures.value in
    rw (← c.self.view_is) (λ t at. under_index _ (name_equiv g.met.E.Eq.laws) _ _ _ _ c.self.invariant c.args.index t at ∙ sym (ap standing_at there))

pub returns-clause-at : goal.returns-clause-at
returns-clause-at g c =
    let there = item_at _ c.args.index c.get.result c.get.ensures.lookup ∙ ap (λ ss. slice_get ss c.args.index) c.deref.ensures.value in
    rw (← c.self.view_is) (one_at _ (name_equiv g.met.E.Eq.laws) _ _ _ _ c.self.invariant c.args.index c.get.result there)
