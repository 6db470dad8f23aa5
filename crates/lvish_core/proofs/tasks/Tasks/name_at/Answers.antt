use Rattle.std.proofs.Common.{sym, ap, ◌∙◌, slice_get}
use Rattle.lvish_core.proofs.Staged.{item_at, names-zip}
use Rattle.lvish_core.proofs.tasks.Tasks.name_at.Goals as goal

pub returns : goal.returns
returns g c = rw (← c.self.view_is)
    (item_at _ c.args.index c.get.result c.get.ensures.lookup ∙ ap (λ ns. slice_get ns c.args.index) (c.deref.ensures.value ∙ sym (names-zip _ _ c.self.invariant.beside)))
