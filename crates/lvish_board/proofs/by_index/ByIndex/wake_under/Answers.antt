use Rattle.std.proofs.Common.{◌≡◌, is_some, None, Some, sym, ap, subst, ◌∙◌}
use Rattle.std.specs.Option.{option_copied_mut}
use Rattle.std.specs.HashMap.{get}
use Rattle.lvish_calculus.specs.Handing.{IsAmong}
use Rattle.lvish_board.specs.Shelved.{list_items}
use Rattle.lvish_board.proofs.Shelving.{shelf_kept}
use Rattle.lvish_board.proofs.Waking.{wakes_fewer, wakes_none}
use Rattle.lvish_board.proofs.by_index.ByIndex.wake_under.Goals as goal

pub returns-in-Some-clause-wakes : goal.returns-in-Some-clause-wakes
returns-in-Some-clause-wakes g c =
    let at : get g.K.PartialEq.eq c.args.lists.now c.args.key.now ≡ Some c.in-Some.indices.now = sym c.get_mut.ensures.value ∙ ap option_copied_mut c.in-Some.is in
    wakes_fewer _ _ _ _ _ _ _ c.wake_each.ensures.wakes (λ p i may. (may.0, subst (λ o. IsAmong may.0 (list_items o)) at may.1, may.2))

pub returns-in-Some-clause-left : goal.returns-in-Some-clause-left
returns-in-Some-clause-left g c = λ q i there.
    let at : get g.K.PartialEq.eq c.args.lists.now c.args.key.now ≡ Some c.in-Some.indices.now = sym c.get_mut.ensures.value ∙ ap option_copied_mut c.in-Some.is in
    let updates = ((c.get_mut.follows.holds c.wake_each.new.indices).3 (ap is_some at)).0 in
    shelf_kept g.K.PartialEq.eq g.met.K.Eq.laws c.args.lists.now (c.get_mut.follows.lender c.wake_each.new.indices) c.args.key.now c.wake_each.new.indices updates q i (λ on. c.wake_each.ensures.left i there (subst (λ s. IsAmong i (list_items s)) at on))

pub returns-in_default-clause-wakes : goal.returns-in_default-clause-wakes
returns-in_default-clause-wakes g c =
    let at : get g.K.PartialEq.eq c.args.lists.now c.args.key.now ≡ None = sym c.get_mut.ensures.value ∙ ap option_copied_mut c.in_default.is in
    wakes_none _ _ _ _ (λ p i may can. subst (λ o. IsAmong may.0 (list_items o)) at may.1)
