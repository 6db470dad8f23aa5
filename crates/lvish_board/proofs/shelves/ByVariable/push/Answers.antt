use Rattle.std.proofs.Common.{◌≡◌, Some, sym, ap, subst, ◌∙◌}
use Rattle.std.specs.Prelude.{slice_get}
use Rattle.std.proofs.lemmas.Option.{slice_get-get_or}
use Rattle.lvish_calculus.specs.Handing.{IsAmong}
use Rattle.lvish_core.specs.laws.Lists.{among_first}
use Rattle.lvish_board.specs.Shelved.{list_items}
use Rattle.lvish_board.proofs.Seating.{get_set_same}
use Rattle.lvish_board.proofs.Shelving.{listed_kept, shelf_pushed}
use Rattle.lvish_board.proofs.shelves.ByVariable.push.Goals as goal

pub returns-in_err-push-clause-kept : goal.returns-in_err-push-clause-kept
returns-in_err-push-clause-kept c = λ v x i.
    let at : slice_get c.reach.new.lists.items c.args.variable ≡ Some c.index_mut.result.now = slice_get-get_or _ _ c.index_mut.result.now c.in_ok-reach.ensures.there ∙ ap Some (sym c.index_mut.ensures.value) in
    listed_kept c.reach.new.lists.items c.args.variable c.push.new.self v x (λ a. subst (λ w. IsAmong x w.items) (sym c.in_err-push.ensures.err) (subst (λ o. IsAmong x (list_items o)) at a)) (c.reach.ensures.kept v x i)

pub returns-clause-kept : goal.returns-clause-kept
returns-clause-kept c = λ v x i.
    let at : slice_get c.reach.new.lists.items c.args.variable ≡ Some c.index_mut.result.now = slice_get-get_or _ _ c.index_mut.result.now c.in_ok-reach.ensures.there ∙ ap Some (sym c.index_mut.ensures.value) in
    listed_kept c.reach.new.lists.items c.args.variable c.push.new.self v x (λ a. subst (λ ys. IsAmong x ys) (sym c.in_ok-push.ensures.ok) (among_first x c.index_mut.result.now.items _ (subst (λ o. IsAmong x (list_items o)) at a))) (c.reach.ensures.kept v x i)

pub returns-clause-there : goal.returns-clause-there
returns-clause-there c = shelf_pushed c.args.index c.index_mut.result.now.items c.push.new.self.items _ c.in_ok-push.ensures.ok (ap (λ o. list_items o) (get_set_same c.reach.new.lists.items c.args.variable c.push.new.self c.in_ok-reach.ensures.there))
