use Rattle.std.proofs.Common.{◌≤◌, ◌∙◌, All, length, take, drop, take-append-drop, refl, ap, sym, subst}
use Rattle.lvish_handlers.specs.Handlers.{HandlersView, IsHeld}
use Rattle.lvish_handlers.proofs.Places.{is_held}
use Rattle.lvish_handlers.proofs.Changes.{counted_insert, within_insert}
use Rattle.lvish_handlers.proofs.handlers.Handlers.add.Goals as goal

pub unreachable-requires : goal.unreachable-requires
unreachable-requires g c =
    let place = rw c.deref.ensures.value at c.in-Ok.ensures.found in
    c.requires.not_held (subst (λ (v : HandlersView _). IsHeld v.held c.args.name) c.self.view_is (is_held c.self.inside.held.items c.args.name c.in-Ok.field-0 place))

pub invariant_of-self-in-Err : goal.invariant_of-self-in-Err
invariant_of-self-in-Err g c =
    let gap = rw c.deref.ensures.value at c.in-Err.ensures.gap in
    rw c.in_ok-insert-in-Err.ensures.items (counted_insert g.met.L.Event.Ord.total _ _ _ _ gap refl c.self.invariant)

pub returns-clause-by_name : goal.returns-clause-by_name
returns-clause-by_name g c =
    let gap = rw c.deref.ensures.value at c.in-Err.ensures.gap in
    let counted = counted_insert g.met.L.Event.Ord.total _ _ _ (record { name = c.args.name; pool = c.args.pool; procedure = c.args.procedure; handed = 0 }) gap refl c.self.invariant in
    rw c.in_ok-insert-in-Err.ensures.items counted.by_name

pub returns-clause-within : goal.returns-clause-within
returns-clause-within g c within =
    let n = length c.args.variable.now.log in
    rw c.in_ok-insert-in-Err.ensures.items (within_insert n _ _ _ refl (subst (λ (v : HandlersView _). All (λ h. h.handed ≤ n) v.held) (sym c.self.view_is) within))

pub returns-clause-ok : goal.returns-clause-ok
returns-clause-ok g c =
    let held = c.self.inside.held.items in
    let gap = c.in-Err.gap in
    record { before = take gap held; after = drop gap held; was = sym (ap (λ (v : HandlersView _). v.held) c.self.view_is) ∙ sym (take-append-drop gap held); is = c.in_ok-insert-in-Err.ensures.items; pools = ap (λ (v : HandlersView _). v.running) c.self.view_is }
