use Rattle.std.proofs.Common.{◌≡◌, None, subst}
use Rattle.lvish_handlers.specs.Handlers.{HandlersView, IsHeld, next_of}
use Rattle.lvish_handlers.proofs.Places.{free, not_held}
use Rattle.lvish_handlers.proofs.Changes.{next_free}
use Rattle.lvish_handlers.proofs.handlers.Handlers.find.Goals as goal

pub returns-in-Err-clause-none : goal.returns-in-Err-clause-none
returns-in-Err-clause-none g c _ log =
    let gap = rw c.deref.ensures.value at c.in-Err.ensures.gap in
    let next = next_free g.L.Event.Ord.cmp g.met.L.Event.Plain.identical g.met.L.Event.Ord.matches_eq g.met.L.Event.Ord.total log c.self.inside.held.items c.args.name.now c.in-Err._gap gap in
    subst (λ (v : HandlersView _). next_of g.L.Event.PartialEq.eq log v.held c.args.name.now ≡ None) c.self.view_is next

pub returns-in-Err-clause-missing : goal.returns-in-Err-clause-missing
returns-in-Err-clause-missing g c _ =
    let gap = rw c.deref.ensures.value at c.in-Err.ensures.gap in
    let none = not_held c.self.inside.held.items c.args.name.now (free g.L.Event.Ord.cmp g.met.L.Event.Plain.identical g.met.L.Event.Ord.matches_eq g.met.L.Event.Ord.total c.self.inside.held.items c.args.name.now c.in-Err._gap gap) in
    subst (λ (v : HandlersView _). IsHeld v.held c.args.name.now → ⊥) c.self.view_is none
