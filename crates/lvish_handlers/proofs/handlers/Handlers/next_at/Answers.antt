use Rattle.std.proofs.Common.{◌≡◌, Some, None, sym, subst}
use Rattle.lvish_handlers.specs.Handlers.{HandlersView, next_of}
use Rattle.lvish_handlers.specs.Places.{IsAt}
use Rattle.lvish_handlers.proofs.Changes.{next_some, next_none}
use Rattle.lvish_handlers.proofs.handlers.Handlers.next_at.Goals as goal

pub returns-in-Some : goal.returns-in-Some
returns-in-Some g c name there =
    let place = subst (λ (v : HandlersView _). IsAt v.held name c.args.at) (sym c.self.view_is) there in
    let found = rw c.log.ensures.log at c.in-Some.ensures.lookup.3 in
    let next = next_some g.L.Event.Ord.cmp g.met.L.Event.Plain.identical g.met.L.Event.Ord.matches_eq g.met.L.Event.Ord.total g.met.L.Event.Eq.laws.refl c.args.variable.now.log c.self.inside.held.items name c.args.at c.self.invariant.by_name place c.index.result.now c.index.ensures c.in-Some.entry.now found.0 (found.1 _) in
    subst (λ (v : HandlersView _). Some c.in-Some.entry.now.event ≡ next_of g.L.Event.PartialEq.eq c.args.variable.now.log v.held name) c.self.view_is (sym next)

pub returns-in-None : goal.returns-in-None
returns-in-None g c name there =
    let place = subst (λ (v : HandlersView _). IsAt v.held name c.args.at) (sym c.self.view_is) there in
    let past = rw c.log.ensures.log at c.in-None.ensures.lookup.3 in
    let next = next_none g.L.Event.Ord.cmp g.met.L.Event.Plain.identical g.met.L.Event.Ord.matches_eq g.met.L.Event.Ord.total g.met.L.Event.Eq.laws.refl c.args.variable.now.log c.self.inside.held.items name c.args.at c.self.invariant.by_name place c.index.result.now c.index.ensures past in
    subst (λ (v : HandlersView _). None ≡ next_of g.L.Event.PartialEq.eq c.args.variable.now.log v.held name) c.self.view_is (sym next)
