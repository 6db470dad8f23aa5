use Rattle.std.proofs.Common.{rules}
use Rattle.std.proofs.lemmas.Fn.{always_returns_same}
use Rattle.lvish_names.specs.NameOrder.{handler_cmp}
use Rattle.lvish_handlers.proofs.Places.{searched}
use Rattle.lvish_handlers.proofs.held.place_of.Goals as goal

-- the closure compares a handler's name with the name that is sought
pub returns : goal.returns
returns g c =
    let facts = c.binary_search_by.ensures in
    let by_name = facts.position (λ handler. handler_cmp g.E.Ord.cmp handler.name c.args.name.now) (always_returns_same _ _ _ (λ a r q called. search rules)) in
    searched g.E.Ord.cmp g.met.E.Plain.identical g.met.E.Ord.matches_eq g.met.E.Ord.total _ _ _ c.requires facts.bound by_name
