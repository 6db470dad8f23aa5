use Rattle.std.proofs.Common.{Some}
use Rattle.lvish_names.specs.laws.OrderLaws.{handler_ties, handler_equiv}
use Rattle.lvish_core.proofs.Maps.{places_by}
use Rattle.lvish_core.proofs.places.Places.insert.Goals as goal

pub returns : goal.returns
returns g c = rw (← c.self.view_is)
    (places_by _ _ (handler_ties g.E.Ord.cmp g.met.E.Ord.matches_eq) (handler_equiv g.met.E.Eq.laws).symm c.self.inside.places.entries _ c.args.name (Some c.args.place) c.in_ok-insert.ensures.updates.0)
