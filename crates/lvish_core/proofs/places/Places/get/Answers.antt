use Rattle.std.proofs.Common.{sym, ◌∙◌}
use Rattle.lvish_names.specs.laws.OrderLaws.{handler_ties}
use Rattle.lvish_core.proofs.Maps.{place_at-lookup}
use Rattle.lvish_core.proofs.places.Places.get.Goals as goal

pub returns : goal.returns
returns g c = rw (← c.self.view_is)
    (c.copied.ensures ∙ c.get.ensures.value ∙ sym (place_at-lookup _ _ (handler_ties g.E.Ord.cmp g.met.E.Ord.matches_eq) c.self.inside.places.entries c.args.name.now))
