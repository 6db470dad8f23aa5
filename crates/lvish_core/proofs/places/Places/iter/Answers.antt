use Rattle.lvish_core.proofs.Maps.{names-places}
use Rattle.lvish_core.proofs.places.Places.iter.Goals as goal

pub returns-clause-ascending : goal.returns-clause-ascending
returns-clause-ascending g c = rw (← c.self.view_is)
    (rw (names-places c.self.inside.places.entries) c.iter.ensures.ordered)
