use Rattle.lvish_core.proofs.laws.wakes_at_its_spot.Goals as goal

pub returns : goal.returns
returns g c = λ p. Rattle.lvish_core.proofs.Spotted.wakes_at_its_spot _ (c.lawful.ensures p) g.P.Lat.Reads.spot_of g.P.Lat.Reads.watched g.met.P.Lat.Reads.waits
