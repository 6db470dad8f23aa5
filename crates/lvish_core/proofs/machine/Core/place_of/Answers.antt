use Rattle.lvish_core.proofs.Seats.{pool_place}
use Rattle.lvish_core.proofs.machine.Core.place_of.Goals as goal

pub returns-in-Some : goal.returns-in-Some
returns-in-Some g c = rw c.new-place.ensures (pool_place c.args.name.now c.in-Some.last.now c.in-Some.field-0-0 c.in-Some.ensures (c.runs_in.ensures.0 c.if-runs_in.true))
