use Rattle.std.proofs.Common.{inl, inr}
use Rattle.lvish_board.proofs.Woken.{may_at}
use Rattle.lvish_board.proofs.parked.Parked.may_get.Goals as goal

pub returns : goal.returns
returns g c = λ none fresh p i may. elim (may_at g.P.Lat.Reads.spot_of g.P.Lat.Reads.watched c.args.variable fresh ((g.P.Program.functions g.B.BoardBrand.program).request p.from) may) [
  | inl at ↦ c.has_whole.ensures none p i at
  | inr at ↦ c.has_spots.ensures c.if-has_spots.false at.0 p i at.1
]
