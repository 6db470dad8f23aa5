use Rattle.std.proofs.Common.{subst}
use Rattle.lvish_calculus.specs.Program.{machine_of}
use Rattle.lvish_core.specs.Tasks.{IsAt}
use Rattle.lvish_board.specs.Board.{IsCurrent}
use Rattle.lvish_board.proofs.Knowing.{same_stand}
use Rattle.lvish_board.proofs.board.Board.current.Goals as goal

pub returns-then-is : goal.returns-then-is
returns-then-is g c =
    let M = machine_of g.P.Lat.PartialEq.eq g.P.Lat.Event.PartialEq.eq g.P.Lat.Event.Ord.cmp g.P.Lat.Lattice.least g.P.Lat.Lattice.joined g.P.Lat.Lattice.events_of g.P.Lat.Reads.answer_of (g.P.Program.functions g.B.BoardBrand.program) in
    let k = c.is.ensures c.if-is.true in
    let same = same_stand c.stamp.result.now.value k.0 c.args.asked.now k.2 c.stamp.ensures in
    let there = subst (λ p. IsAt c.self.inside.core.table.tasks c.index-index.result p.task × IsCurrent M c.self.inside.core p) same (c.self.invariant.3 c.index-index.result k.0 k.1) in
    let n = c.numbers_at.ensures.live c.args.asked.now.task c.args.asked.now.from there.0 there.1 in
    rw (← c.self.view_is, n.1) n.2
