use Rattle.lvish_calculus.specs.Program.{machine_of}
use Rattle.lvish_run.proofs.Turns.{drawn_by}
use Rattle.lvish_run.proofs.runner.named.Goals as goal

pub returns : goal.returns
returns g c = drawn_by g.P.Lat.Event.Ord.cmp (λ p. machine_of g.P.Lat.PartialEq.eq g.P.Lat.Event.PartialEq.eq g.P.Lat.Event.Ord.cmp g.P.Lat.Lattice.least g.P.Lat.Lattice.joined g.P.Lat.Lattice.events_of g.P.Lat.Reads.answer_of (g.P.Program.functions p)) g.B.BoardBrand.program c.args.board.now.core c.core.result.now c.args.pick c.in_ok-labels.labels.items c.choose.result c.core.ensures.core c.is_sound.ensures.program_is c.in_ok-labels.ensures c.choose.ensures
