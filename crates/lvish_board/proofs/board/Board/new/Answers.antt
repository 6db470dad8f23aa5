use Rattle.std.proofs.Common.{refl, sym, ap, subst}
use Rattle.std.specs.List.{AllByRecursion}
use Rattle.lvish_calculus.specs.Program.{machine_of}
use Rattle.lvish_core.specs.Core.{IsBegun}
use Rattle.lvish_core.specs.Tasks.{task_names}
use Rattle.lvish_trace.specs.Packed.{IsPacked, entries_of}
use Rattle.lvish_board.proofs.Knowing.{none_known}
use Rattle.lvish_board.specs.Seated.{stands_of}
use Rattle.lvish_board.proofs.Opening.{opened}
use Rattle.lvish_board.proofs.Parking.{none_indexed}
use Rattle.lvish_board.proofs.board.Board.new.Goals as goal

pub invariant_of-board : goal.invariant_of-board
invariant_of-board g c =
    let machine = λ (p : g.row.P.Denot). machine_of g.P.Lat.PartialEq.eq g.P.Lat.Event.PartialEq.eq g.P.Lat.Event.Ord.cmp g.P.Lat.Lattice.least g.P.Lat.Lattice.joined g.P.Lat.Lattice.events_of g.P.Lat.Reads.answer_of (g.P.Program.functions p) in
    let begun = subst (λ p. IsBegun (machine p) p c.in-Ok.core) c.requires.program c.in-Ok.ensures.core in
    (c.requires.budget, subst (λ ns. AllByRecursion (IsPacked (task_names c.in-Ok.core.table.tasks)) ns) (sym c.new.ensures.items) tt, (opened (machine g.B.BoardBrand.program) g.B.BoardBrand.program g.B.BoardBrand.budget c.in-Ok.core begun (entries_of (task_names c.in-Ok.core.table.tasks) c.new.result.items) (ap (entries_of (task_names c.in-Ok.core.table.tasks)) c.new.ensures.items) (stands_of c.new-2.result) (ap (λ es. stands_of es) c.new-2.ensures) c.requires.bounded), none_known (machine g.B.BoardBrand.program) c.in-Ok.core _ c.new-newest.ensures, none_indexed c.in-Ok.core.table.tasks c.new-2.result c.new-2.ensures)

pub returns-clause-board : goal.returns-clause-board
returns-clause-board g c =
    let machine = λ (p : g.row.P.Denot). machine_of g.P.Lat.PartialEq.eq g.P.Lat.Event.PartialEq.eq g.P.Lat.Event.Ord.cmp g.P.Lat.Lattice.least g.P.Lat.Lattice.joined g.P.Lat.Lattice.events_of g.P.Lat.Reads.answer_of (g.P.Program.functions p) in
    record {
      trace = ap (entries_of (task_names c.in-Ok.core.table.tasks)) c.new.ensures.items;
      core = subst (λ p. IsBegun (machine p) p c.in-Ok.core) c.requires.program c.in-Ok.ensures.core;
      over = refl;
      parked = ap (λ es. stands_of es) c.new-2.ensures;
    }
