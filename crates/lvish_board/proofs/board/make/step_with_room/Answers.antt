use Rattle.std.proofs.Common.{sym, ap, subst, ◌∙◌}
use Rattle.lvish_calculus.specs.Program.{machine_of}
use Rattle.lvish_board.specs.Left.{IsStepOf}
use Rattle.lvish_board.proofs.board.make.step_with_room.Goals as goal

pub returns-clause-made : goal.returns-clause-made
returns-clause-made g c =
    let machine = λ (p : g.row.P.Denot). machine_of g.P.Lat.PartialEq.eq g.P.Lat.Event.PartialEq.eq g.P.Lat.Event.Ord.cmp g.P.Lat.Lattice.least g.P.Lat.Lattice.joined g.P.Lat.Lattice.events_of g.P.Lat.Reads.answer_of (g.P.Program.functions p) in
    let step = c.in_ok-stepped.ensures.stepped in
    subst (λ p. IsStepOf g.P.Lat.Event.Ord.cmp (machine p) c.args.core.now c.args.asked.now c.step.new.core c.in_ok-logged.logged c.reserve_for.new.self.concerned.items c.in_ok-stepped.stepped c.in_ok-stepped.moved) c.requires.program (record {
      step = step;
      told = c.in_ok-stepped.ensures.moved;
      concerned = c.in_ok-logged.ensures.concerned;
      long = c.has_all_variables.ensures ∙ ap (λ p. (g.P.Program.functions p).variables) (sym step.program) ∙ sym c.has_all_variables-2.ensures;
    })
