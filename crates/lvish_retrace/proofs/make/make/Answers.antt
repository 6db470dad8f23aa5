use Rattle.std.proofs.Common.{sym, ◌∙◌}
use Rattle.std.proofs.lemmas.Result.{IfOk-weaker}
use Rattle.lvish_calculus.specs.Program.{machine_of}
use Rattle.lvish_retrace.proofs.Noting.{made, unnoted}
use Rattle.lvish_retrace.proofs.make.make.Goals as goal

pub returns : goal.returns
returns g c =
    let before = rw c.states.ensures.are at c.log_of-before.ensures in
    let log = rw c.states-2.ensures.are at c.log_of-log.ensures in
    made (machine_of g.P.Lat.PartialEq.eq g.P.Lat.Event.PartialEq.eq g.P.Lat.Event.Ord.cmp g.P.Lat.Lattice.least g.P.Lat.Lattice.joined g.P.Lat.Lattice.events_of g.P.Lat.Reads.answer_of (g.P.Program.functions c.args.core.now.program)) c.args.core.now c.make_alone-2.new.core c.args.name.now c.args.number c.args.asks.now.request c.requires.request c.args.brought.now.items
    c.in-Some.variable (sym c.put_variable.ensures ∙ c.in-Some.is) c.in-Some-2.said (rw c.in-Some-2.is at c.in_ok-said.ensures.made) c.note_entries.new.brought.items (rw (before, log) at c.in_ok-note_entries.ensures)

pub returns-in_default : goal.returns-in_default
returns-in_default g c =
    IfOk-weaker c.make_alone.result _ _
    (unnoted (machine_of g.P.Lat.PartialEq.eq g.P.Lat.Event.PartialEq.eq g.P.Lat.Event.Ord.cmp g.P.Lat.Lattice.least g.P.Lat.Lattice.joined g.P.Lat.Lattice.events_of g.P.Lat.Reads.answer_of (g.P.Program.functions c.args.core.now.program)) c.args.core.now c.make_alone.new.core c.args.name.now c.args.number c.args.asks.now.request c.requires.request c.args.brought.now.items (sym c.put_variable.ensures ∙ c.in_default.is))
    c.make_alone.ensures.made
