use Rattle.std.proofs.lemmas.Result.{IfOk-weaker}
use Rattle.lvish_names.proofs.NameLaws.{name_cmp-iff}
use Rattle.lvish_calculus.specs.Program.{machine_of}
use Rattle.lvish_run.proofs.Firsts.{without_task}
use Rattle.lvish_run.proofs.Turns.{first_acted, turn_after}
use Rattle.lvish_run.proofs.runner.take_first.Goals as goal

pub act-requires-clause-current : goal.act-requires-clause-current
act-requires-clause-current g c = (c.loop-asked.invariant.beside.current c.in-Some.ensures.task c.in-Some.asked c.in-Some.ensures.was).1

pub act-requires-clause-beside : goal.act-requires-clause-beside
act-requires-clause-beside g c =
    let exact = name_cmp-iff g.P.Lat.Event.Ord.cmp g.met.P.Lat.Event.Plain.identical g.met.P.Lat.Event.Ord.matches_eq g.met.P.Lat.Event.Ord.total in
    without_task _ c.loop-asked.board _ _ _ c.loop-asked.invariant.beside exact c.in-Some.ensures.task c.in-Some.asked c.in-Some.ensures.was c.in-Some.ensures.without

pub returns-then-branch-clause-turn : goal.returns-then-branch-clause-turn
returns-then-branch-clause-turn g c =
    let exact = name_cmp-iff g.P.Lat.Event.Ord.cmp g.met.P.Lat.Event.Plain.identical g.met.P.Lat.Event.Ord.matches_eq g.met.P.Lat.Event.Ord.total in
    first_acted _ _ exact c.args.board.now c.loop-asked.board c.act.new.board c.loop-asked.invariant.idle c.loop-asked.agenda c.pop_task.new.self c.loop-asked.invariant.sound.blocked c.loop-asked.invariant.beside c.in-Some.asked c.in-Some.ensures (rw c.if-branch.true at c.in_ok-act.ensures.acted)

pub returns-clause-turn : goal.returns-clause-turn
returns-clause-turn g c =
    let M = machine_of g.P.Lat.PartialEq.eq g.P.Lat.Event.PartialEq.eq g.P.Lat.Event.Ord.cmp g.P.Lat.Lattice.least g.P.Lat.Lattice.joined g.P.Lat.Lattice.events_of g.P.Lat.Reads.answer_of (g.P.Program.functions g.B.BoardBrand.program) in
    IfOk-weaker c.take_first_handing.result _ _ (λ made z. turn_after g.P.Lat.Event.Ord.cmp M c.args.board.now c.loop-asked.board c.take_first_handing.new.board c.loop-asked.invariant.idle made z) c.take_first_handing.ensures.turn
