use Rattle.std.proofs.Common.{refl, arith, get_or, length-append, [], ◌∷◌}
use Rattle.lvish_calculus.specs.Program.{machine_of}
use Rattle.lvish_trace.specs.Traced.{labels_of}
use Rattle.lvish_calculus.specs.Calculus.{Running, start}
use Rattle.lvish_again.proofs.Cutting.{picked_cut}
use Rattle.lvish_again.proofs.Walking.{begun, label_at, goes, stops, over, all_read}
use Rattle.lvish_again.proofs.walk.picks_of_entries.Goals as goal

pub loop-number-init : goal.loop-number-init
loop-number-init g c =
    rw (c.new-picks.ensures.items) (record {
      walk = begun g.P.Lat.Event.Ord.cmp (λ p. machine_of g.P.Lat.PartialEq.eq g.P.Lat.Event.PartialEq.eq g.P.Lat.Event.Ord.cmp g.P.Lat.Lattice.least g.P.Lat.Lattice.joined g.P.Lat.Lattice.events_of g.P.Lat.Reads.answer_of (g.P.Program.functions p)) c.args.program.now (c.takes_core_runs.ensures c.args.program.now) (labels_of c.args.entries.now) c.in_ok-core.core c.in_ok-core.ensures;
      count = refl;
    })

pub returns-in-None-clause-picks : goal.returns-in-None-clause-picks
returns-in-None-clause-picks g c =
    stops g.P.Lat.Event.Ord.cmp (λ p. machine_of g.P.Lat.PartialEq.eq g.P.Lat.Event.PartialEq.eq g.P.Lat.Event.Ord.cmp g.P.Lat.Lattice.least g.P.Lat.Lattice.joined g.P.Lat.Lattice.events_of g.P.Lat.Reads.answer_of (g.P.Program.functions p)) c.args.program.now (c.takes_core_runs.ensures c.args.program.now) (labels_of c.args.entries.now) c.loop-number.core c.loop-number.picks.items c.loop-number.invariant.walk (get_or c.args.entries.now c.loop-number.number c.index-entries-number.result).label
    (label_at c.args.entries.now c.loop-number.number c.index-entries-number.result c.loop-number.picks.items c.loop-number.invariant.count c.loop-number-test.true) (rw c.in-None.is at c.in_ok-pick.ensures)

pub loop-number-preserved : goal.loop-number-preserved
loop-number-preserved g c =
    let many = c.loop-number.invariant.count in
    rw (c.in_ok-push-in-Some.ensures.items) (record {
      walk = goes g.P.Lat.Event.Ord.cmp (λ p. machine_of g.P.Lat.PartialEq.eq g.P.Lat.Event.PartialEq.eq g.P.Lat.Event.Ord.cmp g.P.Lat.Lattice.least g.P.Lat.Lattice.joined g.P.Lat.Lattice.events_of g.P.Lat.Reads.answer_of (g.P.Program.functions p)) c.args.program.now (c.takes_core_runs.ensures c.args.program.now) (labels_of c.args.entries.now) c.loop-number.core c.loop-number.picks.items c.loop-number.invariant.walk (get_or c.args.entries.now c.loop-number.number c.index-entries-number.result).label
          (label_at c.args.entries.now c.loop-number.number c.index-entries-number.result c.loop-number.picks.items many c.loop-number-test.true) c.in-Some.pick c.step_by.new.core (rw c.in-Some.is at c.in_ok-pick.ensures);
      count = omega (arith, many, length-append c.loop-number.picks.items (c.in-Some.pick ∷ []));
    })

pub returns-clause-picks : goal.returns-clause-picks
returns-clause-picks g c =
    let M = machine_of g.P.Lat.PartialEq.eq g.P.Lat.Event.PartialEq.eq g.P.Lat.Event.Ord.cmp g.P.Lat.Lattice.least g.P.Lat.Lattice.joined g.P.Lat.Lattice.events_of g.P.Lat.Reads.answer_of (g.P.Program.functions c.args.program.now) in
    picked_cut g.P.Lat.Event.Ord.cmp M c.loop-number.picks.items c.cut.result.items c.cut.ensures.cut [] (Running (start M)) (labels_of c.args.entries.now)
    (over g.P.Lat.Event.Ord.cmp (λ p. machine_of g.P.Lat.PartialEq.eq g.P.Lat.Event.PartialEq.eq g.P.Lat.Event.Ord.cmp g.P.Lat.Lattice.least g.P.Lat.Lattice.joined g.P.Lat.Lattice.events_of g.P.Lat.Reads.answer_of (g.P.Program.functions p)) c.args.program.now (c.takes_core_runs.ensures c.args.program.now) (labels_of c.args.entries.now) c.loop-number.core c.loop-number.picks.items c.loop-number.invariant.walk
    (all_read c.args.entries.now c.loop-number.number c.loop-number.picks.items c.loop-number.invariant.count (let end = c.loop-number-test.false in omega (arith, end))))

pub returns-clause-no_zero : goal.returns-clause-no_zero
returns-clause-no_zero g c = c.cut.ensures.no_zero
