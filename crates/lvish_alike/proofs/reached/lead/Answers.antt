use Rattle.lvish_alike.specs.Sought.{linked}
use Rattle.lvish_alike.proofs.Marks.{marking_begins, found_within, marking_goes, marking_closed, marking_full}
use Rattle.lvish_alike.proofs.reached.lead.Goals as goal

pub loop-round-init : goal.loop-round-init
loop-round-init c = marking_begins (linked c.args.link) c.args.routines.now c.args.marks.now c.requires

pub bounds-marks-place : goal.bounds-marks-place
bounds-marks-place c = found_within c.args.link c.args.routines.now c.args.marks.now c.loop-round.marks c.in-Some.place c.in-Some.ensures.found

pub returns-in-None : goal.returns-in-None
returns-in-None c = marking_closed c.args.link c.args.routines.now c.args.marks.now c.loop-round.marks c.loop-round.round c.loop-round.invariant c.in-None.ensures.nowhere

pub loop-round-preserved : goal.loop-round-preserved
loop-round-preserved c = marking_goes c.args.link c.args.routines.now c.args.marks.now c.loop-round.marks c.in-Some.place c.in-Some.ensures.found c.loop-round.round c.loop-round.invariant

pub returns : goal.returns
returns c = marking_full c.args.link c.args.routines.now c.args.marks.now c.loop-round.marks c.loop-round.round c.loop-round.invariant c.loop-round-test.false
