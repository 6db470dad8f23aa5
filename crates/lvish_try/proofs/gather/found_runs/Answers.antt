use Rattle.std.proofs.Common.{◌≡◌, arith, subst}
use Rattle.lvish_try.specs.Drawn.{drawn}
use Rattle.lvish_try.specs.Tried.{AreFound}
use Rattle.lvish_try.proofs.Gathering.{none_yet, one_run, room}
use Rattle.lvish_try.proofs.gather.found_runs.Goals as goal

pub loop-number-init : goal.loop-number-init
loop-number-init c = rw (c.new-texts.ensures.items, c.new-found.ensures.items) (none_yet c.args.script.now c.args.seed c.args.budget)

pub note-requires-clause-report : goal.note-requires-clause-report
note-requires-clause-report c = (drawn c.args.seed c.loop-number.number c.in_ok-report.ensures.count, c.in_ok-report.ensures.run)

pub note-requires-clause-room : goal.note-requires-clause-room
note-requires-clause-room c = room c.args.script.now c.args.seed c.args.budget c.loop-number.number c.loop-number.found.items c.loop-number.invariant.found c.args.times c.loop-number-test.true c.ranges.times.fits

pub loop-number-preserved : goal.loop-number-preserved
loop-number-preserved c = record {
  found = one_run c.args.script.now c.args.seed c.args.budget c.loop-number.number c.loop-number.found.items c.loop-number.invariant.found c.in_ok-report.report c.note.new.found.items c.in_ok-report.ensures c.in_ok-note.ensures.noted;
  texts = c.in_ok-note.ensures.texts;
}

pub returns : goal.returns
returns c =
    let all : c.loop-number.number ≡ c.args.times = omega arith in
    subst (λ n. AreFound c.args.script.now n c.args.seed c.args.budget c.loop-number.found.items) all c.loop-number.invariant.found
