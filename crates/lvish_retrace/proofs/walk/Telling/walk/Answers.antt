use Rattle.std.proofs.Common.{get_or}
use Rattle.lvish_trace.specs.Traced.{labels_of}
use Rattle.lvish_retrace.proofs.CodeMachine.{code_machine}
use Rattle.lvish_retrace.proofs.Walking.{begun, label_at, goes, stops, over, all_read}
use Rattle.lvish_retrace.proofs.walk.Telling.walk.Goals as goal

pub loop-number-init : goal.loop-number-init
loop-number-init c =
    let p = c.args.core.now.program in
    rw (c.requires.nothing, c.requires.untold)
    (begun code_machine p (c.takes_core_runs.ensures p) (c.entries_carry_their_puts.ensures.named p) (c.entries_carry_their_puts.ensures.each p) (labels_of c.args.entries.now) c.args.core.now c.requires.begun)

pub returns-then-not-branch : goal.returns-then-not-branch
returns-then-not-branch c =
    let p = c.args.core.now.program in
    stops code_machine p (c.takes_core_runs.ensures p) (c.entries_carry_their_puts.ensures.named p) (c.entries_carry_their_puts.ensures.each p) (labels_of c.args.entries.now) c.loop-number.number c.loop-number.core c.loop-number.self.brought.items c.loop-number.self.steps.items c.loop-number.invariant
    (get_or c.args.entries.now c.loop-number.number c.index-entries-number.result).label (label_at c.args.entries.now c.loop-number.number c.index-entries-number.result c.loop-number-test.true)
    c.step.new.core c.step.new.self.brought.items c.step.new.self.steps.items c.in_ok-step.field-0 c.if-not-branch.true c.in_ok-step.ensures

pub loop-number-preserved : goal.loop-number-preserved
loop-number-preserved c =
    let p = c.args.core.now.program in
    goes code_machine p (c.takes_core_runs.ensures p) (c.entries_carry_their_puts.ensures.named p) (c.entries_carry_their_puts.ensures.each p) (labels_of c.args.entries.now) c.loop-number.number c.loop-number.core c.loop-number.self.brought.items c.loop-number.self.steps.items c.loop-number.invariant
    (get_or c.args.entries.now c.loop-number.number c.index-entries-number.result).label (label_at c.args.entries.now c.loop-number.number c.index-entries-number.result c.loop-number-test.true)
    c.step.new.core c.step.new.self.brought.items c.step.new.self.steps.items c.in_ok-step.field-0 c.if-not-branch.false c.in_ok-step.ensures

pub returns : goal.returns
returns c =
    let p = c.args.core.now.program in
    over code_machine p (c.takes_core_runs.ensures p) (c.entries_carry_their_puts.ensures.named p) (c.entries_carry_their_puts.ensures.each p) (labels_of c.args.entries.now) c.loop-number.number c.loop-number.core c.loop-number.self.brought.items c.loop-number.self.steps.items c.loop-number.invariant
    (all_read c.args.entries.now c.loop-number.number c.loop-number-test.false)
