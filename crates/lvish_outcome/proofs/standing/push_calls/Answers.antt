use Rattle.lvish_outcome.specs.Standing.{called_line}
use Rattle.lvish_explain.proofs.Adding.{adds_all}
use Rattle.lvish_outcome.proofs.standing.push_calls.Goals as goal

pub returns : goal.returns
returns c = adds_all called_line c.args.calls.now c.loop-call.call-index c.args.text.now c.loop-call.text c.loop-call-test.false c.loop-call.invariant
