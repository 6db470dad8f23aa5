use Rattle.std.proofs.Common.{map}
use Rattle.lvish_outcome.specs.Telling.{steps_text}
use Rattle.lvish_explain.proofs.Adding.{adds_all}
use Rattle.lvish_outcome.proofs.telling.push_all_steps.Goals as goal

pub returns : goal.returns
returns c = adds_all (steps_text c.args.file.now (map (λ x. x.now) c.args.lines.now)) c.args.told.now c.loop-steps.steps-index c.args.text.now c.loop-steps.text c.loop-steps-test.false c.loop-steps.invariant
