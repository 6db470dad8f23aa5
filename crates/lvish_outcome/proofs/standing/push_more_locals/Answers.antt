use Rattle.std.specs.Prelude.{codes}
use Rattle.lvish_outcome.specs.Standing.{local_text}
use Rattle.lvish_explain.proofs.Adding.{adds_all}
use Rattle.lvish_outcome.proofs.standing.push_more_locals.Goals as goal

pub returns : goal.returns
returns c = adds_all (local_text (codes ", ")) c.args.locals.now c.loop-local.local-index c.args.text.now c.loop-local.text c.loop-local-test.false c.loop-local.invariant
