use Rattle.std.proofs.Common.{sym, ◌∙◌, ap, ◌≡◌, ◌+◌, arith}
use Rattle.lvish_task.specs.Run.{landing}
use Rattle.lvish_task.specs.laws.Landing.{landing_jump, landing_here}
use Rattle.lvish_task.proofs.run.landing.Goals as goal

pub loop-n-preserved : goal.loop-n-preserved
loop-n-preserved c =
    let to : c.loop-n.at + (1 + c.in-Some.n) ≡ c.loop-n.at + 1 + c.in-Some.n = omega arith in
    ap (landing c.args.instructions.now) to ∙ sym (landing_jump c.args.instructions.now c.loop-n.at c.in-Some.n (sym c.in-Some.ensures)) ∙ c.loop-n.invariant

pub returns : goal.returns
returns c = sym (landing_here c.args.instructions.now c.loop-n.at (sym c.jump.ensures ∙ c.in_default.is)) ∙ c.loop-n.invariant
