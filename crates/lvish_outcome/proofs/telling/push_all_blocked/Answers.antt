use Rattle.std.proofs.Common.{map}
use Rattle.lvish_outcome.specs.Telling.{blocked_text}
use Rattle.lvish_explain.proofs.Adding.{adds_joined, adds_all}
use Rattle.lvish_outcome.proofs.telling.push_all_blocked.Goals as goal

pub loop-blocked-preserved : goal.loop-blocked-preserved
loop-blocked-preserved c =
    adds_joined (blocked_text c.args.file.now (map (λ x. x.now) c.args.lines.now)) c.args.told.now c.loop-blocked.blocked-index c.blocked-item.result c.loop-blocked-test.true c.blocked-item.is
    c.args.text.now c.loop-blocked.text c.push_blocked.new.text c.loop-blocked.invariant c.push_blocked.ensures

pub returns : goal.returns
returns c = adds_all (blocked_text c.args.file.now (map (λ x. x.now) c.args.lines.now)) c.args.told.now c.loop-blocked.blocked-index c.args.text.now c.loop-blocked.text c.loop-blocked-test.false c.loop-blocked.invariant
