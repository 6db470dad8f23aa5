use Rattle.std.proofs.Common.{rules, take, subst, length-take-le}
use Rattle.std.specs.Io.KnownBytes.{Consumes}
use Rattle.std.proofs.KnownBytes.{Consumes-trans, Consumes-kept}
use Rattle.lvish_cli.proofs.Moved.{take-put_mid_more}
use Rattle.lvish_cli.proofs.reading.fill.Goals as goal

pub loop-filled-preserved : goal.loop-filled-preserved
loop-filled-preserved g c =
    let before = c.loop-filled.invariant in
    let more = take-put_mid_more c.loop-filled.filled c.in-Ok.count c.loop-filled.buffer c.read.new.buf before.1 c.in-Ok.ensures.bound.0 in
    (search rules, search rules, subst (Consumes _ _) more (Consumes-trans _ _ _ _ _ before.2 c.in-Ok.ensures.bytes.0))

pub returns-in-Err-clause-err : goal.returns-in-Err-clause-err
returns-in-Err-clause-err g c = (take c.loop-filled.filled c.loop-filled.buffer, search (rules, length-take-le), Consumes-kept _ _ _ _ c.loop-filled.invariant.2 c.in-Err.ensures.bytes)
