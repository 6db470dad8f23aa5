use Rattle.std.proofs.Common.{◌++◌, take}
use Rattle.std.proofs.KnownBytes.{Appends-trans, Appends-kept}
use Rattle.lvish_console.proofs.Moved.{front_moves, takes_front}
use Rattle.lvish_console.proofs.writing.write_text.Goals as goal

pub loop-rest-preserved : goal.loop-rest-preserved
loop-rest-preserved g c =
    let (taken, split, appended) = c.loop-rest.invariant in
    let rest = c.loop-rest.rest.now in
    let n = c.in-Ok.count in
    (taken ++ take n rest, front_moves _ taken rest n split, Appends-trans _ _ _ _ _ appended c.in-Ok.ensures.bytes)

pub returns-in_default-clause-err : goal.returns-in_default-clause-err
returns-in_default-clause-err g c =
    let (taken, split, appended) = c.loop-rest.invariant in
    let rest = c.loop-rest.rest.now in
    let n = c.in-Ok.count in
    takes_front _ _ _ (taken ++ take n rest) _ (front_moves _ taken rest n split) (Appends-trans _ _ _ _ _ appended c.in-Ok.ensures.bytes)

pub returns-in_default-2-clause-err : goal.returns-in_default-2-clause-err
returns-in_default-2-clause-err g c =
    let (taken, split, appended) = c.loop-rest.invariant in
    takes_front _ _ _ taken _ split (Appends-kept _ _ _ _ appended c.in_default.ensures.bytes)
