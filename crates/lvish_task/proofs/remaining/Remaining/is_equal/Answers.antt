use Rattle.std.proofs.Common.{◌≡◌, ◌<◌, ◌≤◌, length, arith, ◌∙◌, sym}
use Rattle.lvish_task.proofs.Pairs.{pair_equal, pair_differs, pairs_equal}
use Rattle.lvish_task.proofs.remaining.Remaining.is_equal.Goals as goal

pub returns-then-ne : goal.returns-then-ne
returns-then-ne c =
    let long : length c.args.self.now ≡ length c.args.other.now = sym c.len.ensures ∙ c.if-len.false ∙ c.len-2.ensures in
    let lt : c.loop-place.place < length c.args.self.now = omega (arith, c.loop-place-test.true, c.len-place-end.ensures) in
    pair_differs _ _ _ long _ c.loop-place.invariant lt _ _ c.at.ensures c.at-in-loop-place.ensures c.if-ne.ensures

pub loop-place-preserved : goal.loop-place-preserved
loop-place-preserved c =
    let long : length c.args.self.now ≡ length c.args.other.now = sym c.len.ensures ∙ c.if-len.false ∙ c.len-2.ensures in
    let lt : c.loop-place.place < length c.args.self.now = omega (arith, c.loop-place-test.true, c.len-place-end.ensures) in
    pair_equal _ _ _ long _ c.loop-place.invariant lt _ _ c.at.ensures c.at-in-loop-place.ensures c.if-ne.ensures

pub returns : goal.returns
returns c =
    let long : length c.args.self.now ≡ length c.args.other.now = sym c.len.ensures ∙ c.if-len.false ∙ c.len-2.ensures in
    let le : length c.args.self.now ≤ c.loop-place.place = omega (arith, c.loop-place-test.false, c.len-place-end.ensures) in
    pairs_equal _ _ _ long _ c.loop-place.invariant le
