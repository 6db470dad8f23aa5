use Rattle.std.proofs.Common.{◌≡◌, ◌+◌, ◌-◌, ◌<◌, length, get_or, sym, ap, ◌∙◌, arith}
use Rattle.std.proofs.lemmas.List.{get_or_default}
use Rattle.lvish_board.proofs.Sweeping.{begun, stays_swept, removed_swept, swept}
use Rattle.lvish_board.proofs.by_index.ByIndex.wake_each.Goals as goal

pub loop-next-init : goal.loop-next-init
loop-next-init g c = begun _ _ _ _ _ c.requires.once c.len-next.ensures.value

pub wake-requires-clause-current : goal.wake-requires-clause-current
wake-requires-clause-current g c = λ p i. c.requires.current p (c.loop-next.invariant.wakes.woken.stay p i).0

pub wake-requires-clause-once : goal.wake-requires-clause-once
wake-requires-clause-once g c = c.loop-next.invariant.once

pub loop-next-preserved : goal.loop-next-preserved
loop-next-preserved g c =
    let lt = c.loop-next-test.true in
    let short = c.loop-next.invariant.short in
    let one : c.loop-next.next ≡ (c.loop-next.next - 1) + 1 = omega arith in
    let inside : c.loop-next.next - 1 < length c.loop-next.indices.items = omega arith in
    let t = get_or c.as_slice.result.now (c.loop-next.next - 1) 0 in
    let is : t ≡ get_or c.loop-next.indices.items (c.loop-next.next - 1) t = ap (λ xs. get_or xs (c.loop-next.next - 1) 0) c.as_slice.ensures ∙ get_or_default c.loop-next.indices.items (c.loop-next.next - 1) 0 t inside in
    stays_swept _ _ _ _ _ t _ _ _ _ _ _ c.requires.once one is c.loop-next.invariant c.wake.ensures.wakes c.wake.ensures.once c.wake.ensures.within c.wake.ensures.capacity

pub loop-next-preserved-then-wake : goal.loop-next-preserved-then-wake
loop-next-preserved-then-wake g c =
    let lt = c.loop-next-test.true in
    let short = c.loop-next.invariant.short in
    let one : c.loop-next.next ≡ (c.loop-next.next - 1) + 1 = omega arith in
    let inside : c.loop-next.next - 1 < length c.loop-next.indices.items = omega arith in
    let t = get_or c.as_slice.result.now (c.loop-next.next - 1) 0 in
    let is : t ≡ get_or c.loop-next.indices.items (c.loop-next.next - 1) t = ap (λ xs. get_or xs (c.loop-next.next - 1) 0) c.as_slice.ensures ∙ get_or_default c.loop-next.indices.items (c.loop-next.next - 1) 0 t inside in
    let same : c.swap_remove.result ≡ t = c.swap_remove.ensures.value ∙ get_or_default c.loop-next.indices.items (c.loop-next.next - 1) c.swap_remove.result t inside ∙ sym is in
    removed_swept _ _ _ _ _ t _ _ _ _ _ _ c.requires.once one is c.loop-next.invariant c.wake.ensures.wakes c.wake.ensures.once c.wake.ensures.within c.wake.ensures.capacity (c.wake.ensures.gone c.if-wake.true) c.swap_remove.result _ same c.swap_remove.ensures.items

pub returns : goal.returns
returns g c = record {
  wakes = swept _ _ _ _ _ _ _ _ c.loop-next-test.false c.loop-next.invariant;
  left = c.loop-next.invariant.left;
  once = c.loop-next.invariant.once;
  within = c.loop-next.invariant.within;
  capacity = c.loop-next.invariant.capacity;
}
