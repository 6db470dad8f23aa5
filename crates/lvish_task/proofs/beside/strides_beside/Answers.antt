use Rattle.std.proofs.Common.{◌≤◌, List, ℤ, refl, ap, ◌∙◌, arith, slice_get}
use Rattle.lvish_task.specs.declared.stride.Progress.{Progress}
use Rattle.lvish_task.proofs.Strides.{taken_same, taken_fewer, taken_less}
use Rattle.lvish_task.proofs.beside.strides_beside.Goals as goal

pub loop-reached-smaller : goal.loop-reached-smaller
loop-reached-smaller c = taken_less c.args.instructions.now c.loop-reached.reached c.loop-reached.values (c.in-Some.next, c.take_beside.new.values) (slice_get c.args.instructions.now c.loop-reached.reached.place) c.loop-reached-test.true refl c.in-Some.ensures

pub loop-reached-preserved : goal.loop-reached-preserved
loop-reached-preserved c =
    let at = slice_get c.args.instructions.now c.loop-reached.reached.place in
    let to : Progress × List ℤ = (c.in-Some.next, c.take_beside.new.values) in
    let less : c.in-Some.next.left ≤ c.loop-reached.reached.left = taken_fewer c.loop-reached.reached c.loop-reached.values to at c.in-Some.ensures in
    let before = c.loop-reached.invariant.fewer in
    record {
      same = λ code l none is. taken_same code l c.loop-reached.reached c.loop-reached.values to at c.loop-reached-test.true none (ap (λ is. slice_get is c.loop-reached.reached.place) is) c.in-Some.ensures ∙ c.loop-reached.invariant.same code l none is;
      fewer = omega (arith, less, before);
    }
