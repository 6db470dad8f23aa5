use Rattle.std.proofs.Common.{◌≡◌, ◌∷◌, length, ap, arith}
use Rattle.std.specs.Vec.Iter.{into_iter_items, into_iter_len}
use Rattle.lvish_run.proofs.Leaving.{neither_stopped, not_stopped}
use Rattle.lvish_run.proofs.crew.worst_of.Goals as goal

pub loop-handle-preserved : goal.loop-handle-preserved
loop-handle-preserved g c =
    let steps : into_iter_items c.loop-handle.handle-iterator ≡ c.in-Some.handle ∷ into_iter_items c.next.new.self = c.in-Some.ensures.steps.0 in
    let short = ap length steps in
    let was = c.loop-handle.invariant.long in
    let long : into_iter_len c.next.new.self ≡ length (into_iter_items c.next.new.self) = omega arith in
    record {
      can = tt;
      finite = tt;
      long = long;
      patient = λ p. neither_stopped _ _ _ c.or_worse-worst.ensures.one (c.loop-handle.invariant.patient p) (not_stopped _ _ c.join.ensures p);
    }
