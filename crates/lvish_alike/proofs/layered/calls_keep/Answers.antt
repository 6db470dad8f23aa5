use Rattle.std.proofs.Common.{refl, sym, subst, arith}
use Rattle.std.proofs.lemmas.Bool.{both_ways}
use Rattle.lvish_alike.specs.Sought.{instruction_calls, instruction_writes, AreReached, AreGiven}
use Rattle.lvish_alike.proofs.Written.{calls_more, calls_all, call_keeps, keeps_call}
use Rattle.lvish_alike.proofs.layered.calls_keep.Goals as goal

pub loop-routine-init : goal.loop-routine-init
loop-routine-init c = λ k lt. absurd (omega (arith, lt))

pub returns-then-not-calls_before : goal.returns-then-not-calls_before
returns-then-not-calls_before c =
    let routines = c.args.routines.now in
    let called = c.deref.result.now in
    let written = c.deref-in-loop-routine.result.now in
    let reached = subst (AreReached instruction_calls routines c.loop-routine.routine) (sym c.deref.ensures.value) c.in_ok-called.ensures in
    let writes = subst (λ m. AreGiven (instruction_writes c.args.pools.now) routines called c.args.variables m) (sym c.deref-in-loop-routine.ensures.value) c.in_ok-written.ensures in (
      (λ t. absurd (cc t)),
      (λ keep. absurd (both_ways _ c.if-not-calls_before.true (c.calls_before.ensures.1 (keeps_call c.args.own.now c.args.pools.now routines c.args.variables c.requires c.loop-routine.routine called written reached writes keep)))),
    )

pub loop-routine-preserved : goal.loop-routine-preserved
loop-routine-preserved c =
    let routines = c.args.routines.now in
    let called = c.deref.result.now in
    let written = c.deref-in-loop-routine.result.now in
    let reached = subst (AreReached instruction_calls routines c.loop-routine.routine) (sym c.deref.ensures.value) c.in_ok-called.ensures in
    let writes = subst (λ m. AreGiven (instruction_writes c.args.pools.now) routines called c.args.variables m) (sym c.deref-in-loop-routine.ensures.value) c.in_ok-written.ensures in
    calls_more c.args.own.now c.args.pools.now routines c.loop-routine.routine c.loop-routine.invariant
    (call_keeps c.args.own.now c.args.pools.now routines c.args.variables c.requires c.loop-routine.routine called written reached writes (c.calls_before.ensures.0 c.if-not-calls_before.false))

pub returns : goal.returns
returns c = ((λ t. calls_all c.args.own.now c.args.pools.now c.args.routines.now c.loop-routine.routine c.loop-routine-test.false c.loop-routine.invariant), (λ keep. refl))
