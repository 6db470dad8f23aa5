use Rattle.std.proofs.Common.{refl, sym, subst, arith}
use Rattle.std.proofs.lemmas.Bool.{both_ways}
use Rattle.lvish_alike.specs.Sought.{instruction_names, instruction_handles, AreReached}
use Rattle.lvish_alike.specs.Deciding.{AreWritten}
use Rattle.lvish_alike.proofs.Written.{pools_more, pools_all, pool_keeps, keeps_pool}
use Rattle.lvish_alike.proofs.layered.pools_keep.Goals as goal

pub loop-pool-init : goal.loop-pool-init
loop-pool-init c = λ p lt. absurd (omega (arith, lt))

pub returns-then-not-waits_in_time : goal.returns-then-not-waits_in_time
returns-then-not-waits_in_time c =
    let routines = c.args.routines.now in
    let can = c.deref.result.now in
    let written = c.deref-in-loop-pool.result.now in
    let reached = subst (AreReached instruction_names routines c.args.main) (sym c.deref.ensures.value) c.in_ok-can.ensures in
    let writes = subst (λ m. AreWritten (instruction_handles c.loop-pool.pool) c.args.pools.now routines can c.args.variables m) (sym c.deref-in-loop-pool.ensures.value) c.in_ok-written.ensures in (
      (λ t. absurd (cc t)),
      (λ keep. absurd (both_ways _ c.if-not-waits_in_time.true (c.waits_in_time.ensures.1 (keeps_pool c.args.own.now c.args.pools.now c.args.main routines c.args.variables c.requires.known c.loop-pool.pool can written reached writes keep)))),
    )

pub loop-pool-preserved : goal.loop-pool-preserved
loop-pool-preserved c =
    let routines = c.args.routines.now in
    let can = c.deref.result.now in
    let written = c.deref-in-loop-pool.result.now in
    let reached = subst (AreReached instruction_names routines c.args.main) (sym c.deref.ensures.value) c.in_ok-can.ensures in
    let writes = subst (λ m. AreWritten (instruction_handles c.loop-pool.pool) c.args.pools.now routines can c.args.variables m) (sym c.deref-in-loop-pool.ensures.value) c.in_ok-written.ensures in
    pools_more c.args.own.now c.args.pools.now c.args.main routines c.loop-pool.pool c.loop-pool.invariant
    (pool_keeps c.args.own.now c.args.pools.now c.args.main routines c.args.variables c.requires.known c.loop-pool.pool can written reached writes (c.waits_in_time.ensures.0 c.if-not-waits_in_time.false))

pub returns : goal.returns
returns c = ((λ t. pools_all c.args.own.now c.args.pools.now c.args.main c.args.routines.now c.loop-pool.pool c.loop-pool-test.false c.requires.listed c.loop-pool.invariant), (λ keep. refl))
