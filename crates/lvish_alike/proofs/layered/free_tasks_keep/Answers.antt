use Rattle.std.proofs.Common.{sym, subst}
use Rattle.lvish_alike.specs.Sought.{instruction_calls, instruction_forks, AreReached}
use Rattle.lvish_alike.specs.Deciding.{AreWritten}
use Rattle.lvish_alike.proofs.Written.{free_none, none_free}
use Rattle.lvish_alike.proofs.layered.free_tasks_keep.Goals as goal

pub returns : goal.returns
returns c =
    let own = c.args.own.now in
    let pools = c.args.pools.now in
    let routines = c.args.routines.now in
    let runs = c.deref.result.now in
    let written = c.deref-2.result.now in
    let reached = subst (AreReached instruction_calls routines c.args.main) (sym c.deref.ensures.value) c.in_ok-runs.ensures in
    let writes = subst (λ m. AreWritten instruction_forks pools routines runs c.args.variables m) (sym c.deref-2.ensures.value) c.in_ok-written.ensures in (
      (λ t. free_none own pools c.args.main routines c.args.variables c.requires.known runs written reached writes (c.freezes_none.ensures.0 t)),
      (λ keep. c.freezes_none.ensures.1 (none_free own pools c.args.main routines c.args.variables c.requires.known runs written reached writes keep)),
    )
