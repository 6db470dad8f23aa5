use Rattle.std.proofs.Common.{inl, inr}
use Rattle.lvish_core.proofs.Errors.{refused_fails}
use Rattle.lvish_core.proofs.machine.Core.refuse.Goals as goal
use Rattle.lvish_core.proofs.machine.Core.refuse.Goals.{in-Conflict, in-Frozen}

pub fail-requires-clause-failing : goal.fail-requires-clause-failing
fail-requires-clause-failing g c =
    refused_fails c.requires.refused (elim c.match-refused.branch [
      | in-Conflict w ↦ inl (w.in-Conflict.is, w.kind-is)
      | in-Frozen w ↦ inr (w.in-Frozen.is, w.kind-is)
    ])
