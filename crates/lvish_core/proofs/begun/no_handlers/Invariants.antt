use Rattle.std.proofs.Common.{◌≡◌, [], replicate}
use Rattle.lvish_core.proofs.begun.no_handlers.Given as goal

abbrev pub invariant-loop-variable : goal.invariant-loop-variable
invariant-loop-variable g l = l.handlers.items ≡ replicate l._variable (record { held = []; running = replicate l.pools 0 })
