use Rattle.std.proofs.Common.{◌≡◌, length}
use Rattle.lvish_outcome.proofs.outcome.lines_of_steps.Given as goal

abbrev pub invariant-loop-step : goal.invariant-loop-step
invariant-loop-step l = length l.lines.items ≡ l.step-index
