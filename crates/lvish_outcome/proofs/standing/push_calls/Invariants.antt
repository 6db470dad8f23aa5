use Rattle.std.proofs.Common.{take}
use Rattle.std.specs.List.{flat_map}
use Rattle.lvish_explain.specs.Draft.{Adds}
use Rattle.lvish_outcome.specs.Standing.{called_line}
use Rattle.lvish_outcome.proofs.standing.push_calls.Given as goal

abbrev pub invariant-loop-call : goal.invariant-loop-call
invariant-loop-call l = Adds l.initial.text l.text (flat_map called_line (take l.call-index l.calls))
