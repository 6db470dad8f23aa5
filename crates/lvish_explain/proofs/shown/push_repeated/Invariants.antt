use Rattle.std.proofs.Common.{◌≡◌, ◌++◌}
use Rattle.std.specs.Prelude.{replicate}
use Rattle.lvish_explain.proofs.shown.push_repeated.Given as goal

abbrev pub invariant-loop-time : goal.invariant-loop-time
invariant-loop-time l = l.text.items ≡ l.initial.text.items ++ replicate l._time l.byte
