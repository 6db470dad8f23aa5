use Rattle.std.proofs.Common.{◌≡◌, ◌++◌}
use Rattle.lvish_format.specs.Format.{indent}
use Rattle.lvish_format.proofs.layout.push_indent.Given as goal

abbrev pub invariant-loop-block : goal.invariant-loop-block
invariant-loop-block l = l.text.items ≡ l.initial.text.items ++ indent l._block
