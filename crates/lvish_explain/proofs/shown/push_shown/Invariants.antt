use Rattle.std.proofs.Common.{◌≡◌, ◌++◌, map, take}
use Rattle.lvish_explain.specs.Text.{shown_byte}
use Rattle.lvish_explain.proofs.shown.push_shown.Given as goal

abbrev pub invariant-loop-b : goal.invariant-loop-b
invariant-loop-b l = l.text.items ≡ l.initial.text.items ++ map shown_byte (take l.b-index l.bytes)
