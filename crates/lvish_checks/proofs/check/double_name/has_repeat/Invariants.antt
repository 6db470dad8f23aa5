use Rattle.std.proofs.Common.{◌≡◌, false, take}
use Rattle.lvish_syntax.specs.Name.{has_repeat}
use Rattle.lvish_checks.specs.Known.{HaveSameNames}
use Rattle.lvish_checks.proofs.check.double_name.has_repeat.Given as goal

abbrev pub invariant-loop-name : goal.invariant-loop-name
invariant-loop-name l = record {
  same : HaveSameNames l.seen (take l.name-index l.names);
  apart : has_repeat (take l.name-index l.names) ≡ false;
}
