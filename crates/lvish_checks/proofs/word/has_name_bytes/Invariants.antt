use Rattle.std.proofs.Common.{◌≡◌, drop}
use Rattle.std.specs.List.{list_all}
use Rattle.lvish_syntax.specs.Words.{is_name_byte}
use Rattle.lvish_checks.proofs.word.has_name_bytes.Given as goal

abbrev pub invariant-loop-b : goal.invariant-loop-b
invariant-loop-b l = list_all is_name_byte (drop l.b-index l.word) ≡ list_all is_name_byte l.word
