use Rattle.std.proofs.Common.{◌≡◌, ◌++◌, take, map}
use Rattle.std.specs.Prelude.{string_bytes}
use Rattle.lvish_checks.specs.Spelling.{term_word}
use Rattle.lvish_script.specs.Canonical.{spaced}
use Rattle.lvish_script.proofs.write_line.write_terms.Given as goal

abbrev pub invariant-loop-item : goal.invariant-loop-item
invariant-loop-item l = string_bytes l.text ≡ string_bytes l.initial.text ++ spaced (map term_word (take l.item-index l.terms))
