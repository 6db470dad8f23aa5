use Rattle.std.proofs.Common.{◌≡◌, drop, List}
use Rattle.std.specs.List.{list_all}
use Rattle.lvish_syntax.specs.Words.{Word}
use Rattle.lvish_syntax.specs.Name.{is_known}
use Rattle.lvish_checks.specs.Known.{HaveSameNames}
use Rattle.lvish_checks.proofs.check.unknown_name.are_known.Given as goal

abbrev pub invariant-loop-term : goal.invariant-loop-term
invariant-loop-term l = (names : List Word) → HaveSameNames l.locals names → list_all (is_known names) (drop l.term-index l.terms) ≡ list_all (is_known names) l.terms
