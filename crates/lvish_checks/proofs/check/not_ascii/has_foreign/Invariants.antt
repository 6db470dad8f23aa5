use Rattle.std.proofs.Common.{◌≡◌, drop}
use Rattle.std.specs.List.{list_any}
use Rattle.lvish_checks.specs.Text.{is_foreign}
use Rattle.lvish_checks.proofs.check.not_ascii.has_foreign.Given as goal

abbrev pub invariant-loop-b : goal.invariant-loop-b
invariant-loop-b l = list_any is_foreign (drop l.b-index l.line) ≡ list_any is_foreign l.line
