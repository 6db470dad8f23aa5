use Rattle.std.proofs.Common.{◌≡◌, ◌≤◌, ℕ, false, map}
use Rattle.std.specs.List.{list_any}
use Rattle.lvish_checks.specs.Text.{is_foreign}
use Rattle.lvish_checks.specs.Checks.{on_line}
use Rattle.lvish_checks.proofs.check.not_ascii.first_not_ascii.Given as goal

abbrev pub invariant-loop-k : goal.invariant-loop-k
invariant-loop-k l = (m : ℕ) → m ≤ l.k → on_line (λ k line. list_any is_foreign line) (map (λ w. w.now) l.lines) m ≡ false
