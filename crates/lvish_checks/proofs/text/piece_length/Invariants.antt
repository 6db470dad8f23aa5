use Rattle.std.proofs.Common.{◌≡◌, ℕ, ◌<◌, false, get_or}
use Rattle.lvish_checks.specs.Text.{is_separator}
use Rattle.lvish_checks.proofs.text.piece_length.Given as goal

abbrev pub invariant-loop-at : goal.invariant-loop-at
invariant-loop-at l = (k : ℕ) → k < l.at → is_separator (get_or l.line k 0) ≡ false
