use Rattle.std.proofs.Common.{◌≡◌, drop}
use Rattle.std.specs.List.{list_any}
use Rattle.lvish_checks.specs.Form.{is_bad_number}
use Rattle.lvish_checks.proofs.check.bad_number.has_bad_number.Given as goal

abbrev pub invariant-loop-word : goal.invariant-loop-word
invariant-loop-word l = list_any (λ w. is_bad_number w.now) (drop l.word-index l.words) ≡ list_any (λ w. is_bad_number w.now) l.words
