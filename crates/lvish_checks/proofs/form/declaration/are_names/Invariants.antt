use Rattle.std.proofs.Common.{◌≡◌, drop}
use Rattle.std.specs.List.{list_all}
use Rattle.lvish_syntax.specs.Words.{is_name}
use Rattle.lvish_checks.proofs.form.declaration.are_names.Given as goal

abbrev pub invariant-loop-word : goal.invariant-loop-word
invariant-loop-word l = list_all (λ w. is_name w.now) (drop l.word-index l.words) ≡ list_all (λ w. is_name w.now) l.words
