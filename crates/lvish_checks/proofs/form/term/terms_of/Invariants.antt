use Rattle.std.proofs.Common.{◌≡◌, ◌++◌, map, drop}
use Rattle.std.specs.Option.{option_map}
use Rattle.lvish_checks.specs.Form.{terms_of}
use Rattle.lvish_checks.proofs.form.term.terms_of.Given as goal

abbrev pub invariant-loop-word : goal.invariant-loop-word
invariant-loop-word l = option_map (λ xs. l.terms.items ++ xs) (terms_of (map (λ w. w.now) (drop l.word-index l.words))) ≡ terms_of (map (λ w. w.now) l.words)
