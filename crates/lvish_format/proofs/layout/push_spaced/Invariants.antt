use Rattle.std.proofs.Common.{◌≡◌, ◌++◌, map, take}
use Rattle.lvish_script.specs.Canonical.{spaced}
use Rattle.lvish_format.proofs.layout.push_spaced.Given as goal

abbrev pub invariant-loop-word : goal.invariant-loop-word
invariant-loop-word l = l.text.items ≡ l.initial.text.items ++ spaced (map (λ w. w.now) (take l.word-index l.words))
