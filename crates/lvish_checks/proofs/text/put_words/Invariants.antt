use Rattle.std.proofs.Common.{◌≡◌, ◌++◌, length, map}
use Rattle.lvish_checks.specs.Text.{words_of}
use Rattle.lvish_checks.proofs.text.put_words.Given as goal

abbrev pub invariant-loop-rest : goal.invariant-loop-rest
invariant-loop-rest l = map (λ w. w.now) l.words.items ++ words_of l.rest ≡ words_of l.line

abbrev pub decreases-loop-rest : goal.decreases-loop-rest
decreases-loop-rest l = length l.rest
