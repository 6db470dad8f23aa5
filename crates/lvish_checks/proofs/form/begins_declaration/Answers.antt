use Rattle.std.proofs.Common.{◌==◌, ◌||◌, ◌∷◌, [], List, not, ap, ◌∙◌, arith}
use Rattle.std.specs.Prelude.{codes}
use Rattle.std.proofs.lemmas.Bool.Decides.{nat_tests}
use Rattle.lvish_syntax.specs.Words.{Word}
use Rattle.lvish_checks.proofs.Beginnings.{by_length}
use Rattle.lvish_checks.proofs.form.begins_declaration.Goals as goal

abbrev words : List Word
words = codes "cell" ∷ codes "set" ∷ codes "max" ∷ codes "map" ∷ codes "pair" ∷ codes "tally" ∷ codes "pool" ∷ codes "proc" ∷ []

pub returns-in-3 : goal.returns-in-3
returns-in-3 c = c.is_set_max_or_map.ensures ∙ by_length words (λ n. n == 3) c.args.word.now (ap (λ n. n == 3) c.in-3.is)

pub returns-in-4 : goal.returns-in-4
returns-in-4 c = c.is_cell_pair_pool_or_proc.ensures ∙ by_length words (λ n. n == 4) c.args.word.now (ap (λ n. n == 4) c.in-4.is)

pub returns-in_default : goal.returns-in_default
returns-in_default c = by_length words (λ n. not (n == 3 || n == 4 || n == 5)) c.args.word.now (grind (arith, nat_tests, c.in_default))
