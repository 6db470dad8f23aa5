use Rattle.std.proofs.Common.{◌==◌, ◌||◌, ◌∷◌, [], List, not, ap, ◌∙◌, arith}
use Rattle.std.specs.Prelude.{codes}
use Rattle.std.proofs.lemmas.Bool.Decides.{nat_tests}
use Rattle.lvish_syntax.specs.Words.{Word}
use Rattle.lvish_checks.proofs.Beginnings.{by_length}
use Rattle.lvish_checks.proofs.form.begins_command.Goals as goal

abbrev words : List Word
words = codes "let" ∷ codes "put" ∷ codes "get" ∷ codes "fork" ∷ codes "call" ∷ codes "handle" ∷ codes "freeze" ∷ []

pub returns-in-3 : goal.returns-in-3
returns-in-3 c = c.is_let_put_or_get.ensures ∙ by_length words (λ n. n == 3) c.args.word.now (ap (λ n. n == 3) c.in-3.is)

pub returns-in-4 : goal.returns-in-4
returns-in-4 c = c.is_fork_or_call.ensures ∙ by_length words (λ n. n == 4) c.args.word.now (ap (λ n. n == 4) c.in-4.is)

pub returns-in-6 : goal.returns-in-6
returns-in-6 c = c.is_handle_or_freeze.ensures ∙ by_length words (λ n. n == 6) c.args.word.now (ap (λ n. n == 6) c.in-6.is)

pub returns-in_default : goal.returns-in_default
returns-in_default c = by_length words (λ n. not (n == 3 || n == 4 || n == 6)) c.args.word.now (grind (arith, nat_tests, c.in_default))
