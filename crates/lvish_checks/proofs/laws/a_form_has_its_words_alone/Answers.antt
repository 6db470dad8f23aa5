use Rattle.lvish_checks.proofs.Spelled.{its_words}
use Rattle.lvish_checks.proofs.laws.a_form_has_its_words_alone.Goals as goal

pub returns : goal.returns
returns c = its_words
