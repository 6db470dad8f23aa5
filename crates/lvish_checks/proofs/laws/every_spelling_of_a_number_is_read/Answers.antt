use Rattle.lvish_checks.proofs.Respelled.{same_form}
use Rattle.lvish_checks.proofs.laws.every_spelling_of_a_number_is_read.Goals as goal

pub returns : goal.returns
returns c = same_form
