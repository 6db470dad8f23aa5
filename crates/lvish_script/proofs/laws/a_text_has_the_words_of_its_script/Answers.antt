use Rattle.lvish_script.proofs.Worded.{its_scripts_words}
use Rattle.lvish_script.proofs.laws.a_text_has_the_words_of_its_script.Goals as goal

pub returns : goal.returns
returns c = its_scripts_words
