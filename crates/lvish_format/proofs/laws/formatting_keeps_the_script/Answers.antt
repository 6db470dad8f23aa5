use Rattle.lvish_format.proofs.Kept.{spell_the_same}
use Rattle.lvish_format.proofs.laws.formatting_keeps_the_script.Goals as goal

pub returns : goal.returns
returns c = spell_the_same
