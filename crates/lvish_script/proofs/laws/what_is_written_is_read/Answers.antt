use Rattle.lvish_script.proofs.Round.{said_again, spelled_again}
use Rattle.lvish_script.proofs.laws.what_is_written_is_read.Goals as goal

pub returns-clause-said : goal.returns-clause-said
returns-clause-said c = said_again

pub returns-clause-spells : goal.returns-clause-spells
returns-clause-spells c = spelled_again
