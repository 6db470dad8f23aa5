use Rattle.lvish_cli.specs.Streams.{text_seen}
use Rattle.lvish_cli.proofs.reading.read_text.Goals as goal

pub returns-clause-given : goal.returns-clause-given
unfolding text_seen
returns-clause-given g c = c.read_up_to.ensures.given
