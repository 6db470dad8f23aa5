use Rattle.lvish_code.specs.laws.Following.{follows_start}
use Rattle.lvish_code.proofs.laws.code_follows.Goals as goal

pub returns : goal.returns
returns c = follows_start
