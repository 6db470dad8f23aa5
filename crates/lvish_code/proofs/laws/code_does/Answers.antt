use Rattle.lvish_code.specs.laws.Following.{does_here}
use Rattle.lvish_code.proofs.laws.code_does.Goals as goal

pub returns : goal.returns
returns c = does_here
