use Rattle.lvish_again.proofs.MadeAgain.{again}
use Rattle.lvish_again.proofs.laws.made_again.Goals as goal

pub returns : goal.returns
returns c = λ s picks b r q is picked run. again s picks b r q is picked run
