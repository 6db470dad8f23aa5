use Rattle.lvish_try.proofs.Gathering.{all_one}
use Rattle.lvish_try.proofs.laws.agreeing_runs_tell_the_same.Goals as goal

pub returns : goal.returns
returns c = λ s times seed b t h few j k r q. all_one s seed b times t.found h.found few j k r q
