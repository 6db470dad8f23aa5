use Rattle.std.proofs.lemmas.Result.{IfOk-weaker}
use Rattle.lvish_outcome.proofs.count.busiest.Goals as goal

pub returns : goal.returns
returns c = IfOk-weaker c.first_of.result _ _ (λ v e. record { falling = c.sort_falling.new.counts; sorted = c.sort_falling.ensures; first = e }) c.first_of.ensures
