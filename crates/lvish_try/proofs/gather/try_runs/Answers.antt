use Rattle.lvish_try.proofs.Gathering.{are_shown}
use Rattle.lvish_try.proofs.gather.try_runs.Goals as goal

pub returns-clause-shown : goal.returns-clause-shown
returns-clause-shown c = rw (c.new.ensures) (are_shown c.args.script.now c.args.seed c.args.budget c.args.times c.in_ok-found.found.items c.in_ok-found.ensures)
