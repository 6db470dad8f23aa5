use Rattle.std.proofs.Common.{refl}
use Rattle.lvish_core.proofs.Acts.{readied}
use Rattle.lvish_core.proofs.machine.Core.act.Goals as goal

pub put-requires-clause-acting : goal.put-requires-clause-acting
put-requires-clause-acting g c = readied c.requires.asked _ c.in-Put.is tt

pub fail-requires-clause-failing : goal.fail-requires-clause-failing
fail-requires-clause-failing g c = record { at = c.args.at; forks = c.args.numbers.forks; adds = c.args.numbers.adds; puts = c.args.numbers.puts; request = _; acting = readied c.requires.asked _ c.in-Fault.is tt; errs = (refl, refl) }
