use Rattle.lvish_compound.specs.contracts.event.EventOrd.TheImpl.Laws.{total-law}
use Rattle.lvish_run.proofs.Ending.{without_end, with_end}
use Rattle.lvish_run.proofs.ends.end_without_picks.Goals as goal

pub returns-in-Ended : goal.returns-in-Ended
returns-in-Ended c = with_end c.args.script.now c.args.budget total-law c.in_ok-report.report c.in_ok-report.ensures c.in-Ended.is

pub returns-in-Error : goal.returns-in-Error
returns-in-Error c = without_end c.args.script.now c.args.budget total-law c.in_ok-report.report c.in_ok-report.ensures (λ e. cc)

pub returns : goal.returns
returns c = without_end c.args.script.now c.args.budget total-law c.in_ok-report.report c.in_ok-report.ensures (λ e. cc)
