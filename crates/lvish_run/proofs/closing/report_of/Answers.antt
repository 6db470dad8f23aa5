use Rattle.std.proofs.Common.{rules, ◌≡◌, Err}
use Rattle.lvish_run.specs.declared.fault.RunFault.TheVariants.{Mixed}
use Rattle.lvish_run.proofs.Reports.{by_workers}
use Rattle.lvish_run.proofs.closing.report_of.Goals as goal

pub report_over-requires-clause-over : goal.report_over-requires-clause-over
report_over-requires-clause-over g c = c.in_ok-outcome.ensures.over

pub report_over-requires-clause-counts : goal.report_over-requires-clause-counts
report_over-requires-clause-counts g c = c.in_ok-outcome.ensures.counts

pub returns-clause-honest : goal.returns-clause-honest
returns-clause-honest g c = by_workers _ _ _ _ _ _ c.in_ok-outcome.ensures.workers c.in_ok-report_over.ensures.told.honest

pub returns-clause-handed : goal.returns-clause-handed
returns-clause-handed g c = c.in_ok-report_over.ensures.told.handed

pub returns-clause-alike : goal.returns-clause-alike
returns-clause-alike g c = c.in_ok-report_over.ensures.told.alike

pub returns-clause-least : goal.returns-clause-least
returns-clause-least g c = c.in_ok-report_over.ensures.told.least

pub returns-clause-closed : goal.returns-clause-closed
returns-clause-closed g c = c.in_ok-report_over.ensures.told.closed

pub returns-in_err-outcome-clause-mixed : goal.returns-in_err-outcome-clause-mixed
returns-in_err-outcome-clause-mixed g c same =
    let answered : c.looked_at.result ≡ Err Mixed = search rules in c.looked_at.ensures.mixed answered
