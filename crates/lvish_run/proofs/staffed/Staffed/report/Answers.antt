use Rattle.lvish_run.proofs.Reports.{is_told}
use Rattle.lvish_run.proofs.staffed.Staffed.report.Goals as goal

pub returns-clause-told : goal.returns-clause-told
returns-clause-told g c = is_told _ _ _ _ c.report_of.result c.report_of.ensures.honest c.report_of.ensures.handed c.report_of.ensures.alike c.report_of.ensures.least c.report_of.ensures.closed
