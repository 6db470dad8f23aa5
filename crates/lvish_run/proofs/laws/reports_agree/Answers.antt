use Rattle.lvish_run.proofs.AllAlike.{agree_all_alike}
use Rattle.lvish_run.proofs.OneScript.{agree_in_order, agree_one_asks, agree_no_error}
use Rattle.lvish_run.proofs.laws.reports_agree.Goals as goal

pub returns-clause-same_order : goal.returns-clause-same_order
returns-clause-same_order c = agree_in_order

pub returns-clause-one_asks : goal.returns-clause-one_asks
returns-clause-one_asks c = agree_one_asks

pub returns-clause-no_error : goal.returns-clause-no_error
returns-clause-no_error c = agree_no_error

pub returns-clause-all_alike : goal.returns-clause-all_alike
returns-clause-all_alike c = agree_all_alike
