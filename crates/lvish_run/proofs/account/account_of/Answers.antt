use Rattle.lvish_run.proofs.Accounts.{account}
use Rattle.lvish_run.proofs.account.account_of.Goals as goal

pub returns-in_ok-states-in-Ended-clause-account : goal.returns-in_ok-states-in-Ended-clause-account
returns-in_ok-states-in-Ended-clause-account g c = account _ _ c.args.core _ _ _ c.args.outcome c.in-Ended.is c.into_parts-variables.ensures.states c.in_ok-states-in-Ended.ensures c.running-blocked.ensures
