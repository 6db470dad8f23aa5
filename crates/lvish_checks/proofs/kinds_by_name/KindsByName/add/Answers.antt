use Rattle.std.proofs.lemmas.Result.{on_ok_weaker}
use Rattle.lvish_checks.proofs.Scans.{kind_more, kinds_past_pool, of_pool_more, of_pools_past_variable}
use Rattle.lvish_checks.proofs.kinds_by_name.KindsByName.add.Goals as goal

pub returns-in-Variable-clause-variables : goal.returns-in-Variable-clause-variables
returns-in-Variable-clause-variables c = λ before known. on_ok_weaker c.add.result (λ e. rw c.in-Variable.is (kind_more c.args.self.now.variables c.add.new.self _ _ before e known)) c.add.ensures.added

pub returns-in-Variable-clause-pools : goal.returns-in-Variable-clause-pools
returns-in-Variable-clause-pools c = λ before known. on_ok_weaker c.add.result (λ e. rw c.in-Variable.is (of_pools_past_variable c.args.self.now.pools _ _ before known)) c.add.ensures.added

pub returns-in-Pool-clause-variables : goal.returns-in-Pool-clause-variables
returns-in-Pool-clause-variables c = λ before known. on_ok_weaker c.add-in-Pool.result (λ e. rw c.in-Pool.is (kinds_past_pool c.args.self.now.variables _ _ before known)) c.add-in-Pool.ensures.added

pub returns-in-Pool-clause-pools : goal.returns-in-Pool-clause-pools
returns-in-Pool-clause-pools c = λ before known. on_ok_weaker c.add-in-Pool.result (λ e. rw (c.in-Pool.is, ← c.as_str.ensures) (of_pool_more c.args.self.now.pools c.add-in-Pool.new.self _ c.as_str.result before e known)) c.add-in-Pool.ensures.added
