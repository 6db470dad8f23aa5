use Rattle.std.proofs.lemmas.Result.{IfOk-weaker}
use Rattle.lvish_facts.proofs.Ranks.{set_rises, set_has}
use Rattle.lvish_facts.proofs.sorting.sorted.Goals as goal

pub returns-clause-rising : goal.returns-clause-rising
returns-clause-rising c = IfOk-weaker c.listed.result _ _ (λ v same. set_rises c.args.names.now v.items c.in_ok-set.set c.in_ok-set.ensures same) c.listed.ensures

pub returns-clause-same : goal.returns-clause-same
returns-clause-same c = IfOk-weaker c.listed.result _ _ (λ v same. set_has c.args.names.now v.items c.in_ok-set.set c.in_ok-set.ensures same) c.listed.ensures
