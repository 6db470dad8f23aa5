use Rattle.std.proofs.Common.{rules, is_lt}
use Rattle.std.proofs.lemmas.List.MinMax.{ranks_by}
use Rattle.std.proofs.lemmas.Fn.{always_returns_same}
use Rattle.lvish_names.specs.NameOrder.{name_cmp}
use Rattle.lvish_names.specs.laws.OrderLaws.{name_total}
use Rattle.lvish_board.proofs.parked.sort_by_task.Goals as goal

pub returns-clause-sorted : goal.returns-clause-sorted
returns-clause-sorted g c = c.sort_unstable_by.ensures.sorted (λ x y. is_lt (name_cmp g.P.Lat.Event.Ord.cmp x.task y.task)) (ranks_by (name_total g.met.P.Lat.Event.Ord.total) (λ p. p.task))
    (always_returns_same _ _ _ (λ a r after called. search rules))
