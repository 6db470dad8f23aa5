use Rattle.std.proofs.Common.{sym, subst}
use Rattle.std.specs.List.Sorted.{IsStrictlySortedBy}
use Rattle.lvish_names.specs.NameOrder.{name_cmp}
use Rattle.lvish_board.specs.Board.{tasks_of}
use Rattle.lvish_board.proofs.Those.{nothing_sorted}
use Rattle.lvish_board.proofs.parked.Parked.wake.Goals as goal

pub returns-then-len-eq0-clause-by_name : goal.returns-then-len-eq0-clause-by_name
returns-then-len-eq0-clause-by_name g c = subst (λ ps. IsStrictlySortedBy (name_cmp g.P.Lat.Event.Ord.cmp) (tasks_of ps)) (sym c.requires.empty) (nothing_sorted _)

pub returns-then-not-may_wake-clause-by_name : goal.returns-then-not-may_wake-clause-by_name
returns-then-not-may_wake-clause-by_name g c = subst (λ ps. IsStrictlySortedBy (name_cmp g.P.Lat.Event.Ord.cmp) (tasks_of ps)) (sym c.requires.empty) (nothing_sorted _)
