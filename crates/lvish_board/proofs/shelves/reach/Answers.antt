use Rattle.std.proofs.Common.{is_ok, sym, subst}
use Rattle.lvish_calculus.specs.Handing.{IsAmong}
use Rattle.lvish_board.specs.Shelved.{list_at}
use Rattle.lvish_board.proofs.Shelving.{listed_pushed, listed_pushed_if}
use Rattle.lvish_board.proofs.shelves.reach.Goals as goal

pub loop-alloc-preserved : goal.loop-alloc-preserved
loop-alloc-preserved c = λ v x i. subst (λ ls. IsAmong x (list_at ls v)) (sym c.in_ok-push.ensures.items) (listed_pushed c.loop-alloc.lists.items c.new.result v x (c.loop-alloc.invariant v x i))

pub returns-in_err-push-clause-kept : goal.returns-in_err-push-clause-kept
returns-in_err-push-clause-kept c = λ v x i. subst (λ ls. IsAmong x (list_at ls v)) (sym c.push.ensures.items) (listed_pushed_if (is_ok c.push.result) c.loop-alloc.lists.items c.new.result v x (c.loop-alloc.invariant v x i))
