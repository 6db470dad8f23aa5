use Rattle.crossbeam_deque.specs.Handles.{worker_view}
use Rattle.lvish_deal.proofs.Rules.{tells, drains, finds, drained}
use Rattle.lvish_deal.proofs.closing.drain.Goals as goal

pub len_as-requires : goal.len_as-requires
len_as-requires g c = tells _ _ c.requires.whole.port c.requires.whole.parts

pub pop_as-requires-clause-fifo : goal.pop_as-requires-clause-fifo
pop_as-requires-clause-fifo g c = λ _. drains _ _ c.loop-item.invariant.whole.port c.loop-item.invariant.whole.parts

pub pop_as-requires-clause-empty : goal.pop_as-requires-clause-empty
pop_as-requires-clause-empty g c = finds _ _ c.loop-item.invariant.whole.port c.loop-item.invariant.whole.parts

pub returns : goal.returns
returns g c =
    let found = c.len_as.ensures.rule in
    drained (worker_view c.args.own.now) (worker_view c.len_as.new.self) (worker_view c.loop-item.own) found.0 c.loop-item.left.items c.len_as.ensures.same.2 found.2 c.loop-item.invariant.rest c.in_default.ensures.rule.1
