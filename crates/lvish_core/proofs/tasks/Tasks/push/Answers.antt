use Rattle.lvish_names.specs.laws.OrderLaws.{name_equiv}
use Rattle.lvish_core.proofs.Indexing.{pushed_staged, pushed_sets, pushed_there}
use Rattle.lvish_core.proofs.tasks.Tasks.push.Goals as goal

pub invariant_of-self-2 : goal.invariant_of-self-2
invariant_of-self-2 g c = pushed_staged _ (name_equiv g.met.E.Eq.laws) _ _ _ _ c.self.invariant c.args.name c.args.stage (rw (← c.self.view_is) at c.requires.absent) _ _
    (rw c.in_ok-reserve.ensures.items at c.push_reserved.ensures.items) (rw c.in_ok-reserve-2.ensures.items at c.push_reserved-2.ensures.items)

pub returns-clause-set : goal.returns-clause-set
returns-clause-set g c = rw (← c.self.view_is)
    (pushed_sets _ (name_equiv g.met.E.Eq.laws) _ _ _ _ c.self.invariant c.args.name c.args.stage (rw (← c.self.view_is) at c.requires.absent) _ _
    (rw c.in_ok-reserve.ensures.items at c.push_reserved.ensures.items) (rw c.in_ok-reserve-2.ensures.items at c.push_reserved-2.ensures.items))

pub returns-clause-added : goal.returns-clause-added
returns-clause-added g c none = rw (← c.self.view_is)
    (pushed_there _ (name_equiv g.met.E.Eq.laws) _ _ _ _ c.self.invariant c.args.name c.args.stage (rw (← c.self.view_is) at c.requires.absent) _ _
    (rw c.in_ok-reserve.ensures.items at c.push_reserved.ensures.items) (rw c.in_ok-reserve-2.ensures.items at c.push_reserved-2.ensures.items))
