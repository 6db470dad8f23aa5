use Rattle.lvish_names.specs.laws.OrderLaws.{name_equiv}
use Rattle.lvish_core.proofs.Indexing.{none_at, written_sets, written_staged}
use Rattle.lvish_core.proofs.tasks.Tasks.replace_at.Goals as goal
use Rattle.lvish_core.proofs.tasks.Tasks.replace_at.Goals.{in-Some, in_default}

pub invariant_of-self : goal.invariant_of-self
invariant_of-self g c = elim c.match-get_mut.branch [
  | in-Some w ↦ rw w.self-inside-is (written_staged _ (name_equiv g.met.E.Eq.laws) _ _ _ _ c.self.invariant c.args.index c.args.stage)
  | in_default w ↦ rw w.self-inside-is c.self.invariant
]

pub returns : goal.returns
returns g c t at = elim c.match-get_mut.branch [
  | in-Some w ↦ rw (w.self-inside-is, ← c.self.view_is)
      (written_sets _ (name_equiv g.met.E.Eq.laws) _ _ _ _ c.self.invariant c.args.index c.args.stage t (rw (← c.self.view_is) at at))
  | in_default w ↦ absurd (none_at _ (name_equiv g.met.E.Eq.laws) _ _ _ _ c.self.invariant c.args.index w.in_default.ensures.item.3 t (rw (← c.self.view_is) at at))
]
