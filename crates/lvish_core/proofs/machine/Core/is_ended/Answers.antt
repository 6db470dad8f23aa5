use Rattle.std.proofs.Common.{sym, ◌∙◌}
use Rattle.std.proofs.lemmas.Bool.{both_ways, false≢true}
use Rattle.std.proofs.lemmas.Result.{IfOk-weaker}
use Rattle.lvish_core.proofs.Ended.{error_is_no_end, ended_is, ended_by_tasks}
use Rattle.lvish_core.proofs.machine.Core.is_ended.Goals as goal
use Rattle.lvish_core.proofs.machine.Core.is_ended.Goals.{then-is_some-via-then-is_some, then-is_some-via-else-is_some+then-not-is_drained}

pub returns-then-is_some : goal.returns-then-is_some
returns-then-is_some g c = elim c.then-is_some.branch [
  | then-is_some-via-then-is_some w ↦ rw (← c.self.view_is) (
    λ z. absurd (false≢true z),
    λ z. absurd (error_is_no_end _ _ _ _ _ c.self.invariant (sym c.is_some.ensures ∙ w.if-is_some.true) z),
  )
  | then-is_some-via-else-is_some+then-not-is_drained w ↦
      let drained = rw (← c.self.view_is) at w.is_drained.ensures in
      rw (← c.self.view_is) (
        λ z. absurd (false≢true z),
        λ z. absurd (both_ways _ w.if-not-is_drained.true (drained.1 ((ended_is _ _ _ _ _ c.self.invariant (sym c.is_some.ensures ∙ w.if-is_some.false) (c.ends_by_cursors.ensures c.self.inside.program.now)).0 z).1)),
      )
]

pub returns : goal.returns
returns g c =
    let drained = rw (← c.self.view_is) at (c.is_drained.ensures.0 c.if-not-is_drained.false) in
    let blocked = rw (← c.self.view_is) at c.are_all_blocked.ensures in
    rw (← c.self.view_is)
    (IfOk-weaker c.are_all_blocked.result _ _ (λ b is. ended_by_tasks _ _ _ _ _ c.self.invariant (sym c.is_some.ensures ∙ c.if-is_some.false) (c.ends_by_cursors.ensures c.self.inside.program.now) drained b is) blocked)
