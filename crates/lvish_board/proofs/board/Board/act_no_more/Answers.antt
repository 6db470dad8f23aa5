use Rattle.std.proofs.Common.{true≢false, sym, ◌∙◌}
use Rattle.lvish_calculus.specs.declared.label.Label.TheVariants.{Act}
use Rattle.lvish_board.proofs.Comes.{for_this}
use Rattle.lvish_board.proofs.Steps.{kept_over, some_over}
use Rattle.lvish_board.proofs.board.Board.act_no_more.Goals as goal

pub invariant_of-self : goal.invariant_of-self
invariant_of-self g c =
    let sound = c.self.invariant.2 in
    let can = rw (← c.self.view_is) at (c.can_go_on.ensures.0 c.if-not-can_go_on.false) in
    let can_here = rw sound.program_is at can in
    (c.self.invariant.0, c.self.invariant.1, kept_over _ sound (rw (← c.self.view_is) at c.requires.used, (Act c.in-Some.asked.now.task, can_here)) (some_over _) sound.blocked sound.once, c.self.invariant.3, c.self.invariant.4)

pub park-requires-clause-blocked : goal.park-requires-clause-blocked
park-requires-clause-blocked g c = for_this _ _ _ c.in-Some.ensures.value (λ can. true≢false (sym (c.can_go_on.ensures.1 can) ∙ c.if-not-can_go_on.true))

pub returns-then-not-can_go_on : goal.returns-then-not-can_go_on
returns-then-not-can_go_on g c = c.park.ensures
