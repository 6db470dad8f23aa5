use Rattle.std.proofs.Common.{ap, ◌∙◌}
use Rattle.lvish_calculus.specs.declared.label.Label.TheVariants.{Hand}
use Rattle.lvish_core.specs.Core.{IsNext}
use Rattle.lvish_board.proofs.Comes.{for_this}
use Rattle.lvish_board.proofs.Handing.{hand_open}
use Rattle.lvish_board.proofs.Steps.{kept_over, some_over}
use Rattle.lvish_board.proofs.board.Board.hand_no_more.Goals as goal

pub invariant_of-self : goal.invariant_of-self
invariant_of-self g c =
    let sound = c.self.invariant.2 in
    let none = ap (λ b. b.over) c.self.view_is ∙ c.requires.running in
    let next : IsNext g.P.Lat.Event.PartialEq.eq c.args.self.now.core.table c.in-Some.handler.now c.in-Some-next._event = c.in-Some-next.ensures in
    let can = hand_open _ (c.hands_one_event.ensures.open g.B.BoardBrand.program) _ _ _ sound none c.in-Some.handler.now c.in-Some-next._event (rw (← c.self.view_is) at next) in
    (c.self.invariant.0, c.self.invariant.1, kept_over _ sound (rw (← c.self.view_is) at c.requires.used, (Hand c.in-Some.handler.now c.in-Some-next._event, can)) (some_over _) sound.blocked sound.once, c.self.invariant.3, c.self.invariant.4)

pub returns-in_default-next-clause-came : goal.returns-in_default-next-clause-came
returns-in_default-next-clause-came g c = for_this _ _ _ c.in-Some.ensures.value c.idle.ensures
