use Rattle.std.proofs.Common.{◌≡◌, ◌∙◌, get_or, refl, rules}
use mir.Syntax.{w64}
use mir.Val.{SFits, to_z, of_z}
use Rattle.std.proofs.lemmas.Int.{to_z-of_z}
use Rattle.lvish_compound.specs.declared.event.Event.{Event}
use Rattle.lvish_task.proofs.ByNumbers.{alike_more, alike_all, told_kind}
use Rattle.lvish_task.proofs.remaining.Shared.of.Goals as goal

pub loop-event-preserved : goal.loop-event-preserved
loop-event-preserved c =
    let e : Event = get_or c.deref-event-items.result.now c.loop-event.event-index _ in
    let number_fits : SFits w64 e.number = search rules in
    let same_key : e.key ≡ to_z w64 (of_z w64 c.args.first.key) = search rules in
    alike_more _ _ _ _ _ c.loop-event.invariant _ _ _ c.loop-event-test.true same_key (told_kind _ _ c.if-ne.ensures) (to_z-of_z w64 e.number number_fits) c.in_ok-push.ensures.items

pub returns : goal.returns
returns c = alike_all _ _ _ _ _ c.loop-event.invariant _ c.loop-event-test.false refl ∙ c.deref-event-items.ensures.value
