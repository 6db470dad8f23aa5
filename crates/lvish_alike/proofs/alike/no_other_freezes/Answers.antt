use Rattle.std.proofs.Common.{◌∙◌, refl, sym, subst}
use Rattle.lvish_alike.specs.Sought.{instruction_names, AreReached}
use Rattle.lvish_alike.proofs.Marks.{some_there, none_there, other_freezes, no_other_here, not_started, none_at_all}
use Rattle.lvish_alike.proofs.alike.no_other_freezes.Goals as goal
use Rattle.lvish_alike.proofs.alike.no_other_freezes.Goals.{then-is_some+in_ok-by_others+else-is_some-2, else-is_some}

pub returns-then-is_some-2 : goal.returns-then-is_some-2
returns-then-is_some-2 c =
    let start = some_there _ _ (sym c.is_some.ensures ∙ c.if-is_some.true) c.first.ensures.found in
    let freeze = some_there _ _ (sym c.is_some-then-is_some.ensures ∙ c.if-is_some-2.true) c.first-then-is_some.ensures.found in
    let reached = subst (AreReached instruction_names c.args.routines.now c.loop-place.place) (sym c.deref.ensures.value) c.in_ok-by_others.ensures in
    ((λ t. absurd (cc t)), (λ none. absurd (other_freezes c.args.routines.now c.args.marks.now c.loop-place.place c.deref.result.now reached start.0 freeze.0 start.1 freeze.1 none)))

pub loop-place-preserved : goal.loop-place-preserved
loop-place-preserved c = elim c.if-is_some.branch [
  | then-is_some+in_ok-by_others+else-is_some-2 w ↦
      let reached = subst (AreReached instruction_names c.args.routines.now c.loop-place.place) (sym w.deref.ensures.value) w.in_ok-by_others.ensures in
      no_other_here c.args.routines.now c.args.marks.now c.loop-place.place w.deref.result.now reached c.loop-place.invariant (none_there _ _ (sym w.is_some-then-is_some.ensures ∙ w.if-is_some-2.false) w.first-then-is_some.ensures.nowhere)
  | else-is_some w ↦ not_started c.args.routines.now c.args.marks.now c.loop-place.place c.loop-place.invariant (none_there _ _ (sym c.is_some.ensures ∙ w.if-is_some.false) c.first.ensures.nowhere)
]

pub returns : goal.returns
returns c =
    let all = none_at_all c.args.routines.now c.args.marks.now c.loop-place.place c.loop-place-test.false c.loop-place.invariant in
    ((λ t. all), (λ none. refl))
