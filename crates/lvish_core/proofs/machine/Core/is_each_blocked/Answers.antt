use Rattle.std.proofs.Common.{◌+◌, ◌<◌, ◌≤◌, [], ap, arith, drop, drop_of_length-le, length, refl}
use Rattle.std.proofs.lemmas.Bool.{both_ways, false≢true}
use Rattle.std.proofs.lemmas.List.{length-map}
use Rattle.lvish_names.specs.laws.OrderLaws.{name_equiv}
use Rattle.lvish_core.specs.Tasks.{standing}
use Rattle.lvish_core.proofs.Listing.{none_listed, one_passed}
use Rattle.lvish_core.proofs.Listed.{each_task}
use Rattle.lvish_core.proofs.Ended.{none_listed_ready, ready_there}
use Rattle.lvish_core.proofs.Indexing.{first_left}
use Rattle.lvish_core.proofs.machine.Core.is_each_blocked.Goals as goal

pub loop-stage-init : goal.loop-stage-init
loop-stage-init g c =
    rw (← c.self.view_is) (record {
      each = each_task _ (c.lawful.ensures c.self.inside.program.now).event_same_is (name_equiv g.met.P.Lat.Event.Eq.laws).symm c.self.inside.tasks c.stages-stage-items.ensures.once;
      listed = none_listed _ c.self.inside.tasks [];
    })

pub loop-stage-preserved : goal.loop-stage-preserved
loop-stage-preserved g c =
    let stage = c.stage-item.result in
    let long : c.loop-stage.stage-index < length c.stages-stage-items.result.now = omega (arith, c.loop-stage-test.true, c.loop-stage.auto.stage-index-end) in
    let first = first_left c.self.inside.tasks c.stages-stage-items.result.now c.stages-stage-items.ensures.all c.loop-stage.stage-index stage c.stage-item.is long in
    let each = rw (← c.self.view_is, first.1) at c.loop-stage.invariant.each in
    let so_far = rw (← c.self.view_is, first.1) at c.loop-stage.invariant.listed in
    let ready = rw (← c.self.view_is) at c.in_ok-is_at_ready.ensures in
    rw (← c.self.view_is) (record {
      each = each.1;
      listed = one_passed _ _ (first.0, standing stage) (drop (c.loop-stage.stage-index + 1) c.self.inside.tasks) [] [] so_far (λ l z. both_ways _ c.if-branch.false (ready.1 z.1));
    })

pub returns-then-branch : goal.returns-then-branch
returns-then-branch g c =
    let stage = c.stage-item.result in
    let long : c.loop-stage.stage-index < length c.stages-stage-items.result.now = omega (arith, c.loop-stage-test.true, c.loop-stage.auto.stage-index-end) in
    let first = first_left c.self.inside.tasks c.stages-stage-items.result.now c.stages-stage-items.ensures.all c.loop-stage.stage-index stage c.stage-item.is long in
    let each = rw (← c.self.view_is, first.1) at c.loop-stage.invariant.each in
    let ready = rw (← c.self.view_is) at (c.in_ok-is_at_ready.ensures.0 c.if-branch.true) in
    rw (← c.self.view_is) (λ z. absurd (false≢true z), λ none. absurd (ready_there _ _ _ _ _ c.self.invariant first.0 (standing stage) each.0 ready none))

pub returns : goal.returns
returns g c =
    let so_far = rw (← c.self.view_is) at c.loop-stage.invariant.listed in
    let past : length c.self.inside.tasks ≤ c.loop-stage.stage-index = omega (arith, c.loop-stage-test.false, ap length c.stages-stage-items.ensures.all, length-map c.stages-stage-items.result.now (λ s. standing s), length-map c.self.inside.tasks (λ e. e.1)) in
    rw (← c.self.view_is) (
      λ z. none_listed_ready _ _ _ _ _ c.self.invariant (c.lawful.ensures c.self.inside.program.now) (drop c.loop-stage.stage-index c.self.inside.tasks) so_far (drop_of_length-le c.self.inside.tasks past),
      λ z. refl,
    )
