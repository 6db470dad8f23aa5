use Rattle.std.proofs.Common.{◌≡◌, ◌+◌, ◌<◌, ◌≤◌, [], ◌∷◌, refl, length, drop, get_or, sym, ap, ◌∙◌, arith, Bor, drop_of_length-le}
use Rattle.std.proofs.lemmas.List.{at_drop_more}
use Rattle.std.specs.Map.Iter.{deref_pair}
use Rattle.std.proofs.lemmas.Map.Iter.{rest_all, rest_more}
use Rattle.std.proofs.lemmas.Bool.{both_ways}
use Rattle.lvish_names.specs.laws.OrderLaws.{name_ties, name_equiv, handler_ties, handler_equiv}
use Rattle.lvish_core.specs.Tasks.{standing, standings, entries_at}
use Rattle.lvish_core.proofs.Ready.{there, beside}
use Rattle.lvish_core.proofs.Seated.{placed, next_there}
use Rattle.lvish_core.proofs.Listing.{none_listed, one_listed, one_passed, all_listed}
use Rattle.lvish_core.proofs.Listed.{each_in_order, each_place, no_labels, are_labels}
use Rattle.lvish_core.proofs.machine.Core.labels.Goals as goal
use Rattle.lvish_core.proofs.machine.Core.labels.Goals.{then-branch+in_ok-copy+in_ok-push, else-branch}

pub returns-then-is_some : goal.returns-then-is_some
returns-then-is_some g c = rw (← c.self.view_is, c.new-labels.ensures.items)
    (no_labels _ _ _ _ _ c.self.invariant (c.lawful.ensures c.self.inside.program.now) (c.handlers_are_held.ensures.posts c.self.inside.program.now) g.P.Lat.Event.Ord.cmp (sym c.is_some.ensures ∙ c.if-is_some.true))

pub loop-entry-init : goal.loop-entry-init
loop-entry-init g c = rw (c.new-labels.ensures.items) (none_listed _ _ [])

pub loop-entry-preserved : goal.loop-entry-preserved
loop-entry-preserved g c =
    let entry = c.entry-item.result in
    let long : c.loop-entry.entry-index < length c.deref-entry-items.result.now = omega (arith, c.loop-entry-test.true, c.loop-entry.auto.entry-index-end) in
    let first : standings (entries_at (drop c.loop-entry.entry-index c.deref-entry-items.result.now)) ≡ standings (entries_at (get_or c.deref-entry-items.result.now c.loop-entry.entry-index entry ∷ drop (c.loop-entry.entry-index + 1) c.deref-entry-items.result.now)) =
    at_drop_more (λ xs. standings (entries_at xs)) c.deref-entry-items.result.now c.loop-entry.entry-index entry long in
    let more = first ∙ ap (λ (r : Bor _ × Bor _). standings (entries_at (r ∷ drop (c.loop-entry.entry-index + 1) c.deref-entry-items.result.now))) (sym c.entry-item.is) in
    let so_far = rw (← c.self.view_is) at c.loop-entry.invariant in
    let left = rw more at so_far in
    let ready = rw (← c.self.view_is) at c.in_ok-is_at_ready.ensures in
    elim c.if-branch.branch [
      | then-branch+in_ok-copy+in_ok-push w ↦ rw (← c.self.view_is, w.labels-is, w.in_ok-push.ensures.items, w.in_ok-copy.ensures)
          (one_listed _ _ (entry.0.now, standing entry.1.now) (standings (entries_at (drop (c.loop-entry.entry-index + 1) c.deref-entry-items.result.now))) [] c.loop-entry.labels.items left _ (refl, ready.0 w.if-branch.true))
      | else-branch w ↦ rw (← c.self.view_is, w.labels-is)
          (one_passed _ _ (entry.0.now, standing entry.1.now) (standings (entries_at (drop (c.loop-entry.entry-index + 1) c.deref-entry-items.result.now))) [] c.loop-entry.labels.items left (λ l z. both_ways _ w.if-branch.false (ready.1 z.1)))
    ]

pub loop-handler-init : goal.loop-handler-init
loop-handler-init g c =
    let it = c.into_iter-handler-iterator.ensures.into_iter_gives ∙ c.iter-handler-items.ensures.all in
    rw it (record {
      each = each_place _ (c.lawful.ensures c.self.inside.program.now).event_same_is g.P.Lat.Event.Ord.cmp (handler_equiv g.met.P.Lat.Event.Eq.laws).symm (handler_ties g.P.Lat.Event.Ord.cmp g.met.P.Lat.Event.Ord.matches_eq) c.self.inside.places c.iter-handler-items.ensures.ascending;
      listed = rw (← c.self.view_is) (none_listed _ c.self.inside.places c.loop-entry.labels.items);
    })

pub index-variable-requires : goal.index-variable-requires
index-variable-requires g c =
    let more = rest_more deref_pair _ _ _ (c.in-Some.handler, c.in-Some.place) c.in-Some.is c.next.ensures.steps in
    let each = rw more at c.loop-handler.invariant.each in
    let lt = placed _ _ _ _ _ c.self.invariant (g.met.P.Program.lawful c.self.inside.program.now).known c.in-Some.handler.now c.in-Some.place.now each.0 in
    omega (arith, lt, c.self.invariant.there, c.self.inside.variables.ok.0)

pub index-requires : goal.index-requires
index-requires g c =
    let more = rest_more deref_pair _ _ _ (c.in-Some.handler, c.in-Some.place) c.in-Some.is c.next.ensures.steps in
    let each = rw more at c.loop-handler.invariant.each in
    let lt = placed _ _ _ _ _ c.self.invariant (g.met.P.Program.lawful c.self.inside.program.now).known c.in-Some.handler.now c.in-Some.place.now each.0 in
    omega (arith, lt, c.self.invariant.there, c.self.invariant.standing.pictured.table.beside, c.self.inside.handlers.ok.0)

pub loop-handler-preserved-in_ok-push-2 : goal.loop-handler-preserved-in_ok-push-2
loop-handler-preserved-in_ok-push-2 g c =
    let more = rest_more deref_pair _ _ _ (c.in-Some.handler, c.in-Some.place) c.in-Some.is c.next.ensures.steps in
    let each = rw more at c.loop-handler.invariant.each in
    let so_far = rw (← c.self.view_is, more) at c.loop-handler.invariant.listed in
    let lt = placed _ _ _ _ _ c.self.invariant (g.met.P.Program.lawful c.self.inside.program.now).known c.in-Some.handler.now c.in-Some.place.now each.0 in
    let next = next_there _ _ _ _ _ c.self.invariant (c.lawful.ensures c.self.inside.program.now) (c.handlers_are_held.ensures.posts c.self.inside.program.now) c.in-Some.handler.now c.in-Some.place.now each.0
    c.index-variable.result.now (there _ _ _ _ _ c.self.invariant _ _ lt c.index-variable.ensures) c.index.result.now (beside _ _ _ _ _ c.self.invariant _ _ lt c.index.ensures) _ (sym c.in-Some-next.is ∙ c.next-in-loop-handler.ensures) in
    record {
      each = each.1;
      listed = rw (← c.self.view_is, c.in_ok-push-2.ensures.items, c.in_ok-copy-2.ensures)
          (one_listed _ _ (c.in-Some.handler.now, c.in-Some.place.now) c.next.new.self _ c.loop-handler.labels.items so_far _ (c.in-Some-next.event, refl, next));
    }

pub loop-handler-preserved : goal.loop-handler-preserved
loop-handler-preserved g c =
    let more = rest_more deref_pair _ _ _ (c.in-Some.handler, c.in-Some.place) c.in-Some.is c.next.ensures.steps in
    let each = rw more at c.loop-handler.invariant.each in
    let so_far = rw (← c.self.view_is, more) at c.loop-handler.invariant.listed in
    let lt = placed _ _ _ _ _ c.self.invariant (g.met.P.Program.lawful c.self.inside.program.now).known c.in-Some.handler.now c.in-Some.place.now each.0 in
    let none = next_there _ _ _ _ _ c.self.invariant (c.lawful.ensures c.self.inside.program.now) (c.handlers_are_held.ensures.posts c.self.inside.program.now) c.in-Some.handler.now c.in-Some.place.now each.0
    c.index-variable.result.now (there _ _ _ _ _ c.self.invariant _ _ lt c.index-variable.ensures) c.index.result.now (beside _ _ _ _ _ c.self.invariant _ _ lt c.index.ensures) _ (sym c.in_default.is ∙ c.next-in-loop-handler.ensures) in
    record {
      each = each.1;
      listed = rw (← c.self.view_is)
          (one_passed _ _ (c.in-Some.handler.now, c.in-Some.place.now) c.next.new.self _ c.loop-handler.labels.items so_far (λ l z. none z.0 z.2));
    }

pub returns : goal.returns
returns g c =
    let E = g.P.Lat.Event.Ord.cmp in
    let all = standings (entries_at c.in_ok-tasks.tasks.items) in
    let past : length c.in_ok-tasks.tasks.items ≤ c.loop-entry.entry-index = omega (arith, c.loop-entry-test.false, c.loop-entry.auto.entry-index-end, ap length c.deref-entry-items.ensures.value) in
    let none : standings (entries_at (drop c.loop-entry.entry-index c.in_ok-tasks.tasks.items)) ≡ [] = ap (λ xs. standings (entries_at xs)) (drop_of_length-le c.in_ok-tasks.tasks.items past) in
    let listed = rw (← c.self.view_is, c.deref-entry-items.ensures.value) at c.loop-entry.invariant in
    let tasks = all_listed _ all (standings (entries_at (drop c.loop-entry.entry-index c.in_ok-tasks.tasks.items))) [] c.loop-entry.labels.items listed none in
    let handings = rw (← c.self.view_is) at c.loop-handler.invariant.listed in
    let hands = all_listed _ _ c.loop-handler.handler-iterator c.loop-entry.labels.items c.loop-handler.labels.items handings (rest_all deref_pair _ _ _ c.in-None.is c.next.ensures.steps) in
    let same = (c.lawful.ensures c.self.inside.program.now).event_same_is in
    rw (← c.self.view_is)
    (are_labels _ _ _ _ _ c.self.invariant (c.lawful.ensures c.self.inside.program.now) (c.handlers_are_held.ensures.posts c.self.inside.program.now) E (c.handed_next.ensures.next c.self.inside.program.now)
    (sym c.is_some.ensures ∙ c.if-is_some.false) all (λ t. sym (c.in_ok-tasks.ensures.all t)) c.in_ok-tasks.ensures.ascending
    (each_in_order _ same E (name_equiv g.met.P.Lat.Event.Eq.laws).symm (name_ties E g.met.P.Lat.Event.Ord.matches_eq) all c.in_ok-tasks.ensures.ascending)
    c.iter-handler-items.ensures.ascending tasks.0 hands.0 tasks.1 hands.1 c.loop-entry.labels.items c.loop-handler.labels.items tasks.2 hands.2)
