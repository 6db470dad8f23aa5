use Rattle.lvish_core.proofs.Handing.{can_hand, handing, not_there}
use Rattle.lvish_core.proofs.Written.{handed_written}
use Rattle.lvish_core.proofs.machine.Core.hand.Goals as goal

pub hand_at-requires-clause-fits : goal.hand_at-requires-clause-fits
hand_at-requires-clause-fits g c =
    rw (c.deref.ensures.value, c.deref_mut.ensures.value)
    (can_hand (c.lawful.ensures c.self.inside.program.now) c.self.invariant (g.met.P.Program.lawful c.self.inside.program.now).known (rw (← c.self.view_is) at c.requires.handing) (c.running_counts.ensures.few c.self.inside.program.now) (rw (← c.self.view_is) at c.requires.room))

pub hand_at-requires-clause-there : goal.hand_at-requires-clause-there
hand_at-requires-clause-there g c = rw c.deref_mut.ensures.value (rw (← c.self.view_is) at c.requires.at)

pub push-requires : goal.push-requires
push-requires g c = record {
  absent = rw c.in_ok-task.ensures
      (not_there (c.lawful.ensures c.self.inside.program.now) c.self.invariant (g.met.P.Program.lawful c.self.inside.program.now).known (rw (← c.self.view_is) at c.requires.handing) (c.handlers_are_held.ensures.posts c.self.inside.program.now) (c.handed_next.ensures.next c.self.inside.program.now) (c.names_are_new.ensures.tasks c.self.inside.program.now));
}

pub invariant_of-self-2 : goal.invariant_of-self-2
invariant_of-self-2 g c =
    let made = rw (c.started.ensures, c.in_ok-local.ensures, c.in_ok-task.ensures) at c.in_ok-push.ensures.set in
    let handed = handed_written c.deref.ensures.value c.deref_mut.ensures.value c.self.inside.handlers.ok.0 c.hand_at.ensures in
    let absent = not_there (c.lawful.ensures c.self.inside.program.now) c.self.invariant (g.met.P.Program.lawful c.self.inside.program.now).known (rw (← c.self.view_is) at c.requires.handing) (c.handlers_are_held.ensures.posts c.self.inside.program.now) (c.handed_next.ensures.next c.self.inside.program.now) (c.names_are_new.ensures.tasks c.self.inside.program.now) in
    (handing (c.lawful.ensures c.self.inside.program.now) c.self.invariant (g.met.P.Program.lawful c.self.inside.program.now).known (rw (← c.self.view_is) at c.requires.handing) (rw (← c.self.view_is) at c.requires.room) (c.hand_kept.ensures c.self.inside.program.now) (c.counts_kept.ensures.hand c.self.inside.program.now)
    (c.handlers_are_held.ensures.posts c.self.inside.program.now) (c.counts_follow.ensures.start c.self.inside.program.now) absent made handed (rw c.in_ok-task.ensures at c.in_ok-push.ensures.added)).1

pub returns : goal.returns
returns g c =
    let made = rw (c.started.ensures, c.in_ok-local.ensures, c.in_ok-task.ensures) at c.in_ok-push.ensures.set in
    let handed = handed_written c.deref.ensures.value c.deref_mut.ensures.value c.self.inside.handlers.ok.0 c.hand_at.ensures in
    let absent = not_there (c.lawful.ensures c.self.inside.program.now) c.self.invariant (g.met.P.Program.lawful c.self.inside.program.now).known (rw (← c.self.view_is) at c.requires.handing) (c.handlers_are_held.ensures.posts c.self.inside.program.now) (c.handed_next.ensures.next c.self.inside.program.now) (c.names_are_new.ensures.tasks c.self.inside.program.now) in
    rw (← c.self.view_is, c.in_ok-copy_local.ensures, c.in_ok-copy.ensures, c.in_ok-local.ensures, c.in_ok-task.ensures) (
      (handing (c.lawful.ensures c.self.inside.program.now) c.self.invariant (g.met.P.Program.lawful c.self.inside.program.now).known (rw (← c.self.view_is) at c.requires.handing) (rw (← c.self.view_is) at c.requires.room) (c.hand_kept.ensures c.self.inside.program.now) (c.counts_kept.ensures.hand c.self.inside.program.now)
          (c.handlers_are_held.ensures.posts c.self.inside.program.now) (c.counts_follow.ensures.start c.self.inside.program.now) absent made handed (rw c.in_ok-task.ensures at c.in_ok-push.ensures.added)).0,
      (rw c.in_ok-task.ensures at c.in_ok-push.ensures.added) absent,
    )
