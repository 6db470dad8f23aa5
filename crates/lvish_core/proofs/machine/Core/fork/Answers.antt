use Rattle.std.proofs.Common.{refl, arith, add-one}
use Rattle.lvish_core.specs.Vocabulary.{Fork, Done}
use Rattle.lvish_core.specs.Beside.{one_more_in}
use Rattle.lvish_core.proofs.Counting.{can_start_in}
use Rattle.lvish_core.proofs.Acts.{asks, child_is_new, few_numbers, fits_there, forking}
use Rattle.lvish_core.proofs.Written.{counts_written}
use Rattle.lvish_core.proofs.machine.Core.fork.Goals as goal

pub overflow_add-forks : goal.overflow_add-forks
overflow_add-forks g c = omega (arith, few_numbers (rw (← c.self.view_is) at c.requires.acting) c.self.invariant (rw (← c.self.view_is) at c.requires.room))

pub resumed-requires-clause-asks : goal.resumed-requires-clause-asks
resumed-requires-clause-asks g c = asks (rw (← c.self.view_is) at c.requires.acting)

pub resumed-requires-clause-fits : goal.resumed-requires-clause-fits
resumed-requires-clause-fits g c = fits_there (rw (← c.self.view_is) at c.requires.acting) (g.met.P.Program.lawful c.self.inside.program.now).repeats Done tt

pub start_at-requires : goal.start_at-requires
start_at-requires g c =
    rw (c.deref_mut.ensures.value)
    (can_start_in c.self.invariant (g.met.P.Program.lawful c.self.inside.program.now).known (c.running_counts.ensures.few c.self.inside.program.now) (rw (← c.self.view_is) at c.requires.room) c.args.name.now c.in_ok-place.place (rw (← c.self.view_is) at c.in_ok-place.ensures))

pub fail-requires-clause-failing : goal.fail-requires-clause-failing
fail-requires-clause-failing g c =
    let deep = rw c.in_default.is at c.in_ok-started.ensures in
    rw (← c.self.view_is) (record { at = c.args.at; forks = c.args.numbers.forks; adds = c.args.numbers.adds; puts = c.args.numbers.puts; request = Fork c.args.child.now; acting = (rw (← c.self.view_is) at c.requires.acting); errs = (deep, refl) })

pub push-requires : goal.push-requires
push-requires g c =
    let child = rw c.in-Some.is at c.in_ok-started.ensures in
    record {
      absent = rw (child.name, add-one)
          (child_is_new (c.lawful.ensures c.self.inside.program.now) c.self.invariant (rw (← c.self.view_is) at c.requires.acting) (c.names_are_new.ensures.tasks c.self.inside.program.now));
    }

pub invariant_of-self-2 : goal.invariant_of-self-2
invariant_of-self-2 g c =
    let placed = rw (← c.self.view_is) at c.in_ok-place.ensures in
    let child = rw c.in-Some.is at c.in_ok-started.ensures in
    let made = rw (child.stage, child.name, add-one) at c.in_ok-push.ensures.set in
    let added = rw (child.name, add-one) at c.in_ok-push.ensures.added in
    let goes = rw (c.in_ok-stage.ensures.stage, add-one) at (c.close.ensures.tasks c.args.name.now (made.indices _ _ (rw (← c.self.view_is) at c.requires.there))) in
    let counts = counts_written one_more_in c.in_ok-place.place _ _ _ c.deref_mut.ensures.value c.self.inside.handlers.ok.0 c.start_at.ensures in
    rw (c.close.ensures.steps, c.close.ensures.touched)
    (forking (c.lawful.ensures c.self.inside.program.now) c.self.invariant (g.met.P.Program.lawful c.self.inside.program.now).known (c.plain_kept.ensures c.self.inside.program.now) (c.counts_kept.ensures.plain c.self.inside.program.now) (c.counts_follow.ensures.rest c.self.inside.program.now) placed
    (rw (← c.self.view_is) at c.requires.acting) (rw (← c.self.view_is) at c.requires.room) child.shallow (c.counts_follow.ensures.start c.self.inside.program.now) (c.names_are_new.ensures.tasks c.self.inside.program.now) made added goes counts).1

pub returns : goal.returns
returns g c =
    let placed = rw (← c.self.view_is) at c.in_ok-place.ensures in
    let child = rw c.in-Some.is at c.in_ok-started.ensures in
    let made = rw (child.stage, child.name, add-one) at c.in_ok-push.ensures.set in
    let added = rw (child.name, add-one) at c.in_ok-push.ensures.added in
    let goes = rw (c.in_ok-stage.ensures.stage, add-one) at (c.close.ensures.tasks c.args.name.now (made.indices _ _ (rw (← c.self.view_is) at c.requires.there))) in
    let counts = counts_written one_more_in c.in_ok-place.place _ _ _ c.deref_mut.ensures.value c.self.inside.handlers.ok.0 c.start_at.ensures in
    rw (← c.self.view_is, c.in_ok-stage.ensures.own, child.made, add-one (c.args.numbers.forks), c.close.ensures.steps, c.close.ensures.touched)
    (forking (c.lawful.ensures c.self.inside.program.now) c.self.invariant (g.met.P.Program.lawful c.self.inside.program.now).known (c.plain_kept.ensures c.self.inside.program.now) (c.counts_kept.ensures.plain c.self.inside.program.now) (c.counts_follow.ensures.rest c.self.inside.program.now) placed
    (rw (← c.self.view_is) at c.requires.acting) (rw (← c.self.view_is) at c.requires.room) child.shallow (c.counts_follow.ensures.start c.self.inside.program.now) (c.names_are_new.ensures.tasks c.self.inside.program.now) made added goes counts).0
