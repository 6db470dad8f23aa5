use Rattle.std.proofs.Common.{◌≡◌, ◌<◌, length, arith, add-one}
use Rattle.lvish_calculus.specs.declared.request.Reply.TheVariants.{Done}
use Rattle.lvish_core.proofs.Errors.{refused}
use Rattle.lvish_core.proofs.Acts.{asks, few_numbers, fits_there, putting}
use Rattle.lvish_core.proofs.Written.{put_written}
use Rattle.lvish_core.proofs.machine.Core.put.Goals as goal

pub overflow_add-puts : goal.overflow_add-puts
overflow_add-puts g c = omega (arith, few_numbers (rw (← c.self.view_is) at c.requires.acting) c.self.invariant (rw (← c.self.view_is) at c.requires.room))

pub resumed-requires-clause-asks : goal.resumed-requires-clause-asks
resumed-requires-clause-asks g c = asks (rw (← c.self.view_is) at c.requires.acting)

pub resumed-requires-clause-fits : goal.resumed-requires-clause-fits
resumed-requires-clause-fits g c = fits_there (rw (← c.self.view_is) at c.requires.acting) (g.met.P.Program.lawful c.self.inside.program.now).repeats Done tt

pub put_at-requires : goal.put_at-requires
put_at-requires g c =
    let acts = rw (← c.self.view_is) at c.requires.acting in
    let known : c.args.variable < (g.P.Program.functions c.self.inside.program.now).variables = (g.met.P.Program.lawful c.self.inside.program.now).puts acts.local c.args.variable c.args.state.now acts.asking.asked in
    let there : length c.self.inside.variables.items ≡ (g.P.Program.functions c.self.inside.program.now).variables = c.self.invariant.there in
    rw c.deref_mut.ensures.value (omega (arith, known, there))

pub refuse-requires-clause-refused : goal.refuse-requires-clause-refused
refuse-requires-clause-refused g c =
    refused (rw (← c.self.view_is) at c.requires.acting) c.deref_mut.ensures.value c.self.inside.variables.ok.0 c.in-Err.ensures.refused c.in-Err.refused c.in-Err.ensures.why

pub invariant_of-self-2 : goal.invariant_of-self-2
invariant_of-self-2 g c =
    let w = rw add-one at (put_written c.deref_mut.ensures.value c.self.inside.variables.ok.0 c.in_default.ensures.ok) in
    let sets = rw (c.in_ok-stage.ensures.stage, add-one) at (c.close.ensures.tasks c.args.name.now (rw (← c.self.view_is) at c.requires.there)) in
    rw (c.close.ensures.steps, c.close.ensures.touched)
    (putting (c.lawful.ensures c.self.inside.program.now) c.self.invariant (rw (← c.self.view_is) at c.requires.acting) (rw (← c.self.view_is) at c.requires.room) (c.put_kept.ensures c.self.inside.program.now) (c.counts_kept.ensures.put c.self.inside.program.now) w sets).1

pub returns : goal.returns
returns g c =
    let w = rw add-one at (put_written c.deref_mut.ensures.value c.self.inside.variables.ok.0 c.in_default.ensures.ok) in
    let sets = rw (c.in_ok-stage.ensures.stage, add-one) at (c.close.ensures.tasks c.args.name.now (rw (← c.self.view_is) at c.requires.there)) in
    rw (← c.self.view_is, c.own.ensures, c.in_ok-stage.ensures.own, c.close.ensures.steps, c.close.ensures.touched)
    (putting (c.lawful.ensures c.self.inside.program.now) c.self.invariant (rw (← c.self.view_is) at c.requires.acting) (rw (← c.self.view_is) at c.requires.room) (c.put_kept.ensures c.self.inside.program.now) (c.counts_kept.ensures.put c.self.inside.program.now) w sets).0
