use Rattle.std.proofs.Common.{◌≡◌, ◌<◌, length, arith}
use Rattle.std.proofs.lemmas.Option.{slice_get_within}
use Rattle.lvish_calculus.specs.declared.request.Reply.TheVariants.{Content}
use Rattle.lvish_core.proofs.Acts.{asks, fits_there, freezing}
use Rattle.lvish_core.proofs.Gets.{get_some}
use Rattle.lvish_core.proofs.Written.{frozen_written}
use Rattle.lvish_core.proofs.machine.Core.freeze.Goals as goal

pub resumed_on-requires-clause-asks : goal.resumed_on-requires-clause-asks
resumed_on-requires-clause-asks g c = asks (rw (← c.self.view_is) at c.requires.acting).1

pub resumed_on-requires-clause-fits : goal.resumed_on-requires-clause-fits
resumed_on-requires-clause-fits g c = fits_there (rw (← c.self.view_is) at c.requires.acting).1 (g.met.P.Program.lawful c.self.inside.program.now).repeats (Content c.state.result.now) tt

pub freeze_at-requires : goal.freeze_at-requires
freeze_at-requires g c =
    let acts = rw (← c.self.view_is) at c.requires.acting in
    let known : c.args.variable < (g.P.Program.functions c.self.inside.program.now).variables = ((g.met.P.Program.lawful c.self.inside.program.now).freezes acts.1.local c.args.variable acts.0 acts.1.asking.asked).0 in
    let there : length c.self.inside.variables.items ≡ (g.P.Program.functions c.self.inside.program.now).variables = c.self.invariant.there in
    rw c.deref_mut.ensures.value (omega (arith, known, there))

pub invariant_of-self : goal.invariant_of-self
invariant_of-self g c = rw c.in_err-list_freeze.ensures c.self.invariant

pub invariant_of-self-2 : goal.invariant_of-self-2
invariant_of-self-2 g c =
    let w = frozen_written c.deref_mut.ensures.value c.self.inside.variables.ok.0 c.freeze_at.ensures in
    let there = get_some c.self.inside.variables.items c.args.variable c.index-to_freeze.result.now (slice_get_within _ _ _ w.was) c.index-to_freeze.ensures in
    let sets = rw (c.in_ok-stage.ensures.stage, c.state.ensures) at (c.close.ensures.tasks c.args.name.now (rw (← c.self.view_is) at c.requires.there)) in
    rw (c.close.ensures.steps, c.close.ensures.touched)
    (freezing (c.lawful.ensures c.self.inside.program.now) c.self.invariant (rw (← c.self.view_is) at c.requires.acting).1 (rw (← c.self.view_is) at c.requires.room) (c.freeze_kept.ensures c.self.inside.program.now) (c.counts_kept.ensures.freeze c.self.inside.program.now) w c.index-to_freeze.result.now there sets _ c.in_ok-list_freeze.ensures).1

pub returns : goal.returns
returns g c =
    let w = frozen_written c.deref_mut.ensures.value c.self.inside.variables.ok.0 c.freeze_at.ensures in
    let there = get_some c.self.inside.variables.items c.args.variable c.index-to_freeze.result.now (slice_get_within _ _ _ w.was) c.index-to_freeze.ensures in
    let sets = rw (c.in_ok-stage.ensures.stage, c.state.ensures) at (c.close.ensures.tasks c.args.name.now (rw (← c.self.view_is) at c.requires.there)) in
    rw (← c.self.view_is, c.own.ensures, c.in_ok-stage.ensures.own, c.state.ensures, c.close.ensures.steps, c.close.ensures.touched)
    (freezing (c.lawful.ensures c.self.inside.program.now) c.self.invariant (rw (← c.self.view_is) at c.requires.acting).1 (rw (← c.self.view_is) at c.requires.room) (c.freeze_kept.ensures c.self.inside.program.now) (c.counts_kept.ensures.freeze c.self.inside.program.now) w c.index-to_freeze.result.now there sets _ c.in_ok-list_freeze.ensures).0
