use Rattle.std.proofs.Common.{◌∙◌, ap, arith, add-one}
use Rattle.lvish_calculus.specs.declared.request.Reply.TheVariants.{Done}
use Rattle.lvish_core.proofs.Acts.{asks, fits_there}
use Rattle.lvish_core.proofs.Adds.{variable_is_there, marked, can_add, no_place, unseated, wanted, same_handlers, adding}
use Rattle.lvish_core.proofs.Gets.{get_some}
use Rattle.lvish_core.proofs.Written.{added_written}
use Rattle.lvish_core.proofs.machine.Core.add_on.Goals as goal

pub resumed-requires-clause-asks : goal.resumed-requires-clause-asks
resumed-requires-clause-asks g c = asks (rw (← c.self.view_is) at c.requires.acting)

pub resumed-requires-clause-fits : goal.resumed-requires-clause-fits
resumed-requires-clause-fits g c = fits_there (rw (← c.self.view_is) at c.requires.acting) (g.met.P.Program.lawful c.self.inside.program.now).repeats Done tt

pub index-on-requires : goal.index-on-requires
index-on-requires g c = omega (arith, variable_is_there (c.lawful.ensures c.self.inside.program.now) c.self.invariant (g.met.P.Program.lawful c.self.inside.program.now).known (rw (← c.self.view_is) at c.requires.acting) _ (rw (← c.self.view_is) at c.requires.seated).own, c.self.inside.variables.ok.0)

pub seat-requires-clause-unfrozen : goal.seat-requires-clause-unfrozen
seat-requires-clause-unfrozen g c =
    let seated = rw (← c.self.view_is) at c.requires.seated in
    marked c.self.inside.variables.items c.args.place.variable c.index-on.result.now (get_some _ _ _ (variable_is_there (c.lawful.ensures c.self.inside.program.now) c.self.invariant (g.met.P.Program.lawful c.self.inside.program.now).known (rw (← c.self.view_is) at c.requires.acting) _ seated.own) c.index-on.ensures) ∙ seated.unfrozen

pub seat-requires-clause-fits : goal.seat-requires-clause-fits
seat-requires-clause-fits g c =
    let seated = rw (← c.self.view_is) at c.requires.seated in
    rw (c.deref_mut.ensures.value, seated.named, add-one) (can_add (c.lawful.ensures c.self.inside.program.now) c.self.invariant (g.met.P.Program.lawful c.self.inside.program.now).known (rw (← c.self.view_is) at c.requires.acting) (c.names_are_new.ensures.handlers c.self.inside.program.now) _ seated.own)

pub seat-requires-clause-new : goal.seat-requires-clause-new
seat-requires-clause-new g c = rw ((rw (← c.self.view_is) at c.requires.seated).named, add-one) (no_place (c.lawful.ensures c.self.inside.program.now) c.self.invariant (g.met.P.Program.lawful c.self.inside.program.now).known (rw (← c.self.view_is) at c.requires.acting) (c.names_are_new.ensures.handlers c.self.inside.program.now))

pub invariant_of-self : goal.invariant_of-self
invariant_of-self g c = unseated c.self.invariant c.in_err-added.ensures.places c.deref_mut.ensures.value c.self.inside.handlers.ok.0 c.in_err-added.ensures.handlers

pub returns-in_err-added : goal.returns-in_err-added
returns-in_err-added g c = rw (← c.self.view_is)
    (wanted _ _ _ c.args.name.now c.from_residual-in_err-added.result c.from_residual-in_err-added.ensures.1 (same_handlers _ c.deref_mut.ensures.value c.self.inside.handlers.ok.0 c.in_err-added.ensures.handlers))

pub invariant_of-self-2 : goal.invariant_of-self-2
invariant_of-self-2 g c =
    let acts = rw (← c.self.view_is) at c.requires.acting in
    let seated = rw (← c.self.view_is) at c.requires.seated in
    let known = variable_is_there (c.lawful.ensures c.self.inside.program.now) c.self.invariant (g.met.P.Program.lawful c.self.inside.program.now).known acts _ seated.own in
    let named = seated.named ∙ ap (λ n. record { adder = c.args.name.now; number = n }) (add-one c.args.numbers.adds) in
    let w = rw named at (added_written c.deref_mut.ensures.value c.self.inside.handlers.ok.0 c.in_ok-added.ensures.handlers) in
    let put_in = rw named at c.in_ok-added.ensures.places in
    let sets = rw (c.in_ok-stage.ensures.stage, c.number-adds.ensures, named) at (c.close.ensures.tasks c.args.name.now (rw (← c.self.view_is) at c.requires.there)) in
    rw (c.close.ensures.steps, c.close.ensures.touched)
    (adding (c.lawful.ensures c.self.inside.program.now) c.self.invariant (g.met.P.Program.lawful c.self.inside.program.now).known acts (rw (← c.self.view_is) at c.requires.room) (c.add_kept.ensures c.self.inside.program.now) (c.counts_kept.ensures.add c.self.inside.program.now) seated.shallow seated.own
    c.index-on.result.now (get_some _ _ _ known c.index-on.ensures) seated.unfrozen put_in w sets).1

pub returns : goal.returns
returns g c =
    let acts = rw (← c.self.view_is) at c.requires.acting in
    let seated = rw (← c.self.view_is) at c.requires.seated in
    let known = variable_is_there (c.lawful.ensures c.self.inside.program.now) c.self.invariant (g.met.P.Program.lawful c.self.inside.program.now).known acts _ seated.own in
    let named = seated.named ∙ ap (λ n. record { adder = c.args.name.now; number = n }) (add-one c.args.numbers.adds) in
    let w = rw named at (added_written c.deref_mut.ensures.value c.self.inside.handlers.ok.0 c.in_ok-added.ensures.handlers) in
    let put_in = rw named at c.in_ok-added.ensures.places in
    let sets = rw (c.in_ok-stage.ensures.stage, c.number-adds.ensures, named) at (c.close.ensures.tasks c.args.name.now (rw (← c.self.view_is) at c.requires.there)) in
    rw (← c.self.view_is, c.added.ensures, c.in_ok-stage.ensures.own, c.in_ok-added.ensures.named, named, c.close.ensures.steps, c.close.ensures.touched)
    (adding (c.lawful.ensures c.self.inside.program.now) c.self.invariant (g.met.P.Program.lawful c.self.inside.program.now).known acts (rw (← c.self.view_is) at c.requires.room) (c.add_kept.ensures c.self.inside.program.now) (c.counts_kept.ensures.add c.self.inside.program.now) seated.shallow seated.own
    c.index-on.result.now (get_some _ _ _ known c.index-on.ensures) seated.unfrozen put_in w sets).0
