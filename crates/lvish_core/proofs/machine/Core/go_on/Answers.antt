use Rattle.lvish_core.proofs.Acts.{asks, fits_there, going_on}
use Rattle.lvish_core.proofs.machine.Core.go_on.Goals as goal

pub resumed-requires-clause-asks : goal.resumed-requires-clause-asks
resumed-requires-clause-asks g c = asks (rw (← c.self.view_is) at c.requires.replied).acting

pub resumed-requires-clause-fits : goal.resumed-requires-clause-fits
resumed-requires-clause-fits g c =
    let answers = rw (← c.self.view_is) at c.requires.replied in
    fits_there answers.acting (g.met.P.Program.lawful c.self.inside.program.now).repeats c.args.reply answers.fits

pub invariant_of-self : goal.invariant_of-self
invariant_of-self g c =
    let sets = rw c.in_ok-stage.ensures.stage at (c.close.ensures.tasks c.args.name.now (rw (← c.self.view_is) at c.requires.there)) in
    rw (c.close.ensures.steps, c.close.ensures.touched)
    (going_on (c.lawful.ensures c.self.inside.program.now) c.self.invariant (rw (← c.self.view_is) at c.requires.replied) (rw (← c.self.view_is) at c.requires.room) (c.plain_kept.ensures c.self.inside.program.now) (c.counts_kept.ensures.plain c.self.inside.program.now) (c.counts_follow.ensures.rest c.self.inside.program.now) sets).1

pub returns : goal.returns
returns g c =
    let sets = rw c.in_ok-stage.ensures.stage at (c.close.ensures.tasks c.args.name.now (rw (← c.self.view_is) at c.requires.there)) in
    rw (← c.self.view_is, c.own.ensures, c.in_ok-stage.ensures.own, c.close.ensures.steps, c.close.ensures.touched)
    (going_on (c.lawful.ensures c.self.inside.program.now) c.self.invariant (rw (← c.self.view_is) at c.requires.replied) (rw (← c.self.view_is) at c.requires.room) (c.plain_kept.ensures c.self.inside.program.now) (c.counts_kept.ensures.plain c.self.inside.program.now) (c.counts_follow.ensures.rest c.self.inside.program.now) sets).0
