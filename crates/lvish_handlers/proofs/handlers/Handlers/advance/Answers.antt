use Rattle.std.proofs.Common.{refl}
use Rattle.lvish_handlers.proofs.handlers.Handlers.advance.Goals as goal

pub advance_at-requires-clause-there : goal.advance_at-requires-clause-there
advance_at-requires-clause-there g c = (c.args.name.now, c.in-Some.ensures.found)

pub returns-in-None-clause-nothing : goal.returns-in-None-clause-nothing
returns-in-None-clause-nothing g c = (λ _. c.in-None.ensures.none refl c.args.variable.now.log, λ _. refl)

pub returns-in-Some-clause-nothing : goal.returns-in-Some-clause-nothing
returns-in-Some-clause-nothing g c = c.advance_at.ensures.nothing c.args.name.now c.in-Some.ensures.found
