use Rattle.std.proofs.Common.{sym, refl}
use Rattle.lvish_handlers.proofs.handlers.Handlers.next.Goals as goal

pub next_at-requires : goal.next_at-requires
next_at-requires g c = (c.args.name.now, c.in-Some.ensures.found)

pub returns-in-Some : goal.returns-in-Some
returns-in-Some g c = c.next_at.ensures c.args.name.now c.in-Some.ensures.found

pub returns-in-None : goal.returns-in-None
returns-in-None g c = sym (c.in-None.ensures.none refl c.args.variable.now.log)
