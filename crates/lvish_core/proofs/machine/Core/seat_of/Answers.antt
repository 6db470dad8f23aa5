use Rattle.std.proofs.Common.{sym, ◌∙◌}
use Rattle.lvish_calculus.proofs.Names.{same_handler-true}
use Rattle.lvish_core.proofs.machine.Core.seat_of.Goals as goal

pub returns-in-Some : goal.returns-in-Some
returns-in-Some g c = record {
  held = c.in-Some.last.now;
  stands = c.in-Some.ensures.stands;
  named = same_handler-true _ (c.lawful.ensures c.args.self.now.program).event_same_is _ _ (sym c.eq.ensures ∙ c.if-eq.true);
}
