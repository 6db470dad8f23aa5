use Rattle.lvish_board.proofs.Listing.{list_is}
use Rattle.lvish_board.proofs.step_work.StepWork.into_list.Goals as goal

pub returns-clause-ok : goal.returns-clause-ok
returns-clause-ok g c = list_is c.args.self.own c.args.self.made c.args.self.woken.items c.args.self.hands.items _ _ _ _ _ c.in-Ok.ensures.items c.list_ticket.ensures.items c.list_ticket-2.ensures.items c.list_acts.ensures.items c.list_handings.ensures
