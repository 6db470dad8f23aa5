use Rattle.lvish_board.proofs.list.left_by.Goals as goal

pub returns-clause-newest : goal.returns-clause-newest
returns-clause-newest g c = (c.own_ticket_of.new.newest, rw c.index.ensures at c.own_ticket_of.ensures.newest, c.ticket_of.ensures.newest)
