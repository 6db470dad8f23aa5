use Rattle.lvish_board.proofs.board.Board.act_into.Goals as goal

pub returns-clause-comes : goal.returns-clause-comes
returns-clause-comes g c = rw c.index_for.ensures at c.act_indexed.ensures.comes
