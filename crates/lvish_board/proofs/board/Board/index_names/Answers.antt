use Rattle.lvish_board.proofs.board.Board.index_names.Goals as goal

pub invariant_of-self : goal.invariant_of-self
invariant_of-self g c = rw c.index_names.ensures c.self.invariant
