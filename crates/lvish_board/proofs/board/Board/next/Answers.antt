use Rattle.lvish_board.proofs.board.Board.next.Goals as goal

pub returns : goal.returns
returns g c = rw (← c.self.view_is) c.next.ensures
