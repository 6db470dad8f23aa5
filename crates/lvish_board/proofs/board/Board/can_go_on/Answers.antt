use Rattle.lvish_board.proofs.board.Board.can_go_on.Goals as goal

pub returns : goal.returns
returns g c = rw (← c.self.view_is, ← c.task.ensures) c.can_act.ensures
