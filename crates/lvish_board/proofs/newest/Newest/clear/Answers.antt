use Rattle.lvish_board.proofs.newest.Newest.clear.Goals as goal

pub returns : goal.returns
returns g c = rw (← c.self.view_is) (rw c.none-none.ensures at c.put_at.ensures)
