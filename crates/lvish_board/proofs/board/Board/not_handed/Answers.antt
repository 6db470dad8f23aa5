use Rattle.lvish_board.proofs.Comes.{for_this}
use Rattle.lvish_board.proofs.board.Board.not_handed.Goals as goal

pub returns-in-None : goal.returns-in-None
returns-in-None g c = for_this _ _ _ c.in-Some.ensures.value (λ room. c.idle.ensures)
