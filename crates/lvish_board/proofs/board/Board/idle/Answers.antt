use Rattle.std.proofs.Common.{refl, sym, ◌∙◌, true≢false}
use Rattle.lvish_board.proofs.board.Board.idle.Goals as goal

pub returns-then-holds : goal.returns-then-holds
returns-then-holds g c = (c.holds.ensures.0 c.if-holds.true, c.requires.drained, refl)

pub returns-else-holds : goal.returns-else-holds
returns-else-holds g c = (λ s. true≢false (sym (c.holds.ensures.1 s) ∙ c.if-holds.false), refl)
