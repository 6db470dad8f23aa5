use Rattle.std.proofs.Common.{true≢false, sym, ◌∙◌}
use Rattle.lvish_board.proofs.Comes.{for_this}
use Rattle.lvish_board.proofs.board.Board.not_made.Goals as goal

pub park-requires-clause-blocked : goal.park-requires-clause-blocked
park-requires-clause-blocked g c = for_this _ _ _ c.in-Some.ensures.value (λ can. true≢false (sym (c.can_go_on.ensures.1 can) ∙ c.if-can_go_on.false))

pub returns : goal.returns
returns g c = record {
  trace = c.park.ensures.trace;
  core = c.park.ensures.core;
  came = λ a there room. c.park.ensures.came a there;
  back = c.park.ensures.back;
}
