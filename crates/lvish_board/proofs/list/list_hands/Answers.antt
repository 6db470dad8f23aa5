use Rattle.std.proofs.Common.{rules, sym, ◌∙◌, true≢false}
use Rattle.lvish_board.proofs.Those.{list_passed}
use Rattle.lvish_board.proofs.list.list_hands.Goals as goal

pub loop-handler-preserved : goal.loop-handler-preserved
loop-handler-preserved g c = record {
  room = search rules;
  listing = list_passed _ _ c.in-Some.handler c.loop-handler.concerned.items c.pop.new.self.items c.loop-handler.list.items c.in-Some.ensures.items c.loop-handler.invariant.listing (λ z. true≢false (sym (c.has_next.ensures.1 z) ∙ c.if-has_next.false));
}
