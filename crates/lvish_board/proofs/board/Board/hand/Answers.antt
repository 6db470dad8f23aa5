use Rattle.std.proofs.Common.{refl}
use Rattle.lvish_board.specs.Vocabulary.{HandTo}
use Rattle.lvish_board.proofs.Comes.{hand_whole}
use Rattle.lvish_board.proofs.board.Board.hand.Goals as goal

pub returns : goal.returns
returns g c =
    let same = c.of.ensures (HandTo c.args.handler) (λ e. c.as_work.ensures c.args.handler (c.hand_into-came.ensures.back e)) in
    let k = hand_whole _ _ _ same (c.hand_into-came.ensures.comes c.args.handler refl) in record {
      order = k.order;
      stays = k.stays;
      step = k.step;
      gone = k.gone;
      own = k.own;
      over = k.over;
      done = k.done;
      stale = k.stale;
      parked = k.parked;
      memory = k.memory;
      refused = k.refused;
    }
