use Rattle.std.proofs.Common.{refl}
use Rattle.lvish_board.specs.Vocabulary.{ActOn}
use Rattle.lvish_board.proofs.Comes.{act_whole}
use Rattle.lvish_board.proofs.board.Board.act.Goals as goal

pub returns : goal.returns
returns g c =
    let same = c.of.ensures (ActOn c.args.asked) (λ e. c.as_work.ensures c.args.asked (c.act_into-came.ensures.back e)) in
    let k = act_whole _ _ _ same (c.act_into-came.ensures.comes c.args.asked refl) in record {
      order = k.order;
      stays = k.stays;
      step = k.step;
      gone = k.gone;
      list = k.list;
      noted = k.noted;
      own = k.own;
      over = k.over;
      keeps = k.keeps;
      done = k.done;
      stale = k.stale;
      parked = k.parked;
      memory = k.memory;
    }
