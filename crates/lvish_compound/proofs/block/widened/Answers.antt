use Rattle.lvish_compound.proofs.Few.{few_rises}
use Rattle.std.specs.Prelude.{Some}
use Rattle.lvish_compound.proofs.block.widened.Goals as goal

pub put_among-requires : goal.put_among-requires
put_among-requires g c = rw (c.in_ok-push.ensures.items, c.in_ok-entries.ensures.items) (few_rises g.K.Ord.cmp (Some (c.args.entry.now.0, c.in_ok-first.first)))
