use Rattle.lvish_again.proofs.Cutting.{cut_of, no_zero_last}
use Rattle.lvish_again.proofs.cut.cut.Goals as goal

pub returns-clause-cut : goal.returns-clause-cut
returns-clause-cut c = rw (c.truncate.ensures.items) (cut_of c.args.picks.items c.needed-needed.result (rw (c.as_slice.ensures.value) at c.needed-needed.ensures.zeros))

pub returns-clause-no_zero : goal.returns-clause-no_zero
returns-clause-no_zero c = rw (c.truncate.ensures.items) (no_zero_last c.args.picks.items c.needed-needed.result (rw (c.as_slice.ensures.value) at c.needed-needed.ensures.within) (rw (c.as_slice.ensures.value) at c.needed-needed.ensures.last))
