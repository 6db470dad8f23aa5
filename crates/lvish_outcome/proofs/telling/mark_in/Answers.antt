use Rattle.lvish_outcome.proofs.telling.mark_in.Goals as goal

pub returns : goal.returns
returns c = rw (c.as_slice.ensures.value, c.in_ok-words.ensures) at c.mark_of.ensures
