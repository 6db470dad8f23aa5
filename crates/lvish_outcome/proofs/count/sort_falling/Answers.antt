use Rattle.lvish_outcome.proofs.count.sort_falling.Goals as goal

pub returns : goal.returns
returns c = record { rising = c.sort_rising.new.counts; same = c.sort_rising.ensures.same; sorted = c.sort_rising.ensures.sorted; is = c.reverse.ensures.after }
