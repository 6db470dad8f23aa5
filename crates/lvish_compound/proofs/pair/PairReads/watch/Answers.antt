use Rattle.std.proofs.Common.{◌∙◌, ap, sym, option_map}
use Rattle.lvish_compound.specs.Pair.{of_one, of_two, watched}
use Rattle.lvish_compound.proofs.pair.PairReads.watch.Goals as goal

pub returns-in-Some : goal.returns-in-Some
returns-in-Some g c = ap (option_map of_one) (sym c.in-Some.is ∙ c.watch.ensures) ∙ ap (watched g.A.Reads.watched g.B.Reads.watched) (sym c.in-One.is)

pub returns-in-None : goal.returns-in-None
returns-in-None g c = ap (option_map of_one) (sym c.in-None.is ∙ c.watch.ensures) ∙ ap (watched g.A.Reads.watched g.B.Reads.watched) (sym c.in-One.is)

pub returns-in-Some-watch : goal.returns-in-Some-watch
returns-in-Some-watch g c = ap (option_map of_two) (sym c.in-Some-watch.is ∙ c.watch-in-Two.ensures) ∙ ap (watched g.A.Reads.watched g.B.Reads.watched) (sym c.in-Two.is)

pub returns-in-None-watch : goal.returns-in-None-watch
returns-in-None-watch g c = ap (option_map of_two) (sym c.in-None-watch.is ∙ c.watch-in-Two.ensures) ∙ ap (watched g.A.Reads.watched g.B.Reads.watched) (sym c.in-Two.is)
