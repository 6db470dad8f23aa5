use Rattle.std.proofs.Common.{◌∙◌, ap, sym, option_map}
use Rattle.lvish_compound.specs.Pair.{of_one, of_two, answer_of}
use Rattle.lvish_compound.proofs.pair.PairReads.trigger.Goals as goal

pub returns-in_ok-trigger-in-One : goal.returns-in_ok-trigger-in-One
returns-in_ok-trigger-in-One g c = ap (option_map of_one) (sym c.in_ok-trigger-in-One.was ∙ c.trigger.ensures) ∙ ap (λ r. answer_of g.A.Reads.answer_of g.B.Reads.answer_of r c.args.state.now) (sym c.in-One.is)

pub returns-in_ok-trigger-in-Two : goal.returns-in_ok-trigger-in-Two
returns-in_ok-trigger-in-Two g c = ap (option_map of_two) (sym c.in_ok-trigger-in-Two.was ∙ c.trigger-in-Two.ensures) ∙ ap (λ r. answer_of g.A.Reads.answer_of g.B.Reads.answer_of r c.args.state.now) (sym c.in-Two.is)
