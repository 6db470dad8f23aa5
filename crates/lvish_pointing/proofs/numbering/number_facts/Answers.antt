use Rattle.lvish_pointing.proofs.Gathered.{left_in, right_in}
use Rattle.lvish_pointing.proofs.numbering.number_facts.Goals as goal

pub numbered-requires-clause-left : goal.numbered-requires-clause-left
numbered-requires-clause-left c = c.requires.there _ (left_in c.args.facts.now c.loop-fact.fact-index _ c.loop-fact-test.true)

pub numbered-requires-clause-right : goal.numbered-requires-clause-right
numbered-requires-clause-right c = c.requires.there _ (right_in c.args.facts.now c.loop-fact.fact-index _ c.loop-fact-test.true)
