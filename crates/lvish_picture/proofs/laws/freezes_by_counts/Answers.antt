use Rattle.lvish_picture.proofs.Counted.{ended_by_counts, freezes_by_counts}
use Rattle.lvish_picture.proofs.laws.freezes_by_counts.Goals as goal

pub returns-clause-ended : goal.returns-clause-ended
returns-clause-ended g c = λ p. ended_by_counts _ (c.lawful.ensures p)

pub returns-clause-quiet : goal.returns-clause-quiet
returns-clause-quiet g c = λ p. freezes_by_counts _ (c.lawful.ensures p)
