use Rattle.lvish_calculus.proofs.HandingRuns.{blocked_outer, enabled_outer, blocked_inner, enabled_both, frozen_before_ends, frozen_after_ends}
use Rattle.lvish_calculus.proofs.LawfulRuns.{outer_lawful, both_lawful}
use Rattle.lvish_calculus.proofs.blocked_examples.nested_pools.Goals as goal

pub returns-clause-outer_left : goal.returns-clause-outer_left
returns-clause-outer_left g = blocked_outer

pub returns-clause-outer_named : goal.returns-clause-outer_named
returns-clause-outer_named g = enabled_outer

pub returns-clause-both_named : goal.returns-clause-both_named
returns-clause-both_named g = blocked_inner

pub returns-clause-both_ended : goal.returns-clause-both_ended
returns-clause-both_ended g = enabled_both

pub returns-clause-frozen_before : goal.returns-clause-frozen_before
returns-clause-frozen_before g = frozen_before_ends

pub returns-clause-frozen_after : goal.returns-clause-frozen_after
returns-clause-frozen_after g = frozen_after_ends

pub returns-clause-outer_lawful : goal.returns-clause-outer_lawful
returns-clause-outer_lawful g = outer_lawful

pub returns-clause-both_lawful : goal.returns-clause-both_lawful
returns-clause-both_lawful g = both_lawful
