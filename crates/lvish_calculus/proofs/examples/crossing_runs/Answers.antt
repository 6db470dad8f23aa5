use Rattle.lvish_calculus.proofs.WorkedRuns.{u_first_ends, t_first_ends, crossed}
use Rattle.lvish_calculus.proofs.LawfulRuns.{crossing_lawful}
use Rattle.lvish_calculus.proofs.ModelRuns.{uncrossed, two_ask, freezes_disjoint}
use Rattle.lvish_calculus.proofs.examples.crossing_runs.Goals as goal

pub returns-clause-u_first : goal.returns-clause-u_first
returns-clause-u_first g = u_first_ends

pub returns-clause-t_first : goal.returns-clause-t_first
returns-clause-t_first g = t_first_ends

pub returns-clause-crossed : goal.returns-clause-crossed
returns-clause-crossed g = crossed

pub returns-clause-uncrossed : goal.returns-clause-uncrossed
returns-clause-uncrossed g = uncrossed

pub returns-clause-lawful : goal.returns-clause-lawful
returns-clause-lawful g = crossing_lawful

pub returns-clause-two_ask : goal.returns-clause-two_ask
returns-clause-two_ask g = two_ask

pub returns-clause-disjoint : goal.returns-clause-disjoint
returns-clause-disjoint g = freezes_disjoint
