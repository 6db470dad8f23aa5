use Rattle.lvish_core.proofs.Worked.{run, brought, brought_three, brought_one, only_three}
use Rattle.lvish_core.proofs.examples.log_of_two_puts.Goals as goal

pub returns-clause-run : goal.returns-clause-run
returns-clause-run c = run c.halfway.ensures.pictured

pub returns-clause-brought : goal.returns-clause-brought
returns-clause-brought c = brought

pub returns-clause-three : goal.returns-clause-three
returns-clause-three c = brought_three

pub returns-clause-one : goal.returns-clause-one
returns-clause-one c = brought_one

pub returns-clause-only_three : goal.returns-clause-only_three
returns-clause-only_three c = only_three
