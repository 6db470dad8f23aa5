use Rattle.std.proofs.Common.{refl}
use Rattle.lvish_task.proofs.Compatible.{checked, unchecked}
use Rattle.lvish_task.proofs.laws.compatible_members_are_refused.Goals as goal

pub returns-clause-whole : goal.returns-clause-whole
returns-clause-whole c = λ s values following below x v r. refl

pub returns-clause-place : goal.returns-clause-place
returns-clause-place c = λ s values following below x v t r. refl

pub returns-clause-accepted : goal.returns-clause-accepted
returns-clause-accepted c = λ ds values v at r read. checked values ds v at r read

pub returns-clause-refused : goal.returns-clause-refused
returns-clause-refused c = λ ds values v at r. unchecked values ds v at r
