use Rattle.std.proofs.Common.{inl, inr}
use Rattle.lvish_run.proofs.OneScript.{enough, too_few}
use Rattle.lvish_run.proofs.laws.bound_decides.Goals as goal

pub returns-clause-enough : goal.returns-clause-enough
returns-clause-enough c = λ s b n budget r bound is. elim bound [ inl k ↦ enough _ s b n k budget r is | inr k ↦ enough _ s b n k budget r is ]

pub returns-clause-too_few : goal.returns-clause-too_few
returns-clause-too_few c = λ s b n budget r bound is. elim bound [ inl k ↦ too_few _ s b n k budget r is | inr k ↦ too_few _ s b n k budget r is ]
