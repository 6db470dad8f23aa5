use Rattle.std.proofs.Common.{◌∙◌, ap, sym}
use Rattle.lvish_compound.specs.declared.kind.Kind.{Kind}
use Rattle.lvish_compound.specs.StateReads.{part_answer}
use Rattle.lvish_compound.proofs.Answered.{none_in}
use Rattle.lvish_compound.proofs.number_test.Test.in_part.Goals as goal

pub returns-in_default-part : goal.returns-in_default-part
returns-in_default-part c = none_in c.args.self.now c.args.part.now c.in_default-part.not-Set ∙ ap (λ (l : Kind). part_answer l c.args.self.now c.args.part.now) (sym c.in-Set.is)
