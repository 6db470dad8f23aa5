use Rattle.std.proofs.Common.{take, map}
use Rattle.std.specs.List.{flat_map}
use Rattle.lvish_explain.specs.Draft.{Adds}
use Rattle.lvish_outcome.specs.Telling.{steps_text}
use Rattle.lvish_outcome.proofs.telling.push_all_steps.Given as goal

abbrev pub invariant-loop-steps : goal.invariant-loop-steps
invariant-loop-steps l = Adds l.initial.text l.text (flat_map (steps_text l.fn.file (map (λ x. x.now) l.lines)) (take l.steps-index l.told))
