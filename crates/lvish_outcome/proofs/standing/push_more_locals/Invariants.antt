use Rattle.std.proofs.Common.{take}
use Rattle.std.specs.List.{flat_map}
use Rattle.lvish_explain.specs.Draft.{Adds}
use Rattle.std.specs.Prelude.{codes}
use Rattle.lvish_outcome.specs.Standing.{local_text}
use Rattle.lvish_outcome.proofs.standing.push_more_locals.Given as goal

abbrev pub invariant-loop-local : goal.invariant-loop-local
invariant-loop-local l = Adds l.initial.text l.text (flat_map (local_text (codes ", ")) (take l.local-index l.locals))
