use Rattle.std.proofs.Common.{take, map}
use Rattle.std.specs.List.{flat_map}
use Rattle.lvish_explain.specs.Draft.{Adds}
use Rattle.lvish_outcome.specs.Telling.{blocked_text}
use Rattle.lvish_outcome.proofs.telling.push_all_blocked.Given as goal

abbrev pub invariant-loop-blocked : goal.invariant-loop-blocked
invariant-loop-blocked l = Adds l.initial.text l.text (flat_map (blocked_text l.fn.file (map (λ x. x.now) l.lines)) (take l.blocked-index l.told))
