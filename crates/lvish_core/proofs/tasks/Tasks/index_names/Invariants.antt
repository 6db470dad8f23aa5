use Rattle.std.proofs.Common.{◌≡◌}
use Rattle.lvish_core.proofs.tasks.Tasks.index_names.Given as goal

abbrev pub invariant-loop : goal.invariant-loop
invariant-loop g l = l.self ≡ l.initial.self
