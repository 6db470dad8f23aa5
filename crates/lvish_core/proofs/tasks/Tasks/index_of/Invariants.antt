use Rattle.std.proofs.Common.{◌≡◌, ◌<◌, ◌≤◌, ℕ, Some, slice_get}
use Rattle.lvish_core.proofs.tasks.Tasks.index_of.Given as goal

abbrev pub invariant-loop-index : goal.invariant-loop-index
invariant-loop-index g l = (i : ℕ) → l.self-inside.indexed ≤ i → i < l.index → slice_get l.self-inside.names.items i ≡ Some l.name → ⊥
