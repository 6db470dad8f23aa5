use Rattle.std.proofs.Common.{◌≡◌, ◌<◌, ℕ, slice_index, slice_index_or}
use Rattle.lvish_handlers.proofs.handlers.Handlers.ended.Given as goal

abbrev pub invariant-loop-pool : goal.invariant-loop-pool
invariant-loop-pool g l = (k d : ℕ) → k < l.pool-index → slice_index l.self.running (slice_index_or l.pools k d) ≡ 0
