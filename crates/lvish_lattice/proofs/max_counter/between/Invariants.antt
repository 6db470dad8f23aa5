use Rattle.std.proofs.Common.{◌≡◌, ◌≤◌, ◌+◌, ◌-◌, map, pos}
use Rattle.std.specs.List.{range_with_len}
use Rattle.lvish_lattice.proofs.max_counter.between.Given as goal

abbrev pub invariant-loop-n : goal.invariant-loop-n
invariant-loop-n l = record {
  within : l.n - l.low ≤ l.high - l.low;
  counted : l.numbers.items ≡ map pos (range_with_len (l.low + 1) (l.n - l.low));
}
