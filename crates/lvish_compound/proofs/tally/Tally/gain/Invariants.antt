use Rattle.std.proofs.Common.{◌≡◌, ◌+◌}
use Rattle.lvish_compound.specs.Amounts.{gain}
use Rattle.lvish_compound.specs.Tally.{entries_of}
use Rattle.lvish_compound.proofs.tally.Tally.gain.Given as goal

abbrev pub invariant-loop-key : goal.invariant-loop-key
invariant-loop-key l = l.gained + gain (entries_of l.self) l.key-iterator ≡ gain (entries_of l.self) (entries_of l.put)
