use Rattle.std.proofs.Common.{◌≡◌, drop}
use Rattle.std.specs.List.{filter_map}
use Rattle.lvish_alike.specs.Sought.{found_in}
use Rattle.lvish_alike.proofs.sought.first_in.Given as goal

abbrev pub invariant-loop-instruction : goal.invariant-loop-instruction
invariant-loop-instruction l = filter_map (found_in l.marks l.sought) (drop l.instruction-index l.instructions) ≡ filter_map (found_in l.marks l.sought) l.instructions
