use Rattle.std.proofs.Common.{◌≡◌, map, take, vec_capacity}
use Rattle.lvish_board.proofs.room.copy_names.Given as goal

abbrev pub invariant-loop-held : goal.invariant-loop-held
invariant-loop-held g l = record {
  names : l.names.items ≡ map (λ h. h.name) (take l.held-index l.handlers);
  capacity : vec_capacity l.names ≡ vec_capacity l.initial.names;
}
