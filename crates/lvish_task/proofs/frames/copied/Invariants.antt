use Rattle.std.proofs.Common.{◌≡◌, take}
use Rattle.lvish_task.proofs.frames.copied.Given as goal

abbrev pub invariant-loop-frame : goal.invariant-loop-frame
invariant-loop-frame l = l.items.items ≡ take l.frame-index l.frames
