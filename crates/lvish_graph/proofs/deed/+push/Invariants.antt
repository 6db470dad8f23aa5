use Rattle.std.proofs.Common.{◌≡◌, ◌++◌, take}
use Rattle.std.specs.List.{flat_map}
use Rattle.lvish_graph.specs.Deeds.{statement_deeds}
use Rattle.lvish_graph.proofs.deed.+push.Given as goal

abbrev pub invariant-push_block-loop-statement : goal.invariant-push_block-loop-statement
invariant-push_block-loop-statement l = l.deeds.items ≡ l.initial.deeds.items ++ flat_map statement_deeds (take l.statement-index l.statement-items)
