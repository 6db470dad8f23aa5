use Rattle.std.proofs.Common.{take}
use Rattle.lvish_reaching.proofs.Told.{AreTold}
use Rattle.lvish_reaching.proofs.listing.names_of.Given as goal

abbrev pub invariant-loop-node : goal.invariant-loop-node
invariant-loop-node l = AreTold l.graph.names l.names.items (take l.node-index l.nodes)
