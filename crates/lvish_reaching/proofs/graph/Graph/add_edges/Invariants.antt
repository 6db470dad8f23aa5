use Rattle.std.proofs.Common.{take, ◌∷◌}
use Rattle.lvish_facts.specs.Names.{Word, IsNamed, names_in}
use Rattle.lvish_reaching.specs.Edges.{edges_on}
use Rattle.lvish_reaching.specs.Graphs.{HasEdges}
use Rattle.lvish_reaching.proofs.graph.Graph.add_edges.Given as goal

abbrev pub invariant-loop-to : goal.invariant-loop-to
invariant-loop-to l = (name : Word) → IsNamed l.fn.self.names l.from name → HasEdges l.fn.self l.self (edges_on (name ∷ names_in (take l.to-index l.others)))
