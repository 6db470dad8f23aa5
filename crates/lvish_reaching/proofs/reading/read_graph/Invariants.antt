use Rattle.std.proofs.Common.{take}
use Rattle.lvish_facts.specs.Names.{names_in}
use Rattle.lvish_reaching.specs.Edges.{IsNoneAlone}
use Rattle.lvish_reaching.specs.Graphs.{IsGraphOf}
use Rattle.lvish_reaching.proofs.Lines.{edges_in, IsBare}
use Rattle.lvish_reaching.proofs.reading.read_graph.Given as goal

abbrev pub invariant-loop-place : goal.invariant-loop-place
invariant-loop-place l = record {
  graph : IsGraphOf l.graph l.fn.root (edges_in (take l.place (names_in l.lines.items)));
  paired : IsNoneAlone (names_in l.lines.items) l.place;
  bare : IsBare l.is_empty (edges_in (take l.place (names_in l.lines.items)));
}
