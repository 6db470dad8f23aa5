use Rattle.std.proofs.Common.{List, OnOk, refl, sym, subst}
use Rattle.std.specs.Borrow.{Bor}
use Rattle.std.proofs.lemmas.Result.{on_ok_weaker}
use Rattle.lvish_facts.specs.Names.{Word, names_in}
use Rattle.lvish_reaching.specs.Edges.{edges_on}
use Rattle.lvish_reaching.specs.Graphs.{GraphView, lists_in, HasEdges}
use Rattle.lvish_reaching.proofs.Growing.{line_added}
use Rattle.lvish_reaching.proofs.graph.Graph.add_line.Goals as goal

pub returns : goal.returns
returns c =
    let old : GraphView = record { names = c.self.inside.names; next = lists_in c.self.inside.next.items } in
    let mid : GraphView = record { names = c.node.new.self; next = lists_in c.self.inside.next.items } in
    let new = c.add_edges.new.self in
    subst (λ (g : GraphView). OnOk c.add_edges.result (HasEdges g new (edges_on (names_in c.args.words.now)))) c.self.view_is (on_ok_weaker c.add_edges.result (λ more.
    subst (λ (words : List (Bor Word)). HasEdges old new (edges_on (names_in words))) (sym c.in-Some.ensures.cases.0) (line_added old mid new c.in_ok-from.from c.in-Some.first.now.now (names_in c.in-Some.others.now) c.in_ok-from.ensures.numbered refl more)) c.add_edges.ensures)
