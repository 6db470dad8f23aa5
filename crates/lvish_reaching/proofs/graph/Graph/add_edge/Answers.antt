use Rattle.std.proofs.Common.{[], ◌∷◌, OnOk, subst}
use Rattle.std.proofs.lemmas.Result.{on_ok_weaker}
use Rattle.lvish_facts.specs.Names.{Word, IsNamed}
use Rattle.lvish_reaching.specs.Graphs.{GraphView, lists_in, HasEdges}
use Rattle.lvish_reaching.proofs.Growing.{edge_added}
use Rattle.lvish_reaching.proofs.graph.Graph.add_edge.Goals as goal

pub returns : goal.returns
returns c =
    let old : GraphView = record { names = c.self.inside.names; next = lists_in c.self.inside.next.items } in
    let new : GraphView = record { names = c.node.new.self; next = lists_in c.push_at.new.next.items } in
    subst (λ (g : GraphView). OnOk c.push_at.result ((name : Word) → IsNamed g.names c.args.from name → HasEdges g new ((name, c.args.to.now) ∷ []))) c.self.view_is (on_ok_weaker c.push_at.result (λ put name named.
    edge_added old new (lists_in c.reach_place.new.next.items) c.args.from c.in_ok-to.to name c.args.to.now c.in_ok-to.ensures.numbered c.in_ok-reach_place.ensures.same put named) c.push_at.ensures)
