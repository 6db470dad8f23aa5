use Rattle.std.proofs.Common.{List, ◌∷◌, take, take_all, sym, subst, arith}
use Rattle.std.specs.Borrow.{Bor}
use Rattle.lvish_facts.specs.Names.{Word, names_in}
use Rattle.lvish_reaching.specs.Edges.{edges_on}
use Rattle.lvish_reaching.specs.Graphs.{HasEdges}
use Rattle.lvish_reaching.proofs.Growing.{line_more, names_more}
use Rattle.lvish_reaching.proofs.graph.Graph.add_edges.Goals as goal

pub loop-to-preserved : goal.loop-to-preserved
loop-to-preserved c = λ name named.
    let others = c.args.others.now in
    let i = c.loop-to.to-index in
    let more = c.loop-to.invariant name named in
    let edge = c.in_ok-add_edge.ensures name (more.kept c.args.from name named) in
    subst (λ (names : List Word). HasEdges c.args.self.now c.add_edge.new.self (edges_on (name ∷ names))) (sym (names_more others i _ c.loop-to-test.true)) (line_more c.args.self.now c.loop-to.self c.add_edge.new.self name (names_in (take i others)) _ more edge)

pub returns : goal.returns
returns c = λ name named.
    subst (λ (refs : List (Bor Word)). HasEdges c.args.self.now c.loop-to.self (edges_on (name ∷ names_in refs))) (take_all c.loop-to.to-index c.args.others.now (omega (arith, c.loop-to-test.false))) (c.loop-to.invariant name named)
