use Rattle.std.proofs.Common.{◌≡◌, List, Some, slice_get, sym, ◌∙◌, ap, subst}
use Rattle.std.specs.Option.{option_copied}
use Rattle.lvish_lattice.specs.GrowSet.{items_of}
use Rattle.lvish_facts.specs.declared.node.Node.{Node}
use Rattle.lvish_facts.specs.Names.{Word}
use Rattle.lvish_facts.specs.Gathered.{gathered}
use Rattle.lvish_reaching.specs.Edges.{edges_of}
use Rattle.lvish_reaching.specs.Graphs.{IsGraphOf}
use Rattle.lvish_reaching.specs.Answers.{IsListing}
use Rattle.lvish_reaching.proofs.Composed.{is_answer}
use Rattle.lvish_reaching.proofs.answer.reach_answer.Goals as goal

pub returns-clause-answer : goal.returns-clause-answer
returns-clause-answer g c =
    let input = c.args.text.now in
    let graph = c.in_ok-read_graph.field-0 in
    let answer = c.in_ok-answer.answer in
    let set = c.in-Some.set.now in
    let text = c.in_ok-text.field-0.text.items in
    let count = c.in_ok-text.field-0.count in
    let of_input = subst (λ (root : Word). IsGraphOf graph root (edges_of input)) c.as_bytes.ensures.value c.in_ok-read_graph.ensures.graph in
    let there : slice_get answer.states 0 ≡ Some set = sym c.state.ensures ∙ ap option_copied c.in-Some.is in
    let listing = subst (λ (nodes : List Node). IsListing graph nodes text count) (c.as_slice.ensures.value ∙ c.in_ok-nodes.ensures) c.in_ok-text.ensures in
    is_answer gathered items_of c.gathers.ensures input c.args.root.now graph of_input answer.states set there text count c.is_whole.result listing c.in_ok-answer.ensures.sound (λ whole. c.in_ok-answer.ensures.exact (sym c.is_whole.ensures ∙ whole))
