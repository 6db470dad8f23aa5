use Rattle.std.proofs.Common.{List, [], ◌∷◌, ◌++◌, ◌+◌, ◌∙◌, sym, ap, subst, take, take_all, get_or, option_map, arith}
use Rattle.std.specs.Borrow.{Bor}
use Rattle.std.specs.Global.{Vec}
use Rattle.std.proofs.lemmas.List.{take_more}
use Rattle.lvish_facts.specs.declared.node.Node.{Node}
use Rattle.lvish_facts.specs.Names.{Word}
use Rattle.lvish_reaching.specs.Graphs.{root_node}
use Rattle.lvish_reaching.proofs.Told.{AreTold, told_more, told_none}
use Rattle.lvish_reaching.proofs.listing.names_of.Goals.{in-Some+in_ok-push, in_default}
use Rattle.lvish_reaching.proofs.listing.names_of.Goals as goal

pub loop-node-preserved : goal.loop-node-preserved
loop-node-preserved c =
    let names = c.args.graph.now.names in
    let nodes = c.args.nodes.now in
    let refs = c.loop-node.names.items in
    let i = c.loop-node.node-index in
    let node = get_or nodes i root_node in
    let more = take_more nodes i root_node c.loop-node-test.true in
    let name_is = sym c.name.ensures in
    elim c.match-name.branch [
      | in-Some+in_ok-push w ↦
          let name = w.in-Some.name in
          let told = told_more names refs (take i nodes) node name (name_is ∙ ap (option_map (λ (ref : Bor Word). ref.now)) w.in-Some.is) c.loop-node.invariant in
          let all = subst (λ (ns : List Node). AreTold names (refs ++ name ∷ []) ns) (sym more) told in
          subst (λ (rs : List (Bor Word)). AreTold names rs (take (i + 1) nodes)) (sym (ap (λ (v : Vec (Bor Word)). v.items) w.names-is ∙ w.in_ok-push.ensures.items)) all
      | in_default w ↦
          let told = told_none names refs (take i nodes) node (name_is ∙ ap (option_map (λ (ref : Bor Word). ref.now)) w.in_default.is) c.loop-node.invariant in
          let all = subst (λ (ns : List Node). AreTold names refs ns) (sym more) told in
          subst (λ (rs : List (Bor Word)). AreTold names rs (take (i + 1) nodes)) (sym (ap (λ (v : Vec (Bor Word)). v.items) w.names-is)) all
    ]

pub returns : goal.returns
returns c =
    subst (AreTold c.args.graph.now.names c.loop-node.names.items) (take_all c.loop-node.node-index c.args.nodes.now (omega (arith, c.loop-node-test.false))) c.loop-node.invariant
