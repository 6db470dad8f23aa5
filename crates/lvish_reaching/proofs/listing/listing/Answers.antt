use Rattle.std.proofs.Common.{◌↔◌, ◌∙◌, List, Contains, sym, ap, subst, arith}
use Rattle.std.specs.Borrow.{Bor}
use Rattle.std.proofs.lemmas.List.{length-map}
use Rattle.lvish_facts.specs.declared.node.Node.{Node}
use Rattle.lvish_facts.specs.Names.{Word, IsNamed, names_in, lines_with}
use Rattle.lvish_reaching.proofs.listing.listing.Goals as goal

pub returns : goal.returns
returns c =
    let nodes = c.args.nodes.now in
    let names = c.args.graph.now.names in
    let sorted = c.in_ok-sorted.sorted.items in
    record {
      names = names_in sorted;
      spelled = c.in_ok-lines_with.ensures ∙ ap (λ (refs : List (Bor Word)). lines_with (names_in refs)) c.as_slice-2.ensures.value;
      counted = omega (arith, c.len.ensures, c.in_ok-sorted.sorted.ok.0, length-map sorted (λ (ref : Bor Word). ref.now));
      rising = c.in_ok-sorted.ensures.rising;
      of_nodes = λ name.
          let same = c.in_ok-sorted.ensures.same name in
          let told = subst (λ (refs : List (Bor Word)). Contains (names_in refs) name ↔ ((n : Node) × Contains nodes n × IsNamed names n name)) (sym c.as_slice.ensures.value) (c.in_ok-names.ensures name) in
          (λ h. told.0 (same.0 h), λ h. same.1 (told.1 h));
    }
