use Rattle.std.proofs.Common.{◌≡◌, ◌++◌, ◌∷◌, [], ◌∙◌, ap, rules}
use Rattle.lvish_lattice.specs.GrowSet.{items_of}
use Rattle.lvish_facts.specs.Names.{names_in}
use Rattle.lvish_pointing.proofs.Texts.{targets_text, row_text}
use Rattle.lvish_pointing.proofs.listing.put_row.Goals as goal

pub returns : goal.returns
returns c =
    let names = names_in c.args.names.now in
    let done : c.push-2.new.self.items ≡ c.loop-node.text.items ++ (targets_text names c.loop-node.node-iterator ++ 10 ∷ []) = search rules in
    done ∙ c.loop-node.invariant ∙ ap (λ t. c.args.text.now.items ++ t) (row_text names c.args.pointer (items_of c.args.targets.now) (λ e. c.if-len-eq0.false (c.len.ensures ∙ e)))
