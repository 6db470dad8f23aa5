use Rattle.std.proofs.Common.{List, subst}
use Rattle.lvish_facts.specs.declared.node.Node.{Node}
use Rattle.lvish_facts.specs.Names.{Word, IsNumbered, names_in}
use Rattle.lvish_facts.proofs.Numbers.{is_numbered}
use Rattle.lvish_facts.proofs.names.Names.node.Goals as goal

pub returns-clause-numbered : goal.returns-clause-numbered
returns-clause-numbered c =
    let e = c.in_ok-number.ensures in
    let node : Node = record { number = c.in_ok-number.number } in
    let keys = c.insert_full.new.self.keys in
    subst (λ (old : List Word). IsNumbered old (names_in keys) c.args.name.now node) c.self.view_is (is_numbered c.self.inside.names.keys keys c.args.name node e.keys e.unique e.stored)
