use Rattle.std.proofs.Common.{ap, ◌∙◌}
use Rattle.lvish_code.specs.Numbering.{with_name}
use Rattle.lvish_code.proofs.Kept.{texts, name_inserted}
use Rattle.lvish_code.proofs.numbering.Numbering.add.Goals as goal

pub returns-clause-added : goal.returns-clause-added
returns-clause-added c =
    ap texts c.in_ok-insert_full.ensures.keys ∙ name_inserted c.as_str.result c.self.inside.names.keys
    ∙ ap (λ names. with_name names c.as_str.result.now) c.self.view_is ∙ ap (with_name c.args.self.now) c.as_str.ensures
