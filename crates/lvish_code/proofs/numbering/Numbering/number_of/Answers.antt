use Rattle.std.proofs.Common.{ap, ◌∙◌}
use Rattle.std.specs.Str.{bytes_eq}
use Rattle.lvish_code.specs.Numbering.{name_number}
use Rattle.lvish_code.proofs.Kept.{number_kept, number_found}
use Rattle.lvish_code.proofs.numbering.Numbering.number_of.Goals as goal

pub returns : goal.returns
returns c =
    number_found (λ k. bytes_eq c.args.name.now k.now) c.self.inside.names.keys c.get_index_of.result c.unwrap_or.result c.len.result
    c.get_index_of.ensures.index c.len.ensures.len c.unwrap_or.ensures
    ∙ number_kept c.args.name.now c.self.inside.names.keys ∙ ap (λ names. name_number names c.args.name.now) c.self.view_is
