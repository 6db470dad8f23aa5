use Rattle.std.proofs.Common.{◌≤◌, length, sym, subst}
use Rattle.lvish_syntax.specs.declared.limits.TheConstants.{MOST_IN_NAME}
use Rattle.lvish_syntax.proofs.NameText.{text_from_name, short_name}
use Rattle.lvish_syntax.proofs.identifier.Identifier.new.Goals as goal

pub from_text-requires : goal.from_text-requires
from_text-requires c = subst (λ w. length w ≤ MOST_IN_NAME) (sym c.in-Ok.ensures.cases.0) (short_name c.args.word.now c.requires)

pub unreachable-requires : goal.unreachable-requires
unreachable-requires c = c.in-Err.ensures.cases.0 (text_from_name _ c.requires)
