use Rattle.lvish_format.proofs.Kept.{formatted_twice}
use Rattle.lvish_format.proofs.laws.formatting_twice_is_formatting_once.Goals as goal

pub returns : goal.returns
returns c = formatted_twice
