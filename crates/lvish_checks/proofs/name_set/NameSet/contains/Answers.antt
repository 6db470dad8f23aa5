use Rattle.std.proofs.Common.{refl}
use Rattle.lvish_checks.proofs.Seen.{found_by_name}
use Rattle.lvish_checks.proofs.name_set.NameSet.contains.Goals as goal

pub returns : goal.returns
returns c = rw (c.contains.ensures, found_by_name c.as_str.result.now c.self.inside.names.keys, ← c.self.view_is, c.as_str.ensures) refl
