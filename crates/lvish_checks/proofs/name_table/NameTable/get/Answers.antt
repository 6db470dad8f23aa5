use Rattle.std.proofs.Common.{refl}
use Rattle.lvish_checks.proofs.Tabled.{value_found}
use Rattle.lvish_checks.proofs.name_table.NameTable.get.Goals as goal

pub returns : goal.returns
returns g c = rw (c.copied.ensures, c.get.ensures.value, value_found c.as_str.result.now c.self.inside.values.entries, ← c.self.view_is, c.as_str.ensures) refl
