-- Texts that say the same.
use Rattle.std.specs.Prelude.{ℕ, List, ◌↔◌}
use Rattle.lvish_syntax.specs.declared.script.Script.{Script}
use Rattle.lvish_checks.specs.declared.fault.Fault.{Fault}
use Rattle.lvish_checks.specs.Checks.{parts_of, IsFirstFault}
use Rattle.lvish_script.specs.Spells.{Spells}

-- they spell the same script, or have the same fault on the same line
pub record SpellTheSame (a b : List ℕ) : Type 0 where
  pub script : (s : Script) → Spells a s ↔ Spells b s
  pub fault : (f : Fault) (l : ℕ) → IsFirstFault (parts_of a) f l ↔ IsFirstFault (parts_of b) f l
