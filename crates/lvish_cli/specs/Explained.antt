-- What is told of a script that is refused.
use Rattle.std.specs.Prelude.{ℕ, List, Option, None, Some}
use Rattle.std.specs.Global.{Vec}
use Rattle.lvish_syntax.specs.declared.script.Script.{Script}
use Rattle.lvish_checks.specs.declared.script_fault.ScriptFault.{ScriptFault}
use Rattle.lvish_script.specs.Spells.{Spells, IsTextRefused}
use Rattle.lvish_explain.specs.Explained.{IsExplained}

-- the explanation of the text's fault; nothing of a script
abbrev pub IsWhy : List ℕ → List ℕ → Option (Vec ℕ) → Type 0
IsWhy path text None = (s : Script) × Spells text s
IsWhy path text (Some told) = (e : ScriptFault) × IsTextRefused text e × IsExplained path text e told.items
