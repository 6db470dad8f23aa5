-- What is told of a refused text, and of a script that is checked.
use Rattle.std.specs.Prelude.{ℕ, codes, List, [], ◌∷◌, ◌++◌, Option, Some, None}
use Rattle.json.specs.Json.{Json, null, string}
use Rattle.lvish_checks.specs.Fault.{fault_number, fault_name}
use Rattle.lvish_checks.specs.declared.script_fault.ScriptFault.{ScriptFault}
use Rattle.lvish_json.specs.declared.alike.Alike.{Alike}
use Rattle.lvish_json.specs.declared.alike.Alike.TheVariants.{Always, Ends, Unknown}
use Rattle.lvish_json.specs.Shape.{fields, if_any, count}

-- a fault: its number, its name and its line
abbrev pub fault_value : ScriptFault → Json
fault_value e = fields (
    (codes "number", count (fault_number e.fault))
    ∷ (codes "name", string (fault_name e.fault))
    ∷ (codes "line", count e.line)
    ∷ [])

-- a text that is no script
abbrev pub refusal_value : ScriptFault → Json
refusal_value e = fields ((codes "fault", fault_value e) ∷ [])

-- what is known of a script's runs, in a word
abbrev pub alike_name : Alike → List ℕ
alike_name (Always n) = codes "always"
alike_name Ends = codes "ends"
alike_name Unknown = codes "unknown"

-- after how many steps all of them have come to one end
abbrev pub alike_steps : Alike → Option ℕ
alike_steps (Always n) = Some n
alike_steps Ends = None
alike_steps Unknown = None

abbrev pub alike_value : Alike → Json
alike_value a = fields ((codes "answer", string (alike_name a)) ∷ (codes "steps", if_any count (alike_steps a)) ∷ [])

-- after how many steps all runs have ended, where it is asked for; null where it isn't known
abbrev pub ends_field : Option (Option ℕ) → List (List ℕ × Json)
ends_field None = []
ends_field (Some bound) = (codes "ends", if_any count bound) ∷ []

-- whether all runs, or all ends, are the same, where it is asked for
abbrev pub alike_field : Option Alike → List (List ℕ × Json)
alike_field None = []
alike_field (Some a) = (codes "alike", alike_value a) ∷ []

-- a text that is a script
abbrev pub check_value : Option (Option ℕ) → Option Alike → Json
check_value ends alike = fields ((codes "fault", null) ∷ (ends_field ends ++ alike_field alike))
