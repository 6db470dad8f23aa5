-- What is answered of a text that is no script.
use Rattle.std.specs.Prelude.{◌≡◌, ◌≢◌, ℕ, Bool, true, false, List}
use Rattle.lvish_checks.specs.Fault.{fault_number, fault_name}
use Rattle.lvish_checks.specs.declared.script_fault.ScriptFault.{ScriptFault}
use Rattle.lvish_checks.specs.declared.fault.Fault.TheVariants as fault
use Rattle.lvish_json.specs.Answers.{refusal_value}
use Rattle.lvish_json.specs.Shape.{IsLineOf}
use Rattle.lvish_cli.specs.declared.status.Status.{Status}
use Rattle.lvish_cli.specs.declared.status.Status.TheVariants.{Refused}
use Rattle.lvish_cli.specs.Lines.{refusal_text}

-- the line of a fault, or where it is asked for, its JSON
abbrev pub IsRefusalText : (json : Bool) → ScriptFault → List ℕ → Type 0
IsRefusalText false e text = text ≡ refusal_text (fault_number e.fault) (fault_name e.fault) e.line
IsRefusalText true e text = IsLineOf (refusal_value e) text

-- the answer to a text that is no script
abbrev pub IsRefusalAnswer : ScriptFault → (json : Bool) → Status → List ℕ → Type 0
IsRefusalAnswer e json status text = (e.fault ≢ fault.Memory) × (status ≡ Refused) × IsRefusalText json e text
