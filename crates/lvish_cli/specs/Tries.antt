-- What is answered of runs by drawn picks.
use Rattle.std.specs.Prelude.{◌≡◌, ◌<◌, ◌≤◌, ◌⊎◌, ℕ, Bool, true, false, List, length}
use Rattle.lvish_syntax.specs.declared.script.Script.{Script}
use Rattle.lvish_report.specs.Text.{variables_of}
use Rattle.lvish_try.specs.declared.tried.Tried.{Tried}
use Rattle.lvish_try.specs.Tried.{IsTried}
use Rattle.lvish_try.specs.Text.{tried_text}
use Rattle.lvish_json.specs.Tried.{tried_value}
use Rattle.lvish_json.specs.Shape.{IsLineOf}
use Rattle.lvish_cli.specs.declared.order.TryOrder.{TryOrder}
use Rattle.lvish_cli.specs.declared.status.Status.{Status}
use Rattle.lvish_cli.specs.declared.status.Status.TheVariants.{Done, Differ}

-- the status tells whether the runs came to one outcome
abbrev pub IsTriedStatus : Tried → Status → Type 0
IsTriedStatus tried status = ((status ≡ Done) × (length tried.found ≤ 1)) ⊎ ((status ≡ Differ) × (1 < length tried.found))

-- the text of what they came to, or where it is asked for, its JSON
abbrev pub IsTriedText : (json : Bool) → Script → Tried → List ℕ → Type 0
IsTriedText false script tried text = text ≡ tried_text script tried
IsTriedText true script tried text = IsLineOf (tried_value (variables_of script.declarations) tried) text

-- the answer to a script that is run so often
abbrev pub IsTryAnswer : Script → TryOrder → Status → List ℕ → Type 0
IsTryAnswer script asked status text = (tried : Tried) × IsTried script asked.times asked.seed asked.budget tried × IsTriedStatus tried status × IsTriedText asked.json script tried text
