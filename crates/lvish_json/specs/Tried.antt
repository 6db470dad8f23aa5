-- What is told of runs that were tried.
use Rattle.std.specs.Prelude.{ℤ, codes, List, [], ◌∷◌, Some}
use Rattle.json.specs.Json.{Json}
use Rattle.lvish_compound.specs.declared.event.Event.{Event}
use Rattle.lvish_syntax.specs.Words.{Word}
use Rattle.lvish_syntax.specs.declared.kind.VariableKind.{VariableKind}
use Rattle.lvish_try.specs.declared.tried.Found.{Found}
use Rattle.lvish_try.specs.declared.tried.Tried.{Tried}
use Rattle.lvish_json.specs.Shape.{each, fields, count}
use Rattle.lvish_json.specs.Report.{report_value}

-- the key and the number by which an event is told
abbrev pub event_key : Event → ℤ
event_key e = e.key

abbrev pub event_number : Event → ℤ
event_number e = e.number

module _ (variables : List (Word × VariableKind)) where
  -- an outcome: how often runs came to it, and the report of one of them
  abbrev pub found_value : Found → Json
  found_value f = fields ((codes "times", count f.times) ∷ (codes "report", report_value variables event_key event_number f.report (Some f.picks)) ∷ [])

  -- how many runs were made, from which seed, and each outcome
  abbrev pub tried_value : Tried → Json
  tried_value t = fields ((codes "times", count t.times) ∷ (codes "seed", count t.seed) ∷ (codes "found", each found_value t.found) ∷ [])
