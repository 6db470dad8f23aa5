-- Where a task stands, in words.
use Rattle.std.specs.Prelude.{ℕ, List, [], ◌∷◌, ◌++◌, codes, flat_map, nat_le, if◌then◌else◌}
use Rattle.std.specs.Fmt.{decimal, signed_decimal}
use Rattle.lvish_compound.specs.declared.event.Event.{Event}
use Rattle.lvish_names.specs.Names.{Name}
use Rattle.lvish_names.specs.NameText.{name_text}
use Rattle.lvish_outcome.specs.declared.standing.LocalText.{LocalText}
use Rattle.lvish_outcome.specs.declared.standing.CallText.{CallText}
use Rattle.lvish_outcome.specs.declared.standing.StandingText.{StandingText}

-- the name of a script's task
abbrev pub task_text : Name Event → List ℕ
task_text t = name_text (λ (e : Event). e.key) (λ (e : Event). e.number) t

-- a local behind a piece of text
abbrev pub local_text : List ℕ → LocalText → List ℕ
local_text before l = before ++ (l.name.now ++ (codes " " ++ signed_decimal l.value))

-- the locals of a procedure, if there are any
abbrev pub locals_text : List LocalText → List ℕ
locals_text [] = []
locals_text (l ∷ ls) = local_text (codes ", with ") l ++ flat_map (local_text (codes ", ")) ls

-- a procedure and a line
abbrev pub in_text : List ℕ → ℕ → List ℕ
in_text procedure line = codes "in " ++ (procedure ++ (codes ", line " ++ decimal line))

-- how often, where that is more than once
abbrev pub times_text : ℕ → List ℕ
times_text n = if nat_le n 1 then [] else codes ", " ++ (decimal n ++ codes " times")

-- a call that led there
unfoldable pub called_line : CallText → List ℕ
called_line c = codes "called: " ++ (in_text c.procedure.now c.line ++ (times_text c.times ++ 10 ∷ []))

abbrev pub called_lines : List CallText → List ℕ
called_lines cs = flat_map called_line cs

-- the task, its procedure and its line
abbrev pub at_text : StandingText → List ℕ
at_text s = codes "at: " ++ (task_text s.task.now ++ (codes ", " ++ in_text s.procedure.now s.line))

-- where the task stands, and a line for each call
unfoldable pub standing_text : StandingText → List ℕ
standing_text s = at_text s ++ (locals_text s.locals.items ++ (10 ∷ called_lines s.calls.items))
