-- The text of what runs by drawn picks came to.
use Rattle.std.specs.Prelude.{◌==◌, ℕ, codes, List, ◌++◌, length, flat_map, decimal, if◌then◌else◌}
use Rattle.lvish_compound.specs.declared.any.Any.{Any}
use Rattle.lvish_compound.specs.declared.event.Event.{Event}
use Rattle.lvish_syntax.specs.declared.script.Script.{Script}
use Rattle.lvish_report.specs.declared.report.Report.{Report}
use Rattle.lvish_again.specs.Text.{picks_text as some_picks_text}
use Rattle.lvish_try.specs.declared.tried.Found.{Found}
use Rattle.lvish_try.specs.declared.tried.Tried.{Tried}
use Rattle.lvish_try.specs.Tried.{shown}

-- which picks make a run
abbrev pub picks_text : List ℕ → List ℕ
picks_text picks = if length picks == 0 then codes "without picks" else codes "by picks" ++ some_picks_text picks

-- how many of so many runs came to an outcome
abbrev pub count_text : (count times : ℕ) → List ℕ
count_text count times = decimal count ++ (codes " of " ++ (decimal times ++ codes " runs, for example "))

-- the lines of a report, after the end of a line
abbrev pub report_lines : Script → Report Any Event → List ℕ
report_lines script r = codes ":\n" ++ shown script r

-- the lines of an outcome
abbrev pub found_text : Script → ℕ → Found → List ℕ
found_text script times f = count_text f.times times ++ (picks_text f.picks ++ report_lines script f.report)

-- the lines above all outcomes
abbrev pub head : (seed outcomes : ℕ) → List ℕ
head seed outcomes = codes "seed " ++ (decimal seed ++ (codes "\noutcomes " ++ (decimal outcomes ++ codes "\n")))

-- the whole text
abbrev pub tried_text : Script → Tried → List ℕ
tried_text script t = head t.seed (length t.found) ++ flat_map (found_text script t.times) t.found
