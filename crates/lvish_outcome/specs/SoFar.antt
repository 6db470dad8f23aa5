-- The states of a run that was stopped.
use Rattle.std.specs.Prelude.{ℕ, List, [], ◌++◌, ◌==◌, length, true, if◌then◌else◌}
use Rattle.lvish_compound.specs.declared.any.Any.{Any}
use Rattle.lvish_compound.specs.declared.event.Event.{Event}
use Rattle.lvish_syntax.specs.Words.{Word}
use Rattle.lvish_syntax.specs.declared.kind.VariableKind.{VariableKind}
use Rattle.lvish_report.specs.declared.report.Report.{Report}
use Rattle.lvish_report.specs.Text.{variable_lines, count_lines}

-- each state, and the counts, as at an end; nothing where there isn't one state for each variable
abbrev pub states_text : List (Word × VariableKind) → Report Any Event → List ℕ
states_text variables r = if length r.states == length variables then variable_lines true variables r.states ++ count_lines r.steps r.blocked else []
