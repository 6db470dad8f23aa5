-- The text so far is that of the steps so far.
use Rattle.std.proofs.Common.{◌≡◌, take, string_bytes}
use Rattle.lvish_trace.specs.Traced.{labels_of}
use Rattle.lvish_report.specs.TraceText.{trace_lines}
use Rattle.lvish_report.proofs.trace_lines.trace_text.Given as goal

abbrev pub invariant-loop-number : goal.invariant-loop-number
invariant-loop-number g l = string_bytes l.text ≡ trace_lines g.E.Numbered.key_of g.E.Numbered.number_of (labels_of (take l.number l.report.trace))
