use Rattle.std.proofs.Common.{◌∙◌, string_bytes}
use Rattle.lvish_report.proofs.TraceLines.{one_more}
use Rattle.lvish_report.proofs.trace_lines.trace_text.Goals as goal

pub loop-number-preserved : goal.loop-number-preserved
loop-number-preserved g c = c.in_ok-push_line.ensures
    ∙ one_more g.E.Numbered.key_of g.E.Numbered.number_of c.args.report.now.trace c.loop-number.number c.in-Some.step (string_bytes c.loop-number.text) c.loop-number.invariant c.in-Some.ensures
