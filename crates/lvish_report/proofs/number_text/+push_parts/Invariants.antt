use Rattle.std.proofs.Common.{length}
use Rattle.lvish_report.proofs.number_text.+push_parts.Given as goal

abbrev pub decreases-push_parts : goal.decreases-push_parts
decreases-push_parts g a = length a.parts
