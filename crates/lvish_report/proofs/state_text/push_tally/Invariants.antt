use Rattle.std.proofs.Common.{◌≡◌, ◌++◌, codes, true, string_bytes}
use Rattle.lvish_compound.specs.Tally.{entries_of}
use Rattle.lvish_report.specs.StateText.{amount_text}
use Rattle.lvish_report.proofs.Braces.{pieces}
use Rattle.lvish_report.proofs.state_text.push_tally.Given as goal

abbrev pub invariant-loop-key : goal.invariant-loop-key
invariant-loop-key l = string_bytes l.text ++ (pieces amount_text l.is_first l.key-iterator ++ codes "}") ≡ string_bytes l.fn.text ++ (codes "{" ++ (pieces amount_text true (entries_of l.tally) ++ codes "}"))
