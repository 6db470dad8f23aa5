use Rattle.std.proofs.Common.{◌≡◌, ◌++◌, codes, true, string_bytes}
use Rattle.lvish_compound.specs.MapOf.{entries_of}
use Rattle.lvish_report.specs.StateText.{entry_text}
use Rattle.lvish_report.proofs.Braces.{pieces}
use Rattle.lvish_report.proofs.state_text.push_map.Given as goal

abbrev pub invariant-loop-key : goal.invariant-loop-key
invariant-loop-key l = string_bytes l.text ++ (pieces entry_text l.is_first l.key-iterator ++ codes "}") ≡ string_bytes l.fn.text ++ (codes "{" ++ (pieces entry_text true (entries_of l.map) ++ codes "}"))
