use Rattle.std.proofs.Common.{◌≡◌, ◌++◌, codes, true, string_bytes}
use Rattle.std.specs.Fmt.{signed_decimal}
use Rattle.lvish_lattice.specs.GrowSet.{items_of}
use Rattle.lvish_report.proofs.Braces.{pieces}
use Rattle.lvish_report.proofs.state_text.push_set.Given as goal

abbrev pub invariant-loop-element : goal.invariant-loop-element
invariant-loop-element l = string_bytes l.text ++ (pieces signed_decimal l.is_first l.element-iterator ++ codes "}") ≡ string_bytes l.fn.text ++ (codes "{" ++ (pieces signed_decimal true (items_of l.set) ++ codes "}"))
