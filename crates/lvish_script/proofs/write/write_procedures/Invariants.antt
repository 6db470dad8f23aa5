use Rattle.std.proofs.Common.{◌≡◌, ◌++◌, take}
use Rattle.std.specs.Prelude.{string_bytes}
use Rattle.std.specs.List.{flat_map}
use Rattle.lvish_script.specs.Spells.{procedure_lines}
use Rattle.lvish_script.specs.Canonical.{lines_text}
use Rattle.lvish_script.proofs.write.write_procedures.Given as goal

abbrev pub invariant-loop-procedure : goal.invariant-loop-procedure
invariant-loop-procedure l = string_bytes l.text ≡ string_bytes l.initial.text ++ lines_text (flat_map procedure_lines (take l.procedure-index l.procedures))
