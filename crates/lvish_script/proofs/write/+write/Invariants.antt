use Rattle.std.proofs.Common.{◌≡◌, ◌++◌, take}
use Rattle.std.specs.Prelude.{string_bytes}
use Rattle.lvish_script.specs.Spells.{body_lines}
use Rattle.lvish_script.specs.Canonical.{lines_text}
use Rattle.lvish_script.proofs.write.+write.Given as goal

abbrev pub invariant-write_block-loop-statement : goal.invariant-write_block-loop-statement
invariant-write_block-loop-statement l = string_bytes l.text ≡ string_bytes l.initial.text ++ lines_text (body_lines (take l.statement-index l.statement-items))
