use Rattle.std.proofs.Common.{◌≡◌, ◌++◌, take, map}
use Rattle.std.specs.Prelude.{string_bytes}
use Rattle.lvish_checks.specs.declared.line.Line.TheVariants as line
use Rattle.lvish_script.specs.Canonical.{lines_text}
use Rattle.lvish_script.proofs.write.write_declarations.Given as goal

abbrev pub invariant-loop-declaration : goal.invariant-loop-declaration
invariant-loop-declaration l = string_bytes l.text ≡ string_bytes l.initial.text ++ lines_text (map (λ d. line.Declare d) (take l.declaration-index l.declarations))
