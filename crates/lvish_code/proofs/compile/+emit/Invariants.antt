use Rattle.std.proofs.Common.{◌≡◌, ◌++◌, take}
use Rattle.lvish_code.specs.Compile.{list_code}
use Rattle.lvish_code.specs.InScope.{names_in}
use Rattle.lvish_code.proofs.compile.+emit.Given as goal

abbrev pub invariant-emit_block-loop-statement : goal.invariant-emit_block-loop-statement
invariant-emit_block-loop-statement l = l.code.items ≡ l.initial.code.items ++ list_code (names_in l.scope) (take l.statement-index l.statement-items)
