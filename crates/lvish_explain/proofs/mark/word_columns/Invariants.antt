use Rattle.std.proofs.Common.{◌≡◌, ◌+◌, ◌++◌, true, drop}
use Rattle.lvish_explain.specs.Mark.{word_columns}
use Rattle.lvish_explain.proofs.mark.word_columns.Given as goal

abbrev pub invariant-loop-k : goal.invariant-loop-k
invariant-loop-k l = word_columns 1 true l.line ≡ l.columns.items ++ word_columns (l.k + 1) l.may_begin (drop l.k l.line)
