use Rattle.std.proofs.Common.{◌≡◌, true, drop}
use Rattle.lvish_format.specs.Format.{comment_from}
use Rattle.lvish_format.proofs.comment.comment_of.Given as goal

abbrev pub invariant-loop-k : goal.invariant-loop-k
invariant-loop-k l = comment_from true l.line ≡ comment_from l.may_begin (drop l.k l.line)
