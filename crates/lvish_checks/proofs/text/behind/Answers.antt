use Rattle.std.proofs.Common.{◌+◌, ◌<◌, length, length-drop, subst, sym, arith}
use Rattle.lvish_checks.proofs.Loops.{rest_whole}
use Rattle.lvish_checks.proofs.text.behind.Goals as goal

pub returns-clause-rest : goal.returns-clause-rest
returns-clause-rest c = rest_whole (c.args.at + 1) c.args.line.now

pub returns-clause-shorter : goal.returns-clause-shorter
returns-clause-shorter c = subst (λ xs. length xs < length c.args.line.now) (sym (rest_whole (c.args.at + 1) c.args.line.now)) (omega (arith, length-drop (c.args.at + 1) c.args.line.now, c.requires))
