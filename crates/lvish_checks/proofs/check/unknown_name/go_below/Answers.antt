use Rattle.std.proofs.Common.{◌+◌}
use Rattle.lvish_checks.proofs.Loops.{rest_whole}
use Rattle.lvish_checks.proofs.Scans.{locals_stay, locals_begin, no_procedure}
use Rattle.lvish_checks.proofs.check.unknown_name.go_below.Goals as goal

pub returns-in_ok-locals-in-Proc : goal.returns-in_ok-locals-in-Proc
returns-in_ok-locals-in-Proc c = λ same. rw (locals_begin c.args.lines.now c.args.k c.index-lines-k.result c.requires c.index-lines-k.is _ _ c.in-Proc.is, ← rest_whole (c.args.k + 1) c.args.lines.now, ← c.get.ensures, ← c.as_slice.ensures) c.in_ok-locals-in-Proc.ensures

pub returns-in_default : goal.returns-in_default
returns-in_default c = λ same q. rw (locals_stay c.args.lines.now c.args.k c.index-lines-k.result c.requires c.index-lines-k.is (no_procedure c.index-lines-k.result c.in_default.not-Proc)) (same q)
