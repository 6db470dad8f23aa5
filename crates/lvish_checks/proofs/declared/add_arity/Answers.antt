use Rattle.lvish_syntax.specs.Words.{Word}
use Rattle.lvish_checks.proofs.Scans.{arity_more, arities_same, no_parameters}
use Rattle.lvish_checks.proofs.declared.add_arity.Goals as goal

pub returns-in_ok-add : goal.returns-in_ok-add
returns-in_ok-add c = λ before known q.
    let added = λ (r : Word). rw (c.as_slice.ensures, c.get.ensures, c.get-in-Proc.ensures) at (c.in_ok-add.ensures.added r) in
    rw c.in-Proc.is (arity_more c.args.arities.now c.add.new.self _ _ before added known q)

pub returns-in_default : goal.returns-in_default
returns-in_default c = λ before known. arities_same c.args.arities.now before c.args.line.now (no_parameters c.args.line.now c.in_default.not-Proc) known
