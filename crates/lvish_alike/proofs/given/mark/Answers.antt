use Rattle.std.proofs.Common.{[], true, set, sym, subst}
use Rattle.std.specs.List.{cons_option}
use Rattle.lvish_alike.specs.Sought.{AreAdded}
use Rattle.lvish_alike.proofs.Adding.{added_none, added_one, added_past}
use Rattle.lvish_alike.proofs.given.mark.Goals as goal

pub returns-then-place-marks : goal.returns-then-place-marks
returns-then-place-marks c =
    subst (λ o. AreAdded c.args.marks.now (cons_option o []) (set c.args.marks.now c.in-Some.place true)) (sym c.in-Some.is) (added_one c.args.marks.now c.in-Some.place c.if-place-marks.true)

pub returns-else-place-marks : goal.returns-else-place-marks
returns-else-place-marks c = subst (λ o. AreAdded c.args.marks.now (cons_option o []) c.args.marks.now) (sym c.in-Some.is) (added_past c.args.marks.now c.in-Some.place c.if-place-marks.false)

pub returns-in_default : goal.returns-in_default
returns-in_default c = subst (λ o. AreAdded c.args.marks.now (cons_option o []) c.args.marks.now) (sym c.in_default.is) (added_none c.args.marks.now)
