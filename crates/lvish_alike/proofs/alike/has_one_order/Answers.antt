use Rattle.std.proofs.Common.{◌≡◌, ◌∙◌, ◌↔◌, refl, sym, subst, true, List, Bool}
use Rattle.std.proofs.lemmas.Bool.{both_ways}
use Rattle.std.proofs.lemmas.Result.{IfOk-weaker}
use Rattle.lvish_alike.specs.Sought.{instruction_names, AreReached, FreezeOne, OthersFreezeNone}
use Rattle.lvish_alike.proofs.Marks.{by_one, by_others}
use Rattle.lvish_alike.proofs.alike.has_one_order.Goals as goal

pub returns-then-freezes_one : goal.returns-then-freezes_one
returns-then-freezes_one c =
    let code = c.args.code.now in
    let first = subst (λ m. AreReached instruction_names c.routines-routines.result.now m c.in_ok-marks.marks.items) c.main.ensures c.in_ok-marks.ensures in
    let there = subst (λ r. AreReached instruction_names r code.main c.in_ok-marks.marks.items) c.routines-routines.ensures first in
    let reached = subst (AreReached instruction_names code.routines code.main) (sym c.deref.ensures.value) there in
    let one = subst (λ r. FreezeOne r c.deref.result.now) c.routines-routines.ensures (c.freezes_one.ensures.0 c.if-freezes_one.true) in
    ((λ t. by_one code c.deref.result.now reached one), (λ order. refl))

pub returns : goal.returns
returns c =
    let code = c.args.code.now in
    let first = subst (λ m. AreReached instruction_names c.routines-routines.result.now m c.in_ok-marks.marks.items) c.main.ensures c.in_ok-marks.ensures in
    let there = subst (λ r. AreReached instruction_names r code.main c.in_ok-marks.marks.items) c.routines-routines.ensures first in
    let reached = subst (AreReached instruction_names code.routines code.main) (sym c.deref.ensures.value) there in
    let same = c.deref.ensures.value ∙ sym c.deref-2.ensures.value in
    let not_one = λ (one : FreezeOne code.routines c.deref.result.now). both_ways _ c.if-freezes_one.false (c.freezes_one.ensures.1 (subst (λ r. FreezeOne r c.deref.result.now) (sym c.routines-routines.ensures) one)) in
    IfOk-weaker c.no_other_freezes.result _ _ (λ b z. by_others code c.deref.result.now reached b not_one
    (subst (λ (m : List Bool). (b ≡ true) ↔ OthersFreezeNone code.routines m) (sym same) (subst (λ r. (b ≡ true) ↔ OthersFreezeNone r c.deref-2.result.now) c.routines-routines.ensures z))) c.no_other_freezes.ensures
