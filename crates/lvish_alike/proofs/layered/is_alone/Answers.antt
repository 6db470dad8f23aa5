use Rattle.std.proofs.Common.{◌∙◌, sym, subst}
use Rattle.lvish_alike.specs.Sought.{instruction_names, AreReached}
use Rattle.lvish_alike.proofs.Marks.{some_there, none_there}
use Rattle.lvish_alike.proofs.Alone.{nobody_names, somebody_names, alone_only}
use Rattle.lvish_alike.proofs.layered.is_alone.Goals as goal

pub returns-then-is_some : goal.returns-then-is_some
returns-then-is_some c =
    let reached = subst (AreReached instruction_names c.args.routines.now c.args.main) (sym c.deref.ensures.value) c.in_ok-can.ensures in
    let found = some_there _ _ (sym c.is_some.ensures ∙ c.if-is_some.true) c.first.ensures.found in
    ((λ t. absurd (cc t)), (λ alone. absurd (somebody_names c.args.routines.now c.args.main c.deref.result.now reached found.0 found.1 alone.1)))

pub returns : goal.returns
returns c =
    let routines = c.args.routines.now in
    let can = c.in_ok-can.can.items in
    let reached = subst (AreReached instruction_names routines c.args.main) (sym c.deref.ensures.value) c.in_ok-can.ensures in
    let nobody = nobody_names routines c.args.main c.deref.result.now reached (none_there _ _ (sym c.is_some.ensures ∙ c.if-is_some.false) c.first.ensures.nowhere) in
    alone_only routines c.args.main can c.in_ok-can.ensures c.deref-2.result.now c.deref-2.ensures.value c.first-2.result c.is_none.result c.is_none.ensures c.first-2.ensures.found c.first-2.ensures.nowhere nobody
