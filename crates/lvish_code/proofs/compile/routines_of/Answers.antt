use Rattle.std.proofs.Common.{◌∙◌, ap}
use Rattle.lvish_code.specs.Vocabulary.{Procedure}
use Rattle.lvish_code.specs.Compile.{local_names, routine_of}
use Rattle.lvish_code.specs.InScope.{names_with}
use Rattle.lvish_code.proofs.Loops.{mapped_more, mapped_all}
use Rattle.lvish_code.proofs.compile.routines_of.Goals as goal

pub loop-procedure-preserved : goal.loop-procedure-preserved
loop-procedure-preserved c =
    let routine = λ (p : Procedure). routine_of (names_with c.args.tables.now (local_names p)) p in
    mapped_more routine c.args.procedures.now c.loop-procedure.procedure-index c.loop-procedure.routines.items c.loop-procedure.invariant c.procedure-item.result _ _ c.loop-procedure-test.true (c.in_ok-routine_of.ensures ∙ ap routine c.procedure-item.is) c.in_ok-push.ensures.items

pub returns : goal.returns
returns c = c.new.ensures ∙ mapped_all (λ (p : Procedure). routine_of (names_with c.args.tables.now (local_names p)) p) c.args.procedures.now c.loop-procedure.procedure-index c.loop-procedure.routines.items c.loop-procedure.invariant c.loop-procedure-test.false
