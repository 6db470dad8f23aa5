use Rattle.lvish_task.specs.Meaning.{script_functions}
use Rattle.lvish_task.specs.Run.{functions}
use Rattle.lvish_trace.specs.Traced.{labels_of}
use Rattle.lvish_why.proofs.There.{is_there, run_back}
use Rattle.lvish_why.proofs.telling.why.Goals as goal

pub returns-in-Some : goal.returns-in-Some
returns-in-Some c =
    let same = c.same_runs.ensures c.args.script.now c.in_ok-code.code c.in_ok-code.ensures in
    let told = rw c.in-Some.is at c.in_ok-told.ensures.told in
    let many = rw c.in-Some.is at c.in_ok-told.ensures.variables in
    is_there _ _ _ _ _ _ _ (functions c.in_ok-code.code) (script_functions c.args.script.now) same c.args.script.now c.args.asked c.in_ok-code.code.flat.kinds c.in_ok-code.ensures.kinds c.in-Some.told.core.table.variables many (labels_of c.args.report.now.trace) c.in-Some.told.story.brought.items told.brought
    c.in_ok-derived-in-Some.field-0.is_there c.in_ok-derived-in-Some.ensures

pub returns : goal.returns
returns c =
    let same = c.same_runs.ensures c.args.script.now c.in_ok-code.code c.in_ok-code.ensures in
    let never = rw c.in-None.is at c.in_ok-told.ensures.told in
    λ run. never (run_back _ _ _ _ _ _ _ (functions c.in_ok-code.code) (script_functions c.args.script.now) same (labels_of c.args.report.now.trace) run)
