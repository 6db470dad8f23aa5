use Rattle.std.proofs.Common.{◌≡◌, true, false, sym, ◌∙◌}
use Rattle.std.proofs.lemmas.Bool.{false≢true}
use Rattle.std.proofs.lemmas.Result.{IfOk-weaker}
use Rattle.lvish_task.specs.Freezing.{has_freeze}
use Rattle.lvish_task.specs.Meaning.{script_functions}
use Rattle.lvish_task.specs.Run.{functions}
use Rattle.lvish_run.proofs.Ending.{not_shown, shown_of, bounds_all}
use Rattle.lvish_run.proofs.ends.always_ends.Goals as goal

pub returns-then-freezes : goal.returns-then-freezes
returns-then-freezes c =
    let has : has_freeze c.args.script.now ≡ true = sym (c.asks_no_freeze.ensures.lines c.args.script.now c.in_ok-code.code c.in_ok-code.ensures) ∙ sym c.freezes.ensures ∙ c.if-freezes.true in
    not_shown _ c.args.script.now c.args.budget (λ none. false≢true (sym none ∙ has))

pub returns : goal.returns
returns c =
    let none : has_freeze c.args.script.now ≡ false = sym (c.asks_no_freeze.ensures.lines c.args.script.now c.in_ok-code.code c.in_ok-code.ensures) ∙ sym c.freezes.ensures ∙ c.if-freezes.false in
    IfOk-weaker c.end_without_picks.result _ _ (λ end h. shown_of _ c.args.script.now c.args.budget none end h
    (bounds_all _ _ _ _ _ _ _ (functions c.in_ok-code.code) (script_functions c.args.script.now) (c.same_runs.ensures c.args.script.now c.in_ok-code.code c.in_ok-code.ensures)
    (c.no_late_error.ensures c.in_ok-code.code) (c.asks_no_freeze.ensures.code c.args.script.now c.in_ok-code.code c.in_ok-code.ensures none) _)) c.end_without_picks.ensures
