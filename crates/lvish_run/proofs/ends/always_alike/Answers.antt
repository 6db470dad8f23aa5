use Rattle.std.proofs.Common.{ℕ, inl, inr, sym, ◌∙◌}
use Rattle.std.proofs.lemmas.Result.{IfOk-weaker}
use Rattle.lvish_compound.specs.contracts.event.EventOrd.TheImpl.{ghosts as event_order}
use Rattle.lvish_task.specs.Meaning.{script_functions}
use Rattle.lvish_task.specs.Run.{functions}
use Rattle.lvish_run.specs.Ends.{EndsAfter, AlwaysEnds}
use Rattle.lvish_run.specs.Scripts.{script_machine}
use Rattle.lvish_run.proofs.Ending.{not_shown, shown_of, shown_by_one, bounds_all}
use Rattle.lvish_run.proofs.InTime.{shown, unshown}
use Rattle.lvish_run.proofs.ends.always_alike.Goals as goal

pub returns-then-not-in_time : goal.returns-then-not-in_time
returns-then-not-in_time c =
    let is = c.in_ok-code.ensures in
    not_shown _ c.args.script.now c.args.budget (unshown c.args.script.now c.in_ok-code.code is (c.asks_no_freeze.ensures.lines c.args.script.now c.in_ok-code.code is) c.in_ok-in_time.in_time c.in_ok-in_time.ensures c.if-not-in_time.true)

pub returns : goal.returns
returns c =
    let is = c.in_ok-code.ensures in
    IfOk-weaker c.end_without_picks.result _ _ (λ end h. shown_of _ c.args.script.now c.args.budget
    (shown c.args.script.now c.in_ok-code.code is (c.asks_no_freeze.ensures.lines c.args.script.now c.in_ok-code.code is) c.in_ok-in_time.in_time c.in_ok-in_time.ensures c.if-not-in_time.false) end h all) c.end_without_picks.ensures
  where
    all : (n : ℕ) → EndsAfter event_order.cmp (script_machine c.args.script.now) n → AlwaysEnds (script_machine c.args.script.now) n
    all = elim (c.in_ok-in_time.ensures.0 c.if-not-in_time.false) [
      | inl none ↦ bounds_all _ _ _ _ _ _ _ (functions c.in_ok-code.code) (script_functions c.args.script.now) (c.same_runs.ensures c.args.script.now c.in_ok-code.code c.in_ok-code.ensures)
          (c.no_late_error.ensures c.in_ok-code.code) (c.asks_no_freeze.ensures.code c.args.script.now c.in_ok-code.code c.in_ok-code.ensures (sym (c.asks_no_freeze.ensures.lines c.args.script.now c.in_ok-code.code c.in_ok-code.ensures) ∙ none)) _
      | inr layered ↦ shown_by_one event_order.cmp (script_machine c.args.script.now) (c.layers_end_alike.ensures.shows_all c.args.script.now c.in_ok-code.code c.in_ok-code.ensures layered)
    ]
