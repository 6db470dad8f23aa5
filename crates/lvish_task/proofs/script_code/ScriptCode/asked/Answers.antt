use Rattle.std.proofs.Common.{◌≡◌, true, IfOk, sym, subst, ◌∙◌, ap}
use Rattle.lvish_task.specs.declared.stack.Stack.{Stack}
use Rattle.lvish_code.specs.Flat as flat
use Rattle.lvish_task.specs.Run.{FlatAsked, stack_fits, run, asked}
use Rattle.lvish_task.specs.laws.Fits.{asked_is}
use Rattle.lvish_task.proofs.script_code.ScriptCode.asked.Goals as goal

module _ (c : flat.Code) where
  abbrev run_from : Stack → FlatAsked
  run_from l = run c l.left l.top l.below

  -- after statements of a copy the same is asked
  same : (l copy strode : Stack) → true ≡ stack_fits c l → copy ≡ l → run_from strode ≡ run_from copy → run_from strode ≡ asked c l
  same l copy strode fits is taken = taken ∙ ap run_from is ∙ sym (asked_is c l (sym fits))

pub returns-clause-request : goal.returns-clause-request
returns-clause-request c =
    let code = c.args.self.now.flat in
    let is = same code c.args.local.now c.in_ok-at.at c.stride_within.new.at c.if-not-fits.ensures c.in_ok-at.ensures c.stride_within.ensures in
    subst (λ a. IfOk c.asked_at.result (λ r. r.request ≡ a.request)) is c.asked_at.ensures.request

pub returns-clause-at : goal.returns-clause-at
returns-clause-at c =
    let code = c.args.self.now.flat in
    let is = same code c.args.local.now c.in_ok-at.at c.stride_within.new.at c.if-not-fits.ensures c.in_ok-at.ensures c.stride_within.ensures in
    subst (λ a. IfOk c.asked_at.result (λ r. r.at ≡ a.at)) is c.asked_at.ensures.at
