use Rattle.std.proofs.Common.{◌≡◌, ℕ, zero, suc, ◌-◌, ◌<◌, ◌≤◌, None, refl, ◌∙◌, sym, ap, arith}
use Rattle.lvish_code.specs.Flat as flat
use Rattle.lvish_task.specs.declared.stack.Stack.{Stack}
use Rattle.lvish_task.specs.Run.{FlatTurn, Goes, Asks, settled, requested, moved, went, run, flat_turn}
use Rattle.lvish_task.specs.laws.Settling.{returned_left, pending, run_pending}
use Rattle.lvish_task.proofs.script_code.ScriptCode.run.Goals as goal

module _ (c : flat.Code) where
  -- from a local state and once it is settled, the same is asked
  pending_settled : (l m : Stack) → m ≡ settled c l → pending c m.left m ≡ run c l.left l.top l.below
  pending_settled l m e = ap (λ k. pending c k.left k) e ∙ ap (λ n. pending c n (settled c l)) (returned_left c l.top l.below l.left) ∙ sym (run_pending c l.left l.top l.below)

  -- after a local statement the same is asked
  goes_on : (l m : Stack) → 0 < l.left → requested (flat_turn c l) ≡ None → m ≡ moved l (flat_turn c l) → run c m.left m.top m.below ≡ pending c l.left l
  goes_on l m some none is = ap (λ k. run c k.left k.top k.below) is ∙ by l.left refl (flat_turn c l) refl some none
    where
      by : (n : ℕ) → l.left ≡ n → (t : FlatTurn) → flat_turn c l ≡ t → 0 < n → requested t ≡ None → run c (moved l t).left (moved l t).top (moved l t).below ≡ pending c n l
      by zero left t e some none = absurd (omega arith)
      by (suc n) left (Goes top below) e some none = let less : l.left - 1 ≡ n = omega arith in ap (λ k. run c k top below) less ∙ sym (ap (went c l (run c n)) e)
      by (suc n) left (Asks r) e some none = absurd cc

  goes_down : (l m : Stack) → requested (flat_turn c l) ≡ None → m ≡ moved l (flat_turn c l) → m.left ≡ l.left - 1
  goes_down l m none is = ap (λ k. k.left) is ∙ by (flat_turn c l) none
    where
      by : (t : FlatTurn) → requested t ≡ None → (moved l t).left ≡ l.left - 1
      by (Goes top below) e = refl
      by (Asks r) e = absurd cc

pub loop-local-init : goal.loop-local-init
loop-local-init c = pending_settled c.args.self.now.flat c.args.local.now c.settle.new.local c.in_ok-settle.ensures

pub loop-local-smaller : goal.loop-local-smaller
loop-local-smaller c =
    let code = c.args.self.now.flat in
    let none : requested (flat_turn code c.loop-local.local) ≡ None = sym c.in_ok-request.ensures.asks ∙ c.in_default.is in
    let strode = c.stride.new.local in
    let left = returned_left code strode.top strode.below strode.left in
    let settled : c.settle-in-loop-local.new.local.left ≡ strode.left = ap (λ l. l.left) c.in_ok-settle-2.ensures ∙ left in
    let fewer : strode.left ≤ c.turn.new.local.left = c.stride.ensures.fewer in
    let less = goes_down code c.loop-local.local c.turn.new.local none c.in_ok-request.ensures.moves in
    let some : 0 < c.loop-local.local.left = c.loop-local-test.true in
    omega arith

pub loop-local-preserved : goal.loop-local-preserved
loop-local-preserved c =
    let code = c.args.self.now.flat in
    let none : requested (flat_turn code c.loop-local.local) ≡ None = sym c.in_ok-request.ensures.asks ∙ c.in_default.is in
    pending_settled code c.stride.new.local c.settle-in-loop-local.new.local c.in_ok-settle-2.ensures
    ∙ c.stride.ensures.same
    ∙ goes_on code c.loop-local.local c.turn.new.local c.loop-local-test.true none c.in_ok-request.ensures.moves
    ∙ c.loop-local.invariant
