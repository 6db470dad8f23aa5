use Rattle.std.proofs.Common.{◌≡◌, ◌<◌, true, false, ◌&&◌, ◌==◌, List, [], length, Some, None, sym, ◌∙◌, ap, subst, arith}
use Rattle.std.proofs.Math.Bool.{and-false}
use Rattle.std.proofs.lemmas.Bool.Decides.{Decides-eqb}
use Rattle.std.proofs.lemmas.List.{nil_from_length}
use Rattle.lvish_task.specs.Vocabulary.{Request, Action, Ask, Return, Any, AnyRead}
use Rattle.lvish_calculus.specs.declared.request.Request.TheVariants as ask
use Rattle.lvish_code.specs.Flat as flat
use Rattle.lvish_task.specs.declared.stack.Stack.{Stack}
use Rattle.lvish_task.specs.Run.{Asks, AsksBy, jump_in, is_end, placed, instructions, instruction, landed, is_frame_over, returned, settled, action_turn, instruction_turn, frame_turn, run}
use Rattle.lvish_task.specs.laws.Landing.{landing_here}
use Rattle.lvish_task.specs.laws.Settling.{stays, makes_some, asked_here}
use Rattle.lvish_task.proofs.script_code.ScriptCode.here.Goals as goal

nothing : {X : Type 0} (xs : List X) → true ≡ (length xs == 0) → xs ≡ []
nothing xs e = nil_from_length xs ((Decides-eqb _ _).0 (sym e))

module _ (c : flat.Code) (l : Stack) (some : 0 < l.left) (none : l.top.events ≡ []) where
  -- where no jump stands, a frame stays
  rests : jump_in (instruction c l.top) ≡ None → landed c l.top ≡ l.top
  rests e = ap (placed l.top) (landing_here (instructions c l.top) l.top.place e)

  asks_here : (q : Request Any AnyRead Stack) → settled c l ≡ l → instruction_turn c l.top l.below (instruction c l.top) ≡ Asks q → run c l.left l.top l.below ≡ record { request = q; at = l }
  asks_here q is e = asked_here c l q is (makes_some c l.left l q some (ap (frame_turn c l.top l.below) none ∙ e))

  acts_here : (a : Action) (q : Request Any AnyRead Stack) → instruction c l.top ≡ Some (Ask a) → Asks q ≡ action_turn c l.top.values a → run c l.left l.top l.below ≡ record { request = q; at = l }
  acts_here a q is e =
      let goes_on : is_frame_over c l.top ≡ false = ap (λ o. (length l.top.events == 0) && is_end o) is ∙ and-false (length l.top.events == 0) in
      asks_here q (stays c l.top l.below l.left (rests (ap jump_in is)) goes_on) (ap (instruction_turn c l.top l.below) is ∙ sym e)

  -- at the end of the only frame
  ends_here : instruction c l.top ≡ Some Return → l.below ≡ [] → run c l.left l.top l.below ≡ record { request = ask.End; at = l }
  ends_here is alone =
      let here : settled c l ≡ l =
      ap (λ fs. returned c l.top fs l.left) alone
      ∙ ap (λ g. record { left = l.left; top = g; below = [] }) (rests (ap jump_in is))
      ∙ ap (λ fs. record { left = l.left; top = l.top; below = fs }) (sym alone) in
      asks_here ask.End here (ap (instruction_turn c l.top l.below) is)

pub returns-in-Ask : goal.returns-in-Ask
returns-in-Ask c =
    let code = c.args.self.now.flat in
    let l = c.args.local.now in
    let is : instruction code l.top ≡ Some (Ask c.in-Ask.field-0) = sym c.in_ok-instruction.ensures.value ∙ ap Some c.in-Ask.is in
    subst (AsksBy code l) (sym c.in-Ask.is) (λ q e. acts_here code l (omega arith) (nothing l.top.events c.if-not-is_empty.ensures) c.in-Ask.field-0 q is e)

pub returns-in-Return : goal.returns-in-Return
returns-in-Return c =
    let code = c.args.self.now.flat in
    let l = c.args.local.now in
    let is : instruction code l.top ≡ Some Return = sym c.in_ok-instruction.ensures.value ∙ ap Some c.in-Return.is in
    subst (AsksBy code l) (sym c.in-Return.is) (ends_here code l (omega arith) (nothing l.top.events c.if-not-is_empty.ensures) is (nothing l.below c.if-is_empty.ensures))
