use Rattle.std.proofs.Common.{◌≡◌, [], ◌∷◌, MatchOption, refl, sym, ◌∙◌, ap, subst}
use Rattle.std.proofs.lemmas.Bool.{cond-true}
use Rattle.lvish_task.specs.Run.{is_frame_over, returned}
use Rattle.lvish_task.specs.laws.Settling.{stops}
use Rattle.lvish_task.proofs.script_code.ScriptCode.settle.Goals as goal

pub loop-alloc-init : goal.loop-alloc-init
loop-alloc-init c = refl

pub loop-alloc-preserved : goal.loop-alloc-preserved
loop-alloc-preserved c =
    let code = c.args.self.now.flat in
    let l = c.loop-alloc.local in
    let over = ap (is_frame_over code) (sym c.lands_at_its_end.ensures.lands) ∙ sym c.lands_at_its_end.ensures.ends ∙ c.loop-alloc-test.true in
    let popped : l.below ≡ c.in-Some.frame ∷ c.pop.new.self = subst (λ o. MatchOption o ((l.below ≡ []) × (c.pop.new.self ≡ [])) (λ f. l.below ≡ f ∷ c.pop.new.self)) c.in-Some.is c.in_ok-pop.ensures in
    sym (cond-true _ (returned code c.in-Some.frame c.pop.new.self l.left) _ over)
    ∙ ap (λ below. returned code l.top below l.left) (sym popped)
    ∙ c.loop-alloc.invariant

pub returns : goal.returns
returns c =
    let code = c.args.self.now.flat in
    let l = c.loop-alloc.local in
    let lands = c.lands_at_its_end.ensures.lands in
    let goes_on = ap (is_frame_over code) (sym lands) ∙ sym c.lands_at_its_end.ensures.ends ∙ c.loop-alloc-test.false in
    ap (λ top. record { left = l.left; top = top; below = l.below }) lands ∙ sym (stops code l.top l.below l.left goes_on) ∙ c.loop-alloc.invariant
