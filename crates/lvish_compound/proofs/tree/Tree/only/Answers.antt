use Rattle.std.proofs.Common.{◌≡◌, ◌∷◌, ◌∙◌, [], length, ap, subst, MatchOption, arith}
use Rattle.std.specs.Map.Iter.{deref_pair}
use Rattle.lvish_compound.proofs.Parts.{only_taken}
use Rattle.lvish_compound.proofs.tree.Tree.only.Goals as goal

pub returns-then-self-ne1 : goal.returns-then-self-ne1
returns-then-self-ne1 g c = λ one. absurd (let other = c.if-self-ne1.true in let all = c.self.invariant.2 in let shown = ap length c.self.view_is in omega (arith, one))

pub returns : goal.returns
returns g c =
    let one : length c.args.self.now ≡ 1 = let same = c.if-self-ne1.false in let all = c.self.invariant.2 in let shown = ap length c.self.view_is in omega arith in
    subst (λ s. MatchOption c.next.result (length s ≡ 1 → ⊥) (λ e. s ≡ (e.0.now, e.1.now) ∷ [])) c.iter.ensures.same (only_taken deref_pair _ _ c.next.result (ap length c.iter.ensures.same ∙ one) c.next.ensures.steps)
