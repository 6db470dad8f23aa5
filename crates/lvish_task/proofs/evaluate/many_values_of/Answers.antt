use Rattle.std.proofs.Common.{rules, ◌≡◌, ◌∷◌, [], ◌++◌, ◌∙◌, ap}
use mir.Syntax.{w64}
use mir.Val.{SFits}
use Rattle.std.proofs.lemmas.Int.{to_z-of_z}
use Rattle.lvish_compound.proofs.Pushed.{pushed_more, pushed_all}
use Rattle.lvish_task.specs.Run.{operand_value}
use Rattle.lvish_task.proofs.evaluate.many_values_of.Goals as goal

pub loop-operand-preserved : goal.loop-operand-preserved
loop-operand-preserved c =
    let fits : SFits w64 c.operand.result = search rules in
    let items : c.push.new.self.items ≡ c.loop-operand.found.items ++ c.operand.result ∷ [] = c.in_ok-push.ensures.items ∙ ap (λ z. c.loop-operand.found.items ++ z ∷ []) (to_z-of_z w64 c.operand.result fits) in
    pushed_more (operand_value c.args.values.now) c.args.operands.now c.loop-operand.operand-index [] _ c.loop-operand.invariant _ _ _ c.loop-operand-test.true c.operand.ensures items

pub returns : goal.returns
returns c = c.many.ensures ∙ pushed_all (operand_value c.args.values.now) c.args.operands.now c.loop-operand.operand-index [] _ c.loop-operand.invariant c.loop-operand-test.false
