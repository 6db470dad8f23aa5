use Rattle.std.proofs.Common.{◌∙◌, ap}
use Rattle.lvish_code.specs.Compile.{operand_of}
use Rattle.lvish_code.specs.InScope.{names_in}
use Rattle.lvish_code.proofs.Loops.{mapped_more, mapped_all}
use Rattle.lvish_code.proofs.scope.Scope.operands.Goals as goal

pub loop-term-preserved : goal.loop-term-preserved
loop-term-preserved c = mapped_more (operand_of (names_in c.args.self.now)) c.args.terms.now c.loop-term.term-index c.loop-term.operands.items c.loop-term.invariant c.term-item.result _ _ c.loop-term-test.true (c.operand.ensures ∙ ap (operand_of (names_in c.args.self.now)) c.term-item.is) c.in_ok-push.ensures.items

pub returns : goal.returns
returns c = c.new.ensures ∙ mapped_all (operand_of (names_in c.args.self.now)) c.args.terms.now c.loop-term.term-index c.loop-term.operands.items c.loop-term.invariant c.loop-term-test.false
