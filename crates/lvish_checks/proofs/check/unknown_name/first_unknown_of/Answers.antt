use Rattle.std.proofs.Common.{◌∙◌, sym, subst, take}
use Rattle.lvish_checks.specs.Known.{AreVariables}
use Rattle.lvish_checks.proofs.Lines.{taken_with, passed_on, fails_at, passes_all}
use Rattle.lvish_checks.proofs.check.unknown_name.first_unknown_of.Goals as goal

pub returns-then-names_unknown : goal.returns-then-names_unknown
returns-then-names_unknown c = fails_at _ _ c.loop-k.k c.index-lines-k.result c.loop-k-test.true c.index-lines-k.is c.loop-k.invariant.passed (sym (c.names_unknown.ensures c.args.lines.now c.loop-k.k c.requires.variables c.requires.pools c.requires.procedures c.loop-k.invariant.above c.loop-k.invariant.locals) ∙ c.if-names_unknown.true)

pub loop-k-preserved : goal.loop-k-preserved
loop-k-preserved c = record {
  above = subst (AreVariables c.add_variable.new.variables) (sym (taken_with c.args.lines.now c.loop-k.k c.index-lines-k.result c.loop-k-test.true c.index-lines-k.is)) (c.in_ok-add_variable.ensures (take c.loop-k.k c.args.lines.now) c.loop-k.invariant.above);
  locals = c.in_ok-go_below.ensures c.loop-k.invariant.locals;
  passed = passed_on _ _ c.loop-k.k c.index-lines-k.result c.loop-k-test.true c.index-lines-k.is c.loop-k.invariant.passed (sym (c.names_unknown.ensures c.args.lines.now c.loop-k.k c.requires.variables c.requires.pools c.requires.procedures c.loop-k.invariant.above c.loop-k.invariant.locals) ∙ c.if-names_unknown.false);
}

pub returns : goal.returns
returns c = passes_all _ _ c.loop-k.k c.loop-k-test.false c.loop-k.invariant.passed
