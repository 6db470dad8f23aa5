use Rattle.std.proofs.Common.{◌∙◌, sym, ap, take, arith}
use Rattle.lvish_checks.specs.Checks.{is_variable, is_pool, is_procedure, open_step}
use Rattle.lvish_checks.proofs.Lines.{open_after-more, passed_on, fails_at, passes_all}
use Rattle.lvish_checks.proofs.Scans.{count_taken}
use Rattle.lvish_checks.proofs.check.too_many.first_too_many.Goals as goal

pub returns-then-is_past_limit : goal.returns-then-is_past_limit
returns-then-is_past_limit c = fails_at _ _ c.loop-k.k c.index-lines-k.result c.loop-k-test.true c.index-lines-k.is c.loop-k.invariant.passed (sym (c.is_past_limit.ensures (take c.loop-k.k c.args.lines.now) c.loop-k.invariant.variables c.loop-k.invariant.pools c.loop-k.invariant.procedures c.loop-k.invariant.opened) ∙ c.if-is_past_limit.true)

pub loop-k-preserved : goal.loop-k-preserved
loop-k-preserved c = record {
  variables = c.counted.ensures.value ∙ rw (c.loop-k.invariant.variables, c.is_variable.ensures) (sym (count_taken is_variable c.args.lines.now c.loop-k.k c.index-lines-k.result c.loop-k-test.true c.index-lines-k.is));
  pools = c.counted-in-loop-k.ensures.value ∙ rw (c.loop-k.invariant.pools, c.is_pool.ensures) (sym (count_taken is_pool c.args.lines.now c.loop-k.k c.index-lines-k.result c.loop-k-test.true c.index-lines-k.is));
  procedures = c.counted-in-loop-k-2.ensures.value ∙ rw (c.loop-k.invariant.procedures, c.is_procedure.ensures) (sym (count_taken is_procedure c.args.lines.now c.loop-k.k c.index-lines-k.result c.loop-k-test.true c.index-lines-k.is));
  opened = c.in_ok-add.ensures.added ∙ ap (λ o. open_step o c.index-lines-k.result) c.loop-k.invariant.opened ∙ sym (open_after-more c.args.lines.now c.loop-k.k c.index-lines-k.result c.loop-k-test.true c.index-lines-k.is);
  few_variables = omega arith;
  few_pools = omega arith;
  few_procedures = omega arith;
  passed = passed_on _ _ c.loop-k.k c.index-lines-k.result c.loop-k-test.true c.index-lines-k.is c.loop-k.invariant.passed (sym (c.is_past_limit.ensures (take c.loop-k.k c.args.lines.now) c.loop-k.invariant.variables c.loop-k.invariant.pools c.loop-k.invariant.procedures c.loop-k.invariant.opened) ∙ c.if-is_past_limit.false);
}

pub returns : goal.returns
returns c = passes_all _ _ c.loop-k.k c.loop-k-test.false c.loop-k.invariant.passed
