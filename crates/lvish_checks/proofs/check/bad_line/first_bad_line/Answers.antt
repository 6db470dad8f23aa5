use Rattle.std.proofs.Common.{◌∙◌, sym, ap, take}
use Rattle.lvish_checks.specs.Checks.{is_procedure, is_told, stands_badly}
use Rattle.lvish_checks.proofs.Lines.{passed_on, fails_at, passes_all}
use Rattle.lvish_checks.proofs.Scans.{any_taken}
use Rattle.lvish_checks.proofs.check.bad_line.first_bad_line.Goals as goal

pub returns-then-stands_badly : goal.returns-then-stands_badly
returns-then-stands_badly c =
    let before = take c.loop-k.k c.args.lines.now in
    let line = c.index-lines-k.result in
    fails_at _ _ c.loop-k.k line c.loop-k-test.true c.index-lines-k.is c.loop-k.invariant.passed
    (ap (λ v. stands_badly v before line) (sym c.version_of-version.ensures) ∙ sym (c.stands_badly.ensures before c.loop-k.invariant.is_said c.loop-k.invariant.begun) ∙ c.if-stands_badly.true)

pub loop-k-preserved : goal.loop-k-preserved
loop-k-preserved c =
    let before = take c.loop-k.k c.args.lines.now in
    let line = c.index-lines-k.result in
    record {
      is_said = rw (c.loop-k.invariant.is_said, c.is_told-is_said.ensures) (sym (any_taken is_told c.args.lines.now c.loop-k.k line c.loop-k-test.true c.index-lines-k.is));
      begun = rw (c.loop-k.invariant.begun, c.is_procedure-begun.ensures) (sym (any_taken is_procedure c.args.lines.now c.loop-k.k line c.loop-k-test.true c.index-lines-k.is));
      passed = passed_on _ _ c.loop-k.k line c.loop-k-test.true c.index-lines-k.is c.loop-k.invariant.passed
          (ap (λ v. stands_badly v before line) (sym c.version_of-version.ensures) ∙ sym (c.stands_badly.ensures before c.loop-k.invariant.is_said c.loop-k.invariant.begun) ∙ c.if-stands_badly.false);
    }

pub returns : goal.returns
returns c = passes_all _ _ c.loop-k.k c.loop-k-test.false c.loop-k.invariant.passed
