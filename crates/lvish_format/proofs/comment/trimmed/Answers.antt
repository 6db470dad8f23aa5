use Rattle.std.proofs.Common.{◌≡◌, ◌∙◌, take, sym, ap, arith}
use Rattle.lvish_format.specs.Format.{trimmed}
use Rattle.lvish_format.proofs.Trimmed.{trimmed_less, trimmed_whole}
use Rattle.lvish_format.proofs.comment.trimmed.Goals as goal
use Rattle.lvish_format.proofs.comment.trimmed.Goals.{then-loop-end-test+else-is_separator, else-loop-end-test}

pub loop-end-preserved : goal.loop-end-preserved
loop-end-preserved c = record {
  within = omega (arith, c.loop-end.invariant.within);
  same = trimmed_less c.args.bytes.now c.loop-end.end c.loop-end-test.true c.loop-end.invariant.within (sym c.is_separator.ensures ∙ c.if-is_separator.true) ∙ c.loop-end.invariant.same;
}

pub returns : goal.returns
returns c =
    elim c.loop-end-test.branch [
      | then-loop-end-test+else-is_separator w ↦ sym (trimmed_whole c.args.bytes.now c.loop-end.end w.loop-end-test.true c.loop-end.invariant.within (sym w.is_separator.ensures ∙ w.if-is_separator.false)) ∙ c.loop-end.invariant.same
      | else-loop-end-test w ↦
          let none : c.loop-end.end ≡ 0 = omega (arith, w.loop-end-test.false) in
          ap (λ k. take k c.args.bytes.now) none ∙ ap (λ k. trimmed (take k c.args.bytes.now)) (sym none) ∙ c.loop-end.invariant.same
    ]
