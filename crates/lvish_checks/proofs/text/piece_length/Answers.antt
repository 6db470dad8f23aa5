use Rattle.std.proofs.Common.{length, sym, ◌∙◌, arith}
use Rattle.std.proofs.lemmas.List.Sums.{position_or_len_is}
use Rattle.lvish_checks.specs.Text.{is_separator}
use Rattle.lvish_checks.proofs.Pieces.{fails_more}
use Rattle.lvish_checks.proofs.text.piece_length.Goals as goal

pub returns-then-is_separator-clause-place : goal.returns-then-is_separator-clause-place
returns-then-is_separator-clause-place c = sym (position_or_len_is is_separator c.args.line.now c.loop-at.at 0 c.loop-at.auto.at-end c.loop-at.invariant (λ _. sym c.is_separator.ensures ∙ c.if-is_separator.true))

pub loop-at-preserved : goal.loop-at-preserved
loop-at-preserved c = fails_more is_separator c.args.line.now c.loop-at.at c.loop-at.invariant (sym c.is_separator.ensures ∙ c.if-is_separator.false)

pub returns-clause-place : goal.returns-clause-place
returns-clause-place c = sym (position_or_len_is is_separator c.args.line.now (length c.args.line.now) 0 (omega arith) (λ k lt. c.loop-at.invariant k (omega (arith, lt, c.loop-at-test.false))) (λ lt. absurd (omega (arith, lt))))
