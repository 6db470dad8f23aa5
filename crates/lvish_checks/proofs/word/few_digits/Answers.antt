use Rattle.std.proofs.Common.{◌∙◌, sym, ap, take_all, length, arith}
use Rattle.std.specs.Str.Parse.{digits_value}
use Rattle.lvish_checks.proofs.Digits.{value_more, digits_more, few_spelled, given, some_bytes}
use Rattle.lvish_checks.proofs.word.few_digits.Goals as goal

pub loop-b-preserved : goal.loop-b-preserved
loop-b-preserved c =
    let is = sym c.is_digit.ensures ∙ c.if-not-is_digit.false in
    record {
      value = value_more c.args.word.now c.loop-b.b-index c.loop-b-test.true c.loop-b.value c.digit.result is c.digit.ensures.value c.loop-b.invariant.value;
      most = omega (arith, c.if-value-gt-MOST_BEFORE_ONE_MORE.false, c.digit.ensures.most);
      digits = digits_more c.args.word.now c.loop-b.b-index c.loop-b-test.true is c.loop-b.invariant.digits;
    }

pub returns : goal.returns
returns c =
    let some = some_bytes (length c.args.word.now) c.is_empty.result c.is_empty.ensures c.if-is_empty.false in
    let whole = c.loop-b.invariant.value ∙ ap (digits_value 10) (take_all c.loop-b.b-index c.args.word.now c.loop-b-test.false) in
    given _ c.try_from.result _ c.ok.result _ c.ok.ensures.value c.try_from.ensures (few_spelled c.args.word.now c.loop-b.b-index c.loop-b.value some c.loop-b-test.false c.loop-b.invariant.digits whole c.loop-b.invariant.most)
