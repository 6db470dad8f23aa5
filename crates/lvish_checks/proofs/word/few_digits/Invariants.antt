use Rattle.std.proofs.Common.{◌≡◌, ◌≤◌, take, drop}
use Rattle.std.specs.Str.{all_ascii_digits}
use Rattle.std.specs.Str.Parse.{digits_value}
use Rattle.lvish_checks.proofs.word.few_digits.Given as goal

abbrev pub invariant-loop-b : goal.invariant-loop-b
invariant-loop-b l = record {
  value : l.value ≡ digits_value 10 (take l.b-index l.word);
  most : l.value ≤ 1000000000000000009;
  digits : all_ascii_digits (drop l.b-index l.word) ≡ all_ascii_digits l.word;
}
