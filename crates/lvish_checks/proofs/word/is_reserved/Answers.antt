use Rattle.std.proofs.Common.{◌≡◌, ◌∙◌, ◌==◌, ℕ, Bool, true, not, ◌&&◌, length, ap, arith}
use Rattle.std.specs.Prelude.{filter, nat_le}
use Rattle.std.specs.List.{list_any, slice_split}
use Rattle.std.specs.Str.{bytes_eq}
use Rattle.std.proofs.lemmas.Bool.Decides.{nat_tests}
use Rattle.std.proofs.lemmas.Map.Views.{any-filter_same}
use Rattle.std.proofs.lemmas.Slice.Eq.{bytes_eq-Decides}
use Rattle.lvish_syntax.specs.Words.{Word, reserved, is_reserved}
use Rattle.lvish_checks.proofs.word.is_reserved.Goals as goal

-- a word is compared with those alone whose length passes a test that its own passes
by_length : (test : ℕ → Bool) (w : Word) → test (length w) ≡ true → list_any (λ r. bytes_eq r w) (filter (λ r. test (length r)) (slice_split (λ b. b == 32) reserved)) ≡ is_reserved w
by_length test w e = any-filter_same (λ r. bytes_eq r w) (λ r. test (length r)) true (λ r same. ap (λ x. test (length x)) ((bytes_eq-Decides r w).0 same) ∙ e) (slice_split (λ b. b == 32) reserved)

pub returns-in-2 : goal.returns-in-2
returns-in-2 c = c.is_reserved_of_2.ensures ∙ by_length (λ n. n == 2) c.args.word.now (ap (λ n. n == 2) c.in-2.is)

pub returns-in-3 : goal.returns-in-3
returns-in-3 c = c.is_reserved_of_3.ensures ∙ by_length (λ n. n == 3) c.args.word.now (ap (λ n. n == 3) c.in-3.is)

pub returns-in-4 : goal.returns-in-4
returns-in-4 c = c.is_reserved_of_4.ensures ∙ by_length (λ n. n == 4) c.args.word.now (ap (λ n. n == 4) c.in-4.is)

pub returns-in-5 : goal.returns-in-5
returns-in-5 c = c.is_reserved_of_5.ensures ∙ by_length (λ n. n == 5) c.args.word.now (ap (λ n. n == 5) c.in-5.is)

pub returns-in-6 : goal.returns-in-6
returns-in-6 c = c.is_reserved_of_6.ensures ∙ by_length (λ n. n == 6) c.args.word.now (ap (λ n. n == 6) c.in-6.is)

pub returns-in_default : goal.returns-in_default
returns-in_default c = by_length (λ n. not (nat_le 2 n && nat_le n 6)) c.args.word.now (grind (arith, nat_tests, c.in_default))
