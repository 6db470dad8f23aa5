-- Reads of a script's variables.
use Rattle.std.specs.Prelude.{ℤ, Option}
use Rattle.lvish_compound.specs.declared.any.Any.{Any}
use Rattle.lvish_compound.specs.declared.any_read.AnyRead.{AnyRead}
use Rattle.lvish_compound.specs.Vocabulary.{Place, Test}
use Rattle.lvish_compound.specs.StateReads.{MemberAt, answer_at}

-- the place that is read
abbrev pub place_of : AnyRead → Place
place_of r = r.place

-- which numbers are waited for
abbrev pub test_of : AnyRead → Test
test_of r = r.test

abbrev pub Member : AnyRead → Any → ℤ → Type 0
Member r s n = MemberAt r.place r.test s n

abbrev pub answer_of : AnyRead → Any → Option ℤ
answer_of r s = answer_at r.place r.test s
