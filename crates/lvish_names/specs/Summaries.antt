-- What a link says of the path that it ends.
use Rattle.std.specs.Prelude.{◌≡◌, ℕ, suc, ◌+◌, ◌*◌, ◌%◌, ◌^◌, true, false, [], ◌∷◌, Option, Some, None}
use Rattle.lvish_names.specs.declared.limits.TheConstants.{FORK_FACTOR}
use Rattle.lvish_names.specs.declared.name_part.NamePart.{NamePart}
use Rattle.lvish_names.specs.declared.name_part.NamePart.TheVariants.{Fork, Hand}
use Rattle.lvish_names.specs.declared.path.Link.{Link, Link', Held-Link-before, None', Some'}
use Rattle.lvish_names.specs.declared.summary.Summary.{Summary}
use Rattle.lvish_names.specs.Names.{Name}
use Rattle.lvish_names.specs.Path.{held_parts}

-- the number of a task's i-th fork, where n is the task's: 32 bits of both
abbrev pub fork_after : ℕ → ℕ → ℕ
fork_after n i = (n * FORK_FACTOR % 2 ^ 32 + i % 2 ^ 32) % 2 ^ 32

-- the path to main
abbrev pub of_main : Summary
of_main = record { depth = 0; has_event = false; code = 0 }

-- a path with one more part: forks behind the last event have a number together
abbrev pub with_part : {E : Type 0} → Summary → NamePart E → Summary
with_part s (Fork i) = record { depth = suc s.depth; has_event = s.has_event; code = fork_after s.code i }
with_part s (Hand j e) = record { depth = suc s.depth; has_event = true; code = 0 }

abbrev pub summary_of : {E : Type 0} → Name E → Summary
summary_of [] = of_main
summary_of (part ∷ before) = with_part (summary_of before) part

abbrev mutual
  -- that a link, and each before it, says what its path is
  pub IsSummed : {E : Type 0} → Link E → Type 0
  IsSummed (Link' summary before last) = (summary ≡ summary_of (last ∷ held_parts before)) × IsHeldSummed before

  pub IsHeldSummed : {E : Type 0} → Held-Link-before E → Type 0
  IsHeldSummed None' = Unit {0}
  IsHeldSummed (Some' p link) = IsSummed link

-- the same of a path, of which there is nothing to say where it is main's
abbrev pub IsPathSummed : {E : Type 0} → Option (Link E) → Type 0
IsPathSummed None = Unit {0}
IsPathSummed (Some link) = IsSummed link
