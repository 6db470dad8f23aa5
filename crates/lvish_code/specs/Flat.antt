-- Flat code, as contracts see it.
use Rattle.std.specs.Prelude.{ℕ, List}
use Rattle.lvish_code.specs.Vocabulary.{VariableKind, Routine}
use Rattle.lvish_code.specs.Sound.{IsCodeSound}

-- the kinds of the variables, the variable of each pool, the number of `main`, and the routines, which are sound
pub record Code : Type 0 where
  pub kinds : List VariableKind
  pub pools : List ℕ
  pub main : ℕ
  pub routines : List Routine
  pub sound : IsCodeSound kinds pools main routines
