-- The order in which a run first freezes variables, and what it decides.
use Rattle.std.specs.Prelude.{◌≡◌, ◌⊎◌, ◌↔◌, ℕ, List, [], ◌∷◌, Option, Some, None, if◌then◌else◌}
use mathlib.Core.List.{IsPrefix}
use Rattle.lvish_calculus.specs.Machine.{Machine}
use Rattle.lvish_calculus.specs.Calculus.{State, Configuration, Running, Error, Label, Effect, Changes, effect, step, start, IsEnd}
use Rattle.lvish_calculus.specs.Laws.{Reaches, IsCrossed}

-- one of the two lists is a prefix of the other
abbrev pub AreComparable : {X : Type 0} → List X → List X → Type 0
AreComparable xs ys = IsPrefix xs ys ⊎ IsPrefix ys xs

-- the variable that a step freezes, if it freezes one
abbrev pub froze_by : {S E L : Type 0} → Effect S E L → Option ℕ
froze_by (Changes ch) = ch.froze
froze_by _ = None

-- the variable that a step from c freezes, where c hasn't it frozen, in front of those that are frozen later
abbrev pub first_frozen : {S E L : Type 0} → State S E L → Option ℕ → List ℕ → List ℕ
first_frozen c None vs = vs
first_frozen c (Some v) vs = if c.frozen v then vs else v ∷ vs

module _ {S E R A L : Type 0} (M : Machine S E R A L) where
  -- the variables that steps with these labels freeze from here, in the order in which they are first frozen
  abbrev pub freezes_from : Configuration S E L → List (Label E) → List ℕ
  freezes_from d [] = []
  freezes_from (Running c) (l ∷ ls) = first_frozen c (froze_by (effect M c l)) (freezes_from (step M c l) ls)
  freezes_from (Error kind v t) (l ∷ ls) = []

  -- the order of freezes of a run from the start
  abbrev pub freeze_order : List (Label E) → List ℕ
  freeze_order ls = freezes_from (Running (start M)) ls

  -- two runs cross exactly where neither's order of freezes is a prefix of the other's
  abbrev pub CrossedByOrder : Type 0
  CrossedByOrder = (xs ys : List (Label E)) → IsCrossed M xs ys ↔ (AreComparable (freeze_order xs) (freeze_order ys) → ⊥)

  -- any two runs cross, or one's order of freezes is a prefix of the other's
  abbrev pub CrossOrComparable : Type 0
  CrossOrComparable = (xs ys : List (Label E)) → IsCrossed M xs ys ⊎ AreComparable (freeze_order xs) (freeze_order ys)

  -- any two runs that end without an error cross, or have the same order of freezes
  abbrev pub CrossOrSameOrder : Type 0
  CrossOrSameOrder = (xs ys : List (Label E)) (a b : State S E L) → Reaches M xs a → Reaches M ys b → IsEnd M a → IsEnd M b
      → IsCrossed M xs ys ⊎ (freeze_order xs ≡ freeze_order ys)
