-- What a stamp stands for.
use Rattle.std.specs.Prelude.{◌≡◌, ◌⊎◌, ◌++◌, ◌∷◌, [], ℕ, List, Option, None, Some, length, slice_get}

-- a number, and the value that has it
pub record Stamped (V : Type 0) : Type 0 where
  pub number : ℕ
  pub value : Option V

-- the value of this number in a history
abbrev pub stamped : {V : Type 0} → List V → ℕ → Stamped V
stamped log n = record { number = n; value = slice_get log n }

-- the value has the next number; or it has none, and nothing has changed
abbrev pub IsStamped : {V : Type 0} → V → List V → List V → Stamped V → Type 0
IsStamped v old new s = ((s ≡ record { number = length old; value = Some v }) × (new ≡ old ++ v ∷ [])) ⊎ ((s.value ≡ None) × (new ≡ old))
