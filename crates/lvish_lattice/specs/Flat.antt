-- The flat lattice.
use Rattle.std.specs.Prelude.{◌≡◌, Bool, cond, List, [], ◌∷◌, Option, Some, None, Contains}
use Rattle.std.specs.List.{list_any}
use Rattle.lvish_lattice.specs.declared.flat.Flat.{Flat}
use Rattle.lvish_lattice.specs.declared.flat.Flat.TheVariants.{Bottom, Value}
use Rattle.lvish_lattice.specs.declared.flat.FlatRead.{FlatRead}
use Rattle.lvish_lattice.specs.declared.flat.FlatRead.TheVariants.{Any, In}
use Rattle.lvish_lattice.specs.declared.flat.Whole.{Whole}

module _ {V : Type 0} where
  -- two different values join to top
  abbrev pub joined : (V → V → Bool) → Flat V → Flat V → Option (Flat V)
  joined eq Bottom b = Some b
  joined eq (Value x) Bottom = Some (Value x)
  joined eq (Value x) (Value y) = cond (eq x y) (Some (Value x)) None

  abbrev pub events_of : Flat V → List V
  events_of Bottom = []
  events_of (Value x) = x ∷ []

  -- the members are cell values, each of which answers its value
  abbrev pub Member : FlatRead V → Flat V → V → Type 0
  Member r Bottom a = ⊥
  Member Any (Value x) a = x ≡ a
  Member (In xs) (Value x) a = (x ≡ a) × Contains xs x

  -- a value answers itself where it is waited for
  abbrev pub answer_of : (V → V → Bool) → FlatRead V → Flat V → Option V
  answer_of eq r Bottom = None
  answer_of eq Any (Value x) = Some x
  answer_of eq (In xs) (Value x) = cond (list_any (eq x) xs) (Some x) None

  -- all values have one spot: a cell is written once
  abbrev pub spot_of : V → Whole
  spot_of x = record {}

  abbrev pub watched : FlatRead V → Option Whole
  watched r = Some (record {})
