-- Where a join is top.
use Rattle.std.specs.Prelude.{◌≡◌, ◌≢◌, ◌↔◌, Option, None}
use Rattle.lvish_lattice.specs.declared.flat.Flat.{Flat}
use Rattle.lvish_lattice.specs.declared.flat.Flat.TheVariants.{Value}

-- two states join to top exactly where they clash
abbrev pub IsTopWhere : {S : Type 0} → (S → S → Option S) → (S → S → Type 0) → Type 0
IsTopWhere {S} join Clash = (a b : S) → (join a b ≡ None) ↔ Clash a b

-- no two states join to top
abbrev pub IsNeverTop : {S : Type 0} → (S → S → Option S) → Type 0
IsNeverTop {S} join = (a b : S) → join a b ≢ None

-- two cells hold two values that differ
abbrev pub TwoValues : {V : Type 0} → Flat V → Flat V → Type 0
TwoValues {V} a b = (m : V) × (n : V) × (a ≡ Value m) × (b ≡ Value n) × (m ≢ n)
