-- Where the first of a core's tasks stand, by name.
use Rattle.std.specs.Prelude.{◌≡◌, ◌<◌, ◌≤◌, ℕ, Bool, List, Some, None, length, slice_get}
use Rattle.std.specs.List.{IsDistinct}
use Rattle.std.specs.HashMap.{HashMap, get}
use Rattle.lvish_names.specs.Names.{Name, same_name}
use Rattle.lvish_core.specs.declared.stage.Stage.{Stage}

-- no name stands twice, the map tells of each name where it stands, and it knows the first names, as many as it counts
pub record AreIndexed {E H : Type 0} (eq : E → E → Bool) (names : List (Name E)) (indices : HashMap (Name E) ℕ H) (count : ℕ) : Type 0 where
  pub once : IsDistinct (same_name eq) names
  pub told : (t : Name E) (i : ℕ) → get (same_name eq) indices t ≡ Some i → slice_get names i ≡ Some t
  pub known : (t : Name E) (i : ℕ) → i < count → slice_get names i ≡ Some t → get (same_name eq) indices t ≡ None → ⊥
  pub within : count ≤ length names

-- the names are indexed, and each has a stage beside it
pub record AreStaged {E L H : Type 0} (eq : E → E → Bool) (names : List (Name E)) (stages : List (Stage L)) (indices : HashMap (Name E) ℕ H) (count : ℕ) : Type 0 where
  pub indexed : AreIndexed eq names indices count
  pub beside : length stages ≡ length names
