-- What freezes do where none comes too early.
use Rattle.std.specs.Prelude.{◌≢◌, ℕ, List, Some}
use Rattle.lvish_names.specs.Names.{Name}
use Rattle.lvish_calculus.specs.declared.label.Label.{Label}
use Rattle.lvish_calculus.specs.declared.request.ErrorKind.{ErrorKind}
use Rattle.lvish_calculus.specs.declared.request.ErrorKind.TheVariants.{Frozen, Late}
use Rattle.lvish_calculus.specs.Machine.{Machine}
use Rattle.lvish_calculus.specs.Calculus.{Running, Error, IsRun, start}

module _ {S E R A L : Type 0} (M : Machine S E R A L) where
  -- no run is in error because a put would raise a frozen variable, or a handler comes to one
  abbrev pub NeverTooLate : Type 0
  NeverTooLate = (xs : List (Label E)) (kind : ErrorKind) (v : ℕ) (t : Name E) → IsRun M (Running (start M)) xs (Error kind (Some v) t) → (kind ≢ Frozen) × (kind ≢ Late)
