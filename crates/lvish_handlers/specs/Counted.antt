-- What the fields of `Handlers` keep.
use Rattle.std.specs.Prelude.{◌≡◌, ℕ, List, sum_by}
use Rattle.std.specs.declared.cmp.Ordering.{Ordering}
use Rattle.lvish_handlers.specs.declared.held.Held.{Held}
use Rattle.lvish_handlers.specs.Handlers.{IsByName}

-- the handlers are by name, and the total is the sum of what each was handed
pub record IsCounted {E : Type 0} (cmp : E → E → Ordering) (held : List (Held E)) (total : ℕ) : Type 0 where
  pub by_name : IsByName cmp held
  pub sum : total ≡ sum_by (λ h. h.handed) held
