-- Where a handler is among the others.
use Rattle.std.specs.Prelude.{◌≡◌, ◌<◌, ◌≤◌, ℕ, List, Some, length, slice_get}
use Rattle.std.specs.List.{AllWithin}
use Rattle.std.specs.declared.cmp.Ordering.{Ordering}
use Rattle.std.specs.declared.cmp.Ordering.TheVariants.{Less, Greater}
use Rattle.lvish_names.specs.Names.{Handler}
use Rattle.lvish_names.specs.NameOrder.{handler_cmp}
use Rattle.lvish_handlers.specs.declared.held.Held.{Held}

-- the handler at this place has the name
pub record IsAt {E : Type 0} (held : List (Held E)) (name : Handler E) (at : ℕ) : Type 0 where
  pub inside : at < length held
  pub handler : Held E
  pub is : slice_get held at ≡ Some handler
  pub named : handler.name ≡ name

-- the names before this place are below the name, and the others above it
pub record IsGap {E : Type 0} (cmp : E → E → Ordering) (held : List (Held E)) (name : Handler E) (at : ℕ) : Type 0 where
  pub inside : at ≤ length held
  pub before : AllWithin (λ h. handler_cmp cmp h.name name ≡ Less) held 0 at
  pub after : AllWithin (λ h. handler_cmp cmp h.name name ≡ Greater) held at (length held)
