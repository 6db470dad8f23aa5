-- Where a handler stands among those of its variable.
use Rattle.std.specs.Prelude.{◌≡◌, List, Some, slice_get}
use Rattle.lvish_calculus.specs.Machine.{Machine}
use Rattle.lvish_names.specs.Names.{Handler}
use Rattle.lvish_handlers.specs.Handlers.{HandlersView as Handlers}
use Rattle.lvish_core.specs.Vocabulary.{Held}
use Rattle.lvish_core.specs.Core.{CoreView, state}
use Rattle.lvish_core.specs.declared.handler_place.HandlerSeat.{HandlerSeat}

-- the handler stands here, at its place among those of the variable
pub record StandsAt {E : Type 0} (hss : List (Handlers E)) (held : Held E) (seat : HandlerSeat) : Type 0 where
  pub beside : Handlers E
  pub beside_is : slice_get hss seat.variable ≡ Some beside
  pub is : slice_get beside.held seat.at ≡ Some held

-- a handler of this name stands here
pub record IsSeat {E : Type 0} (hss : List (Handlers E)) (name : Handler E) (seat : HandlerSeat) : Type 0 where
  pub held : Held E
  pub stands : StandsAt hss held seat
  pub named : held.name ≡ name

-- the handler stands here, and has its pool and its procedure in the configuration too
pub record IsPosted {P S E R A L : Type 0} (M : Machine S E R A L) (c : CoreView P S E L) (held : Held E) (seat : HandlerSeat) : Type 0 where
  pub stands : StandsAt c.table.handlers held seat
  pub post : (state M c).handlers held.name ≡ Some (record { pool = held.pool; procedure = held.procedure })
  pub own : M.pool_variable held.pool ≡ Some seat.variable
