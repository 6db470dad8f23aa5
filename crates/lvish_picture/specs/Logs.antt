-- A variable's events in the order of their introduction.
use Rattle.std.specs.Prelude.{◌≡◌, ◌≢◌, ◌↔◌, ℕ, true, List, Contains, AllPairs}
use Rattle.lvish_calculus.specs.Machine.{Machine, IsBelow}
use Rattle.lvish_calculus.specs.declared.label.Label.{Label}
use Rattle.lvish_calculus.specs.Calculus.{State}
use Rattle.lvish_calculus.specs.Handing.{IsNoLater}

-- in the run xs, e came below v's state before x did, or with it and is the lesser
pub record IsBefore {S E R A L : Type 0} (M : Machine S E R A L) (xs : List (Label E)) (v : ℕ) (e x : E) : Type 0 where
  pub other : e ≢ x
  pub no_later : IsNoLater M xs v e x
  pub lesser : IsNoLater M xs v x e → M.event_le e x ≡ true

-- the list has the events below v's state in c, which the run xs reaches, each once, in the order of their introduction
pub record IsInOrder {S E R A L : Type 0} (M : Machine S E R A L) (xs : List (Label E)) (c : State S E L) (v : ℕ) (events : List E) : Type 0 where
  pub all : (e : E) → Contains events e ↔ IsBelow M e (c.content v)
  pub order : AllPairs (IsBefore M xs v) events
