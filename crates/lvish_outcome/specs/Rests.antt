-- The put of what is there already.
use Rattle.std.specs.Prelude.{◌≡◌, ◌+◌, ℤ, List, Option, Some}
use Rattle.lvish_compound.specs.declared.event.Event.{Event}
use Rattle.lvish_calculus.specs.Handing.{IsAmong}
use Rattle.lvish_retrace.specs.declared.bringer.Bringer.{Bringer}
use Rattle.lvish_outcome.specs.declared.trouble.Trouble.{Trouble}
use Rattle.lvish_outcome.specs.declared.trouble.Trouble.TheVariants.{Other}
use Rattle.lvish_outcome.specs.declared.earlier.Earlier.{Earlier}
use Rattle.lvish_outcome.specs.declared.earlier.Earlier.TheVariants.{Put}

-- the number that is told to be there is there
abbrev pub Says : Option ℤ → Trouble → Type 0
Says there (Other s n m) = there ≡ Some m
Says there t = Unit {0}

-- if an earlier put is told, it is this one, by its task and its step
abbrev pub IsPutBy : Bringer Event → Earlier → Type 0
IsPutBy b (Put t line step) = (t.now ≡ b.task) × (step ≡ b.step + 1)
IsPutBy b e = Unit {0}

-- no earlier put is told
abbrev pub IsNoPut : Earlier → Type 0
IsNoPut (Put t line step) = ⊥
IsNoPut e = Unit {0}

-- the number that is told to be there is that of one of these puts, and if an earlier put is told, it is that one
abbrev pub RestsOn : List (Bringer Event) → Trouble → Earlier → Type 0
RestsOn bs (Other s n m) e = (b : Bringer Event) × IsAmong b bs × (b.event.number ≡ m) × IsPutBy b e
RestsOn bs t e = IsNoPut e
