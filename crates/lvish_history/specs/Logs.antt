-- What a log and what was seen of it own: ghost state alone.
use Rattle.std.specs.Prelude.{ℕ, List, map}
use base.Fraction.{full_share}
use base.Stored.{Gv, Coded}
use base.Growing.{Order, prefixes, latest, at_least}
use base.Fml.{Fml}

-- A log is kept as its ghost values, in an algebra that names no type parameter
abbrev pub itself : Coded Gv
itself = record { code = λ g. g; inj = λ x y p. p }

-- lists of ghost values, which are appended to
abbrev pub logs : Order (List Gv)
logs = prefixes itself

-- the right to add to the log of this name, which has these values
abbrev pub log_owns : {V : Type 0} → (V → Gv) → ℕ → List V → Fml
log_owns code name values = latest logs full_share name (map code values)

-- the log of this name has begun with these values, for good
abbrev pub seen_owns : {V : Type 0} → (V → Gv) → ℕ → List V → Fml
seen_owns code name values = at_least logs name (map code values)
