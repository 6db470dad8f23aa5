-- What is asked for, and whether it is there.
use Rattle.std.specs.Prelude.{◌≡◌, ◌↔◌, ℕ, ℤ, pos, Bool, IsTrue, List, ◌∷◌, ◌++◌, Option, Some, None, option_map, option_and_then, slice_get, if◌then◌else◌}
use Rattle.std.specs.Ordering.{int_eq}
use Rattle.lvish_compound.specs.declared.event.Event.{Event}
use Rattle.lvish_compound.specs.declared.kind.Kind.{Kind}
use Rattle.lvish_compound.specs.declared.kind.Kind.TheVariants as event
use Rattle.lvish_calculus.specs.declared.label.Label.{Label}
use Rattle.lvish_calculus.specs.declared.label.Label.TheVariants.{Act}
use Rattle.lvish_calculus.specs.Machine.{Machine}
use Rattle.lvish_calculus.specs.Handing.{IsAmong, Introduces}
use Rattle.lvish_names.specs.Names.{Name}
use Rattle.lvish_syntax.specs.declared.kind.SimpleKind.{SimpleKind}
use Rattle.lvish_syntax.specs.declared.kind.SimpleKind.TheVariants.{Cell, Set, Max}
use Rattle.lvish_syntax.specs.declared.kind.VariableKind.{VariableKind}
use Rattle.lvish_syntax.specs.declared.kind.VariableKind.TheVariants.{Simple, Map, Pair, Tally}
use Rattle.lvish_syntax.specs.declared.script.Script.{Script}
use Rattle.lvish_code.specs.Compile.{variable_kinds}
use Rattle.lvish_retrace.specs.declared.bringer.Bringer.{Bringer}
use Rattle.lvish_why.specs.declared.question.Question.{Question}

-- the kind of the events of a cell, a set or a counter
abbrev pub part_kind : SimpleKind → Kind
part_kind Cell = event.Cell
part_kind Set = event.Set
part_kind Max = event.Max

-- the kind of the events that a variable of this kind has at a key
abbrev pub kind_at : ℤ → VariableKind → Option Kind
kind_at key (Simple part) = Some (part_kind part)
kind_at key Map = Some event.Map
kind_at key (Pair first second) = if int_eq key (pos 1) then Some (part_kind first) else if int_eq key (pos 2) then Some (part_kind second) else None
kind_at key Tally = Some event.Tally

-- the event of this key and number of one of the variables of these kinds; none where there is no such variable or side
abbrev pub event_of : List VariableKind → Question → Option Event
event_of kinds asked = option_map (λ kind. record { key = asked.key; kind = kind; number = asked.number }) (option_and_then (kind_at asked.key) (slice_get kinds asked.variable))

module _ {S E R A L : Type 0} (M : Machine S E R A L) where
  -- a step of the run introduces the event to v
  abbrev pub IsIntroduced : List (Label E) → ℕ → E → Type 0
  IsIntroduced xs v e = (before : List (Label E)) × (after : List (Label E)) × (t : Name E) × (xs ≡ before ++ Act t ∷ after) × Introduces M before t v e

-- whether one of the puts is of the event that is asked for, of variables of these kinds
abbrev pub IsNamed : List VariableKind → Question → List (Bringer Event) → Bool → Type 0
IsNamed kinds asked bs there = IsTrue there ↔ ((e : Event) × (event_of kinds asked ≡ Some e) × ((b : Bringer Event) × IsAmong b bs × (b.variable ≡ asked.variable) × (b.event ≡ e)))

-- whether a step of the script's run introduces the event
abbrev pub IsThere : {S R A L : Type 0} → Machine S Event R A L → Script → Question → List (Label Event) → Bool → Type 0
IsThere M script asked xs there = IsTrue there ↔ ((e : Event) × (event_of (variable_kinds script.declarations) asked ≡ Some e) × IsIntroduced M xs asked.variable e)
