-- The handlers of a variable, and the tasks in its pools.
use Rattle.std.specs.Prelude.{◌≡◌, ◌<◌, ◌≤◌, ◌+◌, ℕ, Bool, List, ◌∷◌, ◌++◌, Option, Some, All, Contains, length, map, find, slice_get, option_and_then}
use Rattle.std.specs.List.Sorted.{IsStrictlySortedBy}
use Rattle.std.specs.declared.cmp.Ordering.{Ordering}
use Rattle.lvish_names.specs.Names.{Handler, same_handler}
use Rattle.lvish_names.specs.NameOrder.{handler_cmp}
use Rattle.lvish_variable.specs.declared.entry.Entry.{Entry}
use Rattle.lvish_variable.specs.Variable.{logged}
use Rattle.lvish_handlers.specs.declared.held.Held.{Held}

-- the handlers by name, and for each pool how many tasks run in it
pub record HandlersView (E : Type 0) : Type 0 where
  pub held : List (Held E)
  pub running : List ℕ

-- the names of the handlers
abbrev pub names : {E : Type 0} → List (Held E) → List (Handler E)
names held = map (λ h. h.name) held

-- one of them has this name
abbrev pub IsHeld : {E : Type 0} → List (Held E) → Handler E → Type 0
IsHeld held name = Contains (names held) name

-- each name is below those after it
abbrev pub IsByName : {E : Type 0} → (E → E → Ordering) → List (Held E) → Type 0
IsByName cmp held = IsStrictlySortedBy (handler_cmp cmp) (names held)

-- the one that has this name
abbrev pub held_as : {E : Type 0} → (E → E → Bool) → List (Held E) → Handler E → Option (Held E)
held_as eq held name = find (λ h. same_handler eq name h.name) held

-- no handler was handed more entries than there are
abbrev pub IsWithin : {E : Type 0} → HandlersView E → List (Entry E) → Type 0
IsWithin hs log = All (λ h. h.handed ≤ length log) hs.held

-- the event of the entry after those that the handler was handed
abbrev pub next_of : {E : Type 0} → (E → E → Bool) → List (Entry E) → List (Held E) → Handler E → Option E
next_of eq log held name = option_and_then (λ h. slice_get (logged log) h.handed) (held_as eq held name)

-- the handler stands among the others, and nothing else is changed
pub record IsAdded {E : Type 0} (handler : Held E) (old new : HandlersView E) : Type 0 where
  pub before : List (Held E)
  pub after : List (Held E)
  pub was : old.held ≡ before ++ after
  pub is : new.held ≡ before ++ handler ∷ after
  pub pools : new.running ≡ old.running

-- the handler was handed one more entry
abbrev pub one_more : {E : Type 0} → Held E → Held E
one_more h = record { name = h.name; pool = h.pool; procedure = h.procedure; handed = h.handed + 1 }

-- the handler of this name was handed one more entry, which the log has, and nothing else is changed
pub record IsAdvanced {E : Type 0} (eq : E → E → Bool) (log : List (Entry E)) (name : Handler E) (old new : HandlersView E) : Type 0 where
  pub before : List (Held E)
  pub handler : Held E
  pub after : List (Held E)
  pub was : old.held ≡ before ++ handler ∷ after
  pub named : handler.name ≡ name
  pub found : held_as eq old.held name ≡ Some handler
  pub entry : handler.handed < length log
  pub is : new.held ≡ before ++ one_more handler ∷ after
  pub pools : new.running ≡ old.running
