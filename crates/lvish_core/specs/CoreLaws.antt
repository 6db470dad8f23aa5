-- Which labels a core can take, what its runs hand to handlers, and what its logs' entries say.
use Rattle.std.specs.Prelude.{◌≡◌, ◌↔◌, ℕ, List, [], ◌∷◌, ◌++◌, Some, None, Contains, slice_get}
use Rattle.lvish_core.specs.Vocabulary.{Label, Act, Hand, Entry}
use Rattle.lvish_calculus.specs.Machine.{Machine}
use Rattle.lvish_calculus.specs.Calculus.{CanStep}
use Rattle.lvish_names.specs.Names.{Name, Handler}
use Rattle.lvish_calculus.specs.Handing.{HandsOldestFirst, HandsTo, Introduces}
use Rattle.lvish_variable.specs.Variable.{VariableView as Variable}
use Rattle.lvish_core.specs.Core.{CoreView, picture, IsRunTo, IsNext, CanTake}
use Rattle.lvish_core.specs.Puts.{IsAtPut, IsBroughtAfter, IsOnlyEntry}

module _ {S E R A L : Type 0} (P : Type 0) (M : Machine S E R A L) where
  -- a core that a run leads to can take just the labels that are enabled, and with which the run is a core run
  abbrev pub TakesCoreRuns : Type 0
  TakesCoreRuns = (c : CoreView P S E L) (xs : List (Label E)) → IsRunTo M c xs
      → (l : Label E) → CanTake M c l ↔ (CanStep M (picture M c) l × HandsOldestFirst M (xs ++ l ∷ []))

  -- where a label is enabled, the core can take one
  abbrev pub TakesSomething : Type 0
  TakesSomething = (c : CoreView P S E L) (xs : List (Label E)) → IsRunTo M c xs
      → (l : Label E) → CanStep M (picture M c) l → (k : Label E) × CanTake M c k

  -- in a run that leads to a core, handlers are handed each event at most once, one task's in the order of its puts, none after the freeze, at the freeze and at an end exactly those below the state
  abbrev pub HandsToEach : Type 0
  HandsToEach = (c : CoreView P S E L) (xs : List (Label E)) → IsRunTo M c xs → HandsTo M xs (picture M c)

  -- a handler is handed nothing but the one entry that comes next for it
  abbrev pub HandsOneEvent : Type 0
  HandsOneEvent = (c : CoreView P S E L) (xs : List (Label E)) → IsRunTo M c xs
      → (h : Handler E) (e f : E) → CanTake M c (Hand h e) → IsNext M.event_same c.table h f → e ≡ f

  -- without an error, what comes next for a handler can be handed
  abbrev pub HandsWhatComes : Type 0
  HandsWhatComes = (c : CoreView P S E L) (xs : List (Label E)) → IsRunTo M c xs → c.fault ≡ None
      → (h : Handler E) (e : E) → IsNext M.event_same c.table h e → CanTake M c (Hand h e)

  -- in a run that leads to a core, each entry of a log was brought by a step of its task, at the put of its number
  abbrev pub EntriesNameTheirPuts : Type 0
  EntriesNameTheirPuts = (c : CoreView P S E L) (xs : List (Label E)) → IsRunTo M c xs → (v : ℕ) (x : Variable S E) → slice_get c.table.variables v ≡ Some x
      → (entry : Entry E) → Contains x.log entry → (before : List (Label E)) × IsBroughtAfter M before xs v entry

  -- each event that a step of the run introduces has one entry in its variable's log, with the task that made the step and the number of its put
  abbrev pub PutsHaveTheirEntries : Type 0
  PutsHaveTheirEntries = (c : CoreView P S E L) (xs : List (Label E)) → IsRunTo M c xs → (v : ℕ) (x : Variable S E) → slice_get c.table.variables v ≡ Some x
      → (before after : List (Label E)) (t : Name E) (e : E) → xs ≡ before ++ Act t ∷ after → Introduces M before t v e
      → (n : ℕ) × IsAtPut M before t n v × IsOnlyEntry x.log (record { event = e; task = t; number = n })
