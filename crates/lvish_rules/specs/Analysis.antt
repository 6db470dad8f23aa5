-- What the runs of an analysis come to.
use Rattle.std.specs.Prelude.{◌≡◌, ◌↔◌, ◌⊎◌, ◌<◌, ℕ, List, Option, Some, Contains}
use Rattle.lvish_lattice.specs.Lattice.{IsAtOrBelow}
use Rattle.lvish_calculus.specs.declared.request.ErrorKind.{ErrorKind}
use Rattle.lvish_calculus.specs.declared.request.ErrorKind.TheVariants.{Conflict, Deep}
use Rattle.lvish_calculus.specs.Machine.{Machine, IsBelow}
use Rattle.lvish_calculus.specs.declared.label.Label.{Label}
use Rattle.lvish_calculus.specs.Calculus.{State, Running, Error, IsRun, IsEnd, start}
use Rattle.lvish_calculus.specs.Laws.{Reaches}
use Rattle.lvish_names.specs.Names.{Name}
use Rattle.lvish_names.specs.declared.limits.TheConstants.{MOST_PARTS}
use Rattle.lvish_rules.specs.Rules.{RuleSet, Watch, Holds, IsClosedUnder, JoinsToTop}

module _ {S E R A L : Type 0} (M : Machine S E R A L) (rules : RuleSet S E) where
  -- at an end the events of each relation are those that follow from the rules
  abbrev pub EndsAreExact : Type 0
  EndsAreExact = (xs : List (Label E)) (c : State S E L) → Reaches M xs c → IsEnd M c → (relation : ℕ) (e : E) → IsBelow M e (c.content relation) ↔ Holds M.events rules relation e

  -- a run has no event but those that follow, ended or not
  abbrev pub RunsAreSound : Type 0
  RunsAreSound = (xs : List (Label E)) (c : State S E L) → Reaches M xs c → (relation : ℕ) (e : E) → IsBelow M e (c.content relation) → Holds M.events rules relation e

  -- at an end the contents are closed under the rules
  abbrev pub EndsObeyRules : Type 0
  EndsObeyRules = (xs : List (Label E)) (c : State S E L) → Reaches M xs c → IsEnd M c → IsClosedUnder M.join M.events rules c.content

  -- a run's contents are at or below all that are closed under the rules, ended or not
  abbrev pub RunsAreBelowModels : Type 0
  RunsAreBelowModels = (xs : List (Label E)) (c : State S E L) → Reaches M xs c → (Y : ℕ → S) → IsClosedUnder M.join M.events rules Y → (relation : ℕ) → IsAtOrBelow M.join (c.content relation) (Y relation)

  -- a run is in error only where what follows of a relation joins to top, or a task of the greatest depth makes a watch
  abbrev pub ErrsAtTop : Type 0
  ErrsAtTop = (xs : List (Label E)) (kind : ErrorKind) (v : Option ℕ) (t : Name E) → IsRun M (Running (start M)) xs (Error kind v t)
      → ((kind ≡ Conflict) × (relation : ℕ) × (v ≡ Some relation) × JoinsToTop M.join M.bottom M.events rules relation) ⊎ (kind ≡ Deep)

-- watches have ranks, each a number below 64, and a watch that another one makes has a greater rank
pub record IsRanked {S E : Type 0} (rules : RuleSet S E) (rank : ℕ → ℕ) : Type 0 where
  pub rises : (watch : ℕ) (e : E) (relation made : ℕ) → Contains (rules.fired watch e) (Watch relation made) → rank watch < rank made
  pub few : (watch : ℕ) → rank watch < MOST_PARTS
