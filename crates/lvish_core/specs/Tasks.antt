-- The tasks of a core under their names.
use Rattle.std.specs.Prelude.{◌≡◌, ℕ, Bool, false, List, Option, Some, None, map, slice_get}
use Rattle.std.specs.Borrow.{Bor}
use Rattle.std.specs.Map.Iter.{deref_pair}
use Rattle.lvish_calculus.specs.Calculus.{Task, Absent, Live, Ended, with_task}
use Rattle.lvish_names.specs.Names.{Name, forked, is_deep}
use Rattle.lvish_picture.specs.Picture.{task_of}
use Rattle.lvish_core.specs.declared.child.Child.{Child}
use Rattle.lvish_core.specs.declared.stage.Stage.{Stage}
use Rattle.lvish_core.specs.declared.stage.Stage.TheVariants.{Live as LiveStage, Ended as EndedStage}

-- the task that a stage stands for
abbrev pub standing : {L : Type 0} → Stage L → Task L
standing (LiveStage l f a p) = Live l f a p
standing EndedStage = Ended

-- the same where there may be no stage
abbrev pub standing_at : {L : Type 0} → Option (Stage L) → Task L
standing_at None = Absent
standing_at (Some s) = standing s

-- the tasks of a table under their names
abbrev pub standings : {E L : Type 0} → List (Name E × Stage L) → List (Name E × Task L)
standings entries = map (λ e. (e.0, standing e.1)) entries

-- the names in a list of tasks
abbrev pub task_names : {E L : Type 0} → List (Name E × Task L) → List (Name E)
task_names tasks = map (λ e. e.0) tasks

-- the task of this name stands at the index
abbrev pub IsAt : {E L : Type 0} → List (Name E × Task L) → ℕ → Name E → Type 0
IsAt tasks index t = slice_get (task_names tasks) index ≡ Some t

-- no task is there under two indices
abbrev pub HasEachOnce : {E L : Type 0} → List (Name E × Task L) → Type 0
HasEachOnce {E} tasks = (i j : ℕ) (t : Name E) → IsAt tasks i t → IsAt tasks j t → i ≡ j

-- each task keeps its index
abbrev pub KeepsIndices : {E L : Type 0} → List (Name E × Task L) → List (Name E × Task L) → Type 0
KeepsIndices {E} old new = (i : ℕ) (t : Name E) → IsAt old i t → IsAt new i t

-- the new list has k under t, and under each other name what the old one has; each task keeps its index
pub record Sets {E L : Type 0} (eq : E → E → Bool) (old : List (Name E × Task L)) (t : Name E) (k : Task L) (new : List (Name E × Task L)) : Type 0 where
  pub each : (u : Name E) → task_of eq new u ≡ with_task eq (Some (t, k)) (task_of eq old) u
  pub indices : KeepsIndices old new

-- the parent's child of this number, which starts in the local state
pub record IsChild {E L : Type 0} (parent : Name E) (number : ℕ) (local : L) (c : Child E L) : Type 0 where
  pub shallow : is_deep parent ≡ false
  pub name : c.name ≡ forked parent number
  pub stage : standing c.stage ≡ Live local 0 0 0
  pub made : c.made ≡ record { name = forked parent number; local = local }

-- the entries behind references
abbrev pub entries_at : {E L : Type 0} → List (Bor (Name E) × Bor (Stage L)) → List (Name E × Stage L)
entries_at refs = map deref_pair refs

-- the lists have the same task under each name
abbrev pub SameTasks : {E L : Type 0} → (E → E → Bool) → List (Name E × Task L) → List (Name E × Task L) → Type 0
SameTasks {E} eq xs ys = (t : Name E) → task_of eq xs t ≡ task_of eq ys t
