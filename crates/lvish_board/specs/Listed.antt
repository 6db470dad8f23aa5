-- The work that a step leaves.
use Rattle.std.specs.Prelude.{◌≡◌, ◌↔◌, ℕ, List, [], ◌∷◌, ◌++◌, map, Option, None, Some}
use Rattle.std.specs.List.Sorted.{IsStrictlySortedBy}
use Rattle.std.specs.declared.cmp.Ordering.{Ordering}
use Rattle.lvish_names.specs.NameOrder.{name_cmp, handler_cmp}
use Rattle.lvish_board.specs.Vocabulary.{Label, Act, Hand, Made, Moved, Work, Stretch, ActOn, HandTo, StepWork}
use Rattle.lvish_calculus.specs.Machine.{Machine}
use Rattle.lvish_calculus.specs.Calculus.{IsOn, effect}
use Rattle.lvish_names.specs.Names.{Handler}
use Rattle.lvish_calculus.specs.Handing.{IsAmong}
use Rattle.lvish_core.specs.Core.{CoreView, CanTake, IsNext, state}
use Rattle.lvish_core.specs.Changes.{moved_in, brought}
use Rattle.lvish_board.specs.Stand.{TaskStand}
use Rattle.lvish_board.specs.Board.{Standing, tasks_of}

-- tickets of these places
abbrev pub stretches : {P B S L R A W E : Type 0} → List (TaskStand E L) → List (Work P B S L R A W E)
stretches places = map (λ p. Stretch p) places

-- what these places ask for
abbrev pub acts : {P B S L R A W E : Type 0} → List (TaskStand E L) → List (Work P B S L R A W E)
acts places = map (λ p. ActOn p) places

-- the next handing of each of these handlers
abbrev pub handings : {P B S L R A W E : Type 0} → List (Handler E) → List (Work P B S L R A W E)
handings handlers = map (λ h. HandTo h) handlers

abbrev pub option_list : {X : Type 0} → Option X → List X
option_list None = []
option_list (Some x) = x ∷ []

-- the work that a step leaves, in its order
abbrev pub work_of : {P B S L R A W E : Type 0} → StepWork P B S L R A W E → List (Work P B S L R A W E)
work_of step_work = stretches (option_list step_work.own ++ option_list step_work.made) ++ acts step_work.woken.items ++ handings step_work.hands.items

-- where the acting task goes on
abbrev pub own_stand : {E L : Type 0} → Label E → Option L → List (TaskStand E L)
own_stand (Act t) (Some l) = record { task = t; from = l } ∷ []
own_stand l from = []

-- where a new task starts
abbrev pub made_stand : {E L : Type 0} → Option (Made E L) → List (TaskStand E L)
made_stand None = []
made_stand (Some m) = record { task = m.name; from = m.local } ∷ []

-- the tickets of a step: the acting task's next one, where it goes on, and a new task's
abbrev pub tickets : {E L : Type 0} → Label E → Moved E L → List (TaskStand E L)
tickets l moved = own_stand l moved.own ++ made_stand moved.made

-- the step handed to this handler, added it, or put entries on its variable's log
pub data Concerns {S E R A L : Type 0} (M : Machine S E R A L) {P : Type 0} (c : CoreView P S E L) (l : Label E) (h : Handler E) : Type 0 where
  by_handing : (e : E) → l ≡ Hand h e → Concerns M c l h
  by_adding : (moved_in (effect M (state M c) l)).added ≡ Some h → Concerns M c l h
  by_putting : (v : ℕ) → IsOn M (state M c) h v → (brought M (state M c) l v ≡ [] → ⊥) → Concerns M c l h

-- something comes next for the handler
abbrev pub HasNext : {P S E R A L : Type 0} → Machine S E R A L → CoreView P S E L → Handler E → Type 0
HasNext {E = E} M c h = (e : E) × IsNext M.event_same c.table h e

-- the work that a step leaves, in this order: the step's tickets; the parked tasks that can go on after it, by name, and only those that can't stay parked;
-- the handlers that it concerned with something left for them, by name
pub record IsListed {P' P B S L R A W E Ans : Type 0} (cmp : E → E → Ordering) (M : Machine S E R Ans L) (old : Standing P' S E L) (l : Label E) (new : Standing P' S E L) (ws : List (Work P B S L R A W E)) : Type 0 where
  pub woken : List (TaskStand E L)
  pub hands : List (Handler E)
  pub is : ws ≡ stretches (tickets l (moved_in (effect M (state M old.core) l))) ++ acts woken ++ handings hands
  pub woken_are : (p : TaskStand E L) → IsAmong p woken ↔ (IsAmong p old.parked × CanTake M new.core (Act p.task))
  pub woken_by_name : IsStrictlySortedBy (name_cmp cmp) (tasks_of woken)
  pub still : (p : TaskStand E L) → IsAmong p new.parked ↔ (IsAmong p old.parked × (CanTake M new.core (Act p.task) → ⊥))
  pub hands_are : (h : Handler E) → IsAmong h hands ↔ (HasNext M new.core h × Concerns M old.core l h)
  pub hands_by_name : IsStrictlySortedBy (handler_cmp cmp) hands
