-- Which work waits for a worker.
use Rattle.std.specs.Prelude.{◌≡◌, ◌++◌, ◌∷◌, List, [], Option, None, Some}
use Rattle.lvish_board.specs.declared.work.Work.{Work}
use Rattle.lvish_board.specs.declared.work.Work.TheVariants.{Stretch, Act as ActOn, Hand as HandTo}
use Rattle.lvish_board.specs.declared.step_work.StepWork.{StepWork}
use Rattle.lvish_board.specs.Listed.{option_list}
use Rattle.lvish_run.specs.declared.queue.Queue.{Queue}

-- this left a list, and the others stay in their order
abbrev pub IsWithout : {X : Type 0} → X → List X → List X → Type 0
IsWithout {X} x old new = (before : List X) × (after : List X) × (old ≡ before ++ x ∷ after) × (new ≡ before ++ after)

-- the work was added, after all of its kind
abbrev pub IsAdded : {P B S L R A W E : Type 0} → Work P B S L R A W E → Queue P B S L R A W E → Queue P B S L R A W E → Type 0
IsAdded (Stretch t) old new = (new.tickets.items ≡ old.tickets.items ++ t ∷ []) × (new.woken.items ≡ old.woken.items) × (new.hands.items ≡ old.hands.items)
IsAdded (ActOn a) old new = (new.woken.items ≡ old.woken.items ++ a ∷ []) × (new.tickets.items ≡ old.tickets.items) × (new.hands.items ≡ old.hands.items)
IsAdded (HandTo h) old new = (new.hands.items ≡ old.hands.items ++ h ∷ []) × (new.woken.items ≡ old.woken.items) × (new.tickets.items ≡ old.tickets.items)

-- the work was taken out, and nothing else; None where there is none
abbrev pub IsTaken : {P B S L R A W E : Type 0} → Option (Work P B S L R A W E) → Queue P B S L R A W E → Queue P B S L R A W E → Type 0
IsTaken None old new = (old.woken.items ≡ []) × (old.tickets.items ≡ []) × (old.hands.items ≡ [])
IsTaken (Some (Stretch t)) old new = IsWithout t old.tickets.items new.tickets.items × (new.woken.items ≡ old.woken.items) × (new.hands.items ≡ old.hands.items)
IsTaken (Some (ActOn a)) old new = IsWithout a old.woken.items new.woken.items × (new.tickets.items ≡ old.tickets.items) × (new.hands.items ≡ old.hands.items)
IsTaken (Some (HandTo h)) old new = IsWithout h old.hands.items new.hands.items × (new.woken.items ≡ old.woken.items) × (new.tickets.items ≡ old.tickets.items)

-- a task that a step made goes on first, and the acting one waits; where the step made none, the acting one goes on
abbrev pub IsPutOff : {X : Type 0} → Option X → Option X → List X → Option X → List X → Type 0
IsPutOff None own old goes_on new = (goes_on ≡ own) × (new ≡ old)
IsPutOff (Some made) own old goes_on new = (goes_on ≡ Some made) × (new ≡ old ++ option_list own)

-- all that a step left waits in the queue, but for the task that goes on
pub record IsLeft {P B S L R A W E : Type 0} (old : Queue P B S L R A W E) (step_work : StepWork P B S L R A W E) (new : Queue P B S L R A W E) (rest : StepWork P B S L R A W E) : Type 0 where
  pub tasks : IsPutOff step_work.made step_work.own old.tickets.items rest.own new.tickets.items
  pub woken : new.woken.items ≡ old.woken.items ++ step_work.woken.items
  pub hands : new.hands.items ≡ old.hands.items ++ step_work.hands.items
  pub none_made : rest.made ≡ None
  pub none_woken : rest.woken.items ≡ []
  pub none_handed : rest.hands.items ≡ []
