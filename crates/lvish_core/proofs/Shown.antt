-- What a core shows, told of the configuration that it stands for, and when a task's step is made.
use Rattle.std.proofs.Common.{◌≡◌, ◌↔◌, ◌<◌, ℕ, Bool, true, false, List, length, Option, Some, None, refl, sym, ap, subst, ◌∙◌, is_some, option_map, unwrap_or, arith, inl, inr, ◌≤◌, IsTrue, IsSome, IfOk, MatchResult, Result, Ok, Err, slice_get}
use Rattle.std.proofs.lemmas.Bool.{false≢true, both_ways, cases_lt}
use Rattle.std.proofs.lemmas.Option.{same_Some}
use Rattle.lvish_core.specs.Vocabulary.{MOST_PROGRAM_STEPS, Request, Freeze, Label, Act, RunError, HandlerPlace, Stepped, StepFault, NotEnabled, Full, Memory, Moved}
use Rattle.lvish_calculus.specs.Machine.{Machine}
use Rattle.lvish_calculus.specs.Calculus.{Task, Absent, Live, Ended, IsReady, IsReadyTask, IsEnabled, CanStep}
use Rattle.lvish_names.specs.Names.{Name, Handler}
use Rattle.lvish_picture.specs.Picture.{task_of}
use Rattle.lvish_picture.specs.Laws.{DrainedAtTheEnd}
use Rattle.lvish_core.specs.Kept.{IsKept}
use Rattle.lvish_core.specs.Changes.{local_of, IsMoved}
use Rattle.lvish_variable.specs.Variable.{VariableView as Variable}
use Rattle.lvish_core.specs.Reads.{AreStates, IsDrainedAt}
use Rattle.lvish_core.specs.Blocked.{NoneFreezes}
use Rattle.lvish_core.specs.Core.{CoreView, CanTake, IsStep, IsStepRefused, state, at_fault, picture}
use Rattle.lvish_core.specs.Acts.{IsAsked, IsActing, ActsIfReady}
use Rattle.lvish_picture.proofs.Slots.{get_there}

-- a task with a local state is live
pub live_there : {L : Type 0} (x : Task L) → IsSome (local_of x) → (l : L) × (f : ℕ) × (a : ℕ) × (p : ℕ) × (x ≡ Live l f a p)
live_there Absent h = absurd (false≢true h)
live_there (Live l f a p) h = (l, f, a, p, refl)
live_there Ended h = absurd (false≢true h)

pub no_fault : {E : Type 0} (q : Option (RunError E)) → is_some q ≡ false → q ≡ None
no_fault None e = refl
no_fault (Some f) e = absurd (false≢true (sym e))

module _ {P S E R A L : Type 0} (M : Machine S E R A L) (n running : ℕ) (places : List (Handler E × HandlerPlace)) (c : CoreView P S E L) (k : IsKept M n running places c) where
  module _ (no_error : is_some c.fault ≡ false) where
    -- where there is no error, the enabled labels are those of the table's picture
    pub can_step : (l : Label E) → CanStep M (picture M c) l ↔ IsEnabled M (state M c) l
    can_step l = (
      λ z. subst (λ q. CanStep M (at_fault (state M c) q) l) (no_fault c.fault no_error) z,
      λ z. subst (λ q. CanStep M (at_fault (state M c) q) l) (sym (no_fault c.fault no_error)) z,
    )

    -- a task's step can be made where the task is ready
    pub task_can : (t : Name E) (x : Task L) → task_of M.event_same c.table.tasks t ≡ x → (b : Bool) → IsTrue b ↔ IsReadyTask M (state M c) x → IsTrue b ↔ CanTake M c (Act t)
    task_can t x is b ready =
        let same : IsReadyTask M (state M c) x ≡ IsReadyTask M (state M c) (task_of M.event_same c.table.tasks t) = ap (λ x. IsReadyTask M (state M c) x) (sym is) in
        (λ z. ((can_step (Act t)).1 (subst (λ X. X) same (ready.0 z)), tt), λ z. ready.1 (subst (λ X. X) (sym same) ((can_step (Act t)).0 z.0)))

    -- where it is live, it is ready where its request is
    pub live_can : (t : Name E) (l : L) (f a p : ℕ) → task_of M.event_same c.table.tasks t ≡ Live l f a p → (r : Request S R L) → M.request l ≡ r → (b : Bool) → IsTrue b ↔ IsReady M (state M c) r → IsTrue b ↔ CanTake M c (Act t)
    live_can t l f a p live r asks b ready = task_can t (Live l f a p) live b (subst (λ q. IsTrue b ↔ IsReady M (state M c) q) (sym asks) ready)

  -- after an error no label can be taken
  pub none_can : is_some c.fault ≡ true → (l : Label E) → CanTake M c l → ⊥
  none_can error l z = stops c.fault error z.0
    where
      stops : (q : Option (RunError E)) → is_some q ≡ true → CanStep M (at_fault (state M c) q) l → ⊥
      stops None e z = absurd (false≢true e)
      stops (Some f) e z = z

module _ {P S E R A L : Type 0} (M : Machine S E R A L) (n running : ℕ) (places : List (Handler E × HandlerPlace)) (c : CoreView P S E L) (k : IsKept M n running places c) where
  -- the variables of the table are the picture's
  pub are_states : (xs : List (Variable S E)) → xs ≡ c.table.variables → AreStates M n c xs
  are_states xs is = record {
    are = is;
    count = ap length is ∙ k.there;
    each = λ v lt. let z = get_there xs v (subst (λ m. v < m) (sym (ap length is ∙ k.there)) lt) in
        let there : slice_get c.table.variables v ≡ Some z.0 = ap (λ (ys : List (Variable S E)). slice_get ys v) (sym is) ∙ z.1 in (
          z.0,
          z.1,
          sym (ap (λ o. unwrap_or (option_map (λ (x : Variable S E). x.state) o) M.bottom) there),
          sym (ap (λ o. unwrap_or (option_map (λ (x : Variable S E). x.frozen) o) false) there),
        );
  }

-- ---- a task's step

pub not_full : (n : ℕ) (b : Bool) → IsTrue b ↔ (MOST_PROGRAM_STEPS ≤ n) → b ≡ false → n < MOST_PROGRAM_STEPS
not_full n b full e = elim (cases_lt n MOST_PROGRAM_STEPS) [
  | inl lt ↦ lt
  | inr ge ↦ absurd (false≢true (sym e ∙ full.1 ge))
]

pub is_full : (n : ℕ) (b : Bool) → n ≤ MOST_PROGRAM_STEPS → IsTrue b ↔ (MOST_PROGRAM_STEPS ≤ n) → b ≡ true → n ≡ MOST_PROGRAM_STEPS
is_full n b le full e = let ge : MOST_PROGRAM_STEPS ≤ n = full.0 e in omega arith

-- a live task whose step can be made: there is no error, and its request is ready
pub can_acting : {P S E R A L : Type 0} (M : Machine S E R A L) (n running : ℕ) (places : List (Handler E × HandlerPlace)) (c : CoreView P S E L) (k : IsKept M n running places c) (t : Name E) (l : L) (f a p : ℕ) → task_of M.event_same c.table.tasks t ≡ Live l f a p
    → CanTake M c (Act t) → (r : Request S R L) → M.request l ≡ r → (at : L) → M.at l ≡ at → IsActing M c t at f a p r
can_acting M n running places c k t l f a p live can r asks at at_is = by (is_some c.fault) refl
  where
    by : (b : Bool) → is_some c.fault ≡ b → IsActing M c t at f a p r
    by true e = absurd (none_can M n running places c k e (Act t) can)
    by false e =
        let ready : IsReadyTask M (state M c) (task_of M.event_same c.table.tasks t) = (can_step M n running places c k e (Act t)).0 can.0 in
        record {
          no_fault = no_fault c.fault e;
          local = l;
          asking = record { live = live; asked = asks };
          at_is = sym at_is;
          ready = subst (IsReady M (state M c)) asks (subst (IsReadyTask M (state M c)) live ready);
        }

-- a live task asks for its request, where there is no error
pub asked_live : {P S E R A L : Type 0} (M : Machine S E R A L) (c : CoreView P S E L) → is_some c.fault ≡ false → (t : Name E) (l : L) (f a p : ℕ) → task_of M.event_same c.table.tasks t ≡ Live l f a p
    → (r : Request S R L) → M.request l ≡ r → (at : L) → M.at l ≡ at → IsAsked M c t at f a p r
asked_live M c none t l f a p live r asks at at_is = record { no_fault = no_fault c.fault none; local = l; asking = record { live = live; asked = asks }; at_is = sym at_is }

-- what it does or doesn't do is its step or the refusal of it
pub stepped_live : {P S E R A L : Type 0} (M : Machine S E R A L) (n running : ℕ) (places : List (Handler E × HandlerPlace)) (c : CoreView P S E L) (k : IsKept M n running places c) (t : Name E) (l : L) (f a p : ℕ) → task_of M.event_same c.table.tasks t ≡ Live l f a p → (r : Request S R L) → M.request l ≡ r
    → (new : CoreView P S E L) (result : Result (Stepped × Moved E L) StepFault) → ActsIfReady M c t r new result → MatchResult result (λ s. IsStep M c (Act t) new s.0) (λ e. IsStepRefused M c (Act t) e × (new ≡ c))
stepped_live M n running places c k t l f a p live r asks new (Ok s) made = made.step
stepped_live M n running places c k t l f a p live r asks new (Err NotEnabled) (waits, same) = (λ can. waits (can_acting M n running places c k t l f a p live can r asks (M.at l) refl).ready, same)
stepped_live M n running places c k t l f a p live r asks new (Err Full) (never, same) = absurd never
stepped_live M n running places c k t l f a p live r asks new (Err Memory) (_, same) = (tt, same)

-- and moves what the step moves
pub moved_live : {P S E R A L : Type 0} (M : Machine S E R A L) (c : CoreView P S E L) (t : Name E) (r : Request S R L) (new : CoreView P S E L) (result : Result (Stepped × Moved E L) StepFault) → ActsIfReady M c t r new result → IfOk result (λ s. IsMoved M (state M c) (Act t) s.1)
moved_live M c t r new (Ok s) made = made.change
moved_live M c t r new (Err e) _ = tt

-- while something is left to hand to a handler of a variable, no task can freeze it
pub none_freezes : {P S E R A L : Type 0} (M : Machine S E R A L) (n running : ℕ) (places : List (Handler E × HandlerPlace)) (c : CoreView P S E L) (k : IsKept M n running places c) → DrainedAtTheEnd M
    → (v : ℕ) (b : Bool) → IsTrue b ↔ IsDrainedAt c.table v → b ≡ false → NoneFreezes M c v
none_freezes M n running places c k ends v b drained waits t at pools there asks can =
    let live = live_there ((state M c).tasks t) (ap is_some there) in
    let local : live.0 ≡ at = same_Some _ _ (sym (ap local_of live.4) ∙ there) in
    let acts = can_acting M n running places c k t live.0 live.1 live.2 live.3 live.4 can (Freeze v pools) (ap M.request local ∙ asks) (M.at live.0) refl in
    both_ways b waits (drained.1 (λ x hs is by. (ends k.standing.run c.table v x hs k.standing.pictured is by).1 acts.ready.drained))
