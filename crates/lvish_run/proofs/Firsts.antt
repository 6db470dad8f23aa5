-- What leaves an agenda first can be done first.
use Rattle.std.proofs.Common.{◌≡◌, ◌⊎◌, ◌↔◌, inl, inr, ℕ, false, Option, Some, None, is_some, IsSome, Ordering, refl, sym, ap, ◌∙◌, subst, Less, Equal, Greater}
use Rattle.std.proofs.lemmas.Bool.{cases_Bool, both_ways}
use Rattle.std.proofs.lemmas.Option.{none-some}
use Rattle.std.specs.Ordering.{is_gt, ordering_then}
use Rattle.lvish_names.specs.NameOrder.{name_cmp, handler_cmp}
use Rattle.lvish_calculus.specs.declared.label.Label.{Label}
use Rattle.lvish_calculus.specs.declared.label.Label.TheVariants.{Act, Hand}
use Rattle.lvish_calculus.specs.Machine.{Machine}
use Rattle.lvish_calculus.specs.Calculus.{Task, Absent, Live, Ended, CanStep, IsReadyTask, IsToHand}
use Rattle.lvish_names.specs.Names.{Name, Handler}
use Rattle.lvish_calculus.specs.Handing.{IsAmong}
use Rattle.lvish_core.specs.Core.{CoreView, CanTake, state, at_fault}
use Rattle.lvish_core.specs.CoreLaws.{HandsWhatComes}
use Rattle.lvish_core.specs.Labels.{label_cmp}
use Rattle.lvish_core.specs.laws.Runs.{no_error_before}
use Rattle.lvish_core.specs.Changes.{local_of}
use Rattle.lvish_board.specs.Stand.{TaskStand}
use Rattle.lvish_board.specs.Board.{Standing, tasks_of, IsBlocked, IsBoardSound}
use Rattle.lvish_board.specs.Listed.{HasNext}
use Rattle.lvish_run.specs.Agenda.{Open, SetsOpenTask, HasHandler, IsTaskGone, IsHandlerGone, IsBeside}
use Rattle.lvish_run.specs.Walk.{IsFirstEnabled, IsStuck}
use Rattle.lvish_board.proofs.Handing.{hand_open}
use Rattle.lvish_board.proofs.Steps.{of_task, no_fault}
use Rattle.lvish_run.proofs.Agendas.{written}

-- ---- who can go on

-- a task that can go on has a local state
live_at : {P S E R A L : Type 0} (M : Machine S E R A L) (c : CoreView P S E L) (t : Name E) → CanTake M c (Act t) → (l : L) × (local_of ((state M c).tasks t) ≡ Some l)
live_at {S = S} {E = E} {L = L} M c t can = by ((state M c).tasks t) refl (subst (λ f. CanStep M (at_fault (state M c) f) (Act t)) (no_error_before M (state M c) c.fault (Act t) can.0) can.0)
  where
    by : (k : Task L) → (state M c).tasks t ≡ k → IsReadyTask M (state M c) k → (l : L) × (local_of ((state M c).tasks t) ≡ Some l)
    by (Live l f a p) e z = (l, ap local_of e)
    by Absent e z = absurd z
    by Ended e z = absurd z

module _ {P S E R A L : Type 0} (M : Machine S E R A L) (s : Standing P S E L) (a : Open E L) (blocked : (p : TaskStand E L) → IsAmong p s.parked → IsBlocked M s.core p) (beside : IsBeside M s None None a) where
  -- a task that can go on is open
  pub open_task : (t : Name E) → CanTake M s.core (Act t) → a.at t ≡ None → ⊥
  open_task t can none = none-some t (beside.tasks t l.0 l.1 none not_parked)
    where
      l : (l : L) × (local_of ((state M s.core).tasks t) ≡ Some l)
      l = live_at M s.core t can

      not_parked : IsAmong t (tasks_of s.parked) → ⊥
      not_parked i = let p = of_task t s.parked i in (blocked p.0 p.1).blocked (subst (λ u. CanTake M s.core (Act u)) (sym p.2) can)

  open_handler : (h : Handler E) (e : E) → CanTake M s.core (Hand h e) → a.has h ≡ false → ⊥
  open_handler h e can none = none-some h (beside.hands h (e, can.1) none)

  -- where nothing is open, nothing can be done
  pub nothing_open : ((t : Name E) → a.at t ≡ None) → ((h : Handler E) → a.has h ≡ false) → IsStuck M s.core
  nothing_open tasks handlers (Act t) can = open_task t can (tasks t)
  nothing_open tasks handlers (Hand h e) can = open_handler h e can (handlers h)

  module _ (cmp : E → E → Ordering) where
    -- the first open task is the first that can go on, if it can
    pub lowest_task : ((t u : Name E) → (name_cmp cmp t u ≡ Equal) ↔ (t ≡ u)) → (p : TaskStand E L) (b : Open E L) → IsTaskGone cmp a p b → CanTake M s.core (Act p.task) → IsFirstEnabled cmp M s.core (Act p.task)
    lowest_task exact p b gone can = record { can = can; before = before }
      where
        key : p.task ≡ gone.task
        key = (beside.current gone.task p gone.was).0

        none_before : (u : Name E) → CanTake M s.core (Act u) → name_cmp cmp p.task u ≡ Greater → ⊥
        none_before u can_u e = by (a.at u) refl
          where
            by : (o : Option (TaskStand E L)) → a.at u ≡ o → ⊥
            by None none = open_task u can_u none
            by (Some q) is = both_ways _ (gone.first u (ap (λ o. is_some o) is)) (ap is_gt (ap (λ t. name_cmp cmp t u) (sym key) ∙ e))

        before_task : (u : Name E) → CanTake M s.core (Act u) → (q : Ordering) → name_cmp cmp p.task u ≡ q → (Act u ≡ Act p.task) ⊎ (label_cmp cmp (Act p.task) (Act u) ≡ Less)
        before_task u can_u Less e = inr e
        before_task u can_u Equal e = inl (ap Act (sym ((exact p.task u).0 e)))
        before_task u can_u Greater e = absurd (none_before u can_u e)

        before : (m : Label E) → CanTake M s.core m → (m ≡ Act p.task) ⊎ (label_cmp cmp (Act p.task) m ≡ Less)
        before (Act u) can_u = before_task u can_u (name_cmp cmp p.task u) refl
        before (Hand k f) can_k = inr refl

    -- the first open handler is the first that can be handed something, where no task is open
    pub lowest_handler : ((h k : Handler E) → (handler_cmp cmp h k ≡ Equal) ↔ (h ≡ k)) → ((t : Name E) → a.at t ≡ None) → (h : Handler E) (b : Open E L) → IsHandlerGone cmp a h b → (e : E) → CanTake M s.core (Hand h e)
        → ((f : E) → CanTake M s.core (Hand h f) → f ≡ e) → IsFirstEnabled cmp M s.core (Hand h e)
    lowest_handler exact tasks h b gone e can one = record { can = can; before = before }
      where
        none_before : (k : Handler E) (f : E) → CanTake M s.core (Hand k f) → handler_cmp cmp h k ≡ Greater → ⊥
        none_before k f can_k g = elim (cases_Bool (a.has k)) [
          | inl is ↦ both_ways _ (gone.first k is) (ap is_gt g)
          | inr none ↦ open_handler k f can_k none
        ]

        before_hand : (k : Handler E) (f : E) → CanTake M s.core (Hand k f) → (q : Ordering) → handler_cmp cmp h k ≡ q → (Hand k f ≡ Hand h e) ⊎ (label_cmp cmp (Hand h e) (Hand k f) ≡ Less)
        before_hand k f can_k Less g = inr (ap (λ q. ordering_then q (cmp e f)) g)
        before_hand k f can_k Equal g =
            let same : k ≡ h = sym ((exact h k).0 g) in
            let event : f ≡ e = one f (subst (λ j. CanTake M s.core (Hand j f)) same can_k) in
            inl (ap (λ j. Hand j f) same ∙ ap (λ x. Hand h x) event)
        before_hand k f can_k Greater g = absurd (none_before k f can_k g)

        before : (m : Label E) → CanTake M s.core m → (m ≡ Hand h e) ⊎ (label_cmp cmp (Hand h e) m ≡ Less)
        before (Act u) can_u = absurd (open_task u can_u (tasks u))
        before (Hand k f) can_k = before_hand k f can_k (handler_cmp cmp h k) refl

-- ---- handlers with something left

module _ {P S E R A L : Type 0} (M : Machine S E R A L) (program : P) (budget : ℕ) (s : Standing P S E L) (sound : IsBoardSound M program budget s) (over : s.over ≡ None) (comes : HandsWhatComes P M) where
  fine : s.core.fault ≡ None
  fine = no_fault M program budget s sound over

  -- a handler for which something comes next is there
  pub handler_there : (h : Handler E) → HasNext M s.core h → IsSome ((state M s.core).handlers h)
  handler_there h z =
      let en : IsToHand M (state M s.core) h z.0 = subst (λ f. CanStep M (at_fault (state M s.core) f) (Hand h z.0)) fine (hand_open M comes program budget s sound over h z.0 z.1).0 in
      ap is_some en.on.is

-- ---- the task or the handler that left the agenda has its turn

module _ {P S E R A L : Type 0} (M : Machine S E R A L) (s : Standing P S E L) (cmp : E → E → Ordering) (a b : Open E L) (beside : IsBeside M s None None a) where
  pub without_task : ((t u : Name E) → (name_cmp cmp t u ≡ Equal) ↔ (t ≡ u)) → (k : Name E) (p : TaskStand E L) → a.at k ≡ Some p → SetsOpenTask cmp a k None b → IsBeside M s (Some p.task) None b
  without_task exact k p was without = record {
    current = λ t q e. elim (at t) [
      | inl z ↦ absurd (none-some q (sym z.1 ∙ e))
      | inr z ↦
          let y = beside.current t q (sym z.1 ∙ e) in
          (y.0, y.1, λ own. z.0 (sym key ∙ (let same : p.task ≡ t = cc in same)))
    ];
    tasks = λ t l live none not_parked. elim (at t) [
      | inl z ↦ ap (λ u. Some u) (key ∙ z.0)
      | inr z ↦ absurd (none-some t (beside.tasks t l live (sym z.1 ∙ none) not_parked))
    ];
    hands = λ h z none. beside.hands h z (ap (λ f. f h) (sym without.has) ∙ none);
  }
    where
      key : p.task ≡ k
      key = (beside.current k p was).0

      at : (t : Name E) → ((k ≡ t) × (b.at t ≡ None)) ⊎ ((k ≡ t → ⊥) × (b.at t ≡ a.at t))
      at t = written (name_cmp cmp) exact a.at b.at k None without.at t

  pub without_handler : ((h k : Handler E) → (handler_cmp cmp h k ≡ Equal) ↔ (h ≡ k)) → (h : Handler E) → HasHandler cmp a h false b → IsBeside M s None (Some h) b
  without_handler exact h without = record {
    current = λ t p e. let z = beside.current t p (ap (λ f. f t) (sym without.at) ∙ e) in (z.0, z.1, none-some t);
    tasks = λ t l live none not_parked. beside.tasks t l live (ap (λ f. f t) (sym without.at) ∙ none) not_parked;
    hands = λ k z none. elim (written (handler_cmp cmp) exact a.has b.has h false without.has k) [
      | inl y ↦ ap (λ g. Some g) y.0
      | inr y ↦ absurd (none-some k (beside.hands k z (sym y.1 ∙ none)))
    ];
  }

module _ {P S E R A L : Type 0} (M : Machine S E R A L) (s : Standing P S E L) (a : Open E L) (h : Handler E) where
  -- nobody misses a handler for which nothing comes next
  pub drained : (HasNext M s.core h → ⊥) → IsBeside M s None (Some h) a → IsBeside M s None None a
  drained nothing beside = record {
    current = beside.current;
    tasks = beside.tasks;
    hands = λ k z none.
        let own : Some h ≡ Some k = beside.hands k z none in
        absurd (nothing (subst (λ g. HasNext M s.core g) (let same : k ≡ h = cc in same) z));
  }

  -- an open handler may have its turn as well
  pub still_open : IsBeside M s None None a → IsBeside M s None (Some h) a
  still_open beside = record { current = beside.current; tasks = beside.tasks; hands = λ k z none. absurd (none-some k (beside.hands k z none)) }
