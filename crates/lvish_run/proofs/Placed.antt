-- Where tasks stand after a step.
use Rattle.std.proofs.lemmas.Option.{option_and_then_some}
use Rattle.std.proofs.Common.{◌≡◌, ◌⊎◌, inl, inr, ℕ, List, Option, Some, None, refl, sym, ap, ◌∙◌, subst, option_and_then}
use Rattle.lvish_calculus.specs.declared.label.Label.{Label}
use Rattle.lvish_calculus.specs.declared.label.Label.TheVariants.{Act, Hand}
use Rattle.lvish_calculus.specs.Machine.{Machine, IsLawful}
use Rattle.lvish_calculus.specs.Calculus.{Task, Absent, Live, Ended, State, Change, Changes, IsEnabled, changed, effect, with_task}
use Rattle.lvish_names.specs.Names.{Name}
use Rattle.lvish_calculus.specs.Laws.{Reaches}
use Rattle.lvish_calculus.specs.Handing.{IsAmong}
use Rattle.lvish_calculus.proofs.Names.{cases_name, with_task-same, with_task-other}
use Rattle.lvish_calculus.proofs.Steps.{view}
use Rattle.lvish_calculus.proofs.Sound.{own_is, acts_live, live≢absent}
use Rattle.lvish_calculus.proofs.Keeps.{tasks_after, made_absent}
use Rattle.lvish_calculus.proofs.Moves.{task_stays}
use Rattle.lvish_calculus.proofs.Runs.{reached}
use Rattle.lvish_core.specs.Changes.{local_of, made_as, moved_by}
use Rattle.lvish_board.specs.Stand.{TaskStand}
use Rattle.lvish_board.specs.Listed.{tickets, own_stand, made_stand}
use Rattle.lvish_core.specs.laws.Lists.{either_among, among_first, among_last}

abbrev pub stand : {E L : Type 0} → Name E → L → TaskStand E L
stand t l = record { task = t; from = l }

-- whose ticket it is
in_own : {E L : Type 0} (p : TaskStand E L) (l : Label E) (o : Option L) → IsAmong p (own_stand l o) → (l ≡ Act p.task) × (o ≡ Some p.from)
in_own {E} {L} p (Act t) (Some k) (inl e) = (ap (λ (q : TaskStand E L). Act q.task) (sym e), ap (λ (q : TaskStand E L). Some q.from) (sym e))
in_own p (Act t) (Some k) (inr z) = absurd z
in_own p (Act t) None z = absurd z
in_own p (Hand h e) (Some k) z = absurd z
in_own p (Hand h e) None z = absurd z

in_made : {E L : Type 0} (p : TaskStand E L) (o : Option (Name E × Task L)) → IsAmong p (made_stand (option_and_then (λ (x : Name E × Task L). made_as x.0 (local_of x.1)) o)) → (x : Name E × Task L) × (o ≡ Some x) × (x.0 ≡ p.task) × (local_of x.1 ≡ Some p.from)
in_made p None z = absurd z
in_made {E} {L} p (Some x) z = by (local_of x.1) refl z
  where
    by : (o : Option L) → local_of x.1 ≡ o → IsAmong p (made_stand (made_as x.0 o)) → (y : Name E × Task L) × (Some x ≡ Some y) × (y.0 ≡ p.task) × (local_of y.1 ≡ Some p.from)
    by None at k = absurd k
    by (Some a) at (inl e) = (x, refl, ap (λ (q : TaskStand E L). q.task) (sym e), at ∙ ap (λ (q : TaskStand E L). Some q.from) (sym e))
    by (Some a) at (inr k) = absurd k

-- a task with a local state is live
live_of : {L : Type 0} (k : Task L) (l : L) → local_of k ≡ Some l → (f : ℕ) × (a : ℕ) × (p : ℕ) × (k ≡ Live l f a p)
live_of Absent l e = absurd (let n : ⊥ = cc in n)
live_of (Live m f a p) l e = let same : m ≡ l = cc in (f, a, p, ap (λ x. Live x f a p) same)
live_of Ended l e = absurd (let n : ⊥ = cc in n)

-- ---- one change

module _ {S E R A L : Type 0} (M : Machine S E R A L) (ok : IsLawful M) (ls : List (Label E)) (c : State S E L) (run : Reaches M ls c) (l : Label E) (en : IsEnabled M c l) (ch : Change S E L) (does : effect M c l ≡ Changes ch) where
  -- another task stays where it is
  pub stays_at : (t : Name E) (k : L) → local_of (c.tasks t) ≡ Some k → (l ≡ Act t → ⊥) → local_of ((changed M ch c).tasks t) ≡ Some k
  stays_at t k is other =
      let w = live_of (c.tasks t) k is in
      ap local_of (task_stays M ok c l ch (view M ok c l ch does) en (reached M ok ls c run) t k w.0 w.1 w.2 w.3 other)

  acts : (t : Name E) → (l ≡ Act t) ⊎ (l ≡ Act t → ⊥)
  acts t = by l
    where
      by : (m : Label E) → (m ≡ Act t) ⊎ (m ≡ Act t → ⊥)
      by (Act u) = elim (cases_name M.event_same ok.event_same_is u t) [
        | inl e ↦ inl (ap Act e)
        | inr other ↦ inr (λ e. other (let same : u ≡ t = cc in same))
      ]
      by (Hand h x) = inr (λ e. let n : ⊥ = cc in n)

  abbrev later : Name E → Task L
  later = (changed M ch c).tasks

  own_after : (t : Name E) (w : Task L) → ch.own ≡ Some (t, w) → later t ≡ w
  own_after t w own =
      ap (λ x. with_task M.event_same x (with_task M.event_same ch.made c.tasks) t) own ∙ with_task-same M.event_same ok.event_same_is t w (with_task M.event_same ch.made c.tasks)

  -- a new task isn't the acting one
  made_after : (t : Name E) (w : Task L) → ch.made ≡ Some (t, w) → later t ≡ w
  made_after t w made = by ch.own refl
    where
      before : with_task M.event_same ch.made c.tasks t ≡ w
      before = ap (λ x. with_task M.event_same x c.tasks t) made ∙ with_task-same M.event_same ok.event_same_is t w c.tasks

      by : (o : Option (Name E × Task L)) → ch.own ≡ o → later t ≡ w
      by None own = ap (λ x. with_task M.event_same x (with_task M.event_same ch.made c.tasks) t) own ∙ before
      by (Some x) own =
          let is = own_is M ok c l ch (view M ok c l ch does) x.0 x.1 own in
          let none = made_absent M ok c l ch (view M ok c l ch does) en (reached M ok ls c run) t w made in
          let other : t ≡ x.0 → ⊥ = λ e. live≢absent (c.tasks x.0) is.local is.forks is.adds is.puts is.was (ap c.tasks (sym e) ∙ none) in
          ap (λ y. with_task M.event_same y (with_task M.event_same ch.made c.tasks) t) own ∙ with_task-other M.event_same ok.event_same_is x.0 x.1 (with_task M.event_same ch.made c.tasks) t other ∙ before

  own_ticket : (t : Name E) (k : L) (w : Task L) → ch.own ≡ Some (t, w) → local_of w ≡ Some k → IsAmong (stand t k) (tickets l (moved_by ch))
  own_ticket t k w own at =
      let label : l ≡ Act t = (own_is M ok c l ch (view M ok c l ch does) t w own).label in
      let goes : (moved_by ch).own ≡ Some k = ap (option_and_then (λ (x : Name E × Task L). local_of x.1)) own ∙ at in
      among_first (stand t k) (own_stand l (moved_by ch).own) (made_stand (moved_by ch).made)
      (subst (λ m. IsAmong (stand t k) (own_stand m (moved_by ch).own)) (sym label) (subst (λ o. IsAmong (stand t k) (own_stand (Act t) o)) (sym goes) (inl refl)))

  made_ticket : (t : Name E) (k : L) (w : Task L) → ch.made ≡ Some (t, w) → local_of w ≡ Some k → IsAmong (stand t k) (tickets l (moved_by ch))
  made_ticket t k w made at =
      let starts : (moved_by ch).made ≡ Some (record { name = t; local = k }) = ap (option_and_then (λ (x : Name E × Task L). made_as x.0 (local_of x.1))) made ∙ ap (made_as t) at in
      among_last (stand t k) (own_stand l (moved_by ch).own) (made_stand (moved_by ch).made) (subst (λ o. IsAmong (stand t k) (made_stand o)) (sym starts) (inl refl))

  -- a task that hasn't ended has a ticket of the step, or stood there before it
  pub came_by : (t : Name E) (k : L) → local_of (later t) ≡ Some k → IsAmong (stand t k) (tickets l (moved_by ch)) ⊎ ((l ≡ Act t → ⊥) × (local_of (c.tasks t) ≡ Some k))
  came_by t k at = elim (tasks_after M ok c l ch (view M ok c l ch does) en (reached M ok ls c run) t) [
    | inl w ↦ inl (own_ticket t k w.0 w.1 (ap local_of (sym w.2) ∙ at))
    | inr (inl w) ↦ inl (made_ticket t k w.0 w.1 (ap local_of (sym w.2) ∙ at))
    | inr (inr w) ↦ elim (acts t) [
      | inl e ↦ let o = acts_live M ok c l ch (view M ok c l ch does) t e in inl (own_ticket t k o.0 o.1 (ap local_of (sym (own_after t o.0 o.1)) ∙ at))
      | inr other ↦ inr (other, ap local_of (sym w) ∙ at)
    ]
  ]

  -- a ticket of the step is where its task is
  pub ticket_at : (p : TaskStand E L) → IsAmong p (tickets l (moved_by ch)) → local_of (later p.task) ≡ Some p.from
  ticket_at p i = elim (either_among p (own_stand l (moved_by ch).own) (made_stand (moved_by ch).made) i) [
    | inl j ↦
        let z = in_own p l (moved_by ch).own j in
        option_and_then_some (λ (x : Name E × Task L). local_of x.1) ch.own p.from z.1 (λ x own at.
        let both : Act x.0 ≡ Act p.task = sym (own_is M ok c l ch (view M ok c l ch does) x.0 x.1 own).label ∙ z.0 in
        let same : x.0 ≡ p.task = cc in
        ap (λ u. local_of (later u)) (sym same) ∙ ap local_of (own_after x.0 x.1 own) ∙ at)
    | inr j ↦ let z = in_made p ch.made j in ap (λ u. local_of (later u)) (sym z.2) ∙ ap local_of (made_after z.0.0 z.0.1 z.1) ∙ z.3
  ]
