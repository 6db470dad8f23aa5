-- An agenda stays beside its board.
use Rattle.std.proofs.Common.{◌≡◌, inl, inr, ℕ, false, List, [], ◌∷◌, ◌++◌, Option, Some, None, Ordering, refl, sym, ap, ◌∙◌, subst, IsSome, if◌then◌else◌}
use Rattle.std.proofs.lemmas.List.{map_push}
use Rattle.std.proofs.lemmas.Option.{none-some}
use Rattle.lvish_calculus.specs.declared.label.Label.{Label}
use Rattle.lvish_calculus.specs.declared.label.Label.TheVariants.{Act, Hand}
use Rattle.lvish_calculus.specs.Machine.{Machine, IsLawful}
use Rattle.lvish_calculus.specs.Calculus.{State, Running, Error, Change, Effect, Changes, Fails, Nothing, CanStep, IsEnabled, IsRun, after, changed, effect, start, Absent, Live}
use Rattle.lvish_names.specs.Names.{Name, Handler, main, same_name}
use Rattle.lvish_calculus.specs.Laws.{Reaches}
use Rattle.lvish_calculus.specs.Handing.{IsAmong}
use Rattle.lvish_calculus.proofs.Runs.{reached, nothing}
use Rattle.lvish_calculus.proofs.SameThere.{run_split}
use Rattle.lvish_picture.specs.Laws.{HandsBelowTheEnd, HandsTheHeld}
use Rattle.lvish_core.specs.Core.{CoreView, IsRunTo, CanTake, state, picture, at_fault}
use Rattle.lvish_core.specs.CoreLaws.{HandsWhatComes}
use Rattle.lvish_core.specs.Changes.{local_of, moved_by, moved_in}
use Rattle.lvish_trace.specs.declared.trace_entry.TraceEntry.{TraceEntry}
use Rattle.lvish_board.specs.declared.work.Work.{Work}
use Rattle.lvish_board.specs.declared.work.Work.TheVariants.{Stretch}
use Rattle.lvish_board.specs.Stand.{TaskStand}
use Rattle.lvish_trace.specs.Traced.{labels_of}
use Rattle.lvish_board.specs.Board.{Standing, tasks_of, IsCurrent, IsBoardSound, IsOpened}
use Rattle.lvish_board.specs.Listed.{IsListed, Concerns, by_handing, HasNext, tickets}
use Rattle.lvish_board.specs.Woken.{IsParkedBeside}
use Rattle.lvish_run.specs.Agenda.{Open, Adds, IsTaskOf, IsBeside, IsEmpty}
use Rattle.lvish_run.specs.Walk.{IsEntered}
use Rattle.lvish_core.specs.laws.Lists.{among_map}
use Rattle.lvish_board.proofs.Steps.{of_task, no_fault}
use Rattle.lvish_run.proofs.Agendas.{stand_in, task_of_one, task_from, ticket_listed, woken_listed, handler_listed}
use Rattle.lvish_run.proofs.Placed.{stand, stays_at, came_by, ticket_at}
use Rattle.lvish_run.proofs.Upcoming.{to_hand_before, has_next}
use Rattle.std.proofs.lemmas.Bool.{cases_Bool, false≢true}
use Rattle.lvish_calculus.proofs.Names.{same_name-true}
use Rattle.lvish_core.specs.laws.Runs.{running_same, at_state}
use Rattle.lvish_run.proofs.Firsts.{handler_there}

-- the task and the handler of a label's work
abbrev pub task_in : {E : Type 0} → Label E → Option (Name E)
task_in (Act t) = Some t
task_in (Hand h e) = None

abbrev pub handler_in : {E : Type 0} → Label E → Option (Handler E)
handler_in (Act t) = None
handler_in (Hand h e) = Some h

is_task_in : {E : Type 0} (l : Label E) (t : Name E) → task_in l ≡ Some t → l ≡ Act t
is_task_in (Act u) t e = let same : u ≡ t = cc in ap Act same
is_task_in (Hand h x) t e = absurd (let z : ⊥ = cc in z)

is_handler_in : {E : Type 0} (l : Label E) (h : Handler E) → handler_in l ≡ Some h → (e : E) × (l ≡ Hand h e)
is_handler_in (Act u) h e = absurd (let z : ⊥ = cc in z)
is_handler_in (Hand k x) h e = let same : k ≡ h = cc in (x, ap (λ g. Hand g x) same)

-- ---- one step of a board

module _ {P S E R A L : Type 0} (M : Machine S E R A L) (program : P) (budget : ℕ) (s r : Standing P S E L) (l : Label E) (sound : IsBoardSound M program budget s) (later : IsBoardSound M program budget r) (over : s.over ≡ None) (entered : IsEntered s l r) where
  abbrev c : State S E L
  c = state M s.core

  abbrev d : State S E L
  d = state M r.core

  abbrev xs : List (Label E)
  xs = labels_of s.trace

  fine : s.core.fault ≡ None
  fine = no_fault M program budget s sound over

  on : IsRunTo M r.core (xs ++ l ∷ [])
  on = subst (λ ls. IsRunTo M r.core ls) (ap labels_of entered ∙ map_push (λ (e : TraceEntry E). e.label) s.trace (record { worker = 0; label = l })) later.leads

  reach : Reaches M xs c
  reach = subst (λ f. IsRun M (Running (start M)) xs (at_fault c f)) fine sound.leads.reached

  made : IsRun M (Running c) (l ∷ []) (picture M r.core)
  made = run_split M xs (l ∷ []) (Running (start M)) (Running c) (picture M r.core) reach on.reached

  -- the step was enabled
  pub was_enabled : CanStep M (picture M s.core) l
  was_enabled = subst (λ f. CanStep M (at_fault c f) l) (sym fine) made.0

  module _ (still : r.over ≡ None) (ok : IsLawful M) where
    still_fine : r.core.fault ≡ None
    still_fine = no_fault M program budget r later still

    one : IsRun M (Running c) (l ∷ []) (Running d)
    one = subst (λ f. IsRun M (Running c) (l ∷ []) (at_fault d f)) still_fine made

    change : (ch : Change S E L) × (effect M c l ≡ Changes ch) × (changed M ch c ≡ d)
    change = by (effect M c l) refl
      where
        by : (o : Effect S E L) → effect M c l ≡ o → (ch : Change S E L) × (effect M c l ≡ Changes ch) × (changed M ch c ≡ d)
        by (Changes ch) e = let same : Running (changed M ch c) ≡ Running d = sym (ap (after M c) e) ∙ one.1 in (ch, e, (let at : changed M ch c ≡ d = cc in at))
        by (Fails kind v t) e = let same : Error kind v t ≡ Running d = sym (ap (after M c) e) ∙ one.1 in absurd (let n : ⊥ = cc in n)
        by Nothing e = absurd (nothing M ok c l one.0 e)

    abbrev ch : Change S E L
    ch = change.0

    local_then : (t : Name E) (k : L) → local_of ((changed M ch c).tasks t) ≡ Some k → local_of (d.tasks t) ≡ Some k
    local_then t k e = subst (λ (x : State S E L). local_of (x.tasks t) ≡ Some k) change.2 e

    stays : (p : TaskStand E L) → IsCurrent M s.core p → (l ≡ Act p.task → ⊥) → IsCurrent M r.core p
    stays p at other = local_then p.task p.from (stays_at M ok xs c reach l one.0 ch change.1 p.task p.from at other)

    moved : moved_in (effect M c l) ≡ moved_by ch
    moved = ap moved_in change.1

    -- a parked task didn't act
    parked_waits : (p : TaskStand E L) → IsAmong p s.parked → l ≡ Act p.task → ⊥
    parked_waits p i e = (sound.blocked p i).blocked (subst (λ f. CanStep M (at_fault c f) (Act p.task)) (sym fine) (subst (λ m. IsEnabled M c m) e one.0), tt)

    module _ (comes : HandsWhatComes P M) (below : HandsBelowTheEnd M) (held : HandsTheHeld M) where
      -- what comes next for a handler that the step doesn't concern, came before
      next_before : (h : Handler E) → (Concerns M s.core l h → ⊥) → HasNext M r.core h → HasNext M s.core h
      next_before h apart z =
          let can = comes r.core (xs ++ l ∷ []) on still_fine h z.0 z.1 in
          let en : IsEnabled M d (Hand h z.0) = subst (λ f. CanStep M (at_fault d f) (Hand h z.0)) still_fine can.0 in
          has_next M ok s.core xs sound.leads fine below held h z.0
          (to_hand_before M ok s.core l ch change.1 one.0 (reached M ok xs c reach) h apart z.0 (subst (λ (x : State S E L). IsEnabled M x (Hand h z.0)) (sym change.2) en))

      module _ {Q B A1 W : Type 0} (cmp : E → E → Ordering) (ws : List (Work Q B S L R A1 W E)) (w : IsListed cmp M s l r ws) (a b : Open E L) (before : IsBeside M s (task_in l) (handler_in l) a) (adds : Adds ws a b) where
        abbrev ts : List (TaskStand E L)
        ts = tickets l (moved_in (effect M c l))

        current : (t : Name E) (p : TaskStand E L) → b.at t ≡ Some p → (p.task ≡ t) × IsCurrent M r.core p × (None ≡ Some t → ⊥)
        current t p e = elim (adds.from t p e) [
          | inl was ↦
              let k = before.current t p was in
              (k.0, stays p k.1 (λ same. k.2 (ap task_in (same ∙ ap Act k.0))), λ z. (let n : ⊥ = cc in n))
          | inr new ↦ (
            new.0,
            elim (task_from ws ts w.woken w.hands w.is p new.1) [
              | inl j ↦ local_then p.task p.from (ticket_at M ok xs c reach l one.0 ch change.1 p (subst (λ m. IsAmong p (tickets l m)) moved j))
              | inr j ↦ let k = (w.woken_are p).0 j in stays p (sound.blocked p k.0).current (parked_waits p k.0)
            ],
            λ z. (let n : ⊥ = cc in n),
          )
        ]

        tasks : (t : Name E) (k : L) → local_of (d.tasks t) ≡ Some k → b.at t ≡ None → (IsAmong t (tasks_of r.parked) → ⊥) → None ≡ Some t
        tasks t k at none not_parked = absurd (elim (came_by M ok xs c reach l one.0 ch change.1 t k (subst (λ (x : State S E L). local_of (x.tasks t) ≡ Some k) (sym change.2) at)) [
          | inl i ↦ gone.1 (stand t k) (ticket_listed ws ts w.woken w.hands w.is (stand t k) (subst (λ m. IsAmong (stand t k) (tickets l m)) (sym moved) i)) refl
          | inr z ↦ z.0 (is_task_in l t (before.tasks t k z.1 gone.0 was_parked))
        ])
          where
            gone : (a.at t ≡ None) × ((p : TaskStand E L) → IsTaskOf ws p → p.task ≡ t → ⊥)
            gone = adds.kept t none

            was_parked : IsAmong t (tasks_of s.parked) → ⊥
            was_parked i =
                let p = of_task t s.parked i in
                let waits : CanTake M r.core (Act p.0.task) → ⊥ = λ can. gone.1 p.0 (woken_listed ws ts w.woken w.hands w.is p.0 ((w.woken_are p.0).1 (p.1, can))) p.2 in
                not_parked (subst (λ u. IsAmong u (tasks_of r.parked)) p.2 (among_map (λ (x : TaskStand E L). x.task) p.0 r.parked ((w.still p.0).1 (p.1, waits))))

        hands : (h : Handler E) → HasNext M r.core h → b.has h ≡ false → None ≡ Some h
        hands h z none = absurd (
            let gone = adds.hands h none in
            let apart : Concerns M s.core l h → ⊥ = λ con. gone.1 (handler_listed ws ts w.woken w.hands w.is h ((w.hands_are h).1 (z, con))) in
            let e = is_handler_in l h (before.hands h (next_before h apart z) gone.0) in
            apart (by_handing e.0 e.1)
            )

        pub beside_after : IsBeside M r None None b
        beside_after = record { current = current; tasks = tasks; hands = hands }

-- ---- without a step

-- where a task can't go on and was parked, the agenda still has all that may be done
module _ {P S E R A L : Type 0} (M : Machine S E R A L) (s r : Standing P S E L) (p : TaskStand E L) (a : Open E L) (same : r.core ≡ s.core) (parks : IsParkedBeside s.parked p r.parked) where
  pub beside_parked : IsBeside M s (Some p.task) None a → IsBeside M r None None a
  beside_parked before = record {
    current = λ t q e.
        let k = before.current t q e in
        (k.0, subst (λ (x : CoreView P S E L). IsCurrent M x q) (sym same) k.1, λ z. (let n : ⊥ = cc in n));
    tasks = λ t k at none not_parked. absurd (
        let own : Some p.task ≡ Some t = before.tasks t k (subst (λ (x : CoreView P S E L). local_of ((state M x).tasks t) ≡ Some k) same at) none (was_parked t not_parked) in
        beside t not_parked (let e : p.task ≡ t = cc in e)
        );
    hands = λ h z none. before.hands h (subst (λ (x : CoreView P S E L). HasNext M x h) same z) none;
  }
    where
      beside : (t : Name E) → (IsAmong t (tasks_of r.parked) → ⊥) → p.task ≡ t → ⊥
      beside t not_parked e = not_parked (subst (λ u. IsAmong u (tasks_of r.parked)) e (among_map (λ (x : TaskStand E L). x.task) p r.parked ((parks.each p).1 (inl refl))))

      was_parked : (t : Name E) → (IsAmong t (tasks_of r.parked) → ⊥) → IsAmong t (tasks_of s.parked) → ⊥
      was_parked t not_parked i =
          let q = of_task t s.parked i in
          let other : q.0.task ≡ p.task → ⊥ = λ e. beside t not_parked (sym e ∙ q.2) in
          not_parked (subst (λ u. IsAmong u (tasks_of r.parked)) q.2 (among_map (λ (x : TaskStand E L). x.task) q.0 r.parked ((parks.each q.0).1 (inr (q.1, other)))))

-- ---- before any step

module _ {P' P B S L R A W E Ans : Type 0} (M : Machine S E R Ans L) (ok : IsLawful M) (program : P') (budget : ℕ) (s : Standing P' S E L) (sound : IsBoardSound M program budget s) (opened : IsOpened M program s) (comes : HandsWhatComes P' M)
    (a b : Open E L) (empty : IsEmpty a) (w : Work P B S L R A W E) (is : w ≡ Stretch (record { task = main; from = M.start })) (adds : Adds (w ∷ []) a b) where
  abbrev first : TaskStand E L
  first = record { task = main; from = M.start }

  at_start : state M s.core ≡ start M
  at_start = running_same (sym (at_state M s.core (no_fault M program budget s sound opened.over)) ∙ opened.core.at_start)

  is_first : (p : TaskStand E L) → IsTaskOf (w ∷ []) p → p ≡ first
  is_first p i = let both : Some p ≡ Some first = sym (task_of_one w p i) ∙ ap stand_in is in let same : p ≡ first = cc in same

  main_listed : IsTaskOf (w ∷ []) first
  main_listed = inl (inl (sym is))

  first_current : IsCurrent M s.core first
  first_current = subst (λ (c : State S E L). local_of (c.tasks main) ≡ Some M.start) (sym at_start) refl

  opened_current : (t : Name E) (p : TaskStand E L) → b.at t ≡ Some p → (p.task ≡ t) × IsCurrent M s.core p × (None ≡ Some t → ⊥)
  opened_current t p e = elim (adds.from t p e) [
    | inl was ↦ absurd (none-some p (sym (empty.at t) ∙ was))
    | inr z ↦ (z.0, subst (λ q. IsCurrent M s.core q) (sym (is_first p z.1)) first_current, none-some t)
  ]

  only_main : (t : Name E) (l : L) → local_of ((start M).tasks t) ≡ Some l → t ≡ main
  only_main t l e = elim (cases_Bool (same_name M.event_same t main)) [
    | inl same ↦ same_name-true M.event_same ok.event_same_is t main same
    | inr other ↦ absurd (none-some l (sym (ap (λ q. local_of (if q then Live M.start 0 0 0 else Absent)) other) ∙ e))
  ]

  opened_tasks : (t : Name E) (l : L) → local_of ((state M s.core).tasks t) ≡ Some l → b.at t ≡ None → (IsAmong t (tasks_of s.parked) → ⊥) → None ≡ Some t
  opened_tasks t l e none not_parked = absurd ((adds.kept t none).1 first main_listed (sym (only_main t l (subst (λ (c : State S E L). local_of (c.tasks t) ≡ Some l) at_start e))))

  opened_hands : (h : Handler E) → HasNext M s.core h → b.has h ≡ false → None ≡ Some h
  opened_hands h z none = absurd (false≢true (subst (λ (c : State S E L). IsSome (c.handlers h)) at_start (handler_there M program budget s sound opened.over comes h z)))

  pub opened_beside : IsBeside M s None None b
  opened_beside = record { current = opened_current; tasks = opened_tasks; hands = opened_hands }
