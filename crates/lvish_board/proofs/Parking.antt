-- One more is parked.
use Rattle.std.proofs.Common.{◌≡◌, ◌⊎◌, ◌↔◌, inl, inr, ℕ, List, [], ◌∷◌, ◌++◌, Result, Ok, Err, IfOk, OnErr, refl, sym, ap, subst, ◌∙◌, append-nil}
use Rattle.std.specs.Prelude.{slice_get}
use Rattle.std.proofs.lemmas.List.{map-append}
use Rattle.std.proofs.lemmas.Option.{same_Some}
use Rattle.lvish_names.specs.Names.{Name}
use Rattle.lvish_calculus.specs.Handing.{IsAmong, NoRepeats}
use Rattle.lvish_board.specs.Stand.{TaskStand}
use Rattle.lvish_calculus.specs.Calculus.{Task}
use Rattle.lvish_core.specs.Tasks.{HasEachOnce, IsAt, KeepsIndices, task_names}
use Rattle.lvish_core.specs.laws.Lists.{either_among}
use Rattle.lvish_board.specs.Seated.{AreIndexed, AreWithin, indices_of, stands_of}
use Rattle.lvish_board.specs.Board.{tasks_of}
use Rattle.lvish_board.specs.Woken.{IsParkedBeside}
use Rattle.lvish_board.proofs.Among.{at_middle, in_middle, once_more}
use Rattle.lvish_board.proofs.Seating.{index_among, of_index, of_stand, stand_listed}
use Rattle.lvish_board.proofs.Steps.{of_task}
use Rattle.lvish_board.proofs.Waking.{task_among}

module _ {E L : Type 0} where
  -- two of a list that repeats no task are one, or their tasks differ
  apart : (q r : TaskStand E L) (ps : List (TaskStand E L)) → NoRepeats (tasks_of ps) → IsAmong q ps → IsAmong r ps → (q ≡ r) ⊎ (q.task ≡ r.task → ⊥)
  apart q r [] once i j = absurd i
  apart q r (p ∷ ps) once (inl e) (inl d) = inl (e ∙ sym d)
  apart q r (p ∷ ps) once (inl e) (inr j) = inr (λ same. once.0 (subst (λ t. IsAmong t (tasks_of ps)) (sym same ∙ ap (λ x. x.task) e) (task_among r ps j)))
  apart q r (p ∷ ps) once (inr i) (inl d) = inr (λ same. once.0 (subst (λ t. IsAmong t (tasks_of ps)) (same ∙ ap (λ x. x.task) d) (task_among q ps i)))
  apart q r (p ∷ ps) once (inr i) (inr j) = apart q r ps once.1 i j

  -- what is parked already is parked beside the others
  pub beside_itself : (p : TaskStand E L) (ps : List (TaskStand E L)) → NoRepeats (tasks_of ps) → ((q : TaskStand E L) → IsAmong q ps → q.task ≡ p.task → q ≡ p) → IsAmong p.task (tasks_of ps) → IsParkedBeside ps p ps
  beside_itself p ps once same there =
      let r = of_task p.task ps there in
      let here : IsAmong p ps = subst (λ x. IsAmong x ps) (same r.0 r.1 r.2) r.1 in
      record {
        each = λ q. (
          λ i. elim (apart q p ps once i here) [
            | inl e ↦ inl e
            | inr other ↦ inr (i, other)
          ],
          λ i. elim i [
            | inl e ↦ subst (λ x. IsAmong x ps) (sym e) here
            | inr j ↦ j.0
          ],
        );
      }

  -- where none of its task was parked, one more is
  pub beside_others : (p : TaskStand E L) (ps qs : List (TaskStand E L)) → (IsAmong p.task (tasks_of ps) → ⊥) → ((q : TaskStand E L) → IsAmong q qs ↔ ((q ≡ p) ⊎ IsAmong q ps)) → IsParkedBeside ps p qs
  beside_others p ps qs absent one = record {
    each = λ q. (
      λ i. elim ((one q).0 i) [
        | inl e ↦ inl e
        | inr j ↦ inr (j, λ same. absent (subst (λ t. IsAmong t (tasks_of ps)) same (task_among q ps j)))
      ],
      λ i. elim i [
        | inl e ↦ (one q).1 (inl e)
        | inr j ↦ (one q).1 (inr j.0)
      ],
    );
  }

  among_pushed : (p q : TaskStand E L) (i : ℕ) (es : List (ℕ × TaskStand E L)) → IsAmong q (stands_of (es ++ (i, p) ∷ [])) ↔ ((q ≡ p) ⊎ IsAmong q (stands_of es))
  among_pushed p q i es =
      let same : stands_of (es ++ (i, p) ∷ []) ≡ stands_of es ++ p ∷ [] = map-append (λ (e : ℕ × TaskStand E L). e.1) es ((i, p) ∷ []) in
      let none = append-nil (stands_of es) in (
        λ a. subst (λ ps. (q ≡ p) ⊎ IsAmong q ps) none (at_middle q p (stands_of es) [] (subst (λ ps. IsAmong q ps) same a)),
        λ a. subst (λ ps. IsAmong q ps) (sym same) (in_middle q p (stands_of es) [] (subst (λ ps. (q ≡ p) ⊎ IsAmong q ps) (sym none) a)),
      )

  -- of an answer to the parking of one more: what is parked is that one, or was parked before
  pub parked_or_before : {R X : Type 0} (Y : Type 0) (r : Result R X) (i : ℕ) (p : TaskStand E L) (es fs : List (ℕ × TaskStand E L)) → IfOk r (λ _. fs ≡ es ++ (i, p) ∷ []) → OnErr r (Y × (fs ≡ es)) → (e : ℕ × TaskStand E L) → IsAmong e fs → (e ≡ (i, p)) ⊎ IsAmong e es
  parked_or_before Y (Ok x) i p es fs one none e a = elim (either_among e es ((i, p) ∷ []) (subst (λ xs. IsAmong e xs) one a)) [
    | inl old ↦ inr old
    | inr new ↦ elim new [
      | inl is ↦ inl is
      | inr k ↦ absurd k
    ]
  ]
  parked_or_before Y (Err x) i p es fs one none e a = inr (subst (λ xs. IsAmong e xs) none.1 a)

  -- where the answer is not an error, it is parked beside the others
  pub beside_if_ok : {R X : Type 0} (r : Result R X) (i : ℕ) (p : TaskStand E L) (es fs : List (ℕ × TaskStand E L)) → (IsAmong p.task (tasks_of (stands_of es)) → ⊥) → IfOk r (λ _. fs ≡ es ++ (i, p) ∷ []) → IfOk r (λ _. IsParkedBeside (stands_of es) p (stands_of fs))
  beside_if_ok (Ok x) i p es fs absent one = beside_others p (stands_of es) (stands_of fs) absent (λ q. subst (λ xs. IsAmong q (stands_of xs) ↔ ((q ≡ p) ⊎ IsAmong q (stands_of es))) (sym one) (among_pushed p q i es))
  beside_if_ok (Err x) i p es fs absent one = tt

  -- and no task is parked twice
  pub once_beside : {R X : Type 0} (Y : Type 0) (r : Result R X) (i : ℕ) (p : TaskStand E L) (es fs : List (ℕ × TaskStand E L)) → (IsAmong p.task (tasks_of (stands_of es)) → ⊥) → NoRepeats (tasks_of (stands_of es)) → IfOk r (λ _. fs ≡ es ++ (i, p) ∷ []) → OnErr r (Y × (fs ≡ es)) → NoRepeats (tasks_of (stands_of fs))
  once_beside Y (Ok x) i p es fs absent once one none =
      let places : stands_of (es ++ (i, p) ∷ []) ≡ stands_of es ++ p ∷ [] = map-append (λ (e : ℕ × TaskStand E L). e.1) es ((i, p) ∷ []) in
      let tasks : tasks_of (stands_of fs) ≡ tasks_of (stands_of es) ++ p.task ∷ [] = ap (λ xs. tasks_of (stands_of xs)) one ∙ ap (λ ps. tasks_of ps) places ∙ map-append (λ (q : TaskStand E L). q.task) (stands_of es) (p ∷ []) in
      let empty = append-nil (tasks_of (stands_of es)) in
      subst (λ ts. NoRepeats ts) (sym tasks) (once_more p.task (tasks_of (stands_of es)) [] (λ a. absent (subst (λ ts. IsAmong p.task ts) empty a)) (subst (λ ts. NoRepeats ts) (sym empty) once))
  once_beside Y (Err x) i p es fs absent once one none = subst (λ xs. NoRepeats (tasks_of (stands_of xs))) (sym none.1) once

  -- a task whose index is that of none that is parked is not parked
  pub not_parked : (i : ℕ) (t : Name E) (es : List (ℕ × TaskStand E L)) → ((e : ℕ × TaskStand E L) → IsAmong e es → (e.1.task ≡ t) ↔ (e.0 ≡ i)) → (IsAmong i (indices_of es) → ⊥) → IsAmong t (tasks_of (stands_of es)) → ⊥
  not_parked i t es theirs absent a =
      let q = of_task t (stands_of es) a in
      let r = of_stand q.0 es q.1 in
      absent (subst (λ j. IsAmong j (indices_of es)) ((theirs (r.0, q.0) r.1).0 q.2) (index_among (r.0, q.0) es r.1))

  -- and one whose index is, is
  pub is_parked_at : (i : ℕ) (t : Name E) (es : List (ℕ × TaskStand E L)) → ((e : ℕ × TaskStand E L) → IsAmong e es → (e.1.task ≡ t) ↔ (e.0 ≡ i)) → IsAmong i (indices_of es) → IsAmong t (tasks_of (stands_of es))
  is_parked_at i t es theirs a =
      let r = of_index i es a in
      subst (λ u. IsAmong u (tasks_of (stands_of es))) ((theirs (i, r.0) r.1).1 refl) (task_among r.0 (stands_of es) (stand_listed (i, r.0) es r.1))

module _ {E L : Type 0} where
  -- the index of a task that is there is no other parked task's
  pub theirs : (tasks : List (Name E × Task L)) → HasEachOnce tasks → (es : List (ℕ × TaskStand E L)) → AreIndexed tasks es → (i : ℕ) (t : Name E) → IsAt tasks i t → (e : ℕ × TaskStand E L) → IsAmong e es → (e.1.task ≡ t) ↔ (e.0 ≡ i)
  theirs tasks once es indexed i t at e a = (
    λ same. once e.0 i t (subst (λ u. IsAt tasks e.0 u) same (indexed e a)) at,
    λ same. same_Some e.1.task t (sym (indexed e a) ∙ ap (λ j. slice_get (task_names tasks) j) same ∙ at),
  )

  -- one more is parked at its index
  pub indexed_beside : (tasks : List (Name E × Task L)) (i : ℕ) (p : TaskStand E L) (es fs : List (ℕ × TaskStand E L)) → AreIndexed tasks es → IsAt tasks i p.task → ((e : ℕ × TaskStand E L) → IsAmong e fs → (e ≡ (i, p)) ⊎ IsAmong e es) → AreIndexed tasks fs
  indexed_beside tasks i p es fs indexed at entries e a = elim (entries e a) [
    | inl is ↦ subst (λ (x : ℕ × TaskStand E L). IsAt tasks x.0 x.1.task) (sym is) at
    | inr old ↦ indexed e old
  ]

  -- some are parked no longer, after a step
  pub still_indexed : (tasks others : List (Name E × Task L)) → KeepsIndices tasks others → (es fs : List (ℕ × TaskStand E L)) → AreIndexed tasks es → AreWithin fs es → AreIndexed others fs
  still_indexed tasks others kept es fs indexed within e a = kept e.0 e.1.task (indexed e (within e a))

  pub none_indexed : (tasks : List (Name E × Task L)) (es : List (ℕ × TaskStand E L)) → es ≡ [] → AreIndexed tasks es
  none_indexed tasks es none e a = absurd (subst (λ xs. IsAmong e xs) none a)
