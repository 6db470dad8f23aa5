-- One is woken by its index.
use Rattle.std.proofs.Common.{◌≡◌, inr, ℕ, Bool, true, List, [], ◌∷◌, ◌++◌, Some, IsPermutation, sym, ap, subst}
use Rattle.std.specs.Prelude.{slice_get}
use Rattle.std.specs.Cmp.{IsEquivalence}
use Rattle.std.specs.List.{swap_remove}
use Rattle.std.proofs.lemmas.List.Sorted.{IsPermutation-map, IsPermutation-swap_remove, IsPermutation-sym}
use Rattle.std.proofs.lemmas.Option.{slice_get_within, get_or_from_slice_get}
use Rattle.lvish_names.specs.Names.{Name}
use Rattle.lvish_calculus.specs.Handing.{IsAmong, NoRepeats}
use Rattle.lvish_board.specs.Stand.{TaskStand}
use Rattle.lvish_board.specs.Seated.{AreSeated, AreWithin, indices_of, stands_of}
use Rattle.lvish_board.specs.Board.{tasks_of}
use Rattle.lvish_board.specs.Waking.{Wakes}
use Rattle.lvish_board.proofs.Among.{among_permuted, once_permuted}
use Rattle.lvish_board.proofs.Seating.{of_index, one_of_index, stand_listed, stands_among}
use Rattle.lvish_board.proofs.Waking.{task_among, wakes_from, wakes_one}

module _ {E L : Type 0} {eq : Name E → Name E → Bool} (laws : IsEquivalence eq) (exact : (t u : Name E) → eq t u ≡ true → t ≡ u) (seats : List ℕ) (es : List (ℕ × TaskStand E L)) (seated : AreSeated seats es) (once : NoRepeats (tasks_of (stands_of es)))
    (s i : ℕ) (p : TaskStand E L) (at : slice_get es s ≡ Some (i, p)) where
  -- what is left
  abbrev pub left : List (ℕ × TaskStand E L)
  left = swap_remove es s (i, p)

  to : IsPermutation es ((i, p) ∷ left)
  to = IsPermutation-swap_remove es s (i, p) (slice_get_within es s (i, p) at) (sym (get_or_from_slice_get es s (i, p) (i, p) at))

  pub left_within : AreWithin left es
  left_within e a = among_permuted e ((i, p) ∷ left) es (IsPermutation-sym es ((i, p) ∷ left) to) (inr a)

  stands_to : IsPermutation (stands_of es) (p ∷ stands_of left)
  stands_to = IsPermutation-map (λ (e : ℕ × TaskStand E L). e.1) es ((i, p) ∷ left) to

  all_once : NoRepeats (tasks_of (p ∷ stands_of left))
  all_once = once_permuted laws exact (tasks_of (stands_of es)) (tasks_of (p ∷ stands_of left)) (IsPermutation-map (λ q. q.task) (stands_of es) (p ∷ stands_of left) stands_to) once

  pub left_once : NoRepeats (tasks_of (stands_of left))
  left_once = all_once.1

  only : (q : TaskStand E L) → IsAmong (i, q) es → q ≡ p
  only q a = one_of_index seats es seated i q p a (stands_among es s (i, p) at)

  -- none of them has the index
  pub index_gone : IsAmong i (indices_of left) → ⊥
  index_gone a =
      let r = of_index i left a in
      let same = only r.0 (left_within (i, r.0) r.1) in
      all_once.0 (subst (λ q. IsAmong q.task (tasks_of (stands_of left))) same (task_among r.0 (stands_of left) (stand_listed (i, r.0) left r.1)))

  pub wakes_seated : (Can : TaskStand E L → Type 0) → Can p → (before after : List (TaskStand E L)) → after ≡ before ++ p ∷ [] → Wakes Can (λ q. IsAmong (i, q) es) (stands_of es) (stands_of left) before after
  wakes_seated Can can before after adds =
      let w = wakes_one Can (λ q. IsAmong (i, q) es) p [] (stands_of left) before all_once can (λ q may. ap (λ r. r.task) (only q may)) in
      wakes_from Can laws exact (λ q. IsAmong (i, q) es) (p ∷ stands_of left) (stands_of es) (stands_of left) before after (IsPermutation-sym (stands_of es) (p ∷ stands_of left) stands_to)
      (subst (λ qs. Wakes Can (λ q. IsAmong (i, q) es) (p ∷ stands_of left) (stands_of left) before qs) (sym adds) w)
