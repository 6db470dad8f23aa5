-- Tasks are woken by the indices of a list, from its last on.
use Rattle.std.proofs.Common.{◌≡◌, ◌⊎◌, inl, inr, ℕ, ◌+◌, ◌-◌, ◌<◌, ◌≤◌, List, [], ◌∷◌, length, get_or, take, refl, sym, ap, subst, ◌∙◌, arith, swap_remove, slice_set, slice_index_or, vec_capacity}
use Rattle.std.specs.Global.{Vec}
use Rattle.std.proofs.lemmas.List.{take_more, take-take, take-set}
use Rattle.std.proofs.lemmas.List.Sorted.{IsPermutation-swap_remove, length_permutation}
use Rattle.std.proofs.Math.Seq.{take-length}
use Rattle.lvish_calculus.specs.Handing.{IsAmong, NoRepeats}
use Rattle.lvish_core.specs.laws.Lists.{either_among}
use Rattle.lvish_board.specs.Stand.{TaskStand}
use Rattle.lvish_board.specs.Seated.{AreWithin, HasIndexAmong, indices_of, stands_of}
use Rattle.lvish_board.specs.Board.{tasks_of}
use Rattle.lvish_board.specs.Waking.{Wakes}
use Rattle.lvish_board.proofs.Among.{among_permuted}
use Rattle.lvish_board.proofs.Seating.{index_among, of_index, of_stand, stand_listed}
use Rattle.lvish_board.proofs.Waking.{task_among, wakes_none, wakes_then, wakes_fewer}

module _ {X : Type 0} where
  -- of the first indices all but the last of them are left
  pub one_fewer : (x y : X) (xs : List X) (n : ℕ) → n < length xs → y ≡ get_or xs n y → IsAmong x (take (n + 1) xs) → (x ≡ y) ⊎ IsAmong x (take n xs)
  one_fewer x y xs n lt is i = elim (either_among x (take n xs) (get_or xs n y ∷ []) (subst (λ zs. IsAmong x zs) (take_more xs n y lt) i)) [
    | inl j ↦ inr j
    | inr j ↦ elim j [
      | inl e ↦ inl (e ∙ sym is)
      | inr k ↦ absurd k
    ]
  ]

  -- a removal leaves those before it
  pub before_removal : (xs : List X) (n : ℕ) (d : X) → n < length xs → take n (swap_remove xs n d) ≡ take n xs
  before_removal xs n d lt = take-take n (length xs - 1) (slice_set xs n (slice_index_or xs (length xs - 1) d)) (omega arith) ∙ take-set xs n (slice_index_or xs (length xs - 1) d)

  -- and takes but the one
  pub still_among : (x y : X) (xs : List X) (n : ℕ) → n < length xs → y ≡ get_or xs n y → (x ≡ y → ⊥) → IsAmong x xs → IsAmong x (swap_remove xs n y)
  still_among x y xs n lt is other i = elim (among_permuted x xs (y ∷ swap_remove xs n y) (IsPermutation-swap_remove xs n y lt is) i) [
    | inl e ↦ absurd (other e)
    | inr j ↦ j
  ]

module _ {E L : Type 0} where
  -- a place that stands once has one index
  same_index : (i j : ℕ) (p : TaskStand E L) (es : List (ℕ × TaskStand E L)) → NoRepeats (tasks_of (stands_of es)) → IsAmong (i, p) es → IsAmong (j, p) es → i ≡ j
  same_index i j p [] once a b = absurd a
  same_index i j p (e ∷ es) once (inl a) (inl b) = ap (λ (x : ℕ × TaskStand E L). x.0) (a ∙ sym b)
  same_index i j p (e ∷ es) once (inl a) (inr b) = absurd (once.0 (subst (λ q. IsAmong q.task (tasks_of (stands_of es))) (ap (λ (x : ℕ × TaskStand E L). x.1) a) (task_among p (stands_of es) (stand_listed (j, p) es b))))
  same_index i j p (e ∷ es) once (inr a) (inl b) = absurd (once.0 (subst (λ q. IsAmong q.task (tasks_of (stands_of es))) (ap (λ (x : ℕ × TaskStand E L). x.1) b) (task_among p (stands_of es) (stand_listed (i, p) es a))))
  same_index i j p (e ∷ es) once (inr a) (inr b) = same_index i j p es once.1 a b

  -- the place's index is on the list, but isn't left to be asked
  abbrev pub IsSwept : List ℕ → List ℕ → List (ℕ × TaskStand E L) → TaskStand E L → Type 0
  IsSwept all rest es p = HasIndexAmong all es p × (HasIndexAmong rest es p → ⊥)

-- of a list of indices those from a place on were asked
pub record IsSweeping {E L : Type 0} (Can : TaskStand E L → Type 0) (all indices : List ℕ) (next : ℕ) (old new : List (ℕ × TaskStand E L)) (before after : Vec (TaskStand E L)) : Type 0 where
  pub short : next ≤ length indices
  pub wakes : Wakes Can (IsSwept all (take next indices) old) (stands_of old) (stands_of new) before.items after.items
  pub left : (i : ℕ) → IsAmong i (indices_of new) → IsAmong i all → IsAmong i indices
  pub once : NoRepeats (tasks_of (stands_of new))
  pub within : AreWithin new old
  pub capacity : vec_capacity after ≡ vec_capacity before

module _ {E L : Type 0} (Can : TaskStand E L → Type 0) where
  pub begun : (all : List ℕ) (next : ℕ) (old : List (ℕ × TaskStand E L)) (before : Vec (TaskStand E L)) → NoRepeats (tasks_of (stands_of old)) → next ≡ length all → IsSweeping Can all all next old old before before
  begun all next old before once e = record {
    short = omega arith;
    wakes = wakes_none Can (IsSwept all (take next all) old) (stands_of old) before.items (λ p i may can. may.1 (subst (λ is. HasIndexAmong is old p) (sym (ap (λ n. take n all) e ∙ take-length all)) may.0));
    left = λ i a b. b;
    once = once;
    within = λ e a. a;
    capacity = refl;
  }

  module _ (all indices : List ℕ) (next n : ℕ) (t : ℕ) (old mid new : List (ℕ × TaskStand E L)) (before between after : Vec (TaskStand E L)) (once : NoRepeats (tasks_of (stands_of old))) (one : next ≡ n + 1) (is : t ≡ get_or indices n t) (s : IsSweeping Can all indices next old mid before between)
      (w : Wakes Can (λ p. IsAmong (t, p) mid) (stands_of mid) (stands_of new) between.items after.items) (once_left : NoRepeats (tasks_of (stands_of new))) (within : AreWithin new mid) (cap : vec_capacity after ≡ vec_capacity between) where
    inside : n < length indices
    inside = let short = s.short in omega arith

    fewer : (u : ℕ) → IsAmong u (take next indices) → (u ≡ t) ⊎ IsAmong u (take n indices)
    fewer u i = one_fewer u t indices n inside is (subst (λ m. IsAmong u (take m indices)) one i)

    -- a place of before that is there yet has its index there
    here : (p : TaskStand E L) (i : ℕ) → IsAmong p (stands_of mid) → IsAmong (i, p) old → IsAmong (i, p) mid
    here p i a b =
        let r = of_stand p mid a in
        subst (λ j. IsAmong (j, p) mid) (same_index r.0 i p old once (s.within (r.0, p) r.1) b) r.1

    wakes_before : Wakes Can (IsSwept all (take n indices) old) (stands_of old) (stands_of new) before.items after.items
    wakes_before = wakes_then Can (IsSwept all (take n indices) old) (IsSwept all (take next indices) old) (λ p. IsAmong (t, p) mid) (stands_of old) (stands_of mid) (stands_of new) before.items between.items after.items s.wakes w (λ p i j not_one not_two may can.
        not_one (
          may.0,
          λ k. elim (fewer k.0 k.1) [
            | inl e ↦ not_two (here p t i (subst (λ u. IsAmong (u, p) old) e k.2)) can
            | inr m ↦ may.1 (k.0, m, k.2)
          ],
        ) can)

    -- the index stays on the list
    pub stays_swept : IsSweeping Can all indices n old new before after
    stays_swept = record {
      short = let lt = inside in omega arith;
      wakes = wakes_before;
      left = λ i a b. s.left i (index_within i a) b;
      once = once_left;
      within = λ e a. s.within e (within e a);
      capacity = cap ∙ s.capacity;
    }
      where
        index_within : (i : ℕ) → IsAmong i (indices_of new) → IsAmong i (indices_of mid)
        index_within i a = let r = of_index i new a in index_among (i, r.0) mid (within (i, r.0) r.1)

    -- none of this index waits, and it is removed
    pub removed_swept : (IsAmong t (indices_of new) → ⊥) → (d : ℕ) (others : List ℕ) → d ≡ t → others ≡ swap_remove indices n d → IsSweeping Can all others n old new before after
    removed_swept gone d others same removed =
        let there : others ≡ swap_remove indices n t = removed ∙ ap (λ u. swap_remove indices n u) same in
        let count : length (t ∷ swap_remove indices n t) ≡ length indices = length_permutation indices (t ∷ swap_remove indices n t) (IsPermutation-swap_remove indices n t inside is) in
        let lt = inside in
        record {
          short = omega (arith, ap (λ ts. length ts) there);
          wakes = subst (λ ts. Wakes Can (IsSwept all ts old) (stands_of old) (stands_of new) before.items after.items) (sym (ap (λ ts. take n ts) there ∙ before_removal indices n t inside)) wakes_before;
          left = λ i a b. subst (λ ts. IsAmong i ts) (sym there) (still_among i t indices n inside is (λ e. gone (subst (λ u. IsAmong u (indices_of new)) e a)) (stays_swept.left i a b));
          once = once_left;
          within = λ e a. s.within e (within e a);
          capacity = cap ∙ s.capacity;
        }

  pub swept : (all indices : List ℕ) (next : ℕ) (old new : List (ℕ × TaskStand E L)) (before after : Vec (TaskStand E L)) → next ≤ 0 → IsSweeping Can all indices next old new before after → Wakes Can (HasIndexAmong all old) (stands_of old) (stands_of new) before.items after.items
  swept all indices next old new before after none s =
      let zero : next ≡ 0 = omega arith in
      wakes_fewer Can (HasIndexAmong all old) (IsSwept all (take next indices) old) (stands_of old) (stands_of new) before.items after.items s.wakes (λ p i may. (may, λ k. subst (λ ts. IsAmong k.0 ts) (ap (λ n. take n indices) zero) k.1))
