-- The picks of a run of flat code are those of the script's run.
use Rattle.std.proofs.Common.{◌≡◌, ◌↔◌, inl, inr, ℕ, suc, zero, Bool, List, [], ◌∷◌, ◌++◌, length, Option, Some, None, MatchOption, refl, sym, Ordering}
use Rattle.std.proofs.lemmas.Option.{none-some}
use Rattle.std.specs.List.{slice_get}
use Rattle.lvish_calculus.specs.declared.label.Label.{Label}
use Rattle.lvish_calculus.specs.Machine.{Machine}
use Rattle.lvish_calculus.specs.Program.{Functions, machine_of}
use Rattle.lvish_calculus.specs.Calculus.{Configuration, Running, Error, IsRun, start, step}
use Rattle.lvish_calculus.specs.Handing.{IsAmong}
use Rattle.lvish_calculus.specs.SameRuns.{SameConfiguration, HaveSameRuns}
use Rattle.lvish_calculus.proofs.Sound.{some_is}
use Rattle.lvish_calculus.proofs.SameThere.{Base, over, Both, both_start, both_step, flip_configuration, flip_runs, can_there, core_there}
use Rattle.lvish_run.specs.Picked.{ComesNext, IsNamed, IsPicked}
use Rattle.lvish_again.specs.Again.{IsCoreRun}

-- an element at a place is among the elements
among_at : {X : Type 0} (xs : List X) (k : ℕ) (x : X) → slice_get xs k ≡ Some x → IsAmong x xs
among_at [] k x at = absurd (none-some x at)
among_at (y ∷ xs) zero x at = inl (sym (some_is at))
among_at (y ∷ xs) (suc k) x at = inr (among_at xs k x at)

module _ {S E R A L : Type 0} (cmp : E → E → Ordering) (M : Machine S E R A L) where
  -- a label that a pick names comes next
  named_comes : (xs : List (Label E)) (d : Configuration S E L) (n : Option ℕ) (l : Label E) → IsNamed cmp M xs d n l → ComesNext M xs d l
  named_comes xs d (Some n) l h = (h.enabled.just l).0 (among_at h.all _ l h.chosen)
  named_comes xs d None l h = h.comes

  -- labels that picks name are a run
  pub picked_run : (picks : List ℕ) (xs : List (Label E)) (d : Configuration S E L) (ls : List (Label E)) → IsPicked cmp M picks xs d ls → (last : Configuration S E L) × IsRun M d ls last
  picked_run picks xs d [] picked = (d, refl)
  picked_run picks xs (Running c) (l ∷ ls) picked =
      let on = picked_run picks (xs ++ l ∷ []) (step M c l) ls picked.1 in
      (on.0, ((named_comes xs (Running c) (slice_get picks (length xs)) l picked.0).0, on.1))
  picked_run picks xs (Error kind v t) (l ∷ ls) picked = absurd (named_comes xs (Error kind v t) (slice_get picks (length xs)) l picked.0).0

module _ {S E R A L K : Type 0} (B : Base S E R A) (f : Functions S E R A L) (g : Functions S E R A K) (H : HaveSameRuns (over B f) (over B g)) where
  abbrev back : HaveSameRuns (over B g) (over B f)
  back = flip_runs (over B f) (over B g) H

  -- the same labels come next
  comes_there : (xs : List (Label E)) (C : Configuration S E L) (D : Configuration S E K) → SameConfiguration (over B f) (over B g) C D → (l : Label E) → ComesNext (over B f) xs C l ↔ ComesNext (over B g) xs D l
  comes_there xs C D s l = (
    λ z. (can_there B f g H.pools C D s l z.0, core_there B f g H (xs ++ l ∷ []) z.1),
    λ z. (can_there B g f back.pools D C (flip_configuration (over B f) (over B g) C D s) l z.0, core_there B g f back (xs ++ l ∷ []) z.1),
  )

  -- so a pick names the same
  named_there : (cmp : E → E → Ordering) (xs : List (Label E)) (C : Configuration S E L) (D : Configuration S E K) → SameConfiguration (over B f) (over B g) C D → (n : Option ℕ) (l : Label E) → IsNamed cmp (over B f) xs C n l → IsNamed cmp (over B g) xs D n l
  named_there cmp xs C D s (Some n) l h = record {
    all = h.all;
    enabled = record {
      ascending = h.enabled.ascending;
      just = λ m. (λ among. (comes_there xs C D s m).0 ((h.enabled.just m).0 among), λ z. (h.enabled.just m).1 ((comes_there xs C D s m).1 z));
    };
    chosen = h.chosen;
  }
  named_there cmp xs C D s None l h = record { comes = (comes_there xs C D s l).0 h.comes; before = λ m z. h.before m ((comes_there xs C D s m).1 z) }

  picked_on : (cmp : E → E → Ordering) (picks : List ℕ) (xs : List (Label E)) (C : Configuration S E L) (D : Configuration S E K) (ls : List (Label E)) (last : Configuration S E L) → Both B f g H xs C D → IsRun (over B f) C ls last → IsPicked cmp (over B f) picks xs C ls → IsPicked cmp (over B g) picks xs D ls
  picked_on cmp picks xs C D [] last b run p = tt
  picked_on cmp picks xs (Running c) (Running d) (l ∷ ls) last b run p = (
    named_there cmp xs (Running c) (Running d) b.same (slice_get picks (length xs)) l p.0,
    picked_on cmp picks (xs ++ l ∷ []) (step (over B f) c l) (step (over B g) d l) ls last (both_step B f g H xs c d l b run.0) run.1 p.1,
  )
  picked_on cmp picks xs (Running c) (Error k v t) (l ∷ ls) last b run p = absurd b.same
  picked_on cmp picks xs (Error k v t) D (l ∷ ls) last b run p = absurd run

module _ {S E R A L K : Type 0} (same : S → S → Bool) (event_same : E → E → Bool) (order : E → E → Ordering) (bottom : S) (join : S → S → Option S) (events : S → List E) (answer : R → S → Option A) (f : Functions S E R A L) (g : Functions S E R A K)
    (H : HaveSameRuns (machine_of same event_same order bottom join events answer f) (machine_of same event_same order bottom join events answer g)) where
  abbrev base : Base S E R A
  base = record { same = same; event_same = event_same; cmp = order; bottom = bottom; join = join; events = events; answer = answer }

  -- the picks name the same labels
  pub picks_there : (cmp : E → E → Ordering) (picks : List ℕ) (ls : List (Label E)) → IsPicked cmp (machine_of same event_same order bottom join events answer f) picks [] (Running (start (machine_of same event_same order bottom join events answer f))) ls
      → IsPicked cmp (machine_of same event_same order bottom join events answer g) picks [] (Running (start (machine_of same event_same order bottom join events answer g))) ls
  picks_there cmp picks ls p =
      let run = picked_run cmp (over base f) picks [] _ ls p in
      picked_on base f g H cmp picks [] _ _ ls run.0 (both_start base f g H) run.1 p

  -- a core run of the one is one of the other
  pub run_back : (xs : List (Label E)) → IsCoreRun (machine_of same event_same order bottom join events answer g) xs → IsCoreRun (machine_of same event_same order bottom join events answer f) xs
  run_back xs h =
      let z = H.back xs h.last h.run in
      record { last = z.0; run = z.1; core = core_there base g f (back base f g H) xs h.core; within = h.within }

  -- what is answered of the one is answered of the other
  pub answer_there : {V : Type 0} (items : V → List ℕ) (cmp : E → E → Ordering) (ls : List (Label E)) (o : Option V)
      → MatchOption o (IsCoreRun (machine_of same event_same order bottom join events answer f) ls → ⊥)
      (λ v. IsPicked cmp (machine_of same event_same order bottom join events answer f) (items v) [] (Running (start (machine_of same event_same order bottom join events answer f))) ls)
      → MatchOption o (IsCoreRun (machine_of same event_same order bottom join events answer g) ls → ⊥)
      (λ v. IsPicked cmp (machine_of same event_same order bottom join events answer g) (items v) [] (Running (start (machine_of same event_same order bottom join events answer g))) ls)
  answer_there items cmp ls None h = λ run. h (run_back ls run)
  answer_there items cmp ls (Some v) h = picks_there cmp (items v) ls h
