-- Runs that a board makes step by step, over any machine.
use Rattle.std.proofs.Common.{◌≡◌, ◌⊎◌, ◌↔◌, inl, inr, ℕ, ◌+◌, true, false, List, [], ◌∷◌, ◌++◌, length, slice_get, Option, Some, None, IsSome, Ordering, refl, sym, ap, ◌∙◌, subst, arith, length-append, append_assoc}
use Rattle.std.proofs.lemmas.List.{length-map, map_push, append-nil}
use Rattle.std.specs.List.{AllByRecursion}
use Rattle.lvish_calculus.specs.declared.label.Label.{Label}
use Rattle.lvish_calculus.specs.Machine.{Machine}
use Rattle.lvish_calculus.specs.Calculus.{Configuration, Running, Error, IsRun, step, start}
use Rattle.lvish_core.specs.Core.{CoreView, picture, IsRunTo}
use Rattle.lvish_core.specs.CoreLaws.{TakesCoreRuns}
use Rattle.lvish_trace.specs.declared.trace_entry.TraceEntry.{TraceEntry}
use Rattle.lvish_trace.specs.Traced.{labels_of}
use Rattle.lvish_board.specs.Board.{Standing, IsBoardSound}
use Rattle.lvish_run.specs.Picked.{IsNamed, IsPicked}
use Rattle.lvish_run.specs.Walk.{IsTaken, IsTurn, IsStuck, IsWalk, IsWalked}
use Rattle.lvish_run.proofs.Reports.{over_stops}

all_more : {X : Type 0} (P : X → Type 0) (xs : List X) (x : X) → AllByRecursion P xs → P x → AllByRecursion P (xs ++ x ∷ [])
all_more P [] x h p = (p, tt)
all_more P (y ∷ ys) x h p = (h.0, all_more P ys x h.1 p)

both_if : {X Y Z : Type 0} → (X ↔ Y) → (Y ↔ Z) → (X ↔ Z)
both_if f g = (λ x. g.0 (f.0 x), λ z. f.1 (g.1 z))

module _ {S E R A L : Type 0} (M : Machine S E R A L) (cmp : E → E → Ordering) (picks : List ℕ) where
  -- the picks of a run after the steps xs, and one more
  picked_more : (n : ℕ) (xs : List (Label E)) (d : Configuration S E L) (ls : List (Label E)) (e : Configuration S E L) (l : Label E)
      → IsPicked cmp M picks xs d ls → IsRun M d ls e → n ≡ length xs + length ls → IsNamed cmp M (xs ++ ls) e (slice_get picks n) l → IsPicked cmp M picks xs d (ls ++ l ∷ [])
  picked_more n xs d [] e l h run at named =
      let same : n ≡ length xs = omega arith in
      let here : IsNamed cmp M (xs ++ []) d (slice_get picks (length xs)) l = subst (λ q. IsNamed cmp M (xs ++ []) q (slice_get picks (length xs)) l) (sym run) (subst (λ j. IsNamed cmp M (xs ++ []) e (slice_get picks j) l) same named) in
      (subst (λ ys. IsNamed cmp M ys d (slice_get picks (length xs)) l) (append-nil xs) here, tt)
  picked_more n xs (Running c) (j ∷ ls) e l h run at named =
      let long : length (xs ++ j ∷ []) ≡ length xs + 1 = length-append xs (j ∷ []) in
      let after : IsNamed cmp M ((xs ++ j ∷ []) ++ ls) e (slice_get picks n) l = subst (λ ys. IsNamed cmp M ys e (slice_get picks n) l) (sym (append_assoc xs (j ∷ []) ls)) named in
      (h.0, picked_more n (xs ++ j ∷ []) (step M c j) ls e l h.1 run.1 (omega (arith, at, long)) after)
  picked_more n xs (Error kind v t) (j ∷ ls) e l h run at named = absurd run

  -- the label that the core takes is the one that the pick names
  named_of : {P : Type 0} (c : CoreView P S E L) (xs : List (Label E)) (n : Option ℕ) (l : Label E) → TakesCoreRuns P M → IsRunTo M c xs → IsTaken cmp M c n l → IsNamed cmp M xs (picture M c) n l
  named_of c xs (Some n) l takes k t = record {
    all = t.all;
    enabled = record { ascending = t.labels.ascending; just = λ j. both_if (t.labels.just j) (takes c xs k j) };
    chosen = t.chosen;
  }
  named_of c xs None l takes k t = record { comes = (takes c xs k l).0 t.can; before = λ m z. t.before m ((takes c xs k m).1 z) }

  module _ {P : Type 0} (p : P) (budget : ℕ) (takes : TakesCoreRuns P M) where
    module _ (s r : Standing P S E L) (w : IsWalk cmp M p picks s.core s.trace) (sound : IsBoardSound M p budget r) where
      -- a walk, and one step more
      pub walk_goes : (k : ℕ) → length s.trace ≡ k → IsTurn cmp M (slice_get picks k) s true r → IsWalk cmp M p picks r.core r.trace × (length r.trace ≡ k + 1)
      walk_goes k at t = (
        record {
          program = sound.program_is;
          steps = sound.counted;
          leads = sound.leads;
          picked = subst (λ xs. IsPicked cmp M picks [] (Running (start M)) xs) (sym grown) (picked_more k [] (Running (start M)) (labels_of s.trace) (picture M s.core) l w.picked w.leads.reached as_long
              (named_of s.core (labels_of s.trace) (slice_get picks k) l takes w.leads t.1));
          workers = subst (λ xs. AllByRecursion (λ (e : TraceEntry E). e.worker ≡ 0) xs) (sym t.2) (all_more (λ (e : TraceEntry E). e.worker ≡ 0) s.trace (record { worker = 0; label = l }) w.workers refl);
        },
        ap length t.2 ∙ length-append s.trace (record { worker = 0; label = l } ∷ []) ∙ ap (λ j. j + 1) at,
      )
        where
          l : Label E
          l = t.0

          grown : labels_of r.trace ≡ labels_of s.trace ++ t.0 ∷ []
          grown = ap labels_of t.2 ∙ map_push (λ (e : TraceEntry E). e.label) s.trace (record { worker = 0; label = t.0 })

          as_long : k ≡ 0 + length (labels_of s.trace)
          as_long = omega (arith, length-map s.trace (λ (e : TraceEntry E). e.label), at)

      -- or it stops
      pub walk_stops : (n : Option ℕ) → IsTurn cmp M n s false r → IsWalked cmp M p picks budget r.core r.trace
      walk_stops n t = record { walk = walk; within = sound.within; stopped = stopped t.1 }
        where
          walk : IsWalk cmp M p picks r.core r.trace
          walk = subst (λ c. IsWalk cmp M p picks c r.trace) (sym t.0.core) (subst (λ xs. IsWalk cmp M p picks s.core xs) (sym t.0.trace) w)

          stopped : IsSome r.over ⊎ IsStuck M s.core → (length r.trace ≡ budget) ⊎ IsStuck M r.core
          stopped (inl over) = over_stops M budget r r.over over sound.over_is
          stopped (inr stuck) = inr (subst (λ c. IsStuck M c) (sym t.0.core) stuck)
