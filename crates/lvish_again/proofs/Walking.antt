-- The walk of a core by the labels of a trace.
use Rattle.std.proofs.Common.{◌≡◌, ◌+◌, ◌<◌, ◌≤◌, ◌↔◌, inl, inr, ℕ, suc, zero, List, [], ◌∷◌, ◌++◌, length, get_or, option_map, Some, refl, sym, ap, ◌∙◌, subst, arith, Ordering, length-append, append_assoc, append-nil}
use Rattle.std.proofs.lemmas.Option.{slice_get_within, slice_get-get_or, slice_get-map, none-some}
use Rattle.std.proofs.lemmas.List.{length-map}
use Rattle.std.proofs.Math.Nat.{mod-eq_of_lt}
use Rattle.std.specs.List.{slice_get}
use Rattle.lvish_calculus.specs.declared.label.Label.{Label}
use Rattle.lvish_calculus.specs.Machine.{Machine}
use Rattle.lvish_calculus.specs.Calculus.{Configuration, Running, Error, IsRun, CanStep, next, step, start}
use Rattle.lvish_calculus.specs.Handing.{HandsOldestFirst}
use Rattle.lvish_calculus.proofs.SameThere.{run_split}
use Rattle.lvish_core.specs.Core.{CoreView, picture, IsBegun}
use Rattle.lvish_core.specs.CoreLaws.{TakesCoreRuns}
use Rattle.lvish_trace.specs.declared.trace_entry.TraceEntry.{TraceEntry}
use Rattle.lvish_trace.specs.Traced.{labels_of}
use Rattle.lvish_run.specs.Picked.{IsNamed, IsPicked}
use Rattle.lvish_again.specs.Again.{IsCoreRun}
use Rattle.lvish_again.specs.Walk.{CantGo, IsPickedStep, IsWalkedTo}

-- ---- lists

module _ {X : Type 0} where
  -- what stands at the place behind a list's first elements is the first of the others
  left_at : (done left : List X) (x : X) → slice_get (done ++ left) (length done) ≡ Some x → (rest : List X) × (left ≡ x ∷ rest)
  left_at [] [] x at = absurd (none-some x at)
  left_at [] (y ∷ left) x at = let same : y ≡ x = cc in (left, ap (λ z. z ∷ left) same)
  left_at (y ∷ done) left x at = left_at done left x at

  -- nothing is left behind the last place
  none_left : (done left : List X) → length (done ++ left) ≤ length done → left ≡ []
  none_left done [] le = refl
  none_left done (x ∷ left) le = absurd (omega (arith, le, length-append done (x ∷ left)))

  -- the elements of a list stay at their places where more come behind
  stays_at : (xs ys : List X) (k : ℕ) → k < length xs → slice_get (xs ++ ys) k ≡ slice_get xs k
  stays_at [] ys k less = absurd (omega (arith, less))
  stays_at (x ∷ xs) ys zero less = refl
  stays_at (x ∷ xs) ys (suc k) less = stays_at xs ys k (omega (arith, less))

  last_at : (xs : List X) (x : X) → slice_get (xs ++ x ∷ []) (length xs) ≡ Some x
  last_at [] x = refl
  last_at (y ∷ xs) x = last_at xs x

-- the label of the entry at a place, where there are as many picks
pub label_at : {E : Type 0} (entries : List (TraceEntry E)) (k : ℕ) (d : TraceEntry E) (picks : List ℕ) → length picks ≡ k → k < length entries → slice_get (labels_of entries) (length picks) ≡ Some (get_or entries k d).label
label_at {E} entries k d picks many less =
    ap (λ n. slice_get (labels_of entries) n) many ∙ slice_get-map (λ (e : TraceEntry E). e.label) entries k
    ∙ ap (option_map (λ (e : TraceEntry E). e.label)) (slice_get-get_or entries k d less)

-- no entry is left
pub all_read : {E : Type 0} (entries : List (TraceEntry E)) (k : ℕ) (picks : List ℕ) → length picks ≡ k → length entries ≤ k → length (labels_of entries) ≤ length picks
all_read {E} entries k picks many end = omega (arith, many, end, length-map entries (λ (e : TraceEntry E). e.label))

-- ---- picks

module _ {S E R A L : Type 0} (M : Machine S E R A L) (cmp : E → E → Ordering) where
  -- more picks name the same labels of a run for which there are picks
  more_picks : (picks more : List ℕ) (xs : List (Label E)) (d : Configuration S E L) (ls : List (Label E)) → length xs + length ls ≤ length picks → IsPicked cmp M picks xs d ls → IsPicked cmp M (picks ++ more) xs d ls
  more_picks picks more xs d [] le picked = tt
  more_picks picks more xs d (l ∷ ls) le picked = (
    subst (λ n. IsNamed cmp M xs d n l) (sym (stays_at picks more (length xs) (omega (arith, le)))) picked.0,
    more_picks picks more (xs ++ l ∷ []) (next M d l) ls (omega (arith, le, length-append xs (l ∷ []))) picked.1,
  )

  -- a run that picks name, and one step more
  one_more : (picks : List ℕ) (xs : List (Label E)) (d : Configuration S E L) (ls : List (Label E)) (e : Configuration S E L) (l : Label E)
      → IsPicked cmp M picks xs d ls → IsRun M d ls e → IsNamed cmp M (xs ++ ls) e (slice_get picks (length (xs ++ ls))) l → IsPicked cmp M picks xs d (ls ++ l ∷ [])
  one_more picks xs d [] e l picked run named =
      let here : IsNamed cmp M (xs ++ []) d (slice_get picks (length (xs ++ []))) l = subst (λ q. IsNamed cmp M (xs ++ []) q (slice_get picks (length (xs ++ []))) l) (sym run) named in
      (subst (λ ys. IsNamed cmp M ys d (slice_get picks (length ys)) l) (append-nil xs) here, tt)
  one_more picks xs (Running c) (j ∷ ls) e l picked run named =
      (picked.0, one_more picks (xs ++ j ∷ []) (step M c j) ls e l picked.1 run.1 (subst (λ ys. IsNamed cmp M ys e (slice_get picks (length ys)) l) (sym (append_assoc xs (j ∷ []) ls)) named))
  one_more picks xs (Error kind v t) (j ∷ ls) e l picked run named = absurd run

-- ---- the walk

both_if : {X Y Z : Type 0} → (X ↔ Y) → (Y ↔ Z) → (X ↔ Z)
both_if f g = (λ x. g.0 (f.0 x), λ z. f.1 (g.1 z))

module _ {P S E R A L : Type 0} (cmp : E → E → Ordering) (machine : P → Machine S E R A L) (p : P) (takes : TakesCoreRuns P (machine p)) (all : List (Label E)) where
  abbrev M : Machine S E R A L
  M = machine p

  -- at the start nothing was taken
  pub begun : (c : CoreView P S E L) → IsBegun M p c → IsWalkedTo cmp M p all c []
  begun c is = record { taken = []; left = all; split = refl; program = is.program; steps = is.steps; count = refl; leads = is.leads; picked = tt }

  module _ (c : CoreView P S E L) (picks : List ℕ) (w : IsWalkedTo cmp M p all c picks) where
    -- there is one pick for each step
    pub as_many : c.steps ≡ length picks
    as_many = w.steps ∙ sym w.count

    module _ (l : Label E) (at : slice_get all (length picks) ≡ Some l) where
      rest : (rest : List (Label E)) × (w.left ≡ l ∷ rest)
      rest = left_at w.taken w.left l (subst (λ n. slice_get (w.taken ++ w.left) n ≡ Some l) w.count (subst (λ xs. slice_get xs (length picks) ≡ Some l) w.split at))

      whole : all ≡ (w.taken ++ l ∷ []) ++ rest.0
      whole = w.split ∙ ap (λ xs. w.taken ++ xs) rest.1 ∙ sym (append_assoc w.taken (l ∷ []) rest.0)

      -- the walk, and one step more
      pub goes : (n : ℕ) (new : CoreView P S E L) → IsPickedStep cmp (machine c.program) c l n new → IsWalkedTo cmp M p all new (picks ++ n ∷ [])
      goes n new made = record {
        taken = w.taken ++ l ∷ [];
        left = rest.0;
        split = whole;
        program = s.step.program ∙ w.program;
        steps = omega (arith, s.step.steps, w.steps, length-append w.taken (l ∷ []));
        count = omega (arith, w.count, length-append w.taken (l ∷ []), length-append picks (n ∷ []));
        leads = s.step.leads w.taken w.leads;
        picked = one_more M cmp (picks ++ n ∷ []) [] (Running (start M)) w.taken (picture M c) l
            (more_picks M cmp picks (n ∷ []) [] (Running (start M)) w.taken (omega (arith, w.count)) w.picked) w.leads.reached
            (subst (λ o. IsNamed cmp M w.taken (picture M c) o l) (sym (ap (λ k. slice_get (picks ++ n ∷ []) k) (sym w.count) ∙ last_at picks n)) named);
      }
        where
          s : IsPickedStep cmp M c l n new
          s = subst (λ q. IsPickedStep cmp (machine q) c l n new) w.program made

          named : IsNamed cmp M w.taken (picture M c) (Some n) l
          named = record {
            all = s.all;
            enabled = record { ascending = s.labels.ascending; just = λ j. both_if (s.labels.just j) (takes c w.taken w.leads j) };
            chosen = ap (λ k. slice_get s.all k) (mod-eq_of_lt (slice_get_within s.all n l s.at)) ∙ s.at;
          }

      -- or the labels are no run
      pub stops : CantGo (machine c.program) c l → IsCoreRun M all → ⊥
      stops stuck run = by (subst (λ q. CantGo (machine q) c l) w.program stuck)
        where
          -- the run goes on with the label
          on : IsRun M (picture M c) (l ∷ rest.0) run.last
          on = run_split M w.taken (l ∷ rest.0) (Running (start M)) (picture M c) run.last w.leads.reached
              (subst (λ xs. IsRun M (Running (start M)) xs run.last) (whole ∙ append_assoc w.taken (l ∷ []) rest.0) run.run)

          can : (d : Configuration S E L) → IsRun M d (l ∷ rest.0) run.last → CanStep M d l
          can (Running b) go = go.0
          can (Error kind v t) go = absurd go

          -- and hands the oldest event first
          oldest : HandsOldestFirst M (w.taken ++ l ∷ [])
          oldest q s h e is = run.core q (s ++ rest.0) h e (whole ∙ ap (λ xs. xs ++ rest.0) is ∙ append_assoc q _ rest.0)

          by : CantGo M c l → ⊥
          by (inl cannot) = cannot ((takes c w.taken w.leads l).1 (can (picture M c) on, oldest))
          by (inr full) =
              let short : length picks < length all = slice_get_within all (length picks) l at in
              omega (arith, short, run.within, full, as_many)

    -- where no label is left, the picks name the whole run
    pub over : length all ≤ length picks → IsPicked cmp M picks [] (Running (start M)) all
    over le =
        let none : w.left ≡ [] = none_left w.taken w.left (omega (arith, le, w.count, ap length w.split)) in
        subst (λ xs. IsPicked cmp M picks [] (Running (start M)) xs) (sym (w.split ∙ ap (λ xs. w.taken ++ xs) none ∙ append-nil w.taken)) w.picked
