-- Steps by the indices of their tasks, over lists of names that grow.
use Rattle.std.proofs.Common.{◌≡◌, ◌+◌, ℕ, zero, suc, List, [], ◌∷◌, ◌++◌, length, take, Some, slice_get, option_map, unwrap_or, refl, sym, ap, ap₂, subst, ◌∙◌, Bor}
use Rattle.std.specs.List.{AllByRecursion}
use Rattle.std.proofs.lemmas.List.{length-map, map_more, map_push}
use Rattle.std.proofs.lemmas.Option.{get_or_from_slice_get, same_Some, slice_get-map, slice_get_within}
use Rattle.lvish_calculus.specs.declared.label.Label.{Label}
use Rattle.lvish_calculus.specs.declared.label.Label.TheVariants.{Act, Hand}
use Rattle.lvish_trace.specs.declared.packed_step.PackedStep.{PackedStep}
use Rattle.lvish_trace.specs.declared.packed_step.Step.{Step}
use Rattle.lvish_trace.specs.declared.packed_step.Step.TheVariants.{Act as ActStep, Hand as HandStep}
use Rattle.lvish_trace.specs.declared.trace_entry.TraceEntry.{TraceEntry}
use Rattle.lvish_trace.specs.declared.trace.TracedStep.TheVariants.{Run as RunOf, Hand as HandOf}
use Rattle.lvish_names.specs.Names.{Name, Handler, main, handed}
use Rattle.lvish_trace.specs.Packed.{entry_at, entries_of, handing_of, IsPacked, IsStepIn, label_at}
use Rattle.lvish_trace.specs.Traced.{IsTraced, Shows}

-- there are as many entries as steps
pub as_many : {E : Type 0} (names : List (Name E)) (noted : List PackedStep) → length (entries_of names noted) ≡ length noted
as_many names noted = length-map noted (entry_at names)

-- the entries of a step more
pub one_more : {E : Type 0} (names : List (Name E)) (noted : List PackedStep) (i : ℕ) (n : PackedStep) (so_far longer : List (TraceEntry E)) (e : TraceEntry E) → slice_get noted i ≡ Some n
    → so_far ≡ entries_of names (take i noted) → e ≡ entry_at names n → longer ≡ so_far ++ e ∷ [] → longer ≡ entries_of names (take (i + 1) noted)
one_more names noted i n so_far longer e there before is more =
    more ∙ ap₂ (λ a b. a ++ b ∷ []) before (is ∙ sym (ap (entry_at names) (get_or_from_slice_get noted i n n there)))
    ∙ sym (map_more (entry_at names) noted i n (slice_get_within noted i n there))

-- the label of a task that stands at the index
pub acts_there : {E : Type 0} (names : List (Name E)) (i : ℕ) (t : Name E) → slice_get names i ≡ Some t → label_at names (ActStep i) ≡ Act t
acts_there names i t at = ap (λ o. Act (unwrap_or o main)) at

-- the label of a handing whose task stands at the index
pub hands_there : {E : Type 0} (names : List (Name E)) (i : ℕ) (h : Handler E) (e : E) → slice_get names i ≡ Some (handed h.adder h.number e) → label_at names (HandStep i) ≡ Hand h e
hands_there names i h e at = ap (λ o. handing_of (unwrap_or o main)) at

-- what is at an index of the first list is there in the second
module _ {E : Type 0} (old new : List (Name E)) (keeps : (i : ℕ) (t : Name E) → slice_get old i ≡ Some t → slice_get new i ≡ Some t) where
  step_still : (s : Step) → IsStepIn old s → IsStepIn new s
  step_still (ActStep i) (t, at) = (t, keeps i t at)
  step_still (HandStep i) (h, e, at) = (h, e, keeps i _ at)

  label_still : (s : Step) → IsStepIn old s → label_at new s ≡ label_at old s
  label_still (ActStep i) (t, at) = acts_there new i t (keeps i t at) ∙ sym (acts_there old i t at)
  label_still (HandStep i) (h, e, at) = hands_there new i h e (keeps i _ at) ∙ sym (hands_there old i h e at)

  entries_still : (noted : List PackedStep) → AllByRecursion (IsPacked old) noted → entries_of new noted ≡ entries_of old noted
  entries_still [] all = refl
  entries_still (n ∷ ns) all = (λ i. record { worker = n.worker; label = label_still n.step all.0 i } ∷ entries_still ns all.1 i)

  noted_more : (noted : List PackedStep) (n : PackedStep) → AllByRecursion (IsPacked old) noted → IsPacked new n → AllByRecursion (IsPacked new) (noted ++ n ∷ [])
  noted_more [] n all last = (last, tt)
  noted_more (m ∷ ms) n all last = (step_still m.step all.0, noted_more ms n all.1 last)

  module _ (noted longer : List PackedStep) (worker : ℕ) (s : Step) (all : AllByRecursion (IsPacked old) noted) (more : longer ≡ noted ++ record { worker = worker; step = s } ∷ []) where
    -- one step more adds its entry
    pub written : (l : Label E) → label_at new s ≡ l → entries_of new longer ≡ entries_of old noted ++ record { worker = worker; label = l } ∷ []
    written l is = ap (entries_of new) more ∙ map_push (entry_at new) noted (record { worker = worker; step = s })
        ∙ (λ i. entries_still noted all i ++ record { worker = worker; label = is i } ∷ [])

    -- and all are still noted
    pub all_noted : IsStepIn new s → AllByRecursion (IsPacked new) longer
    all_noted there = rw more (noted_more noted (record { worker = worker; step = s }) all there)

-- what holds of each holds of one of them
one_of : {X : Type 0} (P : X → Type 0) (xs : List X) (i : ℕ) (x : X) → AllByRecursion P xs → slice_get xs i ≡ Some x → P x
one_of P [] i x all at = absurd (cc at)
one_of P (y ∷ ys) zero x all at = subst P (same_Some _ _ at) all.0
one_of P (y ∷ ys) (suc i) x all at = one_of P ys i x all.1 at

module _ {E : Type 0} (names : List (Name E)) (noted : List PackedStep) (number : ℕ) (n : PackedStep) (at : slice_get noted number ≡ Some n) where
  there : slice_get (entries_of names noted) number ≡ Some (entry_at names n)
  there = slice_get-map (entry_at names) noted number ∙ ap (option_map (entry_at names)) at

  -- the step of a task that acts
  pub run_shown : (i : ℕ) (t : Bor (Name E)) → n.step ≡ ActStep i → slice_get names i ≡ Some t.now → IsTraced (entries_of names noted) number (RunOf t)
  run_shown i t is named = record { entry = entry_at names n; there = there; shows = ap (label_at names) is ∙ acts_there names i t.now named }

  -- a handing
  pub hand_shown : AllByRecursion (IsPacked names) noted → (i : ℕ) (t : Bor (Name E)) → n.step ≡ HandStep i → slice_get names i ≡ Some t.now → IsTraced (entries_of names noted) number (HandOf t)
  hand_shown all i t is named =
      let k = subst (λ s. IsStepIn names s) is (one_of (IsPacked names) noted number n all at) in
      record {
        entry = entry_at names n;
        there = there;
        shows = subst (λ l. Shows (HandOf t) l) (sym (ap (label_at names) is ∙ hands_there names i k.0 k.1 k.2)) (same_Some _ _ (sym named ∙ k.2));
      }
