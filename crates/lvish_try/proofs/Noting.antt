-- One more run among those whose outcomes are known.
use Rattle.std.proofs.Common.{◌≡◌, ◌+◌, inl, inr, ℕ, List, [], ◌∷◌, ◌++◌, length, Some, refl, sym, ap, ◌∙◌, subst, length-append}
use Rattle.std.specs.List.{slice_get}
use Rattle.lvish_compound.specs.declared.any.Any.{Any}
use Rattle.lvish_compound.specs.declared.event.Event.{Event}
use Rattle.lvish_syntax.specs.declared.script.Script.{Script}
use Rattle.lvish_report.specs.declared.report.Report.{Report}
use Rattle.lvish_try.specs.declared.tried.Found.{Found}
use Rattle.lvish_try.specs.Tried.{shown, texts_of, once_more, IsFound, IsFirstFound, IsCountedAt, IsCounted, IsAdded, IsNoted, AreOutcomes}
use Rattle.lvish_try.proofs.Places.{one_with, none_with, told_set}
use Rattle.lvish_try.proofs.Outcomes.{in_push, in_set, counted_times, counted_apart, counted_all, counted_sum, added_times, added_apart, added_all, added_sum}

module _ (script : Script) (r : Report Any Event) (found : List Found) (texts : List (List ℕ)) (are : texts ≡ texts_of script found) where
  module _ (place : ℕ) (at : slice_get texts place ≡ Some (shown script r)) (new : List Found) (is : IsCountedAt place found new) where
    there : (f : Found) × (slice_get found place ≡ Some f) × (shown script f.report ≡ shown script r)
    there = one_with (λ (f : Found). shown script f.report) found texts are (shown script r) place at

    -- the run is counted where its text stands
    pub counted_there : IsCounted script r found new
    counted_there = record { place = place; one = there.0; there = there.1; told = there.2; after = is there.0 there.1 }

    -- and the texts stay
    pub texts_stay : texts ≡ texts_of script new
    texts_stay = are ∙ sym (ap (texts_of script) (is there.0 there.1) ∙ told_set (λ (f : Found). shown script f.report) found place there.0 (once_more there.0) there.1 refl)

  -- the outcome is added where the text stands nowhere
  pub added_there : (budget : ℕ) (new : List Found) (one : Found) → ((k : ℕ) → slice_get texts k ≡ Some (shown script r) → ⊥) → IsFirstFound script budget (shown script r) one → new ≡ found ++ one ∷ [] → IsAdded script budget r found new
  added_there budget new one none first after = record { other = none_with (λ (f : Found). shown script f.report) found texts are (shown script r) none; one = one; first = first; after = after }

module _ (script : Script) (budget : ℕ) (runs : List (Report Any Event)) (old : List Found) (r : Report Any Event) (are : AreOutcomes script budget runs old) where
  abbrev told : Report Any Event → List ℕ
  told q = shown script q

  abbrev told_of : Found → List ℕ
  told_of f = shown script f.report

  abbrev count_of : Found → ℕ
  count_of f = f.times

  one_run_more : length (runs ++ r ∷ []) ≡ length runs + 1
  one_run_more = length-append runs (r ∷ [])

  -- the run is counted
  counted : (new : List Found) → IsCounted script r old new → AreOutcomes script budget (runs ++ r ∷ []) new
  counted new c = subst (λ fs. AreOutcomes script budget (runs ++ r ∷ []) fs) (sym c.after) (record {
    each = λ j f there. elim (in_set old c.place (once_more c.one) j f there) [
      | inl z ↦ subst (λ x. IsFound script budget x) z.1 (let one = are.each c.place c.one c.there in record { run = one.run; no_zero = one.no_zero })
      | inr z ↦ are.each j f z.1
    ];
    times = counted_times told told_of count_of runs old r are.times are.apart are.all c.place c.one (once_more c.one) c.there c.told refl refl;
    apart = counted_apart told told_of count_of runs old r are.times are.apart are.all c.place c.one (once_more c.one) c.there c.told refl refl;
    all = counted_all told told_of count_of runs old r are.times are.apart are.all c.place c.one (once_more c.one) c.there c.told refl refl;
    sum = counted_sum told told_of count_of runs old r are.times are.apart are.all c.place c.one (once_more c.one) c.there c.told refl refl ∙ ap (λ n. n + 1) are.sum ∙ sym one_run_more;
  })

  -- the run's outcome is added
  added : (new : List Found) → IsAdded script budget r old new → AreOutcomes script budget (runs ++ r ∷ []) new
  added new a = subst (λ fs. AreOutcomes script budget (runs ++ r ∷ []) fs) (sym a.after) (record {
    each = λ j f there. elim (in_push old a.one j f there) [
      | inl z ↦ are.each j f z
      | inr z ↦ subst (λ x. IsFound script budget x) z.1 a.first.found
    ];
    times = added_times told told_of count_of runs old r are.times are.apart are.all a.one a.first.told a.first.times a.other;
    apart = added_apart told told_of count_of runs old r are.times are.apart are.all a.one a.first.told a.first.times a.other;
    all = added_all told told_of count_of runs old r are.times are.apart are.all a.one a.first.told a.first.times a.other;
    sum = added_sum told told_of count_of runs old r are.times are.apart are.all a.one a.first.told a.first.times a.other ∙ ap (λ n. n + 1) are.sum ∙ sym one_run_more;
  })

  pub noted : (new : List Found) → IsNoted script budget r old new → AreOutcomes script budget (runs ++ r ∷ []) new
  noted new (inl c) = counted new c
  noted new (inr a) = added new a
