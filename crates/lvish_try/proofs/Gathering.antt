-- The outcomes of the runs so far.
use Rattle.std.proofs.Common.{◌≡◌, ◌+◌, ◌<◌, ◌≤◌, ◌^◌, inl, inr, ℕ, List, [], ◌∷◌, ◌++◌, length, Some, refl, sym, ap, ◌∙◌, subst, arith, length-append}
use Rattle.std.proofs.lemmas.Option.{none-some, slice_get_within}
use Rattle.std.proofs.lemmas.List.Sums.{count_by-le-length}
use Rattle.std.specs.List.{slice_get}
use Rattle.std.specs.Str.{bytes_eq}
use Rattle.lvish_calculus.proofs.Sound.{some_is}
use Rattle.lvish_compound.specs.declared.any.Any.{Any}
use Rattle.lvish_compound.specs.declared.event.Event.{Event}
use Rattle.lvish_syntax.specs.declared.script.Script.{Script}
use Rattle.lvish_report.specs.declared.report.Report.{Report}
use Rattle.lvish_try.specs.declared.tried.Found.{Found}
use Rattle.lvish_try.specs.Drawn.{IsDrawnRun}
use Rattle.lvish_try.specs.Tried.{shown, texts_of, HaveRoom, AreShown, IsNoted, AreFound}
use Rattle.lvish_try.proofs.Finding.{shown_there}
use Rattle.lvish_try.proofs.Noting.{noted}
use Rattle.lvish_try.proofs.Outcomes.{in_push}

-- the outcomes of the first runs, and their texts
pub record IsGathered (script : Script) (seed budget number : ℕ) (ts : List (List ℕ)) (fs : List Found) : Type 0 where
  pub found : AreFound script number seed budget fs
  pub texts : ts ≡ texts_of script fs

module _ (script : Script) (seed budget : ℕ) where
  -- no run was made
  pub none_yet : IsGathered script seed budget 0 [] []
  none_yet = record {
    found = record {
      runs = [];
      count = refl;
      drawn = λ k r there. absurd (none-some r there);
      outcomes = record {
        each = λ j f there. absurd (none-some f there);
        times = λ j f there. absurd (none-some f there);
        apart = λ j k f g there also same. absurd (none-some f there);
        all = λ k r there. absurd (none-some r there);
        sum = refl;
      };
    };
    texts = refl;
  }

  module _ (number : ℕ) (old : List Found) (are : AreFound script number seed budget old) where
    -- one run more
    pub one_run : (r : Report Any Event) (new : List Found) → IsDrawnRun script seed budget number r → IsNoted script budget r old new → AreFound script (number + 1) seed budget new
    one_run r new drawn is = record {
      runs = are.runs ++ r ∷ [];
      count = length-append are.runs (r ∷ []) ∙ ap (λ n. n + 1) are.count;
      drawn = λ k q there. elim (in_push are.runs r k q there) [
        | inl z ↦ are.drawn k q z
        | inr z ↦ subst (λ x. IsDrawnRun script seed budget k x) z.1 (subst (λ n. IsDrawnRun script seed budget n r) (sym (z.0 ∙ are.count)) drawn)
      ];
      outcomes = noted script budget are.runs old r are.outcomes new is;
    }

    -- as few runs as a number counts leave room for one more
    pub room : (times : ℕ) → number < times → times < 2 ^ 64 → HaveRoom old
    room times less fits k f there =
        let few = count_by-le-length (λ r. bytes_eq (shown script r) (shown script f.report)) are.runs in
        omega (arith, less, fits, few, are.outcomes.times k f there, are.count)

    -- each outcome's report can be written
    pub are_shown : AreShown script old
    are_shown k f there = shown_there script f.picks budget f.report (are.outcomes.each k f there).run

    -- where there is one outcome at most, all runs tell the same
    pub all_one : length old ≤ 1 → (j k : ℕ) (r q : Report Any Event) → slice_get are.runs j ≡ Some r → slice_get are.runs k ≡ Some q → shown script r ≡ shown script q
    all_one few j k r q one two =
        let a = are.outcomes.all j r one in
        let b = are.outcomes.all k q two in
        let same : a.0 ≡ b.0 = omega (arith, few, slice_get_within old a.0 a.1 a.2, slice_get_within old b.0 b.1 b.2) in
        let found : a.1 ≡ b.1 = some_is (sym a.2 ∙ ap (λ n. slice_get old n) same ∙ b.2) in
        sym a.3 ∙ ap (λ (f : Found). shown script f.report) found ∙ b.3
