-- Counting each worker's noted steps, worker by worker.
use Rattle.std.proofs.Common.{◌≡◌, ◌+◌, ◌==◌, ◌<◌, ◌≤◌, ℕ, List, cond, [], ◌∷◌, ◌++◌, map, length, sum, count_by, Some, slice_get, zero, suc, sym, ap, ap₂, ◌∙◌, arith, refl}
use Rattle.std.specs.List.{AllByRecursion, range_with_len}
use Rattle.std.proofs.lemmas.List.FromFn.{length-map-range_with_len, get_or-map-range_with_len, map-range_with_len_more}
use Rattle.std.proofs.lemmas.List.{length-map}
use Rattle.std.proofs.lemmas.List.Folds.{fold-map}
use Rattle.std.proofs.lemmas.List.Sums.{sum_by-append}
use Rattle.std.proofs.lemmas.Option.{slice_get-get_or}
use Rattle.lvish_names.specs.Names.{Name}
use Rattle.lvish_trace.specs.declared.packed_step.PackedStep.{PackedStep}
use Rattle.lvish_trace.specs.declared.trace_entry.TraceEntry.{TraceEntry}
use Rattle.lvish_trace.specs.Packed.{entry_at, entries_of}
use Rattle.lvish_run.specs.Crew.{AreCounts}
use Rattle.lvish_run.specs.Honest.{IsCountByWorker}
use Rattle.lvish_run.proofs.CountedBy.{counted_below, counted_at_most, all_below as all_of_them}

module _ (noted : List PackedStep) where
  -- the numbers of the first k workers' steps
  abbrev pub counts_of : ℕ → List ℕ
  counts_of k = map (λ w. count_by (λ n. n.worker == w) noted) (range_with_len 0 k)

  -- the next worker's number is added
  pub one_more : (xs ys : List ℕ) (n k : ℕ) → xs ≡ counts_of k → n ≡ count_by (λ n. n.worker == k) noted → ys ≡ xs ++ n ∷ [] → (ys ≡ counts_of (k + 1)) × (sum ys ≡ sum xs + n)
  one_more xs ys n k are is grown = (
    grown ∙ ap₂ (λ l j. l ++ j ∷ []) are is ∙ sym (map-range_with_len_more (λ w. count_by (λ (n : PackedStep). n.worker == w) noted) 0 k k (omega arith)),
    ap sum grown ∙ sum_by-append (λ x. x) xs (n ∷ []) ∙ omega arith,
  )

  -- their sum is how many steps the first k workers made
  pub sum_below : (k : ℕ) → sum (counts_of k) ≡ counted_below (λ n. n.worker) k noted
  sum_below zero = refl
  sum_below (suc k) =
      let n = count_by (λ (n : PackedStep). n.worker == k) noted in
      let more = one_more (counts_of k) (counts_of k ++ n ∷ []) n k refl refl refl in
      let next : k + 1 ≡ suc k = omega arith in
      ap (λ j. sum (counts_of j)) (sym next) ∙ ap sum (sym more.0) ∙ more.1 ∙ ap (λ s. s + n) (sum_below k)

  -- with the next worker's number they are at most all
  pub never_over : (xs : List ℕ) (n k : ℕ) → xs ≡ counts_of k → n ≡ count_by (λ n. n.worker == k) noted → sum xs + n ≤ length noted
  never_over xs n k are is =
      let more = one_more xs (xs ++ n ∷ []) n k are is refl in
      let all : sum (xs ++ n ∷ []) ≡ counted_below (λ n. n.worker) (k + 1) noted = ap sum more.0 ∙ sum_below (k + 1) in
      let most = counted_at_most (λ n. n.worker) (k + 1) noted in
      omega (arith, all, most, more.1)

  -- they are all where all are these workers'
  pub none_is_left : (xs : List ℕ) (k workers : ℕ) → xs ≡ counts_of k → workers ≤ k → AllByRecursion (λ n. n.worker < workers) noted → k ≤ workers → sum xs ≡ length noted
  none_is_left xs k workers are past all small =
      let same : k ≡ workers = omega (arith, past, small) in
      ap sum (are ∙ ap counts_of same) ∙ sum_below workers ∙ all_of_them (λ n. n.worker) workers noted all

  -- all workers' numbers
  pub all_counted : (counts : List ℕ) (workers : ℕ) → counts ≡ counts_of workers → sum counts ≡ length noted → AreCounts workers noted counts
  all_counted counts workers are adds_up = record {
    count = ap length are ∙ length-map-range_with_len f 0 workers;
    each = λ w small. ap (λ l. slice_get l w) are ∙ slice_get-get_or (counts_of workers) w 0 (omega (arith, small, length-map-range_with_len f 0 workers)) ∙ ap (λ (n : ℕ). Some n) (get_or-map-range_with_len f 0 workers w w 0 small (omega arith));
    adds_up = adds_up;
  }
    where
      f : ℕ → ℕ
      f w = count_by (λ (n : PackedStep). n.worker == w) noted

  -- where all entries of the trace are these workers', so are the steps
  pub of_entries : {E : Type 0} (names : List (Name E)) (workers : ℕ) → AllByRecursion (λ e. e.worker < workers) (entries_of names noted) → AllByRecursion (λ n. n.worker < workers) noted
  of_entries names workers all = by_each noted all
    where
      by_each : (xs : List PackedStep) → AllByRecursion (λ e. e.worker < workers) (entries_of names xs) → AllByRecursion (λ n. n.worker < workers) xs
      by_each [] a = tt
      by_each (x ∷ xs) a = (a.0, by_each xs a.1)

  -- they are those of the trace that the steps are by the names of their tasks
  pub counted : {E : Type 0} (names : List (Name E)) (counts : List ℕ) (workers : ℕ) → AreCounts workers noted counts → IsCountByWorker workers (entries_of names noted) counts
  counted {E} names counts workers a = record {
    count = a.count;
    each = λ w small. a.each w small ∙ ap (λ (n : ℕ). Some n) (sym (fold-map (λ (n : ℕ) (e : TraceEntry E). n + cond (e.worker == w) 1 0) (entry_at names) 0 noted));
    adds_up = a.adds_up ∙ sym (length-map noted (entry_at names));
  }
