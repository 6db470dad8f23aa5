-- Reports of runs that the same picks name tell the same.
use Rattle.std.proofs.Common.{◌≡◌, ◌+◌, ◌<◌, ◌≤◌, ◌⊎◌, inl, inr, ℕ, suc, List, [], ◌∷◌, ◌++◌, length, Option, refl, sym, ap, ◌∙◌, subst, arith, Ordering, length-append, append-nil}
use Rattle.std.proofs.lemmas.Bool.{cases_lt}
use Rattle.std.proofs.lemmas.List.{length-map}
use Rattle.std.proofs.lemmas.Option.{slice_get_past}
use Rattle.std.specs.Cmp.{IsTotalOrder}
use Rattle.std.specs.List.{slice_get}
use Rattle.lvish_names.specs.Names.{Name}
use Rattle.lvish_calculus.specs.declared.label.Label.{Label}
use Rattle.lvish_calculus.specs.declared.request.ErrorKind.{ErrorKind}
use Rattle.lvish_calculus.specs.Machine.{Machine}
use Rattle.lvish_calculus.specs.Calculus.{State, Configuration, Running, Error, IsEnabled, IsRun, IsEnd, start}
use Rattle.lvish_calculus.specs.Handing.{IsAmong, NoRepeats}
use Rattle.lvish_calculus.specs.Live.{HasLive}
use Rattle.lvish_calculus.proofs.SameThere.{run_split}
use Rattle.lvish_calculus.proofs.Sound.{some_is}
use Rattle.lvish_report.specs.declared.report.FinalState.{FinalState}
use Rattle.lvish_report.specs.declared.report.Report.{Report}
use Rattle.lvish_trace.specs.declared.trace_entry.TraceEntry.{TraceEntry}
use Rattle.lvish_trace.specs.declared.outcome.Outcome.{Outcome}
use Rattle.lvish_trace.specs.declared.outcome.Outcome.TheVariants.{Ended, Error as ErrorOutcome, Budget}
use Rattle.lvish_trace.specs.Traced.{labels_of}
use Rattle.lvish_run.specs.Honest.{AreFinalStates, Comes, IsOutcome, IsHonest}
use Rattle.lvish_run.specs.Picked.{IsPicked}
use Rattle.lvish_run.specs.SameReports.{TellTheSame}
use Rattle.lvish_run.proofs.Once.{goes_on}

-- ---- what one configuration has

-- lists with the same element at each place are one
one_list : {X : Type 0} (xs ys : List X) → ((v : ℕ) → slice_get xs v ≡ slice_get ys v) → xs ≡ ys
one_list [] [] same = refl
one_list [] (y ∷ ys) same = absurd (cc (same 0))
one_list (x ∷ xs) [] same = absurd (cc (same 0))
one_list (x ∷ xs) (y ∷ ys) same =
    let head : x ≡ y = some_is (same 0) in
    let rest : xs ≡ ys = one_list xs ys (λ v. same (suc v)) in
    λ i. head i ∷ rest i

-- the states of a configuration are one list
one_states : {S E L : Type 0} (variables : ℕ) (c : State S E L) (xs ys : List (FinalState S)) → AreFinalStates variables c xs → AreFinalStates variables c ys → xs ≡ ys
one_states variables c xs ys a b = one_list xs ys at
  where
    at : (v : ℕ) → slice_get xs v ≡ slice_get ys v
    at v = elim (cases_lt v variables) [
      | inl small ↦ a.each v small ∙ sym (b.each v small)
      | inr large ↦ slice_get_past xs v (omega (arith, large, a.count)) ∙ sym (slice_get_past ys v (omega (arith, large, b.count)))
    ]

module _ {X : Type 0} where
  -- the list without the element at this place of it
  abbrev without : (x : X) (xs : List X) → IsAmong x xs → List X
  without x [] i = []
  without x (y ∷ ys) (inl e) = ys
  without x (y ∷ ys) (inr i) = y ∷ without x ys i

  one_less : (x : X) (xs : List X) (i : IsAmong x xs) → length xs ≡ suc (length (without x xs i))
  one_less x [] i = absurd i
  one_less x (y ∷ ys) (inl e) = refl
  one_less x (y ∷ ys) (inr i) = ap suc (one_less x ys i)

  others_stay : (x : X) (xs : List X) (i : IsAmong x xs) (z : X) → (z ≡ x → ⊥) → IsAmong z xs → IsAmong z (without x xs i)
  others_stay x [] i z other j = absurd i
  others_stay x (y ∷ ys) (inl e) z other (inl f) = absurd (other (f ∙ sym e))
  others_stay x (y ∷ ys) (inl e) z other (inr j) = j
  others_stay x (y ∷ ys) (inr i) z other (inl f) = inl f
  others_stay x (y ∷ ys) (inr i) z other (inr j) = inr (others_stay x ys i z other j)

  -- a list without repeats whose elements are all in another is no longer than that
  no_longer : (xs ys : List X) → NoRepeats xs → ((x : X) → IsAmong x xs → IsAmong x ys) → length xs ≤ length ys
  no_longer [] ys once all = omega arith
  no_longer (x ∷ xs) ys once all =
      let i = all x (inl refl) in
      let rest : length xs ≤ length (without x ys i) = no_longer xs (without x ys i) once.1 (λ z j. others_stay x ys i z (λ e. once.0 (subst (λ y. IsAmong y xs) e j)) (all z (inr j))) in
      omega (arith, rest, one_less x ys i)

-- a configuration has one number of tasks that haven't ended
one_count : {S E L : Type 0} (c : State S E L) (n m : ℕ) → HasLive c n → HasLive c m → n ≡ m
one_count c n m h k =
    let up : length h.names ≤ length k.names = no_longer h.names k.names h.once (λ t i. (k.just t).1 ((h.just t).0 i)) in
    let down : length k.names ≤ length h.names = no_longer k.names h.names k.once (λ t i. (h.just t).1 ((k.just t).0 i)) in
    omega (arith, up, down, h.count, k.count)

-- ---- one run

module _ {S E R A L : Type 0} (M : Machine S E R A L) where
  -- the labels of a run lead to one configuration
  one_last : (xs : List (Label E)) (d e f : Configuration S E L) → IsRun M d xs e → IsRun M d xs f → e ≡ f
  one_last xs d e f one other = run_split M xs [] d e f one (subst (λ ys. IsRun M d ys f) (sym (append-nil xs)) other)

  module _ (variables workers budget : ℕ) (r : Report S E) (honest : IsHonest M variables workers budget r) where
    abbrev trace : List (Label E)
    trace = labels_of r.trace

    pub long : length trace ≡ r.steps
    long = length-map r.trace (λ (e : TraceEntry E). e.label) ∙ sym honest.steps

    run_by : (o : Outcome E) → IsOutcome M variables budget r o → (last : Configuration S E L) × IsRun M (Running (start M)) trace last
    run_by Ended h = (Running h.0.last, h.0.reached)
    run_by (ErrorOutcome kind v t) h = (Error kind v t, h.0)
    run_by Budget h = (Running h.0.last, h.0.reached)

    -- the report's run leads somewhere
    pub run_of : (last : Configuration S E L) × IsRun M (Running (start M)) trace last
    run_of = run_by r.outcome honest.outcome

    no_more_by : (o : Outcome E) → IsOutcome M variables budget r o → (e f : Configuration S E L) (rest : List (Label E)) → IsRun M (Running (start M)) trace e → IsRun M e rest f → length trace + length rest ≤ budget → rest ≡ []
    no_more_by o h e f [] run on within = refl
    no_more_by Ended h e f (l ∷ rest) run on within =
        let on_end : IsRun M (Running h.0.last) (l ∷ rest) f = subst (λ d. IsRun M d (l ∷ rest) f) (one_last trace _ _ _ run h.0.reached) on in
        absurd (h.1 l on_end.0)
    no_more_by (ErrorOutcome kind v t) h e f (l ∷ rest) run on within = absurd (subst (λ d. IsRun M d (l ∷ rest) f) (one_last trace _ _ _ run h.0) on)
    no_more_by Budget h e f (l ∷ rest) run on within = absurd (omega (arith, within, long, h.1))

    -- within the budget the run goes on nowhere
    pub no_more : (e f : Configuration S E L) (rest : List (Label E)) → IsRun M (Running (start M)) trace e → IsRun M e rest f → length trace + length rest ≤ budget → rest ≡ []
    no_more = no_more_by r.outcome honest.outcome

-- ---- two reports

module _ {S E R A L : Type 0} (cmp : E → E → Ordering) (o : IsTotalOrder cmp) (M : Machine S E R A L) (variables v w budget : ℕ) (r q : Report S E)
    (one : IsHonest M variables v budget r) (other : IsHonest M variables w budget q) where
  -- that have the same outcome
  pub record Alike (c d : Outcome E) : Type 0 where
    pub outcome : c ≡ d
    pub states : r.states ≡ q.states
    pub blocked : r.blocked ≡ q.blocked

  -- at one configuration states and blocked tasks are the same
  at_one : (c d : Outcome E) → c ≡ d → (h : Comes M variables r) (k : Comes M variables q) → Running h.last ≡ Running k.last → Alike c d
  at_one c d is h k same =
      let at : h.last ≡ k.last = cc in
      record {
        outcome = is;
        states = one_states variables k.last r.states q.states (subst (λ s. AreFinalStates variables s r.states) at h.states) k.states;
        blocked = one_count k.last r.blocked q.blocked (subst (λ s. HasLive s r.blocked) at h.blocked) k.blocked;
      }

  -- an end is no configuration in which something is enabled
  not_both : (a b : State S E L) → Running a ≡ Running b → IsEnd M a → (l : Label E) → IsEnabled M b l → ⊥
  not_both a b same end l enabled =
      let at : a ≡ b = cc in
      end l (subst (λ s. IsEnabled M s l) (sym at) enabled)

  one_error : (kind kind2 : ErrorKind) (x y : Option ℕ) (t u : Name E) → ◌≡◌ {A = Configuration S E L} (Error kind x t) (Error kind2 y u) → ErrorOutcome kind x t ≡ ErrorOutcome kind2 y u
  one_error kind kind2 x y t u same =
      let k : kind ≡ kind2 = cc in
      let z : x ≡ y = cc in
      let n : t ≡ u = cc in
      λ i. ErrorOutcome (k i) (z i) (n i)

  module _ (same : labels_of r.trace ≡ labels_of q.trace) where
    -- the runs of both lead to one configuration
    meet : (e f : Configuration S E L) → IsRun M (Running (start M)) (labels_of r.trace) e → IsRun M (Running (start M)) (labels_of q.trace) f → e ≡ f
    meet e f a b = one_last M (labels_of q.trace) _ e f (subst (λ xs. IsRun M (Running (start M)) xs e) same a) b

    alike_by : (c d : Outcome E) → IsOutcome M variables budget r c → IsOutcome M variables budget q d → Alike c d
    alike_by Ended Ended h k = at_one Ended Ended refl h.0 k.0 (meet _ _ h.0.reached k.0.reached)
    alike_by Ended (ErrorOutcome kind x t) h k = let m : Running h.0.last ≡ Error kind x t = meet _ _ h.0.reached k.0 in absurd (cc m)
    alike_by Ended Budget h k = absurd (not_both h.0.last k.0.last (meet _ _ h.0.reached k.0.reached) h.1 k.2.0 k.2.1)
    alike_by (ErrorOutcome kind x t) Ended h k = let m : Error kind x t ≡ Running k.0.last = meet _ _ h.0 k.0.reached in absurd (cc m)
    alike_by (ErrorOutcome kind x t) (ErrorOutcome kind2 y u) h k = record { outcome = one_error kind kind2 x y t u (meet _ _ h.0 k.0); states = h.1 ∙ sym k.1; blocked = h.2 ∙ sym k.2 }
    alike_by (ErrorOutcome kind x t) Budget h k = let m : Error kind x t ≡ Running k.0.last = meet _ _ h.0 k.0.reached in absurd (cc m)
    alike_by Budget Ended h k = absurd (not_both k.0.last h.0.last (sym (meet _ _ h.0.reached k.0.reached)) k.1 h.2.0 h.2.1)
    alike_by Budget (ErrorOutcome kind x t) h k = let m : Running h.0.last ≡ Error kind x t = meet _ _ h.0.reached k.0 in absurd (cc m)
    alike_by Budget Budget h k = at_one Budget Budget refl h.0 k.0 (meet _ _ h.0.reached k.0.reached)

    -- so they tell the same
    pub tell_the_same : TellTheSame r q
    tell_the_same =
        let a = alike_by r.outcome q.outcome one.outcome other.outcome in
        record {
          outcome = a.outcome;
          states = a.states;
          steps = sym (long M variables v budget r one) ∙ ap length same ∙ long M variables w budget q other;
          blocked = a.blocked;
        }

  module _ (picks : List ℕ) (named : IsPicked cmp M picks [] (Running (start M)) (labels_of r.trace)) (as_well : IsPicked cmp M picks [] (Running (start M)) (labels_of q.trace)) where
    -- the same picks within the same budget name one run
    pub same_labels : labels_of r.trace ≡ labels_of q.trace
    same_labels = by (cases_lt (length (labels_of r.trace)) (length (labels_of q.trace)))
      where
        a : (last : Configuration S E L) × IsRun M (Running (start M)) (labels_of r.trace) last
        a = run_of M variables v budget r one

        b : (last : Configuration S E L) × IsRun M (Running (start M)) (labels_of q.trace) last
        b = run_of M variables w budget q other

        by : (length (labels_of r.trace) < length (labels_of q.trace)) ⊎ (length (labels_of q.trace) ≤ length (labels_of r.trace)) → labels_of r.trace ≡ labels_of q.trace
        by (inl less) =
            let z = goes_on cmp o M picks [] (Running (start M)) (labels_of r.trace) (labels_of q.trace) a.0 b.0 named as_well a.1 b.1 (omega (arith, less)) in
            let none = no_more M variables v budget r one a.0 b.0 z.0 a.1 z.2 (omega (arith, ap length z.1, length-append (labels_of r.trace) z.0, long M variables w budget q other, other.within)) in
            sym (z.1 ∙ ap (λ xs. labels_of r.trace ++ xs) none ∙ append-nil (labels_of r.trace))
        by (inr le) =
            let z = goes_on cmp o M picks [] (Running (start M)) (labels_of q.trace) (labels_of r.trace) b.0 a.0 as_well named b.1 a.1 le in
            let none = no_more M variables w budget q other b.0 a.0 z.0 b.1 z.2 (omega (arith, ap length z.1, length-append (labels_of q.trace) z.0, long M variables v budget r one, one.within)) in
            z.1 ∙ ap (λ xs. labels_of q.trace ++ xs) none ∙ append-nil (labels_of q.trace)
