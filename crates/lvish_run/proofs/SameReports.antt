-- Reports of one end tell the same.
use Rattle.std.proofs.Common.{◌≡◌, ◌≤◌, inl, inr, ℕ, suc, List, [], ◌∷◌, length, refl, sym, ◌∙◌, ap, subst, arith}
use Rattle.std.specs.List.{slice_get}
use Rattle.std.proofs.lemmas.Bool.{cases_lt}
use Rattle.std.proofs.lemmas.List.{length-map}
use Rattle.std.proofs.lemmas.Option.{slice_get_past}
use Rattle.lvish_calculus.specs.declared.label.Label.{Label}
use Rattle.lvish_calculus.specs.Machine.{Machine}
use Rattle.lvish_calculus.specs.Calculus.{State, IsEnd}
use Rattle.lvish_calculus.specs.Laws.{SameEndIf}
use Rattle.lvish_calculus.specs.Handing.{IsAmong, NoRepeats}
use Rattle.lvish_calculus.specs.Live.{HasLive}
use Rattle.lvish_calculus.proofs.Sound.{some_is}
use Rattle.lvish_report.specs.declared.report.FinalState.{FinalState}
use Rattle.lvish_report.specs.declared.report.Report.{Report}
use Rattle.lvish_trace.specs.declared.trace_entry.TraceEntry.{TraceEntry}
use Rattle.lvish_trace.specs.declared.outcome.Outcome.TheVariants.{Ended}
use Rattle.lvish_trace.specs.Traced.{labels_of}
use Rattle.lvish_run.specs.Alike.{EndsAlikeIf}
use Rattle.lvish_run.specs.Honest.{AreFinalStates, Comes, IsOutcome, IsHonest}
use Rattle.lvish_run.specs.SameReports.{TellTheSame}

-- ---- one list of states

-- lists with the same element at each place are one
one_list : {X : Type 0} (xs ys : List X) → ((v : ℕ) → slice_get xs v ≡ slice_get ys v) → xs ≡ ys
one_list [] [] same = refl
one_list [] (y ∷ ys) same = absurd (cc (same 0))
one_list (x ∷ xs) [] same = absurd (cc (same 0))
one_list (x ∷ xs) (y ∷ ys) same =
    let head : x ≡ y = some_is (same 0) in
    let rest : xs ≡ ys = one_list xs ys (λ v. same (suc v)) in
    λ i. head i ∷ rest i

-- the states of a configuration are one list
pub one_states : {S E L : Type 0} (variables : ℕ) (c : State S E L) (xs ys : List (FinalState S)) → AreFinalStates variables c xs → AreFinalStates variables c ys → xs ≡ ys
one_states variables c xs ys a b = one_list xs ys at
  where
    at : (v : ℕ) → slice_get xs v ≡ slice_get ys v
    at v = elim (cases_lt v variables) [
      | inl small ↦ a.each v small ∙ sym (b.each v small)
      | inr large ↦ slice_get_past xs v (omega (arith, large, a.count)) ∙ sym (slice_get_past ys v (omega (arith, large, b.count)))
    ]

-- ---- one count

module _ {X : Type 0} where
  -- the list without the element at this place of it
  abbrev left : (x : X) (xs : List X) → IsAmong x xs → List X
  left x [] i = []
  left x (y ∷ ys) (inl e) = ys
  left x (y ∷ ys) (inr i) = y ∷ left x ys i

  one_less : (x : X) (xs : List X) (i : IsAmong x xs) → length xs ≡ suc (length (left x xs i))
  one_less x [] i = absurd i
  one_less x (y ∷ ys) (inl e) = refl
  one_less x (y ∷ ys) (inr i) = ap suc (one_less x ys i)

  stays : (x : X) (xs : List X) (i : IsAmong x xs) (z : X) → (z ≡ x → ⊥) → IsAmong z xs → IsAmong z (left x xs i)
  stays x [] i z other j = absurd i
  stays x (y ∷ ys) (inl e) z other (inl f) = absurd (other (f ∙ sym e))
  stays x (y ∷ ys) (inl e) z other (inr j) = j
  stays x (y ∷ ys) (inr i) z other (inl f) = inl f
  stays x (y ∷ ys) (inr i) z other (inr j) = inr (stays x ys i z other j)

  -- a list without repeats whose elements are all in another is no longer than that
  no_longer : (xs ys : List X) → NoRepeats xs → ((x : X) → IsAmong x xs → IsAmong x ys) → length xs ≤ length ys
  no_longer [] ys once all = omega arith
  no_longer (x ∷ xs) ys once all =
      let i = all x (inl refl) in
      let rest : length xs ≤ length (left x ys i) = no_longer xs (left x ys i) once.1 (λ z j. stays x ys i z (λ e. once.0 (subst (λ y. IsAmong y xs) e j)) (all z (inr j))) in
      omega (arith, rest, one_less x ys i)

-- a configuration has one number of tasks that haven't ended
pub one_count : {S E L : Type 0} (c : State S E L) (n m : ℕ) → HasLive c n → HasLive c m → n ≡ m
one_count c n m h k =
    let up : length h.names ≤ length k.names = no_longer h.names k.names h.once (λ t i. (k.just t).1 ((h.just t).0 i)) in
    let down : length k.names ≤ length h.names = no_longer k.names h.names k.once (λ t i. (h.just t).1 ((k.just t).0 i)) in
    omega (arith, up, down, h.count, k.count)

-- ---- two reports of ends

pub long : {S E R A L : Type 0} (M : Machine S E R A L) (variables workers budget : ℕ) (r : Report S E) → IsHonest M variables workers budget r → length (labels_of r.trace) ≡ r.steps
long {E = E} M variables workers budget r h = length-map r.trace (λ (e : TraceEntry E). e.label) ∙ sym h.steps

-- the end of an honest report of one
pub end_of : {S E R A L : Type 0} (M : Machine S E R A L) (variables workers budget : ℕ) (r : Report S E) → IsHonest M variables workers budget r → r.outcome ≡ Ended → (h : Comes M variables r) × IsEnd M h.last
end_of M variables workers budget r honest ended = subst (λ o. IsOutcome M variables budget r o) ended honest.outcome

module _ {S E R A L : Type 0} (M : Machine S E R A L) (variables v b w c : ℕ) (r q : Report S E) (one : IsHonest M variables v b r) (other : IsHonest M variables w c q) (ended : r.outcome ≡ Ended) (as_well : q.outcome ≡ Ended) where
  -- reports of one end, after as many steps
  pub of_one_end : (a : State S E L) → AreFinalStates variables a r.states → HasLive a r.blocked → AreFinalStates variables a q.states → HasLive a q.blocked → r.steps ≡ q.steps → TellTheSame r q
  of_one_end a s h t k same = record {
    outcome = ended ∙ sym as_well;
    states = one_states variables a r.states q.states s t;
    steps = same;
    blocked = one_count a r.blocked q.blocked h k;
  }

  pub tell_the_same : (P : List (Label E) → List (Label E) → Type 0) → SameEndIf M P → P (labels_of r.trace) (labels_of q.trace) → TellTheSame r q
  tell_the_same P alike holds =
      let h = end_of M variables v b r one ended in
      let k = end_of M variables w c q other as_well in
      let z = alike (labels_of r.trace) (labels_of q.trace) h.0.last k.0.last h.0.reached k.0.reached h.1 k.1 holds in
      of_one_end k.0.last (subst (λ x. AreFinalStates variables x r.states) z.0 h.0.states) (subst (λ x. HasLive x r.blocked) z.0 h.0.blocked) k.0.states k.0.blocked
      (sym (long M variables v b r one) ∙ z.1 ∙ long M variables w c q other)

  -- the same from what the one says of all other ends
  pub told_the_same : (P : List (Label E) → List (Label E) → Type 0) → EndsAlikeIf M variables r P → P (labels_of r.trace) (labels_of q.trace) → TellTheSame r q
  told_the_same P alike holds =
      let k = end_of M variables w c q other as_well in
      let z = alike (labels_of q.trace) k.0.last k.0.reached k.1 holds in
      of_one_end k.0.last z.0 z.1 k.0.states k.0.blocked (sym z.2 ∙ long M variables w c q other)
