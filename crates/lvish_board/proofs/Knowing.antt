-- What a board knows of its tasks by their newest stamps.
use Rattle.std.proofs.Common.{◌≡◌, ◌⊎◌, ◌≤◌, ◌<◌, inl, inr, Bool, true, false, if◌then◌else◌, ℕ, zero, suc, List, [], ◌∷◌, ◌++◌, length, Option, Some, None, refl, sym, ap, subst, ◌∙◌, arith, option_and_then, option_map}
use Rattle.std.specs.Prelude.{slice_get, slice_set}
use Rattle.lvish_history.specs.Stamped.{Stamped}
use Rattle.std.proofs.lemmas.Option.{slice_get-map}
use Rattle.lvish_calculus.specs.Machine.{Machine}
use Rattle.lvish_names.specs.Names.{Name, Handler}
use Rattle.lvish_core.specs.After.{OthersStay, StartsAsSaid}
use Rattle.lvish_core.specs.Core.{CoreView, IsRunTo, IsStep, state}
use Rattle.lvish_core.specs.Changes.{IsMoved, local_of}
use Rattle.lvish_core.specs.Tasks.{HasEachOnce, IsAt, KeepsIndices}
use Rattle.lvish_board.specs.Vocabulary.{Label, Act, Hand, Stepped, Made, Moved}
use Rattle.lvish_board.specs.Left.{made_ticket, own_ticket}
use Rattle.lvish_board.specs.Stand.{TaskStand}
use Rattle.lvish_board.specs.Newest.{AreKnown, IsSetAt, IsSetIf, known_at, values_of}
use Rattle.lvish_board.specs.Board.{IsCurrent}

module _ {V : Type 0} where
  -- one stamp in place of another
  pub set_in : (xs : List (Stamped V)) (i : ℕ) (s : Stamped V) → i < length xs → IsSetAt i s.value (values_of xs) (values_of (slice_set xs i s))
  set_in [] i s less j v e = absurd (omega (arith, less))
  set_in (x ∷ xs) zero s less zero v e = inl (refl, e)
  set_in (x ∷ xs) zero s less (suc j) v e = inr (λ q. absurd (omega (arith, q)), e)
  set_in (x ∷ xs) (suc i) s less zero v e = inr (λ q. absurd (omega (arith, q)), e)
  set_in (x ∷ xs) (suc i) s less (suc j) v e = elim (set_in xs i s (omega (arith, less)) j v e) [
    | inl here ↦ inl (ap suc here.0, here.1)
    | inr other ↦ inr (λ q. other.0 (omega (arith, q)), other.1)
  ]

  -- a stamp behind the others
  pub pushed_in : (xs : List (Stamped V)) (i : ℕ) (s : Stamped V) → length xs ≡ i → IsSetAt i s.value (values_of xs) (values_of (xs ++ s ∷ []))
  pushed_in [] i s is zero v e = inl (is, e)
  pushed_in [] i s is (suc j) v e = absurd (cc e)
  pushed_in (x ∷ xs) i s is zero v e = inr (λ q. absurd (omega (arith, q, is)), e)
  pushed_in (x ∷ xs) zero s is (suc j) v e = absurd (omega (arith, is))
  pushed_in (x ∷ xs) (suc i) s is (suc j) v e = elim (pushed_in xs i s (omega (arith, is)) j v e) [
    | inl here ↦ inl (ap suc here.0, here.1)
    | inr other ↦ inr (λ q. other.0 (omega (arith, q)), other.1)
  ]

  -- no stamp at all, where there is none
  pub unset_in : (xs : List (Stamped V)) (i : ℕ) (o : Option V) → length xs ≤ i → IsSetAt i o (values_of xs) (values_of xs)
  unset_in [] i o less j v e = absurd (cc e)
  unset_in (x ∷ xs) i o less zero v e = inr (λ q. absurd (omega (arith, q, less)), e)
  unset_in (x ∷ xs) zero o less (suc j) v e = absurd (omega (arith, less))
  unset_in (x ∷ xs) (suc i) o less (suc j) v e = elim (unset_in xs i o (omega (arith, less)) j v e) [
    | inl here ↦ inl (ap suc here.0, here.1)
    | inr other ↦ inr (λ q. other.0 (omega (arith, q)), other.1)
  ]

  pub pushed_if : (b : Bool) (xs : List (Stamped V)) (i : ℕ) (s : Stamped V) → length xs ≡ i → IsSetAt i s.value (values_of xs) (values_of (if b then (xs ++ s ∷ []) else xs))
  pushed_if true xs i s is = pushed_in xs i s is
  pushed_if false xs i s is = unset_in xs i s.value (omega (arith, is))

  -- a stamp of a place, or of none, which is of some place, is of that
  pub same_stand : (o : Option V) (p q : V) → o ≡ Some p → (o ≡ None) ⊎ (o ≡ Some q) → p ≡ q
  same_stand o p q is may = elim may [
    | inl none ↦ absurd (cc (is, none))
    | inr some ↦ cc (is, some)
  ]

  -- where nothing is known at the index, no more than this is
  pub less_known : (i : ℕ) (o : Option V) (old new : List (Option V)) → IsSetAt i None old new → IsSetAt i o old new
  less_known i o old new set j v e = elim (set j v e) [
    | inl here ↦ absurd (cc (here.1))
    | inr other ↦ inr other
  ]

  -- what the stamp at an index was given for
  pub value_in : (xs : List (Stamped V)) (i : ℕ) (s : Stamped V) → slice_get xs i ≡ Some s → known_at (values_of xs) i ≡ s.value
  value_in xs i s e = ap (option_and_then (λ o. o)) (slice_get-map (λ (x : Stamped V). x.value) xs i ∙ ap (option_map (λ (x : Stamped V). x.value)) e)

module _ {P S E R A L : Type 0} (M : Machine S E R A L) where
  -- nothing is known by no stamps
  pub none_known : (c : CoreView P S E L) (places : List (Option (TaskStand E L))) → places ≡ [] → AreKnown M c places
  none_known c places none i p at = absurd (cc (subst (λ ps. known_at ps i ≡ Some p) none at))

  -- after a step in which all tasks stay
  pub still_known : (c d : CoreView P S E L) → KeepsIndices c.table.tasks d.table.tasks → ((t : Name E) (l : L) → local_of ((state M c).tasks t) ≡ Some l → local_of ((state M d).tasks t) ≡ Some l)
      → (old : List (Option (TaskStand E L))) → AreKnown M c old → AreKnown M d old
  still_known c d kept stay old known i p at =
      let was = known i p at in
      (kept i p.task was.0, stay p.task p.from was.1)

  -- after a step of the task at the index, which then stands at the place, if there is one
  pub acted_known : (c d : CoreView P S E L) → KeepsIndices c.table.tasks d.table.tasks → HasEachOnce d.table.tasks → (t : Name E) (k : ℕ) → IsAt c.table.tasks k t
      → ((u : Name E) (l : L) → local_of ((state M c).tasks u) ≡ Some l → (t ≡ u → ⊥) → local_of ((state M d).tasks u) ≡ Some l)
      → (own : Option (TaskStand E L)) → ((p : TaskStand E L) → own ≡ Some p → (p.task ≡ t) × IsCurrent M d p)
      → (old new : List (Option (TaskStand E L))) → AreKnown M c old → IsSetAt k own old new → AreKnown M d new
  acted_known c d kept once t k there stay own stands old new known set i p at = elim (set i p at) [
    | inl here ↦
        let own' = stands p here.1 in
        (subst (λ j. IsAt d.table.tasks j p.task) (sym here.0) (subst (λ u. IsAt d.table.tasks k u) (sym own'.0) (kept k t there)), own'.1)
    | inr other ↦
        let was = known i p other.1 in
        let still = kept i p.task was.0 in
        (still, stay p.task p.from was.1 (λ same. other.0 (once i k t (subst (λ u. IsAt d.table.tasks i u) (sym same) still) (kept k t there))))
  ]

  -- where a task starts behind the others, if one does
  pub started_known : (d : CoreView P S E L) (next : ℕ) (made : Option (TaskStand E L)) → ((p : TaskStand E L) → made ≡ Some p → IsAt d.table.tasks next p.task × IsCurrent M d p)
      → (old new : List (Option (TaskStand E L))) → AreKnown M d old → IsSetIf next made old new → AreKnown M d new
  started_known d next None starts old new known same i q at = known i q (subst (λ ps. known_at ps i ≡ Some q) same at)
  started_known d next (Some p) starts old new known set i q at = elim (set i q at) [
    | inl here ↦
        let new' = starts q here.1 in
        (subst (λ j. IsAt d.table.tasks j q.task) (sym here.0) new'.0, new'.1)
    | inr other ↦ known i q other.1
  ]

-- the name of the task that a label makes act is its own
same_act : {E : Type 0} {t u : Name E} → Act t ≡ Act u → t ≡ u
same_act e = cc e

module _ {P S E R A L : Type 0} (M : Machine S E R A L) {c d : CoreView P S E L} (others : OthersStay P M) (xs : List (Label E)) (leads : IsRunTo M c xs) (once : HasEachOnce d.table.tasks) where
  -- after a step that gave an error
  pub error_known : (t : Name E) (k : ℕ) (said : Stepped) → IsStep M c (Act t) d said → IsAt c.table.tasks k t
      → (old new : List (Option (TaskStand E L))) → AreKnown M c old → IsSetAt k None old new → AreKnown M d new
  error_known t k said step there old new known set =
      acted_known M c d step.indices once t k there (λ u l at ne. others c d xs (Act t) said leads step u l at (λ e. ne (same_act e))) None (λ p e. absurd (cc e)) old new known set

  module _ (starts : StartsAsSaid P M) (moved : Moved E L) where
    starts_there : (l : Label E) (said : Stepped) → IsStep M c l d said → IsMoved M (state M c) l moved
        → (p : TaskStand E L) → made_ticket moved.made ≡ Some p → IsAt d.table.tasks (length c.table.tasks) p.task × IsCurrent M d p
    starts_there l said step told p is = by moved.made refl is
      where
        by : (o : Option (Made E L)) → moved.made ≡ o → made_ticket o ≡ Some p → IsAt d.table.tasks (length c.table.tasks) p.task × IsCurrent M d p
        by None e z = absurd (cc z)
        by (Some m) e z =
            let there : p ≡ record { task = m.name; from = m.local } = cc z in
            let at = step.started m (sym (ap (λ y. y.made) told) ∙ e) in
            let stands = starts c d l said moved step told m e in
            subst (λ q. IsAt d.table.tasks (length c.table.tasks) q.task × IsCurrent M d q) (sym there) (at, stands)

    -- after a task's step that gave none
    pub step_known : (t : Name E) (k : ℕ) (said : Stepped) → IsStep M c (Act t) d said → IsMoved M (state M c) (Act t) moved → IsAt c.table.tasks k t
        → local_of ((state M d).tasks t) ≡ moved.own → (old new : List (Option (TaskStand E L))) → AreKnown M c old → (mid : List (Option (TaskStand E L)))
        → IsSetAt k (own_ticket t moved.own) old mid → (next : ℕ) → next ≡ length c.table.tasks → IsSetIf next (made_ticket moved.made) mid new → AreKnown M d new
    step_known t k said step told there stands old new known mid own next is made =
        let goes : (p : TaskStand E L) → own_ticket t moved.own ≡ Some p → (p.task ≡ t) × IsCurrent M d p = λ p e. by p moved.own refl e in
        let acted = acted_known M c d step.indices once t k there (λ u l at ne. others c d xs (Act t) said leads step u l at (λ e. ne (same_act e))) (own_ticket t moved.own) goes old mid known own in
        started_known M d (length c.table.tasks) (made_ticket moved.made) (starts_there (Act t) said step told) mid new acted (subst (λ i. IsSetIf i (made_ticket moved.made) mid new) is made)
      where
        by : (p : TaskStand E L) (o : Option L) → moved.own ≡ o → own_ticket t o ≡ Some p → (p.task ≡ t) × IsCurrent M d p
        by p None e z = absurd (cc z)
        by p (Some l) e z =
            let there : p ≡ record { task = t; from = l } = cc z in
            subst (λ q. (q.task ≡ t) × IsCurrent M d q) (sym there) (refl, stands ∙ e)

    -- after a handing
    pub hand_known : (h : Handler E) (e : E) (said : Stepped) → IsStep M c (Hand h e) d said → IsMoved M (state M c) (Hand h e) moved
        → (old new : List (Option (TaskStand E L))) → AreKnown M c old → (next : ℕ) → next ≡ length c.table.tasks → IsSetIf next (made_ticket moved.made) old new → AreKnown M d new
    hand_known h e said step told old new known next is made =
        let stay = still_known M c d step.indices (λ u l at. others c d xs (Hand h e) said leads step u l at (λ z. absurd (cc z))) old known in
        started_known M d (length c.table.tasks) (made_ticket moved.made) (starts_there (Hand h e) said step told) old new stay (subst (λ i. IsSetIf i (made_ticket moved.made) old new) is made)
