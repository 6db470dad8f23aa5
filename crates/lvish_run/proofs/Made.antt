-- Steps of the workers of a run.
use Rattle.std.proofs.Common.{◌≡◌, ◌++◌, ◌∷◌, ◌<◌, ℕ, Bool, true, false, List, [], Option, None, Some, IsSome, inl, inr, sym, subst, refl}
use Rattle.std.specs.List.{AllByRecursion}
use Rattle.std.specs.declared.cmp.Ordering.{Ordering}
use Rattle.lvish_calculus.specs.Machine.{Machine}
use Rattle.lvish_calculus.specs.declared.label.Label.{Label}
use Rattle.lvish_names.specs.Names.{Handler}
use Rattle.lvish_calculus.specs.declared.label.Label.TheVariants.{Act, Hand}
use Rattle.lvish_board.specs.declared.act_answer.ActAnswer.{ActAnswer}
use Rattle.lvish_board.specs.Acts.{ComesOfAct, ComesOfHand, is_step}
use Rattle.lvish_board.specs.Stand.{TaskStand}
use Rattle.lvish_board.specs.Board.{Standing}
use Rattle.lvish_trace.specs.declared.trace_entry.TraceEntry.{TraceEntry}
use Rattle.lvish_run.specs.Crew.{MakesBy}

-- a step is made, or it isn't
pub by_whether : {E : Type 0} (b : Bool) (worker : ℕ) (old new : List (TraceEntry E)) (l : Label E) → (b ≡ false → new ≡ old) → (b ≡ true → new ≡ old ++ record { worker = worker; label = l } ∷ []) → MakesBy worker old new
by_whether true worker old new l stays step = inr (l, step refl)
by_whether false worker old new l stays step = inl (stays refl)

-- what comes of an act and of a handing by a worker is a step of this worker, or none
module _ {P' P B S L R A W E Ans : Type 0} (cmp : E → E → Ordering) (M : Machine S E R Ans L) (worker : ℕ) (old new : Standing P' S E L) (result : ActAnswer P B S L R A W E) where
  pub by_act : (Stands Can Full : Type 0) (asked : TaskStand E L) → ComesOfAct cmp M Stands Can Full worker asked old new result → MakesBy worker old.trace new.trace
  by_act Stands Can Full asked c = by_whether (is_step result) worker old.trace new.trace (Act asked.task) (λ e. (c.stays e).0) c.step

  pub by_hand : (Held Full : Type 0) (Next : E → Type 0) (handler : Handler E) → ComesOfHand cmp M Held Next Full worker handler old new result → MakesBy worker old.trace new.trace
  by_hand Held Full Next handler c = at (is_step result) refl
    where
      at : (b : Bool) → is_step result ≡ b → MakesBy worker old.trace new.trace
      at true e = let s = c.step e in inr (Hand handler s.0, s.2)
      at false e = inl (c.stays e).0

-- what holds of each work that is in a slot holds, where there is some
pub of_slot : {X Q : Type 0} (o : Option X) → IsSome o → ((x : X) → o ≡ Some x → Q) → Q
of_slot None some each = absurd cc
of_slot (Some x) some each = each x refl

one_more : {E : Type 0} (n worker : ℕ) (l : Label E) → worker < n → (xs : List (TraceEntry E)) → AllByRecursion (λ e. e.worker < n) xs → AllByRecursion (λ e. e.worker < n) (xs ++ record { worker = worker; label = l } ∷ [])
one_more n worker l less [] all = (less, tt)
one_more n worker l less (x ∷ xs) all = (all.0, one_more n worker l less xs all.1)

-- where a worker of the run makes a step, all are still of the run's workers
pub still_ours : {E : Type 0} (n worker : ℕ) (old new : List (TraceEntry E)) → worker < n → MakesBy worker old new → AllByRecursion (λ e. e.worker < n) old → AllByRecursion (λ e. e.worker < n) new
still_ours n worker old new less (inl same) all = subst (AllByRecursion (λ e. e.worker < n)) (sym same) all
still_ours n worker old new less (inr made) all = subst (AllByRecursion (λ e. e.worker < n)) (sym made.1) (one_more n worker made.0 less old all)
