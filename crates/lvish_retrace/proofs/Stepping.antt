-- Which task a step is told of, and when there is none.
use Rattle.std.proofs.Common.{◌≡◌, ℕ, Bool, true, false, List, [], ◌∷◌, ◌++◌, length, Option, Some, None, sym, ap, subst}
use Rattle.std.proofs.lemmas.Bool.{false≢true}
use Rattle.std.proofs.lemmas.Option.{none-some}
use Rattle.lvish_calculus.specs.Machine.{Machine}
use Rattle.lvish_calculus.specs.Calculus.{Task, Absent, Live, Ended, CanStep, IsReadyTask, hand_effect}
use Rattle.lvish_calculus.specs.declared.label.Label.{Label}
use Rattle.lvish_calculus.specs.declared.label.Label.TheVariants.{Act, Hand}
use Rattle.lvish_names.specs.Names.{Name, Handler, handed}
use Rattle.lvish_core.specs.declared.fault.RunError.{RunError}
use Rattle.lvish_core.specs.declared.fault.Stepped.{Stepped}
use Rattle.lvish_core.specs.Changes.{local_of, moved_in}
use Rattle.lvish_core.specs.Core.{CoreView, CanTake, IsStep, at_fault, state}
use Rattle.lvish_core.specs.Tasks.{IsAt}
use Rattle.lvish_retrace.specs.declared.bringer.Bringer.{Bringer}
use Rattle.lvish_retrace.specs.declared.told_step.ToldStep.{ToldStep}
use Rattle.lvish_retrace.specs.Walk.{CantGo, IsGrown, IsToldStep, MakesOrStops, StepsOrStops}
use Rattle.lvish_retrace.proofs.Noting.{made_handing}

module _ {P S E R A L : Type 0} (M : Machine S E R A L) (c : CoreView P S E L) where
  -- a task that has ended or isn't there has no step
  pub stuck : (t : Name E) → local_of ((state M c).tasks t) ≡ None → CanTake M c (Act t) → ⊥
  stuck t none can = by c.fault can.0
    where
      task : (k : Task L) → local_of k ≡ None → IsReadyTask M (state M c) k → ⊥
      task Absent gone go = go
      task Ended gone go = go
      task (Live l f a p) gone go = none-some l (sym gone)

      by : (f : Option (RunError E)) → CanStep M (at_fault (state M c) f) (Act t) → ⊥
      by None go = task ((state M c).tasks t) none go
      by (Some f) go = go

  -- a handing starts its task behind all others
  pub starts_last : (h : Handler E) (e : E) (new : CoreView P S E L) (said : Stepped) → IsStep M c (Hand h e) new said → IsAt new.table.tasks (length c.table.tasks) (handed h.adder h.number e)
  starts_last h e new said step = by c.fault step.enabled.0
    where
      by : (f : Option (RunError E)) → CanStep M (at_fault (state M c) f) (Hand h e) → IsAt new.table.tasks (length c.table.tasks) (handed h.adder h.number e)
      by None go = step.started (record { name = handed h.adder h.number e; local = M.start_handler go.on.post.procedure e }) (ap (λ o. (moved_in (hand_effect M h e o)).made) go.on.is)
      by (Some f) go = absurd go

module _ {P S E R A L : Type 0} (M : Machine S E R A L) (old : CoreView P S E L) (number : ℕ) where
  -- a task's step that can't be made
  pub stopped : (new : CoreView P S E L) (l : Label E) (bs bs1 : List (Bringer E)) (o : Option Stepped) → o ≡ None → MakesOrStops M old l new number bs bs1 o → CantGo M old l
  stopped new l bs bs1 None none z = z
  stopped new l bs bs1 (Some x) none z = absurd (none-some x (sym none))

  -- a task's step that is made is told of this task
  pub told_act : (new : CoreView P S E L) (t : Name E) (bs bs1 : List (Bringer E)) (o : Option Stepped) (said : Stepped) → o ≡ Some said → MakesOrStops M old (Act t) new number bs bs1 o
      → (told : ToldStep) (task : ℕ) → told.task ≡ task → IsAt old.table.tasks task t → (steps steps1 : List ToldStep) → steps1 ≡ steps ++ told ∷ [] → IsToldStep M old (Act t) new number bs bs1 steps steps1
  told_act new t bs bs1 None said some z told task is at steps steps1 more = absurd (none-some said some)
  told_act new t bs bs1 (Some x) said some made told task is at steps steps1 more = record {
    made = made;
    told = told;
    one_more = more;
    at = subst (λ k. IsAt new.table.tasks k t) (sym is) (made.step.indices task t at);
  }

  -- a handing that is made is told of the task that it starts
  pub told_hand : (new : CoreView P S E L) (h : Handler E) (e : E) (l : Label E) → l ≡ Hand h e → (b : Bool) → b ≡ true → StepsOrStops M old l new b → (told : ToldStep) → told.task ≡ length old.table.tasks
      → (bs : List (Bringer E)) (steps steps1 : List ToldStep) → steps1 ≡ steps ++ told ∷ [] → IsToldStep M old l new number bs bs steps steps1
  told_hand new h e l is true went (said, grown) told task bs steps steps1 more = subst (λ k. IsToldStep M old k new number bs bs steps steps1) (sym is) (record {
    made = made_handing M old new h e number said here bs;
    told = told;
    one_more = more;
    at = subst (λ k. IsAt new.table.tasks k (handed h.adder h.number e)) (sym task) (starts_last M old h e new said here.step);
  })
    where
      here : IsGrown M old (Hand h e) new said
      here = subst (λ k. IsGrown M old k new said) is grown
  told_hand new h e l is false went z told task bs steps steps1 more = absurd (false≢true went)

  -- a handing that can't be made
  pub stopped_hand : (new : CoreView P S E L) (l : Label E) (b : Bool) → b ≡ false → StepsOrStops M old l new b → CantGo M old l
  stopped_hand new l false went z = z
  stopped_hand new l true went z = absurd (false≢true (sym went))
