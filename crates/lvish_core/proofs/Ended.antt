-- Whether a core is at an end, told by the tasks one after the other and by the cursors.
use Rattle.std.proofs.Common.{◌≡◌, ◌↔◌, ℕ, Bool, true, false, List, [], Option, Some, None, is_some, IsTrue, refl, sym, subst, ◌∙◌}
use Rattle.std.proofs.lemmas.Bool.{false≢true}
use Rattle.std.proofs.lemmas.List.{nil_from_length}
use Rattle.lvish_core.specs.Vocabulary.{Act, RunError, HandlerPlace}
use Rattle.lvish_calculus.specs.Machine.{Machine, IsLawful}
use Rattle.lvish_calculus.specs.Calculus.{Task, Absent, Live, Ended, IsLive, is_live, IsReadyTask, IsEnded}
use Rattle.lvish_names.specs.Names.{Name, Handler}
use Rattle.lvish_calculus.specs.Handing.{IsAmong}
use Rattle.lvish_picture.specs.Picture.{task_of}
use Rattle.lvish_picture.specs.Laws.{EndsByCursors}
use Rattle.lvish_core.specs.Core.{CoreView, state, at_fault, picture}
use Rattle.lvish_core.specs.Kept.{IsKept}
use Rattle.lvish_core.specs.Reads.{AreDrained, NoneIsReady}
use Rattle.lvish_core.proofs.Listing.{AreOf, Listed, all_listed, item_listed}
use Rattle.lvish_core.proofs.Listed.{TaskItem, task_there}

module _ {P S E R A L : Type 0} (M : Machine S E R A L) (n running : ℕ) (places : List (Handler E × HandlerPlace)) (c : CoreView P S E L) (k : IsKept M n running places c) where
  -- where no task's label is listed, none is ready
  pub none_listed_ready : IsLawful M → (rest : List (Name E × Task L)) → Listed (TaskItem M (state M c)) c.table.tasks rest [] [] → rest ≡ [] → NoneIsReady M c
  none_listed_ready ok rest so_far none =
      let q = all_listed (TaskItem M (state M c)) c.table.tasks rest [] [] so_far none in
      let listed = subst (λ ls. AreOf (TaskItem M (state M c)) c.table.tasks ls) (sym q.2) q.1 in
      record { blocked = λ t ready. item_listed (TaskItem M (state M c)) c.table.tasks [] listed _ (Act t) (task_there M.event_same ok.event_same_is M (state M c) c.table.tasks t ready) (refl, ready) (λ m y. sym y.0) }

  -- and where one is, it isn't so
  pub ready_there : (t : Name E) (x : Task L) → task_of M.event_same c.table.tasks t ≡ x → IsReadyTask M (state M c) x → NoneIsReady M c → ⊥
  ready_there t x is ready none = none.blocked t (subst (λ y. IsReadyTask M (state M c) y) (sym is) ready)

  -- nor is one where no task is counted
  pub none_counted_ready : running ≡ 0 → NoneIsReady M c
  none_counted_ready zero = record { blocked = λ t ready. subst (λ ts. IsAmong t ts) (nil_from_length k.live.names (k.live.count ∙ zero)) ((k.live.just t).1 (ready_is_live _ ready)) }
    where
      ready_is_live : (x : Task L) → IsReadyTask M (state M c) x → IsLive x
      ready_is_live (Live l f a p) z = is_live
      ready_is_live Absent z = absurd z
      ready_is_live Ended z = absurd z

  -- an error is no end
  pub error_is_no_end : is_some c.fault ≡ true → IsEnded M (picture M c) → ⊥
  error_is_no_end error z = none c.fault error z
    where
      none : (q : Option (RunError E)) → is_some q ≡ true → IsEnded M (at_fault (state M c) q) → ⊥
      none None e z = absurd (false≢true e)
      none (Some f) e z = z

  -- else an end is where no task is ready and every cursor is at its log's end
  pub ended_is : is_some c.fault ≡ false → EndsByCursors M → IsEnded M (picture M c) ↔ (NoneIsReady M c × AreDrained c.table)
  ended_is no_error law = by c.fault no_error
    where
      by : (q : Option (RunError E)) → is_some q ≡ false → IsEnded M (at_fault (state M c) q) ↔ (NoneIsReady M c × AreDrained c.table)
      by None e =
          let told = law k.standing.run c.table k.standing.pictured in
          (λ z. let q = told.0 z in (record { blocked = q.0 }, q.1), λ z. told.1 (z.0.blocked, z.1))
      by (Some f) e = absurd (false≢true (sym e))

  -- so where the cursors are there, it is where no task is ready
  pub ended_by_tasks : is_some c.fault ≡ false → EndsByCursors M → AreDrained c.table → (b : Bool) → IsTrue b ↔ NoneIsReady M c → IsTrue b ↔ IsEnded M (picture M c)
  ended_by_tasks no_error law drained b none = let is = ended_is no_error law in (λ z. is.1 (none.0 z, drained), λ z. none.1 (is.0 z).0)
