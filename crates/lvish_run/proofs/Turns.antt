-- The turns of a run.
use Rattle.std.proofs.Common.{◌≡◌, ◌↔◌, inl, inr, ◌%◌, ℕ, Bool, true, false, List, [], ◌∷◌, ◌++◌, length, slice_get, Option, Some, None, MatchOption, Ordering, sym, ap, ◌∙◌, subst, Equal}
use Rattle.lvish_names.specs.NameOrder.{name_cmp, handler_cmp}
use Rattle.lvish_calculus.specs.declared.label.Label.{Label}
use Rattle.lvish_calculus.specs.declared.label.Label.TheVariants.{Act, Hand}
use Rattle.lvish_calculus.specs.Machine.{Machine}
use Rattle.lvish_names.specs.Names.{Name, Handler}
use Rattle.lvish_calculus.specs.Handing.{IsAmong}
use Rattle.lvish_core.specs.Core.{CoreView, CanTake, IsNext}
use Rattle.lvish_core.specs.CoreLaws.{HandsOneEvent, HandsWhatComes}
use Rattle.lvish_core.specs.Labels.{AreLabels}
use Rattle.lvish_board.specs.Acts.{entry_of}
use Rattle.lvish_board.specs.Listed.{IsListed}
use Rattle.lvish_board.specs.declared.work.Work.{Work}
use Rattle.lvish_trace.specs.Traced.{labels_of}
use Rattle.lvish_board.specs.Board.{Standing, IsBoardSound, IsBlocked}
use Rattle.lvish_board.specs.Stand.{TaskStand}
use Rattle.lvish_run.specs.Agenda.{Agenda, open_in, NoTask, IsTaskGone, IsHandlerGone, IsBeside}
use Rattle.lvish_run.specs.Walk.{IsStuck, IsDrawn, IsFirstEnabled, IsIdle, IsMade, IsActed, IsHandTurn, IsFirstHandler, IsTurn}
use Rattle.lvish_run.proofs.Reports.{chosen_can}
use Rattle.lvish_board.proofs.Handing.{hand_open}
use Rattle.lvish_run.proofs.Firsts.{lowest_task, lowest_handler, without_handler, drained}

-- the event that a handing handed, by another name
pub handing_made : {P' P B S L R A W E Ans : Type 0} {cmp : E → E → Ordering} {M : Machine S E R Ans L} {old new : Standing P' S E L} {h : Handler E} {e f : E} {ws : List (Work P B S L R A W E)} → e ≡ f
    → new.trace ≡ old.trace ++ entry_of 0 (Hand h e) ∷ [] → IsListed cmp M old (Hand h e) new ws → IsMade cmp M old (Hand h f) new ws
handing_made {cmp = cmp} {M = M} {old = old} {new = new} {h = h} {ws = ws} same entered listed = subst (λ x. IsMade cmp M old (Hand h x) new ws) same (record { entered = entered; listed = listed })

-- ---- labels that picks name

-- the label that a pick names, of all labels
pub drawn_by : {P S E R A L : Type 0} (cmp : E → E → Ordering) (machine : P → Machine S E R A L) (p : P) (c core : CoreView P S E L) (n : ℕ) (ls : List (Label E)) (o : Option (Label E)) → core ≡ c → c.program ≡ p → AreLabels cmp (machine core.program) core ls
    → MatchOption o (ls ≡ []) (λ l. slice_get ls (n % length ls) ≡ Some l) → MatchOption o (IsStuck (machine p) c) (λ l. IsDrawn cmp (machine p) c n l)
drawn_by {E = E} cmp machine p c core n ls o same is are h = by o h
  where
    labels : AreLabels cmp (machine p) c ls
    labels = subst (λ q. AreLabels cmp (machine q) c ls) is (subst (λ k. AreLabels cmp (machine k.program) k ls) same are)

    by : (o : Option (Label E)) → MatchOption o (ls ≡ []) (λ l. slice_get ls (n % length ls) ≡ Some l) → MatchOption o (IsStuck (machine p) c) (λ l. IsDrawn cmp (machine p) c n l)
    by (Some l) at = record { all = ls; labels = labels; chosen = at }
    by None e = λ l can. subst (λ ks. IsAmong l ks) e ((labels.just l).1 can)

module _ {P S E R A L : Type 0} (cmp : E → E → Ordering) (M : Machine S E R A L) where
  -- what is drawn can be taken
  pub drawn_can : (c : CoreView P S E L) (n : ℕ) (l : Label E) → IsDrawn cmp M c n l → CanTake M c l
  drawn_can c n l d = chosen_can M c cmp d.all (n % length d.all) l d.labels d.chosen

  pub drawn_act : (s r : Standing P S E L) (n : ℕ) (t u : Name E) → IsDrawn cmp M s.core n (Act t) → u ≡ t → (made : Bool) → IsActed M s u made r → IsTurn cmp M (Some n) s made r
  drawn_act s r n t u d same true z = (Act u, subst (λ v. IsDrawn cmp M s.core n (Act v)) (sym same) d, z.1)
  drawn_act s r n t u d same false z = (
    z.0,
    elim z.1 [
      | inl over ↦ inl over
      | inr cannot ↦ absurd (cannot (subst (λ v. CanTake M s.core (Act v)) (sym same) (drawn_can s.core n (Act t) d)))
    ],
  )

  pub drawn_hand : (s r : Standing P S E L) (n : ℕ) (h : Handler E) (e : E) → IsDrawn cmp M s.core n (Hand h e) → (made : Bool) → IsHandTurn s (Hand h e) made r → IsTurn cmp M (Some n) s made r
  drawn_hand s r n h e d true z = (Hand h e, d, z)
  drawn_hand s r n h e d false z = (z.0, inl z.1)

  -- ---- the first labels

  -- the first handler's turn
  pub first_handed : (s r : Standing P S E L) (h : Handler E) (a : Agenda E L) (first : IsFirstHandler cmp M s h a) → (made : Bool) → IsHandTurn s (Hand h first.event) made r → IsTurn cmp M None s made r
  first_handed s r h a first true z = (Hand h first.event, first.lowest, z)
  first_handed s r h a first false z = (z.0, inl z.1)

  -- a turn after tasks were parked
  pub turn_after : (s q r : Standing P S E L) → IsIdle s q → (made : Bool) → IsTurn cmp M None q made r → IsTurn cmp M None s made r
  turn_after s q r idle true z = (z.0, subst (λ c. IsFirstEnabled cmp M c z.0) idle.core z.1, z.2 ∙ ap (λ t. t ++ entry_of 0 z.0 ∷ []) idle.trace)
  turn_after s q r idle false z = (
    record { trace = z.0.trace ∙ idle.trace; core = z.0.core ∙ idle.core },
    elim z.1 [
      | inl over ↦ inl over
      | inr stuck ↦ inr (subst (λ c. IsStuck M c) idle.core stuck)
    ],
  )

  -- the step of the first task that can go on
  pub first_acted : ((t u : Name E) → (name_cmp cmp t u ≡ Equal) ↔ (t ≡ u)) → (s q r : Standing P S E L) → IsIdle s q → (a b : Agenda E L) → ((p : TaskStand E L) → IsAmong p q.parked → IsBlocked M q.core p) → IsBeside M q None None (open_in cmp a)
      → (p : TaskStand E L) → IsTaskGone cmp (open_in cmp a) p (open_in cmp b) → IsActed M q p.task true r → IsTurn cmp M None s true r
  first_acted exact s q r idle a b blocked beside p gone z = turn_after s q r idle true (Act p.task, lowest_task M q (open_in cmp a) blocked beside cmp exact p (open_in cmp b) gone z.0, z.1)

  -- ---- the first handler

  module _ (program : P) (budget : ℕ) (s : Standing P S E L) (sound : IsBoardSound M program budget s) (over : s.over ≡ None) (a b : Agenda E L) (beside : IsBeside M s None None (open_in cmp a)) (tasks : NoTask (open_in cmp a)) (comes : HandsWhatComes P M) (one : HandsOneEvent P M)
      (exact : (h k : Handler E) → (handler_cmp cmp h k ≡ Equal) ↔ (h ≡ k)) (h : Handler E) (gone : IsHandlerGone cmp (open_in cmp a) h (open_in cmp b)) where
    pub first_handler : (e : E) → IsNext M.event_same s.core.table h e → IsFirstHandler cmp M s h b
    first_handler e next = record {
      event = e;
      next = next;
      lowest = lowest_handler M s (open_in cmp a) sound.blocked beside cmp exact tasks h (open_in cmp b) gone e (hand_open M comes program budget s sound over h e next)
          (λ f can. one s.core (labels_of s.trace) sound.leads h f e can next);
      beside = without_handler M s cmp (open_in cmp a) (open_in cmp b) beside exact h gone.without;
    }

    pub next_handler : ((e : E) → IsNext M.event_same s.core.table h e → ⊥) → IsBeside M s None None (open_in cmp b) × NoTask (open_in cmp b)
    next_handler nothing = (
      drained M s (open_in cmp b) h (λ z. nothing z.0 z.1) (without_handler M s cmp (open_in cmp a) (open_in cmp b) beside exact h gone.without),
      λ t. ap (λ f. f t) gone.without.at ∙ tasks t,
    )
