-- Where tasks stand after a step, over any machine.
use Rattle.std.proofs.Common.{◌≡◌, ℕ, suc, Option, Some, None, refl, sym, ap, subst, ◌∙◌}
use Rattle.std.proofs.lemmas.Option.{same_Some}
use Rattle.lvish_core.specs.Vocabulary.{Label, RunError, Stepped, DoneStep, ErrorStep, Done, Made}
use Rattle.lvish_calculus.specs.Machine.{Machine, IsLawful}
use Rattle.lvish_calculus.specs.Calculus.{Task, Absent, Live, Ended, State, Configuration, Running, Change, Effect, Changes, Fails, Nothing, after, changed, effect, next, with_task}
use Rattle.lvish_names.specs.Names.{Name, main, forked, handed}
use Rattle.lvish_calculus.proofs.Names.{with_task-same, with_task-other}
use Rattle.lvish_calculus.proofs.Steps.{Makes, forks, hands, view}
use Rattle.lvish_picture.specs.Picture.{table_picture}
use Rattle.lvish_core.specs.After.{OthersStay, StartsAsSaid}
use Rattle.lvish_core.specs.Changes.{local_of, moved_by, moved_in}
use Rattle.lvish_core.specs.Core.{CoreView, state, picture, at_fault, says, IsStep}
use Rattle.lvish_core.specs.Blocked.{IsBlockedUntilTouched}
use Rattle.lvish_core.specs.laws.Runs.{no_error_before, at_state, running_same}

-- a task with a local state is live
live_at : {L : Type 0} (k : Task L) (l : L) → local_of k ≡ Some l → (f : ℕ) × (a : ℕ) × (p : ℕ) × (k ≡ Live l f a p)
live_at Absent l e = absurd (cc e)
live_at Ended l e = absurd (cc e)
live_at (Live m f a p) l e = (f, a, p, ap (λ x. Live x f a p) (same_Some _ _ e))

-- a child isn't its parent
child_apart : {E : Type 0} (t : Name E) (i : ℕ) → forked t i ≡ t → ⊥
child_apart main i e = cc e
child_apart (forked u k) i e = let same : forked u k ≡ u = cc in child_apart u k same
child_apart (handed u k x) i e = cc e

module _ {S E R A L : Type 0} (M : Machine S E R A L) (ok : IsLawful M) where
  -- what a change tells of a task that it makes
  begins : (s : State S E L) (l : Label E) (ch : Change S E L) → Makes M s l ch → (m : Made E L) → (moved_by ch).made ≡ Some m → local_of ((changed M ch s).tasks m.name) ≡ Some m.local
  begins s _ _ (forks t o f a p k is q shallow) m e =
      let own = with_task M.event_same (Some (t, Live (M.resume (M.at o) Done) (suc f) a p)) in
      subst (λ (z : Made E L). local_of (own (with_task M.event_same (Some (forked t (suc f), Live k 0 0 0)) s.tasks) z.name) ≡ Some z.local) (same_Some _ _ e)
      (ap local_of (with_task-other M.event_same ok.event_same_is t _ (with_task M.event_same (Some (forked t (suc f), Live k 0 0 0)) s.tasks) (forked t (suc f)) (child_apart t (suc f)) ∙ with_task-same M.event_same ok.event_same_is (forked t (suc f)) (Live k 0 0 0) s.tasks))
  begins s _ _ (hands h x post is) m e =
      subst (λ (z : Made E L). local_of (with_task M.event_same (Some (handed h.adder h.number x, Live (M.start_handler post.procedure x) 0 0 0)) s.tasks z.name) ≡ Some z.local) (same_Some _ _ e)
      (ap local_of (with_task-same M.event_same ok.event_same_is (handed h.adder h.number x) (Live (M.start_handler post.procedure x) 0 0 0) s.tasks))
  begins s _ _ other m e = absurd (cc e)

module _ {P S E R A L : Type 0} (M : Machine S E R A L) where
  -- after an error the table is the one before it
  table_same : (c d : CoreView P S E L) (l : Label E) (said : Stepped) → IsStep M c l d said → (f : RunError E) → d.fault ≡ Some f → d.table ≡ c.table
  table_same c d l said step f is = by said refl (subst (λ q. says (at_fault (state M d) q) said) is step.answer)
    where
      by : (s : Stepped) → said ≡ s → says (at_fault (state M d) (Some f)) s → d.table ≡ c.table
      by DoneStep e z = absurd z
      by (ErrorStep kind) e z = step.shows_before kind e

  pub others_stay : IsBlockedUntilTouched P M → OthersStay P M
  others_stay until c d xs l said run step t at is ne = by d.fault refl
    where
      by : (o : Option (RunError E)) → d.fault ≡ o → local_of ((state M d).tasks t) ≡ Some at
      by None e = let live = live_at ((state M c).tasks t) at is in ap local_of (until c d xs l said run step e t at live.0 live.1 live.2 live.3 ne).0
      by (Some f) e = subst (λ k. local_of ((table_picture M k).tasks t) ≡ Some at) (sym (table_same c d l said step f e)) is

  pub starts_as_said : IsLawful M → StartsAsSaid P M
  starts_as_said ok c d l said moved step told m made = by (effect M (state M c) l) refl
    where
      from : picture M d ≡ after M (state M c) (effect M (state M c) l)
      from = step.stepped ∙ ap (λ (q : Configuration S E L). next M q l) (at_state M c (no_error_before M (state M c) c.fault l step.enabled.0))

      said_so : (o : Effect S E L) → effect M (state M c) l ≡ o → (moved_in o).made ≡ Some m
      said_so o e = sym (ap (λ z. (moved_in z).made) e) ∙ sym (ap (λ z. z.made) told) ∙ made

      running : (ch : Change S E L) (q : Option (RunError E)) → at_fault (state M d) q ≡ Running (changed M ch (state M c)) → state M d ≡ changed M ch (state M c)
      running ch None e = running_same e
      running ch (Some f) e = absurd (cc e)

      by : (o : Effect S E L) → effect M (state M c) l ≡ o → local_of ((state M d).tasks m.name) ≡ Some m.local
      by (Changes ch) e =
          let same = running ch d.fault (from ∙ ap (after M (state M c)) e) in
          subst (λ (s : State S E L). local_of (s.tasks m.name) ≡ Some m.local) (sym same) (begins M ok (state M c) l ch (view M ok (state M c) l ch e) m (said_so (Changes ch) e))
      by (Fails k v u) e = absurd (cc (said_so (Fails k v u) e))
      by Nothing e = absurd (cc (said_so Nothing e))
