-- Where no put and no handler comes too late, each run leads to the end of a run that ends without an error.
use Rattle.std.proofs.Common.{◌≡◌, ◌⊎◌, inl, inr, ◌&&◌, not, ℕ, Bool, true, false, List, Option, Some, None, [], ◌∷◌, ◌++◌, if◌then◌else◌, refl, sym, ◌∙◌, ap, subst}
use Rattle.std.specs.Prelude.{IsPermutation}
use Rattle.std.proofs.lemmas.List.Sorted.{IsPermutation-refl, IsPermutation-cons, IsPermutation-trans}
use Rattle.lvish_names.specs.Names.{Name, Handler, main}
use Rattle.lvish_calculus.specs.declared.label.Label.{Label}
use Rattle.lvish_calculus.specs.declared.label.Label.TheVariants.{Act}
use Rattle.lvish_calculus.specs.declared.request.ErrorKind.{ErrorKind}
use Rattle.lvish_calculus.specs.declared.request.ErrorKind.TheVariants.{Frozen, Late}
use Rattle.lvish_calculus.specs.declared.request.Reply.TheVariants.{Content}
use Rattle.lvish_calculus.specs.Machine.{Machine, IsLawful}
use Rattle.lvish_calculus.specs.Calculus.{Live, State, Configuration, Running, Error, Change, changed, Effect, Changes, Fails, Nothing, effect, after, start, IsRun, IsEnabled, IsEnd, IsDoomed, Freezes}
use Rattle.lvish_calculus.specs.Agreement.{AllLeadToTheEnd}
use Rattle.lvish_calculus.proofs.Steps.{Makes, view, unview, puts, gets, forks, adds, freezes, pauses, ends, hands}
use Rattle.lvish_calculus.proofs.Sound.{IsSound}
use Rattle.lvish_calculus.proofs.Keeps.{sound_after, sound_start}
use Rattle.lvish_calculus.proofs.Moves.{task_stays}
use Rattle.lvish_calculus.proofs.Diamond.{Opens, either, dooms, lost, diamond}
use Rattle.lvish_calculus.proofs.Doomed.{cases_label, doomed_enabled, doomed_not_made}
use Rattle.lvish_calculus.proofs.Ends.{Way, here, goes, Mark, IsMarked, Taken, taken_same, taken_later, marks_local, not_doomed}
use Rattle.lvish_calculus.proofs.Runs.{Fine, fine, step_is}
use Rattle.lvish_calculus.proofs.CoreRuns.{run_way, way_run}
use Rattle.lvish_alike.specs.TooLate.{NeverTooLate}

-- the error of a step that came too late, at a variable
abbrev pub IsTooLate : ErrorKind → Option ℕ → Type 0
IsTooLate kind v = (x : ℕ) × (v ≡ Some x) × ((kind ≡ Frozen) ⊎ (kind ≡ Late))

pub fails_kind : {S E L : Type 0} (k j : ErrorKind) (v w : Option ℕ) (t u : Name E) (x : Effect S E L) → x ≡ Fails k v t → x ≡ Fails j w u → (j ≡ k) × (w ≡ v)
fails_kind k j v w t u x e f = (cc (e, f), cc (e, f))

module _ {S E R A L : Type 0} (M : Machine S E R A L) (ok : IsLawful M) where
  -- a step that makes a change here fails elsewhere only because it comes too late, if its task, the contents and the handlers are the same there
  late_kind : (c d : State S E L) (m : Label E) (chm : Change S E L) → Makes M c m chm
      → ((t : Name E) (l : L) (f a p : ℕ) → m ≡ Act t → c.tasks t ≡ Live l f a p → d.tasks t ≡ Live l f a p) → ((v : ℕ) → d.content v ≡ c.content v) → ((h : Handler E) → d.handlers h ≡ c.handlers h)
      → (kind : ErrorKind) (v : Option ℕ) (t : Name E) → effect M d m ≡ Fails kind v t → IsTooLate kind v
  late_kind c d m chm (puts t l f a p v x s is q j same) task content handler kind w u e =
      by (d.frozen v && not (M.same s (d.content v))) _ (rw (task t l f a p refl is, q, content v, j) at e)
    where
      by : (b : Bool) (ch : Change S E L) → (if b then Fails Frozen (Some v) t else Changes ch) ≡ Fails kind w u → IsTooLate kind w
      by true ch z = let k = fails_kind Frozen kind (Some v) w t u _ refl z in (v, k.1, inl k.0)
      by false ch z = absurd (cc z)
  late_kind c d m chm (gets t l f a p v r x is q j) task content handler kind w u e = absurd (cc (rw (task t l f a p refl is, q, content v, j) at e))
  late_kind c d m chm (forks t l f a p k is q b) task content handler kind w u e = absurd (cc (rw (task t l f a p refl is, q, b) at e))
  late_kind c d m chm (adds t l f a p pool procedure v is q b of z) task content handler kind w u e =
      by (d.frozen v) _ (rw (task t l f a p refl is, q, b, of) at e)
    where
      by : (b : Bool) (ch : Change S E L) → (if b then Fails Late (Some v) t else Changes ch) ≡ Fails kind w u → IsTooLate kind w
      by true ch z = let k = fails_kind Late kind (Some v) w t u _ refl z in (v, k.1, inr k.0)
      by false ch z = absurd (cc z)
  late_kind c d m chm (freezes t l f a p v pools is q) task content handler kind w u e = absurd (cc (rw (task t l f a p refl is, q) at e))
  late_kind c d m chm (pauses t l f a p is q) task content handler kind w u e = absurd (cc (rw (task t l f a p refl is, q) at e))
  late_kind c d m chm (ends t l f a p is q) task content handler kind w u e = absurd (cc (rw (task t l f a p refl is, q) at e))
  late_kind c d m chm (hands h x post is) task content handler kind w u e = absurd (cc (rw (handler h, is) at e))

  -- from here on no run is in error because a step comes too late
  abbrev NoneTooLate : State S E L → Type 0
  NoneTooLate c = (xs : List (Label E)) (kind : ErrorKind) (v : Option ℕ) (t : Name E) → IsRun M (Running c) xs (Error kind v t) → IsTooLate kind v → ⊥

  none_after : (c : State S E L) (m : Label E) (ch : Change S E L) → Makes M c m ch → IsEnabled M c m → NoneTooLate c → NoneTooLate (changed M ch c)
  none_after c m ch mm en none xs kind v t run = none (m ∷ xs) kind v t (en, subst (λ x. IsRun M x xs (Error kind v t)) (sym (step_is M ok c m ch mm)) run)

  -- the change that a freeze makes
  abbrev pub opening : Name E → L → ℕ → ℕ → ℕ → ℕ → S → Change S E L
  opening t l f a p v x = record { own = Some (t, Live (M.resume (M.at l) (Content x)) f a p); made = None; added = None; joined = None; froze = Some v; handing = None }

  pub freeze_change : (c : State S E L) (l : Label E) (chl : Change S E L) → Makes M c l chl → (v : ℕ) (fr : Freezes M c l v) → chl ≡ opening fr.task fr.local fr.forks fr.adds fr.puts v (c.content v)
  freeze_change c l chl ml v fr =
      let e : Changes chl ≡ Changes (opening fr.task fr.local fr.forks fr.adds fr.puts v (c.content v)) = sym (unview M ok c l chl ml) ∙ rw (fr.label, fr.is, fr.asked) refl in
      cc e

  -- it keeps contents and handlers
  opened : (c : State S E L) (l : Label E) (chl : Change S E L) → Makes M c l chl → Opens M c l → ((v : ℕ) → (changed M chl c).content v ≡ c.content v) × ((h : Handler E) → (changed M chl c).handlers h ≡ c.handlers h)
  opened c l chl ml o =
      let is = freeze_change c l chl ml o.variable o.freezes in
      (λ v. ap (λ (x : Change S E L). (changed M x c).content v) is, λ h. ap (λ (x : Change S E L). (changed M x c).handlers h) is)

  -- no freeze comes before a step that fails after it
  no_loss : (c : State S E L) (l m : Label E) (chl chm : Change S E L) → IsSound c → Makes M c l chl → IsEnabled M c l → Makes M c m chm → IsEnabled M c m → (l ≡ m → ⊥)
      → Opens M c l → (doom : IsDoomed M (changed M chl c)) → m ≡ Act (doom.task) → NoneTooLate c → ⊥
  no_loss c l m chl chm s ml enl mm enm ne o doom q none = by _ refl
    where
      by : (x : Effect S E L) → effect M (changed M chl c) (Act (doom.task)) ≡ x → ⊥
      by (Changes ch) e = doomed_not_made M ok (changed M chl c) doom (Act (doom.task)) ch (view M ok (changed M chl c) (Act (doom.task)) ch e) refl
      by (Fails kind v t) e =
          let keeps = opened c l chl ml o in
          let run : IsRun M (Running c) (l ∷ Act (doom.task) ∷ []) (Error kind v t) =
          (enl, subst (λ x. IsRun M x (Act (doom.task) ∷ []) (Error kind v t)) (sym (step_is M ok c l chl ml)) (doomed_enabled M ok (changed M chl c) doom, ap (λ z. after M (changed M chl c) z) e)) in
          none (l ∷ Act (doom.task) ∷ []) kind v t run
          (late_kind c (changed M chl c) m chm mm (λ t l2 f a p is at. task_stays M ok c l chl ml enl s t l2 f a p at (λ z. ne (z ∙ sym is))) keeps.0 keeps.1 kind v t (subst (λ x. effect M (changed M chl c) x ≡ Fails kind v t) (sym q) e))
      by Nothing e = absurd (subst (λ z. Fine M ok (changed M chl c) z) e (fine M ok (changed M chl c) (Act (doom.task)) (doomed_enabled M ok (changed M chl c) doom)))

  -- an enabled step can be taken from a run that ends without an error
  take_early : (c d : State S E L) (l : Label E) (ls : List (Label E)) (chl : Change S E L) → IsSound c → NoneTooLate c → (ml : Makes M c l chl) (enl : IsEnabled M c l)
      → (w : Way M c ls d) → IsEnd M d → Taken M ok Mark (IsMarked M main) w l chl
  take_early c d l [] chl s none ml enl here end = absurd (end l enl)
  take_early c d l (m ∷ ls) chl s none ml enl (goes chm mm enm w) end = elim (cases_label M ok l m) [
    | inl e ↦ taken_same M ok Mark (IsMarked M main) (marks_local M ok main) c d l m ls chl chm ml mm enm w e
    | inr ne ↦
        let s2 = sound_after M ok c m chm mm enm s in
        elim (diamond M ok c s l chl ml enl m chm mm enm ne) [
          | either ml2 el2 mm2 em2 swap ↦
              taken_later M ok Mark (IsMarked M main) (marks_local M ok main) c d l m ls chl chm s ml enl mm enm ne mm2 em2 swap w
              (take_early (changed M chm c) d l ls chl s2 (none_after c m chm mm enm none) ml2 el2 w end)
          | dooms doom _ ↦ absurd (not_doomed M ok (changed M chm c) d ls s2 w end doom)
          | lost o doom q ↦ absurd (no_loss c l m chl chm s ml enl mm enm ne o doom q none)
        ]
  ]

  abbrev LeadsTo : State S E L → Configuration S E L → List (Label E) → List (Label E) → Type 0
  LeadsTo a last ys xs = (zs : List (Label E)) × IsRun M last zs (Running a) × IsPermutation xs (ys ++ zs)

  leads_step : (c a : State S E L) (m : Label E) (ys xs : List (Label E)) (last : Configuration S E L) → IsSound c → NoneTooLate c → Way M c xs a → IsEnd M a → IsEnabled M c m
      → ((c1 : State S E L) (ws : List (Label E)) → IsSound c1 → NoneTooLate c1 → Way M c1 ws a → IsRun M (Running c1) ys last → LeadsTo a last ys ws)
      → (o : Effect S E L) → effect M c m ≡ o → IsRun M (after M c o) ys last → LeadsTo a last (m ∷ ys) xs
  leads_step c a m ys xs last s none w end en ih (Changes ch) e run =
      let mm = view M ok c m ch e in
      let r = take_early c a m xs ch s none mm en w end in
      let g = ih (changed M ch c) r.rest (sound_after M ok c m ch mm en s) (none_after c m ch mm en none) r.way run in
      (g.0, g.1, IsPermutation-trans xs (m ∷ r.rest) (m ∷ (ys ++ g.0)) r.same (IsPermutation-cons m r.rest (ys ++ g.0) g.2))
  leads_step c a m ys xs last s none w end en ih (Fails kind v t) e run =
      absurd (not_doomed M ok c a xs s w end (subst (λ o. Fine M ok c o) e (fine M ok c m en)))
  leads_step c a m ys xs last s none w end en ih Nothing e run = absurd (subst (λ o. Fine M ok c o) e (fine M ok c m en))

  leads : (c a : State S E L) (ys xs : List (Label E)) (last : Configuration S E L) → IsSound c → NoneTooLate c → Way M c xs a → IsEnd M a → IsRun M (Running c) ys last → LeadsTo a last ys xs
  leads c a [] xs last s none w end run = (xs, subst (λ d. IsRun M d xs (Running a)) run (way_run M ok c a xs w), IsPermutation-refl xs)
  leads c a (m ∷ ys) xs last s none w end run = leads_step c a m ys xs last s none w end run.0 (λ c1 ws s1 n1 w1 r. leads c1 a ys ws last s1 n1 w1 end r) _ refl run.1

  pub all_lead_early : NeverTooLate M → AllLeadToTheEnd M
  all_lead_early never xs a ra end ys e run = leads (start M) a ys xs e (sound_start M ok)
      (λ zs kind v t r late. let z = never zs kind late.0 t (subst (λ x. IsRun M (Running (start M)) zs (Error kind x t)) late.1 r) in elim late.2 [ inl k ↦ z.0 k | inr k ↦ z.1 k ]) (run_way M ok xs a ra) end run
