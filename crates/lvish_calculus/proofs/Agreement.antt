-- That runs agree, without freezing or where no run errs.
use Rattle.std.proofs.Common.{◌≡◌, ◌≢◌, ◌⊎◌, inl, inr, ℕ, List, Option, [], ◌∷◌, ◌++◌, append-nil, refl, sym, ◌∙◌, ap, subst}
use Rattle.std.specs.Prelude.{IsPermutation}
use Rattle.std.proofs.lemmas.List.Sorted.{IsPermutation-refl, IsPermutation-cons, IsPermutation-trans}
use Rattle.lvish_names.specs.Names.{Name, main}
use Rattle.lvish_calculus.specs.Machine.{Machine, IsLawful, Freeze, ErrorKind}
use Rattle.lvish_calculus.specs.Calculus.{State, Configuration, Running, Error, Live, Label, Act, Change, changed, Effect, Changes, Fails, Nothing, effect, after, start, IsRun, IsEnabled, IsEnd, IsDoomed, step}
use Rattle.lvish_calculus.specs.Agreement.{NeverAsksFreeze, IsFinal, IsError, AgreeOrErr, AllLeadToTheEnd, AgreeOrSomeErrs, AllLeadOrSomeErrs, CommuteOrErr}
use Rattle.lvish_calculus.proofs.Steps.{Makes, view}
use Rattle.lvish_calculus.proofs.Sound.{IsSound}
use Rattle.lvish_calculus.proofs.Keeps.{sound_after, sound_start}
use Rattle.lvish_calculus.proofs.Diamond.{either, dooms, lost, diamond}
use Rattle.lvish_calculus.proofs.Doomed.{cases_label, doomed_enabled, doomed_not_made}
use Rattle.lvish_calculus.proofs.Ends.{Way, here, goes, Mark, IsMarked, Taken, taken_same, taken_later, take, marks_local, not_doomed}
use Rattle.lvish_calculus.proofs.Runs.{Fine, fine, step_is, made_by, reached}
use Rattle.lvish_calculus.proofs.CoreRuns.{run_way, way_run}

module _ {S E R A L : Type 0} (M : Machine S E R A L) (ok : IsLawful M) where
  -- no task asks to freeze from here on
  abbrev NoneAsks : State S E L → Type 0
  NoneAsks c = (ls : List (Label E)) (d : State S E L) → Way M c ls d → (t : Name E) (l : L) (f a p : ℕ) → d.tasks t ≡ Live l f a p → (v : ℕ) (pools : List ℕ) → M.request l ≢ Freeze v pools

  abbrev LeadsTo : State S E L → Configuration S E L → List (Label E) → List (Label E) → Type 0
  LeadsTo a last ys xs = (zs : List (Label E)) × IsRun M last zs (Running a) × IsPermutation xs (ys ++ zs)

  leads_step : (c a : State S E L) (m : Label E) (ys xs : List (Label E)) (last : Configuration S E L) → IsSound c → NoneAsks c → Way M c xs a → IsEnd M a → IsEnabled M c m
      → ((c1 : State S E L) (ws : List (Label E)) → IsSound c1 → NoneAsks c1 → Way M c1 ws a → IsRun M (Running c1) ys last → LeadsTo a last ys ws)
      → (o : Effect S E L) → effect M c m ≡ o → IsRun M (after M c o) ys last → LeadsTo a last (m ∷ ys) xs
  leads_step c a m ys xs last s none w end en ih (Changes ch) e run =
      let mm = view M ok c m ch e in
      let r = take M ok Mark (IsMarked M main) (marks_local M ok main) c a m xs ch s mm en
      (inl (λ o. let fr = o.freezes in none [] c here fr.task fr.local fr.forks fr.adds fr.puts fr.is o.variable fr.pools fr.asked)) w end in
      let g = ih (changed M ch c) r.rest (sound_after M ok c m ch mm en s) (λ ls d v. none (m ∷ ls) d (goes ch mm en v)) r.way run in
      (g.0, g.1, IsPermutation-trans xs (m ∷ r.rest) (m ∷ (ys ++ g.0)) r.same (IsPermutation-cons m r.rest (ys ++ g.0) g.2))
  leads_step c a m ys xs last s none w end en ih (Fails kind v t) e run =
      absurd (not_doomed M ok c a xs s w end (subst (λ o. Fine M ok c o) e (fine M ok c m en)))
  leads_step c a m ys xs last s none w end en ih Nothing e run = absurd (subst (λ o. Fine M ok c o) e (fine M ok c m en))

  leads : (c a : State S E L) (ys xs : List (Label E)) (last : Configuration S E L) → IsSound c → NoneAsks c → Way M c xs a → IsEnd M a → IsRun M (Running c) ys last → LeadsTo a last ys xs
  leads c a [] xs last s none w end run = (xs, subst (λ d. IsRun M d xs (Running a)) run (way_run M ok c a xs w), IsPermutation-refl xs)
  leads c a (m ∷ ys) xs last s none w end run = leads_step c a m ys xs last s none w end run.0 (λ c1 ws s1 n1 w1 r. leads c1 a ys ws last s1 n1 w1 end r) _ refl run.1

  pub all_lead_to_the_end : NeverAsksFreeze M → AllLeadToTheEnd M
  all_lead_to_the_end none xs a ra end ys e run =
      leads (start M) a ys xs e (sound_start M ok) (λ ls d w. none ls d (way_run M ok (start M) d ls w)) (run_way M ok xs a ra) end run

  no_more : (d : Configuration S E L) (zs : List (Label E)) (a : State S E L) → IsRun M d zs (Running a) → IsFinal M d → (d ≡ Running a) × (zs ≡ [])
  no_more d [] a run final = (run, refl)
  no_more (Running c) (l ∷ zs) a run final = absurd (final l run.0)
  no_more (Error kind v t) (l ∷ zs) a run final = absurd run

  pub agree_or_err : NeverAsksFreeze M → AgreeOrErr M
  agree_or_err none xs ys (Running a) e rx ry finalx finaly =
      let g = all_lead_to_the_end none xs a rx finalx ys e ry in
      let z = no_more e g.0 a g.1 finaly in
      inl (sym z.0, subst (λ q. IsPermutation xs q) (ap (λ q. ys ++ q) z.1 ∙ append-nil ys) g.2)
  agree_or_err none xs ys (Error kind v t) (Running b) rx ry finalx finaly =
      let g = all_lead_to_the_end none ys b ry finaly xs (Error kind v t) rx in
      let z = no_more (Error kind v t) g.0 b g.1 finalx in
      absurd (cc z.0)
  agree_or_err none xs ys (Error kind v t) (Error k w u) rx ry finalx finaly = inr (tt, tt)

  -- ---- where no run errs

  -- a run from here to an error
  record Errs (c : State S E L) : Type 0 where
    labels : List (Label E)
    kind : ErrorKind
    variable : Option ℕ
    task : Name E
    is : IsRun M (Running c) labels (Error kind variable task)

  errs_before : (c : State S E L) (m : Label E) (ch : Change S E L) → Makes M c m ch → IsEnabled M c m → Errs (changed M ch c) → Errs c
  errs_before c m ch mm en z = record {
    labels = m ∷ z.labels;
    kind = z.kind;
    variable = z.variable;
    task = z.task;
    is = (en, subst (λ x. IsRun M x z.labels (Error z.kind z.variable z.task)) (sym (step_is M ok c m ch mm)) z.is);
  }

  doom_errs : (c : State S E L) → (d : IsDoomed M c) → (o : Effect S E L) → effect M c (Act (d.task)) ≡ o → Errs c
  doom_errs c d (Changes ch) e = absurd (doomed_not_made M ok c d (Act (d.task)) ch (view M ok c (Act (d.task)) ch e) refl)
  doom_errs c d (Fails kind v t) e = record { labels = Act (d.task) ∷ []; kind = kind; variable = v; task = t; is = (doomed_enabled M ok c d, ap (λ o. after M c o) e) }
  doom_errs c d Nothing e = absurd (subst (λ o. Fine M ok c o) e (fine M ok c (Act (d.task)) (doomed_enabled M ok c d)))

  -- an enabled step can be taken from a run that ends without an error, or some run errs
  take_or : (c d : State S E L) (l : Label E) (ls : List (Label E)) (chl : Change S E L) → IsSound c → (ml : Makes M c l chl) (enl : IsEnabled M c l)
      → (w : Way M c ls d) → IsEnd M d → Taken M ok Mark (IsMarked M main) w l chl ⊎ Errs c
  take_or c d l [] chl s ml enl here end = absurd (end l enl)
  take_or c d l (m ∷ ls) chl s ml enl (goes chm mm enm w) end = elim (cases_label M ok l m) [
    | inl e ↦ inl (taken_same M ok Mark (IsMarked M main) (marks_local M ok main) c d l m ls chl chm ml mm enm w e)
    | inr ne ↦
        let s2 = sound_after M ok c m chm mm enm s in
        elim (diamond M ok c s l chl ml enl m chm mm enm ne) [
          | either ml2 el2 mm2 em2 swap ↦ elim (take_or (changed M chm c) d l ls chl s2 ml2 el2 w end) [
            | inl r ↦ inl (taken_later M ok Mark (IsMarked M main) (marks_local M ok main) c d l m ls chl chm s ml enl mm enm ne mm2 em2 swap w r)
            | inr z ↦ inr (errs_before c m chm mm enm z)
          ]
          | dooms doom _ ↦ absurd (not_doomed M ok (changed M chm c) d ls s2 w end doom)
          | lost o doom _ ↦ inr (errs_before c l chl ml enl (doom_errs (changed M chl c) doom _ refl))
        ]
  ]

  leads_or_step : (c a : State S E L) (m : Label E) (ys xs : List (Label E)) (last : Configuration S E L) → IsSound c → Way M c xs a → IsEnd M a → IsEnabled M c m
      → ((c1 : State S E L) (ws : List (Label E)) → IsSound c1 → Way M c1 ws a → IsRun M (Running c1) ys last → LeadsTo a last ys ws ⊎ Errs c1)
      → (o : Effect S E L) → effect M c m ≡ o → IsRun M (after M c o) ys last → LeadsTo a last (m ∷ ys) xs ⊎ Errs c
  leads_or_step c a m ys xs last s w end en ih (Changes ch) e run =
      let mm = view M ok c m ch e in
      elim (take_or c a m xs ch s mm en w end) [
        | inr z ↦ inr z
        | inl r ↦ elim (ih (changed M ch c) r.rest (sound_after M ok c m ch mm en s) r.way run) [
          | inr z ↦ inr (errs_before c m ch mm en z)
          | inl g ↦
              inl (g.0, g.1, IsPermutation-trans xs (m ∷ r.rest) (m ∷ (ys ++ g.0)) r.same (IsPermutation-cons m r.rest (ys ++ g.0) g.2))
        ]
      ]
  leads_or_step c a m ys xs last s w end en ih (Fails kind v t) e run =
      absurd (not_doomed M ok c a xs s w end (subst (λ o. Fine M ok c o) e (fine M ok c m en)))
  leads_or_step c a m ys xs last s w end en ih Nothing e run = absurd (subst (λ o. Fine M ok c o) e (fine M ok c m en))

  leads_or : (c a : State S E L) (ys xs : List (Label E)) (last : Configuration S E L) → IsSound c → Way M c xs a → IsEnd M a → IsRun M (Running c) ys last → LeadsTo a last ys xs ⊎ Errs c
  leads_or c a [] xs last s w end run = inl (xs, subst (λ d. IsRun M d xs (Running a)) run (way_run M ok c a xs w), IsPermutation-refl xs)
  leads_or c a (m ∷ ys) xs last s w end run = leads_or_step c a m ys xs last s w end run.0 (λ c1 ws s1 w1 r. leads_or c1 a ys ws last s1 w1 end r) _ refl run.1

  pub all_lead_or_some_errs : AllLeadOrSomeErrs M
  all_lead_or_some_errs xs a ra end ys e run = elim (leads_or (start M) a ys xs e (sound_start M ok) (run_way M ok xs a ra) end run) [
    | inl g ↦ inl g
    | inr z ↦ inr (record { labels = z.labels; kind = z.kind; variable = z.variable; task = z.task; is = z.is })
  ]

  pub agree_or_some_errs : AgreeOrSomeErrs M
  agree_or_some_errs xs ys (Error kind v t) e rx ry finalx finaly = inr (record { labels = xs; kind = kind; variable = v; task = t; is = rx })
  agree_or_some_errs xs ys (Running a) e rx ry finalx finaly = elim (all_lead_or_some_errs xs a rx finalx ys e ry) [
    | inr z ↦ inr z
    | inl g ↦
        let z = no_more e g.0 a g.1 finaly in
        inl (sym z.0, subst (λ q. IsPermutation xs q) (ap (λ q. ys ++ q) z.1 ∙ append-nil ys) g.2)
  ]

  -- ---- two steps

  doomed_step : (c : State S E L) → (d : IsDoomed M c) → (o : Effect S E L) → effect M c (Act (d.task)) ≡ o → IsError M (after M c o)
  doomed_step c d (Changes ch) e = absurd (doomed_not_made M ok c d (Act (d.task)) ch (view M ok c (Act (d.task)) ch e) refl)
  doomed_step c d (Fails kind v t) e = tt
  doomed_step c d Nothing e = absurd (subst (λ o. Fine M ok c o) e (fine M ok c (Act (d.task)) (doomed_enabled M ok c d)))

  -- the step of a doomed task is enabled, and an error
  fails : (c : State S E L) → (d : IsDoomed M c) → (l : Label E) → l ≡ Act (d.task) → IsEnabled M c l × IsError M (step M c l)
  fails c d l q = subst (λ x. IsEnabled M c x × IsError M (step M c x)) (sym q) (doomed_enabled M ok c d, doomed_step c d _ refl)

  pub commute_or_err : CommuteOrErr M
  commute_or_err ls c c1 c2 l m run ne enl enm stl stm =
      let a = made_by M ok c c1 l enl _ refl stl in
      let b = made_by M ok c c2 m enm _ refl stm in
      let G : State S E L → State S E L → Type 0 = λ x y. ((d : State S E L) × IsEnabled M x m × IsEnabled M y l × (step M x m ≡ Running d) × (step M y l ≡ Running d))
      ⊎ ((IsEnabled M x m × IsError M (step M x m)) ⊎ (IsEnabled M y l × IsError M (step M y l))) in
      let g : G (changed M a.change c) (changed M b.change c) = elim (diamond M ok c (reached M ok ls c run) l a.change a.makes enl m b.change b.makes enm ne) [
        | either ml2 el2 mm2 em2 swap ↦ inl (changed M a.change (changed M b.change c), em2, el2, step_is M ok _ m b.change mm2 ∙ ap Running swap, step_is M ok _ l a.change ml2)
        | dooms d q ↦ inr (inr (fails (changed M b.change c) d l q))
        | lost o d q ↦ inr (inl (fails (changed M a.change c) d m q))
      ] in
      subst (λ x. G x c2) (sym a.is) (subst (λ y. G (changed M a.change c) y) (sym b.is) g)
