-- Two runs whose traces have one text have the same labels.
use Rattle.std.proofs.Common.{◌≡◌, ◌⊎◌, inl, inr, ℕ, ℤ, true, false, List, [], ◌∷◌, ◌++◌, refl, sym, ap, subst, ◌∙◌, arith, append_assoc}
use Rattle.std.proofs.lemmas.Bool.{cases_Bool, both_ways, false≢true}
use Rattle.lvish_names.specs.Names.{Name, main, forked, handed, Handler}
use Rattle.lvish_names.specs.NameText.{name_text}
use Rattle.lvish_names.specs.declared.name_part.NamePart.TheVariants.{Fork as ForkPart, Hand as HandPart}
use Rattle.lvish_calculus.specs.Machine.{Machine, IsLawful, IsBelow}
use Rattle.lvish_calculus.specs.declared.label.Label.{Label}
use Rattle.lvish_calculus.specs.declared.label.Label.TheVariants.{Act, Hand}
use Rattle.lvish_calculus.specs.Calculus.{Absent, State, Configuration, Running, Error, Change, changed, IsOn, IsToHand, IsReadyTask, IsEnabled, IsRun, start, step}
use Rattle.lvish_calculus.specs.Laws.{Reaches}
use Rattle.lvish_calculus.proofs.Steps.{Makes}
use Rattle.lvish_calculus.proofs.Order.{below_le}
use Rattle.lvish_calculus.proofs.Sound.{IsSound}
use Rattle.lvish_calculus.proofs.Keeps.{sound_start, handlers_stay}
use Rattle.lvish_calculus.proofs.Moves.{content_le, not_handed_stays}
use Rattle.lvish_calculus.proofs.Doomed.{cases_label}
use Rattle.lvish_calculus.proofs.Runs.{way_keeps, reached}
use Rattle.lvish_calculus.proofs.CoreRuns.{run_way, on_one}
use Rattle.lvish_calculus.proofs.SameThere.{run_join}
use Rattle.lvish_report.specs.TraceText.{label_line, trace_lines}
use Rattle.lvish_report.specs.Told.{FitsName, FitsLabel, FitLabels, TellsEvents, TextsTellRuns}
use Rattle.lvish_report.proofs.Cuts.{cut_first, first_is, rest_is}
use Rattle.lvish_report.proofs.NamesTold.{no_line, main_alone, forks_told, fork_is_no_hand, hands_told}

module _ {S E R A L : Type 0} (M : Machine S E R A L) (ok : IsLawful M) where
  -- a handed event is below the state of its handler's variable
  abbrev IsKnown : State S E L → Type 0
  IsKnown c = (h : Handler E) (e : E) → c.handed h e ≡ true → (v : ℕ) × IsOn M c h v × IsBelow M e (c.content v)

  known_after : (c : State S E L) (l : Label E) (ch : Change S E L) → Makes M c l ch → IsEnabled M c l → IsSound c → IsKnown c → IsKnown (changed M ch c)
  known_after c l ch m en s k h e z = elim (before (cases_label M ok l (Hand h e))) [
    | inl y ↦ stays (k h e y)
    | inr y ↦ let to : IsToHand M c h e = subst (λ x. IsEnabled M c x) y en in stays (to.variable, to.on, to.below)
  ]
    where
      before : (l ≡ Hand h e) ⊎ (l ≡ Hand h e → ⊥) → (c.handed h e ≡ true) ⊎ (l ≡ Hand h e)
      before (inl y) = inr y
      before (inr ne) = elim (cases_Bool (c.handed h e)) [ inl y ↦ inl y | inr y ↦ absurd (both_ways _ (not_handed_stays M ok c l ch m h e y ne) z) ]

      stays : (v : ℕ) × IsOn M c h v × IsBelow M e (c.content v) → (v : ℕ) × IsOn M (changed M ch c) h v × IsBelow M e ((changed M ch c).content v)
      stays g = (g.0, record { post = g.1.post; is = handlers_stay M ok c l ch m en s h g.1.post g.1.is; of = g.1.of }, below_le M ok e _ _ (content_le M ok c l ch m en s g.0) g.2)

  known : (ls : List (Label E)) (c : State S E L) → Reaches M ls c → IsKnown c
  known ls c r = way_keeps M ok (λ x. IsKnown x) (λ x l ch m en sx. known_after x l ch m en sx) (start M) c ls (sound_start M ok) (run_way M ok ls c r) (λ h e z. absurd (false≢true z))

  module _ (key number : E → ℤ) (tells : TellsEvents M key number) where
    module _ (c : State S E L) (sound : IsSound c) (k : IsKnown c) where
      -- events below the state of one handler's variable
      events_told : (h : Handler E) (v w : ℕ) (e x : E) → IsOn M c h v → IsOn M c h w → IsBelow M e (c.content v) → IsBelow M x (c.content w) → key e ≡ key x → number e ≡ number x → e ≡ x
      events_told h v w e x on also below there a b = tells (c.content v) e x below (subst (λ u. IsBelow M x (c.content u)) (on_one M c h w v also on) there) a b

      -- a task's text tells the task among those that are there
      tasks_told : (t u : Name E) → (c.tasks t ≡ Absent → ⊥) → (c.tasks u ≡ Absent → ⊥) → FitsName key number t → FitsName key number u → name_text key number t ≡ name_text key number u → t ≡ u
      tasks_told main main a b f g e = refl
      tasks_told main (forked u i) a b f g e = absurd (main_alone key number u (ForkPart i) e)
      tasks_told main (handed u i x) a b f g e = absurd (main_alone key number u (HandPart i x) e)
      tasks_told (forked t i) main a b f g e = absurd (main_alone key number t (ForkPart i) (sym e))
      tasks_told (handed t i x) main a b f g e = absurd (main_alone key number t (HandPart i x) (sym e))
      tasks_told (forked t i) (forked u j) a b f g e =
          let s = forks_told key number t u i j f.0 g.0 e in
          let same : t ≡ u = tasks_told t u (sound.parent_known t i a) (sound.parent_known u j b) f.1 g.1 s.0 in
          λ r. forked (same r) (s.1 r)
      tasks_told (forked t i) (handed u j x) a b f g e = absurd (fork_is_no_hand key number t u i j x f.0 g.0 e)
      tasks_told (handed t j x) (forked u i) a b f g e = absurd (fork_is_no_hand key number u t i j x g.0 f.0 (sym e))
      tasks_told (handed t i e) (handed u j x) a b f g q =
          let s = hands_told key number t u i j e x f.0 g.0 q in
          let p = sound.pool_known (handed t i e) (record { adder = t; number = i }) a refl in
          let o = sound.pool_known (handed u j x) (record { adder = u; number = j }) b refl in
          let same : t ≡ u = tasks_told t u (sound.adder_known (record { adder = t; number = i }) p.0 p.1) (sound.adder_known (record { adder = u; number = j }) o.0 o.1) f.1 g.1 s.adders in
          let handler : record { adder = t; number = i } ≡ record { adder = u; number = j } = λ r. record { adder = same r; number = s.handlers r } in
          let one = k (record { adder = t; number = i }) e (sound.hands_known t i e a) in
          let two = k (record { adder = u; number = j }) x (sound.hands_known u j x b) in
          let event : e ≡ x = events_told (record { adder = t; number = i }) one.0 two.0 e x one.1 (subst (λ y. IsOn M c y two.0) (sym handler) two.1) one.2 two.2 s.keys s.numbers in
          λ r. handed (same r) (s.handlers r) (event r)

      is_there : (t : Name E) → IsEnabled M c (Act t) → c.tasks t ≡ Absent → ⊥
      is_there t en z = subst (λ y. IsReadyTask M c y) z en

      -- what is enabled is told by its line, and so is what comes behind the line
      line_told : (l m : Label E) → IsEnabled M c l → IsEnabled M c m → FitsLabel key number l → FitsLabel key number m → (xs ys : List ℕ) → label_line key number l ++ xs ≡ label_line key number m ++ ys → (l ≡ m) × (xs ≡ ys)
      line_told (Act t) (Act u) en em f g xs ys e =
          let s = named t u f g xs ys (rest_is 32 32 _ _ (rest_is 110 110 _ _ (rest_is 117 117 _ _ (rest_is 114 114 _ _ e)))) in
          (ap Act (tasks_told t u (is_there t en) (is_there u em) f g s.0), s.1)
        where
          named : (t u : Name E) → FitsName key number t → FitsName key number u → (xs ys : List ℕ) → (name_text key number t ++ 10 ∷ []) ++ xs ≡ (name_text key number u ++ 10 ∷ []) ++ ys
              → (name_text key number t ≡ name_text key number u) × (xs ≡ ys)
          named t u f g xs ys e = cut_first 10 (name_text key number t) (name_text key number u) xs ys (no_line key number t f) (no_line key number u g)
              (sym (append_assoc (name_text key number t) (10 ∷ []) xs) ∙ e ∙ append_assoc (name_text key number u) (10 ∷ []) ys)
      line_told (Act t) (Hand h x) en em f g xs ys e = let z = first_is 114 104 _ _ e in absurd (omega (arith, z))
      line_told (Hand h x) (Act t) en em f g xs ys e = let z = first_is 104 114 _ _ e in absurd (omega (arith, z))
      line_told (Hand h e) (Hand o x) en em f g xs ys q =
          let n : Name E = handed h.adder h.number e in
          let m : Name E = handed o.adder o.number x in
          let s = named n m f g xs ys (rest_is 32 32 _ _ (rest_is 100 100 _ _ (rest_is 110 110 _ _ (rest_is 97 97 _ _ (rest_is 104 104 _ _ q))))) in
          let d = hands_told key number h.adder o.adder h.number o.number e x f.0 g.0 s.0 in
          let on = en.on in
          let also = em.on in
          let same : h.adder ≡ o.adder = tasks_told h.adder o.adder (sound.adder_known h on.post on.is) (sound.adder_known o also.post also.is) f.1 g.1 d.adders in
          let handler : h ≡ o = λ r. record { adder = same r; number = d.handlers r } in
          let event : e ≡ x = events_told h en.variable em.variable e x en.on (subst (λ y. IsOn M c y em.variable) (sym handler) em.on) en.below em.below d.keys d.numbers in
          (λ r. Hand (handler r) (event r), s.1)
        where
          named : (t u : Name E) → FitsName key number t → FitsName key number u → (xs ys : List ℕ) → (name_text key number t ++ 10 ∷ []) ++ xs ≡ (name_text key number u ++ 10 ∷ []) ++ ys
              → (name_text key number t ≡ name_text key number u) × (xs ≡ ys)
          named t u f g xs ys e = cut_first 10 (name_text key number t) (name_text key number u) xs ys (no_line key number t f) (no_line key number u g)
              (sym (append_assoc (name_text key number t) (10 ∷ []) xs) ∙ e ∙ append_assoc (name_text key number u) (10 ∷ []) ys)

    -- no line is empty
    some_line : (l : Label E) (xs : List ℕ) → [] ≡ label_line key number l ++ xs → ⊥
    some_line (Act t) xs e = cc e
    some_line (Hand h x) xs e = cc e

    told_from : (pre : List (Label E)) (d : Configuration S E L) → IsRun M (Running (start M)) pre d → (xs ys : List (Label E)) (a b : Configuration S E L) → IsRun M d xs a → IsRun M d ys b
        → FitLabels key number xs → FitLabels key number ys → trace_lines key number xs ≡ trace_lines key number ys → xs ≡ ys
    told_from pre d r [] [] a b p q f g e = refl
    told_from pre d r [] (m ∷ ys) a b p q f g e = absurd (some_line m (trace_lines key number ys) e)
    told_from pre d r (l ∷ xs) [] a b p q f g e = absurd (some_line l (trace_lines key number xs) (sym e))
    told_from pre (Running c) r (l ∷ xs) (m ∷ ys) a b p q f g e =
        let s = line_told c (reached M ok pre c r) (known pre c r) l m p.0 q.0 f.0 g.0 (trace_lines key number xs) (trace_lines key number ys) e in
        let rest : xs ≡ ys = told_from (pre ++ l ∷ []) (step M c l) (run_join M pre (l ∷ []) (Running (start M)) (Running c) (step M c l) r (p.0, refl)) xs ys a b p.1
        (subst (λ y. IsRun M (step M c y) ys b) (sym s.0) q.1) f.1 g.1 s.1 in
        λ i. s.0 i ∷ rest i
    told_from pre (Error kind w t) r (l ∷ xs) (m ∷ ys) a b p q f g e = absurd p

  pub texts_tell_runs : (key number : E → ℤ) → TextsTellRuns M key number
  texts_tell_runs key number tells xs ys c d p q f g e = told_from key number tells [] (Running (start M)) refl xs ys c d p q f g e
