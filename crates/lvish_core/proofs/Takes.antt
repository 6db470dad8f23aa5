-- Which labels a core can take.
use Rattle.std.proofs.Common.{◌≡◌, ◌↔◌, ℕ, ◌<◌, List, [], ◌∷◌, ◌++◌, length, Option, Some, None, slice_get, refl, sym, ◌∙◌, subst, arith}
use Rattle.lvish_core.specs.Vocabulary.{Label, Act, Hand, Held}
use Rattle.lvish_calculus.specs.Machine.{Machine, IsLawful}
use Rattle.lvish_calculus.specs.Calculus.{Running, CanStep, IsEnabled}
use Rattle.lvish_names.specs.Names.{Handler}
use Rattle.lvish_calculus.specs.Handing.{HandsOldestFirst}
use Rattle.lvish_variable.specs.Variable.{VariableView as Variable, logged}
use Rattle.lvish_handlers.specs.Handlers.{HandlersView as Handlers, next_of}
use Rattle.lvish_picture.specs.Picture.{IsPictured}
use Rattle.lvish_picture.specs.Laws.{IsOrdered, IsHandlerSeated, PostsAreHeld, HandsBelowTheEnd, HandsTheNext, HandsTheHeld}
use Rattle.lvish_calculus.proofs.CoreRuns.{core_act}
use Rattle.lvish_picture.proofs.Slots.{among, get_there}
use Rattle.lvish_picture.proofs.Tables.{logged_len}
use Rattle.lvish_picture.proofs.Hands.{next_is}
use Rattle.lvish_core.specs.Core.{CoreView, picture, state, IsRunTo, IsNext, CanTake}
use Rattle.lvish_core.specs.CoreLaws.{TakesCoreRuns, TakesSomething, HandsOneEvent, HandsWhatComes}
use Rattle.lvish_core.proofs.Coming.{coming, next_one}
use Rattle.lvish_core.specs.laws.Runs.{no_error_before, at_state, pictured_by}

module _ {S E R A L : Type 0} (M : Machine S E R A L) (ok : IsLawful M) where
  module _ {P : Type 0} (c : CoreView P S E L) (xs : List (Label E)) (k : IsRunTo M c xs) (none : c.fault ≡ None) (ord : IsOrdered M) (below : HandsBelowTheEnd M) (next : HandsTheNext M) (held : HandsTheHeld M) where
    running : picture M c ≡ Running (state M c)
    running = at_state M c none

    pictured : IsPictured M c.table xs
    pictured = pictured_by M c xs none k

    can : (l : Label E) → CanStep M (picture M c) l → IsEnabled M (state M c) l
    can l h = subst (λ d. CanStep M d l) running h

    can_back : (l : Label E) → IsEnabled M (state M c) l → CanStep M (picture M c) l
    can_back l h = subst (λ d. CanStep M d l) (sym running) h

    -- the next entry of a handler of the table
    seated_next : (v : ℕ) (x : Variable S E) (hs : Handlers E) (h : Held E) (name : Handler E) (e : E) → IsHandlerSeated c.table v x hs h → h.name ≡ name → IsEnabled M (state M c) (Hand name e) → HandsOldestFirst M (xs ++ Hand name e ∷ []) → IsNext M.event_same c.table name e
    seated_next v x hs h name e s is en core =
        let en1 : IsEnabled M (state M c) (Hand h.name e) = subst (λ n. IsEnabled M (state M c) (Hand n e)) (sym is) en in
        let core1 : HandsOldestFirst M (xs ++ Hand h.name e ∷ []) = subst (λ n. HandsOldestFirst M (xs ++ Hand n e ∷ [])) (sym is) core in
        let at : next_of M.event_same x.log hs.held h.name ≡ Some e = (next xs c.table v x hs h pictured s e).1 (en1, core1) in
        record { variable = v; at = x; at_is = s.at; beside = hs; beside_is = s.beside; next = subst (λ n. next_of M.event_same x.log hs.held n ≡ Some e) is at }

    in_core_run : (l : Label E) → CanTake M c l → CanStep M (picture M c) l × HandsOldestFirst M (xs ++ l ∷ [])
    in_core_run (Act t) h = (h.0, core_act M ok xs t k.core)
    in_core_run (Hand name e) h =
        let n : IsNext M.event_same c.table name e = h.1 in
        let f = coming M ok c.table name e n in
        let got : next_of M.event_same n.at.log n.beside.held f.0.name ≡ Some e = subst (λ q. next_of M.event_same n.at.log n.beside.held q ≡ Some e) (sym f.2) n.next in
        let z = (next xs c.table n.variable n.at n.beside f.0 pictured f.1 e).0 got in
        (h.0, subst (λ q. HandsOldestFirst M (xs ++ Hand q e ∷ [])) f.2 z.1)

    taken : (l : Label E) → CanStep M (picture M c) l × HandsOldestFirst M (xs ++ l ∷ []) → CanTake M c l
    taken (Act t) h = (h.0, tt)
    taken (Hand name e) h =
        let en = can (Hand name e) h.0 in
        let g = held xs c.table name e pictured en in
        (h.0, seated_next g.0 g.1 g.2 g.3 name e g.4 g.5 en h.1)

    pub takes_core : (l : Label E) → CanTake M c l ↔ (CanStep M (picture M c) l × HandsOldestFirst M (xs ++ l ∷ []))
    takes_core l = (in_core_run l, taken l)

    -- the first entry after the cursor, where something is enabled
    next_of_seated : (v : ℕ) (x : Variable S E) (hs : Handlers E) (h : Held E) (e : E) → IsHandlerSeated c.table v x hs h → IsEnabled M (state M c) (Hand h.name e) → (k : Label E) × CanTake M c k
    next_of_seated v x hs h e s en = found (next_of M.event_same x.log hs.held h.name) refl
      where
        found : (o : Option E) → next_of M.event_same x.log hs.held h.name ≡ o → (k : Label E) × CanTake M c k
        found (Some y) is =
            let z = (next xs c.table v x hs h pictured s y).0 is in
            (Hand h.name y, taken (Hand h.name y) (can_back (Hand h.name y) z.0, z.1))
        found None is =
            let lt : h.handed < length x.log = (below xs c.table v x hs h pictured s).0 (e, en) in
            let long = logged_len x.log in
            let y = get_there (logged x.log) h.handed (omega (arith, lt, long)) in
            let at : next_of M.event_same x.log hs.held h.name ≡ slice_get (logged x.log) h.handed = next_is M ok xs c.table pictured v x s.at hs s.beside h (among hs.held h s.held) in
            let no : ◌≡◌ {A = Option E} None (Some (y.0)) = sym is ∙ at ∙ y.1 in
            absurd cc

    pub something : (l : Label E) → CanStep M (picture M c) l → (k : Label E) × CanTake M c k
    something (Act t) h = (Act t, (h, tt))
    something (Hand name e) h =
        let en = can (Hand name e) h in
        let g = held xs c.table name e pictured en in
        next_of_seated g.0 g.1 g.2 g.3 e g.4 (subst (λ n. IsEnabled M (state M c) (Hand n e)) (sym g.5) en)

module _ {P S E R A L : Type 0} (M : Machine S E R A L) (ok : IsLawful M) (posts : PostsAreHeld M) where
  pub hands_one_event : HandsOneEvent P M
  hands_one_event c xs k name e f take comes = next_one M ok c.table posts xs (pictured_by M c xs (no_error_before M (state M c) c.fault (Hand name e) take.0) k) name e f take.1 comes

module _ {P S E R A L : Type 0} (M : Machine S E R A L) (ok : IsLawful M) (next : HandsTheNext M) where
  pub hands_what_comes : HandsWhatComes P M
  hands_what_comes c xs k none name e n =
      let f = coming M ok c.table name e n in
      let got : next_of M.event_same n.at.log n.beside.held f.0.name ≡ Some e = subst (λ q. next_of M.event_same n.at.log n.beside.held q ≡ Some e) (sym f.2) n.next in
      let z = (next xs c.table n.variable n.at n.beside f.0 (pictured_by M c xs none k) f.1 e).0 got in
      (subst (λ d. CanStep M d (Hand name e)) (sym (at_state M c none)) (subst (λ q. IsEnabled M (state M c) (Hand q e)) f.2 z.0), n)

module _ {P S E R A L : Type 0} (M : Machine S E R A L) (ok : IsLawful M) (ord : IsOrdered M) (below : HandsBelowTheEnd M) (next : HandsTheNext M) (held : HandsTheHeld M) where
  pub takes_core_runs : TakesCoreRuns P M
  takes_core_runs c xs k l = (
    λ h. (takes_core M ok c xs k (no_error_before M (state M c) c.fault l h.0) ord below next held l).0 h,
    λ h. (takes_core M ok c xs k (no_error_before M (state M c) c.fault l h.0) ord below next held l).1 h,
  )

  pub takes_something : TakesSomething P M
  takes_something c xs k l can = something M ok c xs k (no_error_before M (state M c) c.fault l can) ord below next held l can
