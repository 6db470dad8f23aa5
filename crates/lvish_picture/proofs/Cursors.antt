-- What cursors tell, and that the names which a step makes are new.
use Rattle.std.proofs.Common.{◌≡◌, inl, inr, suc, ◌<◌, List, [], ◌∷◌, refl, sym, subst, arith, All, ◌↔◌, ℕ, ◌≤◌, false, ◌++◌, length, take, get_or, slice_get, Some, ap, ◌∙◌}
use Rattle.std.proofs.lemmas.Bool.{both_ways, cases_Bool, cases_lt}
use Rattle.std.proofs.lemmas.Option.{slice_get_within, get_or_from_slice_get}
use Rattle.std.proofs.lemmas.List.{get_or_default}
use Rattle.std.proofs.lemmas.Map.Made.{is_member-Decides}
use Rattle.lvish_calculus.specs.Machine.{Machine, IsLawful, IsBelow}
use Rattle.lvish_calculus.specs.Calculus.{Post, IsOn, IsEnabled, IsReadyTask}
use Rattle.lvish_names.specs.Names.{forked, handed, Handler, Name}
use Rattle.lvish_calculus.specs.Handing.{IsAmong, HandsOldestFirst}
use Rattle.lvish_calculus.specs.declared.label.Label.{Label}
use Rattle.lvish_calculus.specs.declared.label.Label.TheVariants.{Act, Hand}
use Rattle.lvish_calculus.proofs.Sound.{IsSound, cases_absent, some_is}
use Rattle.lvish_calculus.proofs.Runs.{reached}
use Rattle.lvish_calculus.proofs.CoreRuns.{on_one}
use Rattle.lvish_variable.specs.Variable.{logged, VariableView as Variable}
use Rattle.lvish_handlers.specs.declared.held.Held.{Held}
use Rattle.lvish_handlers.specs.Handlers.{names, HandlersView as Handlers, next_of}
use Rattle.lvish_picture.specs.Picture.{HandlerAtLog, seats, table_picture, task_of, Table, IsPictured}
use Rattle.lvish_picture.specs.Laws.{NewHandlerIsNew, NewTaskIsNew, IsOrdered, IsHandlerSeated, HandsBelowTheEnd, HandsTheNext, HandsTheHeld, DrainedAtTheEnd, PostsAreHeld, TasksAreHeld, EndsByCursors}
use Rattle.lvish_picture.specs.Logs.{IsBefore, IsInOrder}
use Rattle.lvish_picture.proofs.Seats.{among_map, seat_there, all_among, among_all, find_seat}
use Rattle.lvish_picture.proofs.Handed.{names_at, post_found}
use Rattle.lvish_picture.proofs.Slots.{get_there, among, cases_3, in_take, contained}
use Rattle.lvish_picture.proofs.Acts.{new_name}
use Rattle.lvish_picture.proofs.Tables.{logged_len}
use Rattle.lvish_picture.proofs.Hands.{post_is, on_is, handed_is, next_not_handed, next_below, next_enabled, next_core, next_is}

-- whose name it is
named : {E : Type 0} (held : List (Held E)) (n : Handler E) → IsAmong n (names held) → (h : Held E) × IsAmong h held × (h.name ≡ n)
named [] n z = absurd z
named (h ∷ held) n (inl e) = (h, inl refl, sym e)
named (h ∷ held) n (inr z) = let r = named held n z in (r.0, inr r.1, r.2)

module _ {S E R A L : Type 0} (M : Machine S E R A L) (ok : IsLawful M) where
  pub new_handler : NewHandlerIsNew M
  new_handler xs c t l f a p v hs k live at held =
      let h = named hs.held (record { adder = t; number = suc a }) (among (names hs.held) (record { adder = t; number = suc a }) held) in
      let x = get_there c.variables v (subst (λ n. v < n) k.table.beside (slice_get_within c.handlers v hs at)) in
      let i : IsAmong (record { log = logged x.0.log; held = h.0 }) (seats c.variables c.handlers) = seat_there c.variables c.handlers v x.0 hs h.0 x.1 at h.1 in
      new_name M ok xs c t l f a p k live
      (subst (λ (n : Handler E). IsAmong n (names_at (seats c.variables c.handlers))) h.2 (among_map (λ (s : HandlerAtLog E). s.held.name) (record { log = logged x.0.log; held = h.0 }) (seats c.variables c.handlers) i))

  pub new_task : NewTaskIsNew M
  new_task xs c k =
      let sound : IsSound (table_picture M c) = reached M ok xs (table_picture M c) k.reached in (
        λ t l f a p live. elim (cases_absent (task_of M.event_same c.tasks (forked t (suc f)))) [
          | inl e ↦ e
          | inr there ↦ let le = sound.forks_known t (suc f) there l f a p live in absurd (omega (arith, le))
        ],
        λ h e en. elim (cases_absent (task_of M.event_same c.tasks (handed h.adder h.number e))) [
          | inl q ↦ q
          | inr there ↦ absurd (both_ways _ en.not_handed (sound.hands_known h.adder h.number e there))
        ],
      )

module _ {S E R A L : Type 0} (M : Machine S E R A L) (ok : IsLawful M) where
  module _ (xs : List (Label E)) (c : Table S E L) (k : IsPictured M c xs) (v : ℕ) (x : Variable S E) (hs : Handlers E) (h : Held E) (s : IsHandlerSeated c v x hs h) where
    on : IsOn M (table_picture M c) h.name v
    on = on_is M ok xs c k v x s.at hs s.beside h (among hs.held h s.held)

    order : IsInOrder M xs (table_picture M c) v (logged x.log)
    order = k.logs v x s.at

    -- what is below and wasn't handed stands after the cursor
    after_cursor : (e : E) → IsBelow M e ((table_picture M c).content v) → (table_picture M c).handed h.name e ≡ false → (n : ℕ) × (h.handed ≤ n) × (n < length (logged x.log)) × (get_or (logged x.log) n e ≡ e)
    after_cursor e below un =
        let at = (order.all e).1 below in
        elim (cases_lt (at.0) h.handed) [
          | inl low ↦ absurd (both_ways _ un (handed_is M ok xs c k v x s.at hs s.beside h (among hs.held h s.held) e
              ∙ (is_member-Decides ok.event_same_is (take h.handed (logged x.log)) e).1 (in_take (logged x.log) h.handed at.0 e low at.1 at.2)))
          | inr high ↦ (at.0, high, at.1, at.2)
        ]

    enabled_below : (e : E) → IsEnabled M (table_picture M c) (Hand h.name e) → IsBelow M e ((table_picture M c).content v)
    enabled_below e en = subst (λ u. IsBelow M e ((table_picture M c).content u)) (on_one M (table_picture M c) h.name en.variable v en.on on) en.below

    pub below_end : ((e : E) × IsEnabled M (table_picture M c) (Hand h.name e)) ↔ (h.handed < length x.log)
    below_end = (
      λ z. let g = after_cursor (z.0) (enabled_below z.0 z.1) z.1.not_handed in let l = logged_len x.log in omega (arith, g.1, g.2, l),
      λ lt.
          let l : length (logged x.log) ≡ length x.log = logged_len x.log in
          let some : h.handed < length (logged x.log) = omega arith in
          let y = get_there (logged x.log) h.handed some in
          (y.0, next_enabled M ok xs c k v x s.at hs s.beside h (among hs.held h s.held) y.0 some (get_or_from_slice_get (logged x.log) h.handed y.0 y.0 y.1)),
    )

    pub hands_next : IsOrdered M → (e : E) → (next_of M.event_same x.log hs.held h.name ≡ Some e) ↔ (IsEnabled M (table_picture M c) (Hand h.name e) × HandsOldestFirst M (xs ++ Hand h.name e ∷ []))
    hands_next ord e = (into, back)
      where
        reads : next_of M.event_same x.log hs.held h.name ≡ slice_get (logged x.log) h.handed
        reads = next_is M ok xs c k v x s.at hs s.beside h (among hs.held h s.held)

        into : next_of M.event_same x.log hs.held h.name ≡ Some e → IsEnabled M (table_picture M c) (Hand h.name e) × HandsOldestFirst M (xs ++ Hand h.name e ∷ [])
        into is =
            let at : slice_get (logged x.log) h.handed ≡ Some e = sym reads ∙ is in
            let some : h.handed < length (logged x.log) = slice_get_within (logged x.log) h.handed e at in
            let next : get_or (logged x.log) h.handed e ≡ e = get_or_from_slice_get (logged x.log) h.handed e e at in
            (next_enabled M ok xs c k v x s.at hs s.beside h (among hs.held h s.held) e some next, next_core M ok xs c k v x s.at hs s.beside h (among hs.held h s.held) e some next)

        back : IsEnabled M (table_picture M c) (Hand h.name e) × HandsOldestFirst M (xs ++ Hand h.name e ∷ []) → next_of M.event_same x.log hs.held h.name ≡ Some e
        back z =
            let en : IsEnabled M (table_picture M c) (Hand h.name e) = z.0 in
            let g = after_cursor e (enabled_below e en) en.not_handed in
            let high : h.handed ≤ g.0 = g.1 in
            let lt : g.0 < length (logged x.log) = g.2 in
            let some : h.handed < length (logged x.log) = omega (arith, high, lt) in
            let y = get_there (logged x.log) h.handed some in
            let next : get_or (logged x.log) h.handed y.0 ≡ y.0 = get_or_from_slice_get (logged x.log) h.handed y.0 y.0 y.1 in
            let same : y.0 ≡ e = elim (cases_3 h.handed g.0) [
              | inl less ↦
                  let b : IsBefore M xs v y.0 e = subst (λ q. IsBefore M xs v y.0 q) (get_or_default (logged x.log) g.0 y.0 e lt ∙ g.3)
                  (subst (λ q. IsBefore M xs v q (get_or (logged x.log) g.0 y.0)) next (order.order h.handed g.0 y.0 less lt)) in
                  let first = z.1 xs [] h.name e refl (table_picture M c) k.reached v on y.0
                  (next_below M ok xs c k v x s.at hs s.beside h (among hs.held h s.held) y.0 some next)
                  (next_not_handed M ok xs c k v x s.at hs s.beside h (among hs.held h s.held) y.0 some next) in
                  absurd (b.other (ord.antisymmetric y.0 e (b.lesser first.0) (first.1 b.no_later)))
              | inr (inl eq) ↦ sym next ∙ ap (λ n. get_or (logged x.log) n y.0) eq ∙ get_or_default (logged x.log) g.0 y.0 e lt ∙ g.3
              | inr (inr more) ↦ absurd (omega (arith, high, more))
            ] in
            reads ∙ y.1 ∙ ap (λ q. Some q) same

  -- a handler with a post is one of its variable's
  pub seat_with : (c : Table S E L) (xs : List (Label E)) → IsPictured M c xs → (name : Handler E) (post : Post) → (table_picture M c).handlers name ≡ Some post
      → (v : ℕ) × (x : Variable S E) × (hs : Handlers E) × (h : Held E) × IsHandlerSeated c v x hs h × (h.name ≡ name)
  seat_with c xs k name post is =
      let f = post_found M.event_same ok.event_same_is (seats c.variables c.handlers) name post is in
      let g = find_seat c.variables c.handlers f.0 f.1 in
      (g.variable, g.at, g.hs, f.0.held, record { at = g.at_is; beside = g.hs_is; held = contained g.hs.held f.0.held g.held }, f.2)

  pub seat_of : (c : Table S E L) (xs : List (Label E)) → IsPictured M c xs → (name : Handler E) (v : ℕ) → IsOn M (table_picture M c) name v → (x : Variable S E) × (hs : Handlers E) × (h : Held E) × IsHandlerSeated c v x hs h × (h.name ≡ name)
  seat_of c xs k name v on =
      let g = seat_with c xs k name on.post on.is in
      let s : IsHandlerSeated c g.0 g.1 g.2 g.3 = g.4 in
      let own : IsOn M (table_picture M c) name (g.0) = subst (λ n. IsOn M (table_picture M c) n (g.0)) g.5 (on_is M ok xs c k g.0 g.1 s.at g.2 s.beside g.3 (among g.2.held g.3 s.held)) in
      let vv : g.0 ≡ v = on_one M (table_picture M c) name g.0 v own on in
      (g.1, g.2, g.3, subst (λ u. IsHandlerSeated c u g.1 g.2 g.3) vv s, g.5)

  pub hands_below_the_end : HandsBelowTheEnd M
  hands_below_the_end xs c v x hs h k s = below_end xs c k v x hs h s

  pub hands_the_next : IsOrdered M → HandsTheNext M
  hands_the_next ord xs c v x hs h k s e = hands_next xs c k v x hs h s ord e

  pub hands_the_held : HandsTheHeld M
  hands_the_held xs c name e k en = let g = seat_of c xs k name en.variable en.on in (en.variable, g.0, g.1, g.2, g.3, g.4)

  pub drained_at_the_end : DrainedAtTheEnd M
  drained_at_the_end xs c v x hs k at beside = (
    λ all name e on below.
        let g = seat_of c xs k name v on in
        let s : IsHandlerSeated c v g.0 g.1 g.2 = g.3 in
        let xx : g.0 ≡ x = some_is (sym s.at ∙ at) in
        let hh : g.1 ≡ hs = some_is (sym s.beside ∙ beside) in
        let i : IsAmong (g.2) hs.held = subst (λ (q : Handlers E). IsAmong (g.2) q.held) hh (among g.1.held g.2 s.held) in
        let full : g.2.handed ≡ length x.log = all_among (λ (h : Held E). h.handed ≡ length x.log) g.2 hs.held all i in
        elim (cases_Bool ((table_picture M c).handed name e)) [
          | inl b ↦ b
          | inr b ↦
              let z = after_cursor xs c k v g.0 g.1 g.2 s e below (subst (λ n. (table_picture M c).handed n e ≡ false) (sym g.4) b) in
              let len : length (logged g.0.log) ≡ length x.log = logged_len g.0.log ∙ ap (λ (q : Variable S E). length q.log) xx in
              absurd (omega (arith, z.1, z.2, full, len))
        ],
    λ every. among_all (λ (h : Held E). h.handed ≡ length x.log) hs.held (λ h i.
        let le : h.handed ≤ length x.log = all_among (λ (q : Held E). q.handed ≤ length x.log) h hs.held (k.table.within v x hs at beside) i in
        elim (cases_lt h.handed (length x.log)) [
          | inl lt ↦
              let s : IsHandlerSeated c v x hs h = record { at = at; beside = beside; held = contained hs.held h i } in
              let z = (below_end xs c k v x hs h s).1 lt in
              absurd (both_ways _ (z.1.not_handed) (every h.name z.0 (on xs c k v x hs h s) (enabled_below xs c k v x hs h s z.0 z.1)))
          | inr ge ↦ omega (arith, le, ge)
        ]),
  )

  pub posts_are_held : PostsAreHeld M
  posts_are_held xs c v x hs h k s = (
    post_is M ok xs c k v x s.at hs s.beside h (among hs.held h s.held),
    all_among (λ (q : Held E). M.pool_variable q.pool ≡ Some v) h hs.held (k.table.own v hs s.beside) (among hs.held h s.held),
  )

  pub tasks_are_held : TasksAreHeld M
  tasks_are_held xs c t name k there of =
      let sound : IsSound (table_picture M c) = reached M ok xs (table_picture M c) k.reached in
      let post = sound.pool_known t name there of in
      seat_with c xs k name post.0 post.1

  pub ends_by_cursors : EndsByCursors M
  ends_by_cursors xs c k = (
    λ end. (
      λ t ready. end (Act t) ready,
      λ v x hs at beside. among_all (λ (h : Held E). h.handed ≡ length x.log) hs.held (λ h i.
          let le : h.handed ≤ length x.log = all_among (λ (q : Held E). q.handed ≤ length x.log) h hs.held (k.table.within v x hs at beside) i in
          elim (cases_lt h.handed (length x.log)) [
            | inl lt ↦ let z = (hands_below_the_end xs c v x hs h k (record { at = at; beside = beside; held = contained hs.held h i })).1 lt in absurd (end (Hand h.name z.0) z.1)
            | inr ge ↦ omega (arith, le, ge)
          ]),
    ),
    λ both l en. ended both.0 both.1 l en,
  )
    where
      ended : ((t : Name E) → IsReadyTask M (table_picture M c) (task_of M.event_same c.tasks t) → ⊥) → ((v : ℕ) (x : Variable S E) (hs : Handlers E) → slice_get c.variables v ≡ Some x → slice_get c.handlers v ≡ Some hs → All (λ (h : Held E). h.handed ≡ length x.log) hs.held)
          → (l : Label E) → IsEnabled M (table_picture M c) l → ⊥
      ended idle drained (Act t) en = idle t en
      ended idle drained (Hand name e) en =
          let g = hands_the_held xs c name e k en in
          let s : IsHandlerSeated c g.0 g.1 g.2 g.3 = g.4 in
          let lt : g.3.handed < length g.1.log = (hands_below_the_end xs c g.0 g.1 g.2 g.3 k s).0 (e, subst (λ n. IsEnabled M (table_picture M c) (Hand n e)) (sym g.5) en) in
          let full : g.3.handed ≡ length g.1.log = all_among (λ (h : Held E). h.handed ≡ length g.1.log) g.3 g.2.held (drained g.0 g.1 g.2 s.at s.beside) (among g.2.held g.3 s.held) in
          absurd (omega (arith, lt, full))
