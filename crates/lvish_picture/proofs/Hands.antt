-- What a handler is handed next, and a step that hands it.
use Rattle.std.proofs.Common.{◌≡◌, ◌≢◌, ◌↔◌, inl, inr, ℕ, suc, zero, ◌<◌, Bool, true, false, ◌&&◌, ◌||◌, List, [], ◌∷◌, ◌++◌, length, take, get_or, AllPairs, Contains, slice_set, slice_get, Some, None, option_and_then, if◌then◌else◌, refl, sym, ap, ◌∙◌, subst, arith}
use Rattle.std.proofs.lemmas.Bool.{cases_Bool, both_ways}
use Rattle.std.proofs.lemmas.Map.Made.{is_member-Decides}
use Rattle.std.proofs.lemmas.Option.{get_or_from_slice_get}
use Rattle.std.specs.Set.{is_member}
use mathlib.Core.Path.{fun_ext}
use Rattle.lvish_calculus.specs.declared.label.Label.{Label}
use Rattle.lvish_calculus.specs.declared.label.Label.TheVariants.{Hand}
use Rattle.lvish_calculus.specs.Machine.{Machine, IsLawful, IsBelow}
use Rattle.lvish_calculus.specs.Calculus.{Live, State, Running, Change, IsOn, IsEnabled, after, changed, step, hand_effect, with_task}
use Rattle.lvish_names.specs.Names.{Name, handed, Handler, same_handler}
use Rattle.lvish_calculus.specs.Handing.{IsAmong, NoRepeats, HandsOldestFirst}
use Rattle.lvish_calculus.proofs.CoreRuns.{core_hand}
use Rattle.lvish_calculus.proofs.Names.{same_handler-true, same_handler-refl}
use Rattle.lvish_variable.specs.Variable.{VariableView as Variable, logged}
use Rattle.lvish_handlers.specs.declared.held.Held.{Held}
use Rattle.lvish_handlers.specs.Handlers.{HandlersView as Handlers, one_more, held_as, next_of}
use Rattle.lvish_picture.specs.Logs.{IsInOrder}
use Rattle.lvish_picture.specs.Picture.{Table, HandlerAtLog, seats, seats_at, table_picture, task_of, post_in, handed_in, IsPictured}
use Rattle.lvish_picture.specs.Laws.{IsTableStep, HandKept}
use Rattle.lvish_picture.proofs.Kept.{next_entry, same_state, unchanged, kept_by, reheld}
use Rattle.lvish_picture.proofs.Seats.{Place, place, middle, all_among, seat_there, among_other}
use Rattle.lvish_picture.proofs.Handed.{names_at, post_there, handed_event_there, handed_more, post_more, names_more, one_seat}
use Rattle.lvish_picture.proofs.Slots.{among_here}
use Rattle.lvish_picture.proofs.Tables.{logged_len, table_handlers}

module _ {E : Type 0} (eq : E → E → Bool) (is : (a b : E) → (eq a b ≡ true) ↔ (a ≡ b)) where
  -- an entry isn't among those before it
  pub not_before : (log : List E) (n : ℕ) (e : E) → n < length log → get_or log n e ≡ e → AllPairs (λ x y. x ≢ y) log → Contains (take n log) e → ⊥
  not_before [] n e lt at once z = absurd (omega arith)
  not_before (x ∷ log) zero e lt at once z = absurd (omega (arith, z.1))
  not_before (x ∷ log) (suc n) e lt at once (zero, low, same) = once 0 (suc n) e (omega arith) (omega arith) (same ∙ sym at)
  not_before (x ∷ log) (suc n) e lt at once (suc k, low, same) = not_before log n e (omega arith) at (λ i j d l w. once (suc i) (suc j) d (omega arith) (omega arith)) (k, omega (arith, low), same)

  -- the first of a name
  pub find_name : (held : List (Held E)) (h : Held E) → IsAmong h held → (k : Held E) × (held_as eq held h.name ≡ Some k) × IsAmong k held × (k.name ≡ h.name)
  find_name [] h z = absurd z
  find_name (x ∷ held) h z = elim (cases_Bool (same_handler eq h.name x.name)) [
    | inl b ↦ (x, ap (λ q. if q then Some x else held_as eq held h.name) b, inl refl, sym (same_handler-true eq is h.name x.name b))
    | inr b ↦ let r = find_name held h (later b z) in (r.0, ap (λ q. if q then Some x else held_as eq held h.name) b ∙ r.1, inr r.2, r.3)
  ]
    where
      later : same_handler eq h.name x.name ≡ false → IsAmong h (x ∷ held) → IsAmong h held
      later b (inl e) = absurd (both_ways _ b (subst (λ (q : Held E). same_handler eq h.name q.name ≡ true) e (same_handler-refl eq is h.name)))
      later b (inr q) = q

module _ {S E R A L : Type 0} (M : Machine S E R A L) (ok : IsLawful M) where
  -- a handler of a pictured table
  module _ (xs : List (Label E)) (c : Table S E L) (k : IsPictured M c xs) (v : ℕ) (x : Variable S E) (at : slice_get c.variables v ≡ Some x) (hs : Handlers E) (beside : slice_get c.handlers v ≡ Some hs) (h : Held E) (i : IsAmong h hs.held) where
    seated : IsAmong (record { log = logged x.log; held = h }) (seats c.variables c.handlers)
    seated = seat_there c.variables c.handlers v x hs h at beside i

    pub post_is : (table_picture M c).handlers h.name ≡ Some (record { pool = h.pool; procedure = h.procedure })
    post_is = post_there M.event_same ok.event_same_is (seats c.variables c.handlers) (record { log = logged x.log; held = h }) k.table.once seated

    pub on_is : IsOn M (table_picture M c) h.name v
    on_is = record {
      post = record { pool = h.pool; procedure = h.procedure };
      is = post_is;
      of = all_among (λ (q : Held E). M.pool_variable q.pool ≡ Some v) h hs.held (k.table.own v hs beside) i;
    }

    pub handed_is : (y : E) → (table_picture M c).handed h.name y ≡ is_member M.event_same (take h.handed (logged x.log)) y
    handed_is y = handed_event_there M.event_same ok.event_same_is (seats c.variables c.handlers) (record { log = logged x.log; held = h }) y k.table.once seated

    order : IsInOrder M xs (table_picture M c) v (logged x.log)
    order = k.logs v x at

    once : AllPairs (λ a b. a ≢ b) (logged x.log)
    once = λ n m d lt ins. (order.order n m d lt ins).other

    -- what wasn't handed isn't among the first entries
    not_handed_not : (y : E) → (table_picture M c).handed h.name y ≡ false → Contains (take h.handed (logged x.log)) y → ⊥
    not_handed_not y z has = both_ways _ z (handed_is y ∙ (is_member-Decides ok.event_same_is (take h.handed (logged x.log)) y).1 has)

    module _ (e : E) (some : h.handed < length (logged x.log)) (next : get_or (logged x.log) h.handed e ≡ e) where
      pub next_not_handed : (table_picture M c).handed h.name e ≡ false
      next_not_handed = elim (cases_Bool ((table_picture M c).handed h.name e)) [
        | inl b ↦ absurd (not_before M.event_same ok.event_same_is (logged x.log) h.handed e some next once ((is_member-Decides ok.event_same_is (take h.handed (logged x.log)) e).0 (sym (handed_is e) ∙ b)))
        | inr b ↦ b
      ]

      pub next_below : IsBelow M e ((table_picture M c).content v)
      next_below = (order.all e).0 (h.handed, some, next)

      pub next_enabled : IsEnabled M (table_picture M c) (Hand h.name e)
      next_enabled = record { variable = v; on = on_is; below = next_below; not_handed = next_not_handed }

      pub next_core : HandsOldestFirst M (xs ++ Hand h.name e ∷ [])
      next_core = core_hand M ok xs (table_picture M c) h.name v e k.reached on_is
          (next_entry M ok ok.event_le_itself xs (table_picture M c) h.name v (logged x.log) h.handed e order some next not_handed_not) k.core

    -- the first of the name is the handler itself
    pub held_is : held_as M.event_same hs.held h.name ≡ Some h
    held_is =
        let f = find_name M.event_same ok.event_same_is hs.held h i in
        let there : IsAmong (record { log = logged x.log; held = f.0 }) (seats c.variables c.handlers) = seat_there c.variables c.handlers v x hs f.0 at beside f.2 in
        let same : f.0 ≡ h = ap (λ (s : HandlerAtLog E). s.held) (one (record { log = logged x.log; held = f.0 }) there f.3) in
        f.1 ∙ ap (λ (q : Held E). Some q) same
      where
        one : (s : HandlerAtLog E) → IsAmong s (seats c.variables c.handlers) → s.held.name ≡ h.name → s ≡ record { log = logged x.log; held = h }
        one s a e = one_seat (seats c.variables c.handlers) s (record { log = logged x.log; held = h }) k.table.once a seated e

    pub next_is : next_of M.event_same x.log hs.held h.name ≡ slice_get (logged x.log) h.handed
    next_is = ap (λ o. option_and_then (λ (q : Held E). slice_get (logged x.log) q.handed) o) held_is

  pub hand_kept : HandKept M
  unfolding on_is
  hand_kept xs c d name e k s =
      let C : State S E L = table_picture M c in
      let v : ℕ = s.variable in
      let h : Held E = s.advanced.handler in
      let log : List E = logged s.at.log in
      let named : h.name ≡ name = s.advanced.named in
      let i : IsAmong h s.old.held = subst (λ l. IsAmong h l) (sym s.advanced.was) (among_here h s.advanced.before s.advanced.after) in
      let len : length log ≡ length s.at.log = logged_len s.at.log in
      let entry : h.handed < length s.at.log = s.advanced.entry in
      let some : h.handed < length log = omega arith in
      let next : get_or log h.handed e ≡ e =
      get_or_from_slice_get log h.handed e e (sym (ap (λ o. option_and_then (λ (q : Held E). slice_get log q.handed) o) s.advanced.found) ∙ s.next) in
      let hss : List (Handlers E) = slice_set c.handlers v s.new in
      let d0 : Table S E L = record { variables = c.variables; handlers = hss; tasks = d.tasks } in
      let p : Place c.variables c.handlers v s.at s.old = place c.variables c.handlers v s.at s.old s.at_is s.was in
      let before : List (HandlerAtLog E) = p.before ++ seats_at log s.advanced.before in
      let after_it : List (HandlerAtLog E) = seats_at log s.advanced.after ++ p.after in
      let there : seats c.variables c.handlers ≡ before ++ record { log = log; held = h } ∷ after_it =
      p.there ∙ middle log s.old.held s.advanced.before (h ∷ s.advanced.after) p.before p.after s.advanced.was in
      let now : seats c.variables hss ≡ before ++ record { log = log; held = one_more h } ∷ after_it =
      p.handlers s.new ∙ middle log s.new.held s.advanced.before (one_more h ∷ s.advanced.after) p.before p.after s.advanced.is in
      let on : IsOn M C h.name v = on_is xs c k v s.at s.at_is s.old s.was h i in
      let ch : Change S E L = record { own = None; made = Some (handed h.name.adder h.name.number e, Live (M.start_handler h.procedure e) 0 0 0); added = None; joined = None; froze = None; handing = Some (h.name, e) } in
      let tasks : (u : Name E) → (changed M ch C).tasks u ≡ (table_picture M d0).tasks u =
      (λ u. ap (λ (n : Handler E). with_task M.event_same (Some (handed n.adder n.number e, Live (M.start_handler h.procedure e) 0 0 0)) (task_of M.event_same c.tasks) u) named ∙ sym (s.tasks u)) in
      let is : changed M ch C ≡ table_picture M d0 = same_state (changed M ch C) (table_picture M d0) refl refl (fun_ext tasks)
      (fun_ext (λ g.
      ap (λ l. post_in M.event_same l g) there ∙ sym (post_more M.event_same before after_it log h g) ∙ ap (λ l. post_in M.event_same l g) (sym now)))
      (fun_ext (λ g. fun_ext (λ y.
      ap (λ l. (same_handler M.event_same g h.name && M.event_same y e) || handed_in M.event_same l g y) there
      ∙ sym (handed_more M.event_same before after_it log h e g y some next)
      ∙ ap (λ l. handed_in M.event_same l g y) (sym now)))) in
      let st : step M C (Hand h.name e) ≡ Running (table_picture M d0) = ap (λ o. after M C (hand_effect M h.name e o)) on.is ∙ ap Running is in
      let once_now : NoRepeats (names_at (seats c.variables hss)) = subst NoRepeats
      (ap (λ l. names_at l) there ∙ sym (names_more before after_it (record { log = log; held = one_more h }) (record { log = log; held = h }) refl) ∙ ap (λ l. names_at l) (sym now)) k.table.once in
      let r : IsTableStep M c xs (Hand h.name e) d0 = kept_by M ok c d0 xs (Hand h.name e) k
      (next_enabled xs c k v s.at s.at_is s.old s.was h i e some next) st
      (next_core xs c k v s.at s.at_is s.old s.was h i e some next)
      (λ w y is_at. unchanged M ok c d0 w y refl is_at)
      (table_handlers M c v s.at s.old s.new d.tasks k.table s.at_is s.was (one_more h) s.advanced.before s.advanced.after s.advanced.is
      (λ q z. subst (λ l. IsAmong q l) (sym s.advanced.was) (among_other q h s.advanced.before s.advanced.after z)) (omega arith, on.of) once_now) in
      let back : record { variables = c.variables; handlers = d.handlers; tasks = d.tasks } ≡ d = (λ j. record { variables = sym s.variables j; handlers = d.handlers; tasks = d.tasks }) in
      subst (λ (n : Handler E). IsTableStep M c xs (Hand n e) d) named
      (subst (λ z. IsTableStep M c xs (Hand h.name e) z) back (reheld M ok c xs (Hand h.name e) c.variables hss d.handlers d.tasks s.handlers r))
