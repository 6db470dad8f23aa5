-- The steps of tasks keep the picture.
use Rattle.std.proofs.Common.{◌≡◌, ◌≢◌, ℕ, suc, ◌<◌, ◌≤◌, Bool, true, false, not, ◌&&◌, ◌||◌, List, [], ◌∷◌, ◌++◌, length, filter, slice_set, slice_get, Option, Some, None, unwrap_or, nat_eq, if◌then◌else◌, refl, sym, ap, ◌∙◌, subst, arith}
use Rattle.std.proofs.lemmas.Bool.{both_ways, false_from_ne_true, not-true}
use Rattle.std.proofs.lemmas.List.{append-nil, map-append}
use Rattle.std.proofs.lemmas.List.Kept.{AllPairs-filter}
use Rattle.std.proofs.lemmas.Map.Made.{is_member-Decides}
use Rattle.std.proofs.lemmas.Option.{slice_get_within}
use Rattle.std.specs.Set.{is_member}
use mathlib.Core.Path.{fun_ext}
use Rattle.lvish_calculus.specs.declared.label.Label.{Label}
use Rattle.lvish_calculus.specs.declared.label.Label.TheVariants.{Act}
use Rattle.lvish_calculus.specs.declared.request.ErrorKind.{ErrorKind}
use Rattle.lvish_calculus.specs.declared.request.ErrorKind.TheVariants.{Conflict, Frozen, Late, Deep}
use Rattle.lvish_calculus.specs.declared.request.Request.{Request}
use Rattle.lvish_calculus.specs.declared.request.Request.TheVariants.{Put, Fork, Add, Freeze, Fault}
use Rattle.lvish_calculus.specs.declared.request.Reply.TheVariants.{Done, Content}
use Rattle.lvish_calculus.specs.Machine.{Machine, IsLawful, IsBelow}
use Rattle.lvish_calculus.specs.Calculus.{Task, Live, Post, State, Change, Changes, Fails, IsReady, after, changed, request_effect, with_task, with_join}
use Rattle.lvish_names.specs.Names.{Name, Handler, same_handler}
use Rattle.lvish_calculus.specs.Handing.{IsAmong, NoRepeats}
use Rattle.lvish_calculus.proofs.Names.{nat_eq-true, nat_eq-refl}
use Rattle.lvish_calculus.proofs.Sound.{IsSound}
use Rattle.lvish_calculus.proofs.Runs.{reached}
use Rattle.lvish_lattice.specs.Lattice.{fresh_of, events_beyond}
use Rattle.lvish_variable.specs.Variable.{VariableView as Variable, logged}
use Rattle.lvish_variable.proofs.Kept.{logged-append}
use Rattle.lvish_handlers.specs.declared.held.Held.{Held}
use Rattle.lvish_handlers.specs.Handlers.{HandlersView as Handlers}
use Rattle.lvish_picture.specs.Picture.{Table, HandlerAtLog, seats, seats_at, table_picture, task_of, post_in, handed_in, IsTable, IsPictured}
use Rattle.lvish_picture.specs.Steps.{IsPutStep, IsFreezeStep, IsAddStep, IsPlainStep, IsErring}
use Rattle.lvish_picture.specs.Laws.{IsOrdered, IsTableStep, ActKept, ErrorsAreSteps}
use Rattle.lvish_picture.proofs.Kept.{Fresh, same_state, none_fresh, unchanged, one_grown, act_kept, act_errs, reheld}
use Rattle.lvish_picture.proofs.Seats.{Place, place, middle, all_among, among_left}
use Rattle.lvish_picture.proofs.Handed.{names_at, was_handed_longer, post_longer, handed_added, post_added, once_added, name_known}
use Rattle.lvish_picture.proofs.Slots.{field_at, field_set, field_kept, field_other, contained, among, among_filter}
use Rattle.lvish_picture.proofs.Tables.{logged_len, handlers_there, table_variable, table_handlers, table_held}

module _ {S E R A L : Type 0} (M : Machine S E R A L) (ok : IsLawful M) where
  -- the handlers' part of the picture, with one variable's log longer
  module _ (c : Table S E L) (k : IsTable M c) (v : ℕ) (x y : Variable S E) (fs : List E) (was : slice_get c.variables v ≡ Some x) (longer : logged y.log ≡ logged x.log ++ fs) where
    hs : (q : Handlers E) × (slice_get c.handlers v ≡ Some q)
    hs = handlers_there M c v x k was

    at : Place c.variables c.handlers v x hs.0
    at = place c.variables c.handlers v x hs.0 was hs.1

    posts_longer : (g : Handler E) → post_in M.event_same (seats (slice_set c.variables v y) c.handlers) g ≡ post_in M.event_same (seats c.variables c.handlers) g
    posts_longer g =
        ap (λ l. post_in M.event_same l g) (at.variable y)
        ∙ post_longer M.event_same at.before (logged x.log) (logged y.log) hs.0.held at.after g
        ∙ sym (ap (λ l. post_in M.event_same l g) at.there)

    handed_longer : (g : Handler E) (e : E) → handed_in M.event_same (seats (slice_set c.variables v y) c.handlers) g e ≡ handed_in M.event_same (seats c.variables c.handlers) g e
    handed_longer g e =
        ap (λ l. handed_in M.event_same l g e) (at.variable y)
        ∙ ap (λ l. handed_in M.event_same (at.before ++ (seats_at l hs.0.held ++ at.after)) g e) longer
        ∙ was_handed_longer M.event_same at.before (logged x.log) fs hs.0.held at.after g e
        (λ h i. let le = all_among (λ (q : Held E). q.handed ≤ length x.log) h hs.0.held (k.within v x hs.0 was hs.1) i in let q = logged_len x.log in omega (arith, le, q))
        ∙ sym (ap (λ l. handed_in M.event_same l g e) at.there)

  -- a filter of what wasn't below is what is fresh
  module _ (ord : IsOrdered M) (c d : State S E L) (v : ℕ) (a b put : S) (joined : M.join a put ≡ Some b) (was : c.content v ≡ a) (now : d.content v ≡ b) where
    kept_events : E → Bool
    kept_events e = not (is_member M.event_same (M.events a) e)

    pub put_fresh : Fresh M ok c d v (fresh_of M.join M.event_same M.events a put)
    unfolding kept_events
    put_fresh = subst (λ l. Fresh M ok c d v l) (sym (ap (λ o. events_beyond M.event_same M.events a o) joined)) (record {
      are = λ e. (
        λ z.
            let f = (among_filter kept_events e (M.events b)).0 (among (filter kept_events (M.events b)) e z) in (
              subst (λ s. IsBelow M e s) (sym now) (contained (M.events b) e f.0),
              λ q. both_ways _ (not-true _ f.1) ((is_member-Decides ok.event_same_is (M.events a) e).1 (subst (λ s. IsBelow M e s) was q)),
            ),
        λ z.
            let up : IsBelow M e b = subst (λ s. IsBelow M e s) now z.0 in
            let new : is_member M.event_same (M.events a) e ≡ false = false_from_ne_true _ (λ q. z.1 (subst (λ s. IsBelow M e s) (sym was) ((is_member-Decides ok.event_same_is (M.events a) e).0 q))) in
            contained (filter kept_events (M.events b)) e ((among_filter kept_events e (M.events b)).1 (among (M.events b) e up, ap not new)),
      );
      ascending = AllPairs-filter (λ x y. (x ≢ y) × (M.event_le x y ≡ true)) kept_events (M.events b) (ord.ascending b);
    })

  pub put_kept : IsOrdered M → ActKept IsPutStep M
  put_kept ord xs c d t k s =
      let C : State S E L = table_picture M c in
      let v : ℕ = s.variable in
      let own : Option (Name E × Task L) = Some (t, Live (M.resume (M.at s.local) Done) s.forks s.adds (suc s.puts)) in
      let fs : List E = fresh_of M.join M.event_same M.events s.old.state s.put in
      let vars : List (Variable S E) = slice_set c.variables v s.new in
      let e : Table S E L = record { variables = vars; handlers = c.handlers; tasks = d.tasks } in
      let at_old : C.content v ≡ s.old.state = field_at (λ x. x.state) M.bottom c.variables v s.old s.was in
      let at_frozen : C.frozen v ≡ s.old.frozen = field_at (λ x. x.frozen) false c.variables v s.old s.was in
      let lt : v < length c.variables = slice_get_within c.variables v s.old s.was in
      let longer : logged s.new.log ≡ logged s.old.log ++ fs =
      ap (λ l. logged l) s.taken.log ∙ logged-append s.old.log t (suc s.puts) fs in
      let joins : M.join (C.content v) s.put ≡ Some s.new.state = ap (λ q. M.join q s.put) at_old ∙ s.taken.joined in
      let content : (w : ℕ) → with_join M.join (Some (v, s.put)) C.content w ≡ (table_picture M e).content w =
      (λ w. pick_content v s.put C.content w (nat_eq w v) refl s.new.state joins ∙ sym (field_set (λ x. x.state) M.bottom c.variables v s.new w lt)) in
      let frozen : (w : ℕ) → C.frozen w ≡ (table_picture M e).frozen w = (λ w. sym (field_kept (λ x. x.frozen) false c.variables v s.old s.new w s.was s.taken.mark)) in
      let let_through : (C.frozen v && not (M.same s.new.state (C.content v))) ≡ false =
      through (C.frozen v) s.new.state (C.content v) (λ b. s.taken.allowed (sym at_frozen ∙ b) ∙ sym at_old) in
      let ch : Change S E L = record { own = own; made = None; added = None; joined = Some (v, s.put); froze = None; handing = None } in
      let does : request_effect M C t (M.at s.local) s.forks s.adds s.puts (Put v s.put) ≡ Changes ch = rw (joins, let_through) in
      let is : changed M ch C ≡ table_picture M e = same_state (changed M ch C) (table_picture M e)
      (fun_ext content) (fun_ext frozen) (fun_ext (λ u. sym (s.tasks u)))
      (fun_ext (λ g. sym (posts_longer c k.table v s.old s.new fs s.was longer g)))
      (fun_ext (λ g. fun_ext (λ y. sym (handed_longer c k.table v s.old s.new fs s.was longer g y)))) in
      let now : (table_picture M e).content v ≡ s.new.state = field_set (λ x. x.state) M.bottom c.variables v s.new v lt ∙ ap (λ b. if b then s.new.state else C.content v) (nat_eq-refl v) in
      let r : IsTableStep M c xs (Act t) e = act_kept M ok c xs t s.local s.forks s.adds s.puts (Put v s.put) k s.asking tt e ch does is
      (one_grown M ok c e v s.old s.new fs s.was refl longer (put_fresh ord C (table_picture M e) v s.old.state s.new.state s.put s.taken.joined at_old now)
      (λ w ne. field_other (λ x. x.state) M.bottom c.variables v s.new w ne))
      (table_variable M c v s.old s.new fs d.tasks k.table s.was longer) in
      let back : e ≡ d = (λ i. record { variables = sym s.variables i; handlers = sym s.handlers i; tasks = d.tasks }) in
      subst (λ z. IsTableStep M c xs (Act t) z) back r
    where
      pick_content : (v : ℕ) (put : S) (content : ℕ → S) (w : ℕ) (b : Bool) → nat_eq w v ≡ b → (s : S) → M.join (content v) put ≡ Some s
          → (if b then unwrap_or (M.join (content w) put) (content w) else content w) ≡ (if b then s else content w)
      pick_content v put content w true e s j = ap (λ u. unwrap_or (M.join (content u) put) (content u)) (nat_eq-true w v e) ∙ ap (λ o. unwrap_or o (content v)) j
      pick_content v put content w false e s j = refl

      through : (b : Bool) (s q : S) → (b ≡ true → s ≡ q) → (b && not (M.same s q)) ≡ false
      through true s q h = ap not ((ok.same_is s q).1 (h refl))
      through false s q h = refl

  pub freeze_kept : ActKept IsFreezeStep M
  freeze_kept xs c d t k s =
      let C : State S E L = table_picture M c in
      let v : ℕ = s.variable in
      let y : Variable S E = record { state = s.old.state; frozen = true; log = s.old.log } in
      let vars : List (Variable S E) = slice_set c.variables v y in
      let e : Table S E L = record { variables = vars; handlers = c.handlers; tasks = d.tasks } in
      let after_it : S → Task L = (λ q. Live (M.resume (M.at s.local) (Content q)) s.forks s.adds s.puts) in
      let at_old : C.content v ≡ s.old.state = field_at (λ x. x.state) M.bottom c.variables v s.old s.was in
      let lt : v < length c.variables = slice_get_within c.variables v s.old s.was in
      let longer : logged y.log ≡ logged s.old.log ++ [] = sym (append-nil (logged s.old.log)) in
      let content : (w : ℕ) → (table_picture M e).content w ≡ C.content w = (λ w. field_kept (λ x. x.state) M.bottom c.variables v s.old y w s.was refl) in
      let ch : Change S E L = record { own = Some (t, after_it (C.content v)); made = None; added = None; joined = None; froze = Some v; handing = None } in
      let is : changed M ch C ≡ table_picture M e = same_state (changed M ch C) (table_picture M e)
      (fun_ext (λ w. sym (content w)))
      (fun_ext (λ w. marked (nat_eq w v) (C.frozen w) ∙ sym (field_set (λ x. x.frozen) false c.variables v y w lt)))
      (fun_ext (λ u. ap (λ (q : S). with_task M.event_same (Some (t, after_it q)) (task_of M.event_same c.tasks) u) at_old ∙ sym (s.tasks u)))
      (fun_ext (λ g. sym (posts_longer c k.table v s.old y [] s.was longer g)))
      (fun_ext (λ g. fun_ext (λ x. sym (handed_longer c k.table v s.old y [] s.was longer g x)))) in
      let r : IsTableStep M c xs (Act t) e = act_kept M ok c xs t s.local s.forks s.adds s.puts (Freeze v s.pools) k s.asking s.quiet e ch refl is
      (one_grown M ok c e v s.old y [] s.was refl longer (none_fresh M ok C (table_picture M e) v (content v)) (λ w ne. content w))
      (table_variable M c v s.old y [] d.tasks k.table s.was longer) in
      let back : e ≡ d = (λ i. record { variables = sym s.variables i; handlers = sym s.handlers i; tasks = d.tasks }) in
      subst (λ z. IsTableStep M c xs (Act t) z) back r
    where
      marked : (a b : Bool) → (a || b) ≡ (if a then true else b)
      marked true b = refl
      marked false b = refl

  -- the names of a first part
  names_left : (n : Handler E) (before after : List (HandlerAtLog E)) → IsAmong n (names_at before) → IsAmong n (names_at (before ++ after))
  names_left n before after h = subst (λ l. IsAmong n l) (sym (map-append (λ s. s.held.name) before after)) (among_left n (names_at before) (names_at after) h)

  -- the next handler's name is held nowhere
  pub new_name : (xs : List (Label E)) (c : Table S E L) (t : Name E) (l : L) (f a p : ℕ) → IsPictured M c xs → task_of M.event_same c.tasks t ≡ Live l f a p
      → IsAmong (record { adder = t; number = suc a }) (names_at (seats c.variables c.handlers)) → ⊥
  new_name xs c t l f a p k live h =
      let g = name_known M.event_same ok.event_same_is (seats c.variables c.handlers) (record { adder = t; number = suc a }) h in
      let sound : IsSound (table_picture M c) = reached M ok xs (table_picture M c) k.reached in
      let le = sound.adds_known (record { adder = t; number = suc a }) g.0 g.1 l f a p live in
      absurd (omega (arith, le))

  pub add_kept : ActKept IsAddStep M
  add_kept xs c d t k s =
      let C : State S E L = table_picture M c in
      let v : ℕ = s.variable in
      let log : List E = logged s.at.log in
      let name : Handler E = record { adder = t; number = suc s.adds } in
      let post : Post = record { pool = s.pool; procedure = s.procedure } in
      let h : Held E = record { name = name; pool = s.pool; procedure = s.procedure; handed = 0 } in
      let seat : HandlerAtLog E = record { log = log; held = h } in
      let own : Option (Name E × Task L) = Some (t, Live (M.resume (M.at s.local) Done) s.forks (suc s.adds) s.puts) in
      let hss : List (Handlers E) = slice_set c.handlers v s.new in
      let e : Table S E L = record { variables = c.variables; handlers = hss; tasks = d.tasks } in
      let p : Place c.variables c.handlers v s.at s.old = place c.variables c.handlers v s.at s.old s.at_is s.was in
      let before : List (HandlerAtLog E) = p.before ++ seats_at log s.added.before in
      let after_it : List (HandlerAtLog E) = seats_at log s.added.after ++ p.after in
      let there : seats c.variables c.handlers ≡ before ++ after_it = p.there ∙ middle log s.old.held s.added.before s.added.after p.before p.after s.added.was in
      let now : seats c.variables hss ≡ before ++ seat ∷ after_it = p.handlers s.new ∙ middle log s.new.held s.added.before (h ∷ s.added.after) p.before p.after s.added.is in
      let new : IsAmong name (names_at (before ++ after_it)) → ⊥ = (λ z. new_name xs c t s.local s.forks s.adds s.puts k s.asking.live (subst (λ l. IsAmong name (names_at l)) (sym there) z)) in
      let unfrozen : C.frozen v ≡ false = field_at (λ x. x.frozen) false c.variables v s.at s.at_is ∙ s.unfrozen in
      let ch : Change S E L = record { own = own; made = None; added = Some (name, post); joined = None; froze = None; handing = None } in
      let does : request_effect M C t (M.at s.local) s.forks s.adds s.puts (Add s.pool s.procedure) ≡ Changes ch = rw (s.shallow, s.of, unfrozen) in
      let is : changed M ch C ≡ table_picture M e = same_state (changed M ch C) (table_picture M e) refl refl
      (fun_ext (λ u. sym (s.tasks u)))
      (fun_ext (λ g.
      ap (λ l. if same_handler M.event_same g name then Some post else post_in M.event_same l g) there
      ∙ sym (post_added M.event_same ok.event_same_is before after_it seat g (λ z. new (names_left name before after_it z)))
      ∙ ap (λ l. post_in M.event_same l g) (sym now)))
      (fun_ext (λ g. fun_ext (λ y.
      ap (λ l. handed_in M.event_same l g y) there
      ∙ sym (handed_added M.event_same before after_it seat g y refl)
      ∙ ap (λ l. handed_in M.event_same l g y) (sym now)))) in
      let once : NoRepeats (names_at (seats c.variables hss)) = subst (λ l. NoRepeats (names_at l)) (sym now) (once_added before after_it seat (subst (λ l. NoRepeats (names_at l)) there k.table.once) new) in
      let r : IsTableStep M c xs (Act t) e = act_kept M ok c xs t s.local s.forks s.adds s.puts (Add s.pool s.procedure) k s.asking tt e ch does is
      (λ w x at. unchanged M ok c e w x refl at)
      (table_handlers M c v s.at s.old s.new d.tasks k.table s.at_is s.was h s.added.before s.added.after s.added.is (λ q z. subst (λ l. IsAmong q l) (sym s.added.was) z) (omega arith, s.of) once) in
      let back : e ≡ d = (λ i. record { variables = sym s.variables i; handlers = sym s.handlers i; tasks = d.tasks }) in
      subst (λ z. IsTableStep M c xs (Act t) z) back r

  pub plain_kept : ActKept IsPlainStep M
  plain_kept xs c d t k s =
      let C : State S E L = table_picture M c in
      let e : Table S E L = record { variables = c.variables; handlers = c.handlers; tasks = d.tasks } in
      let ch : Change S E L = record { own = s.own; made = s.made; added = None; joined = None; froze = None; handing = None } in
      let is : changed M ch C ≡ table_picture M e = same_state (changed M ch C) (table_picture M e) refl refl (fun_ext (λ u. sym (s.tasks u))) refl refl in
      let r : IsTableStep M c xs (Act t) e = act_kept M ok c xs t s.local s.forks s.adds s.puts s.request k s.asking s.ready e ch s.does is
      (λ w x at. unchanged M ok c e w x refl at)
      (table_held M c c.handlers d.tasks k.table refl) in
      let back : record { variables = c.variables; handlers = d.handlers; tasks = d.tasks } ≡ d = (λ i. record { variables = sym s.variables i; handlers = d.handlers; tasks = d.tasks }) in
      subst (λ z. IsTableStep M c xs (Act t) z) back (reheld M ok c xs (Act t) c.variables c.handlers d.handlers d.tasks s.handlers r)

  -- what is an error is always ready, and comes to that error
  module _ (c : Table S E L) (t : Name E) (l : L) (f a p : ℕ) where
    err_ready : (r : Request S R L) (kind : ErrorKind) (o : Option ℕ) → IsErring M c t r kind o → IsReady M (table_picture M c) r
    err_ready (Put v put) kind o h = tt
    err_ready (Fork child) kind o h = tt
    err_ready (Add pool procedure) kind o h = tt
    err_ready (Fault k) kind o h = tt
    err_ready r kind o h = absurd h

    err_does : (r : Request S R L) (kind : ErrorKind) (o : Option ℕ) → IsErring M c t r kind o → request_effect M (table_picture M c) t l f a p r ≡ Fails kind o t
    err_does (Put v put) Conflict o (x, was, refused, q) = rw (was, refused, q)
    err_does (Put v put) Frozen o (x, was, refused, q) =
        let s = refused.1 in
        let other : M.same (s.0) x.state ≡ false = false_from_ne_true _ (λ e. s.2 ((ok.same_is (s.0) x.state).0 e)) in
        rw (was, s.1, was, refused.0, other, q)
    err_does (Fork child) Deep o (deep, q) = rw (deep, q)
    err_does (Add pool procedure) Deep o (deep, q) = rw (deep, q)
    err_does (Add pool procedure) Late o (v, x, shallow, of, was, frozen, q) = rw (shallow, of, was, frozen, q)
    err_does (Fault k) kind o (same, q) = rw (same, q)
    err_does r kind o h = absurd h

  pub errors_are_steps : ErrorsAreSteps M
  errors_are_steps xs c t l f a p r kind v k asks err = act_errs M ok c xs t l f a p r k asks (err_ready c t l f a p r kind v err) kind v (err_does c t (M.at l) f a p r kind v err)
