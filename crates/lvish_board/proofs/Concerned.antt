-- The handlers that a task's step concerns, over any machine.
use Rattle.std.proofs.Common.{◌≡◌, ◌↔◌, inl, inr, ◌+◌, ◌≤◌, ℕ, suc, Bool, true, false, List, [], ◌∷◌, ◌++◌, length, map, drop, Option, Some, None, Ordering, slice_get, refl, sym, ap, subst, ◌∙◌, arith, append-nil, length-append, if◌then◌else◌, nat_eq, option_map}
use Rattle.std.specs.List.Sorted.{IsStrictlySortedBy}
use Rattle.std.proofs.Math.Seq.{drop-append_seam}
use Rattle.std.proofs.lemmas.Option.{slice_get_cases, slice_get_within}
use Rattle.lvish_names.specs.NameOrder.{handler_cmp}
use Rattle.lvish_lattice.specs.Lattice.{fresh_of}
use Rattle.lvish_board.specs.Vocabulary.{Label, Act, Request, Put, Get, Fork, Add, Freeze, Pause, End, Entry, Held, DoneStep, Touched, PutOn as Touches, EndedIn, Moved}
use Rattle.lvish_calculus.specs.Machine.{Machine, IsLawful}
use Rattle.lvish_calculus.specs.Calculus.{Task, Live, Ended, Post, State, Configuration, Running, Error, Change, Effect, Changes, Fails, Nothing, CanStep, after, effect}
use Rattle.lvish_names.specs.Names.{Name, Handler}
use Rattle.lvish_calculus.specs.Handing.{IsAmong}
use Rattle.lvish_calculus.proofs.Names.{nat_eq-true}
use Rattle.lvish_calculus.proofs.Runs.{nothing}
use Rattle.lvish_calculus.proofs.Steps.{Makes, puts, gets, forks, adds, freezes, pauses, ends, hands, view}
use Rattle.lvish_variable.specs.Variable.{VariableView as Variable, entries}
use Rattle.lvish_picture.proofs.Slots.{contained, among}
use Rattle.lvish_core.specs.Core.{CoreView, IsRunTo, IsStep, state}
use Rattle.lvish_core.specs.Changes.{IsMoved, local_of, moved_in, brought, brings, put_brings, task_touches, touched_in, touching}
use Rattle.lvish_core.specs.Reads.{AreHandlers, IsHeldAs}
use Rattle.lvish_core.specs.laws.Runs.{at_state}
use Rattle.lvish_board.specs.Listed.{Concerns, by_handing, by_adding, by_putting, option_list}
use Rattle.lvish_board.specs.Left.{AreConcerned, IsLogged, candidates, fresh_in, log_from, most_added}
use Rattle.lvish_core.specs.laws.Lists.{among_map}
use Rattle.lvish_board.proofs.Among.{of_map}
use Rattle.lvish_board.proofs.Blocked.{IsMade}
use Rattle.lvish_board.proofs.Steps.{done_none, begins_well, stepped_from}
use Rattle.lvish_board.proofs.Those.{nothing_sorted, one_sorted}

-- ---- what a done step of a task tells

-- what the change of a task's step is by its request, beside the handlers that the request may concern
data Told {P S E R A L : Type 0} (cmp : E → E → Ordering) (M : Machine S E R A L) (c : CoreView P S E L) (handlers : List (Handler E)) (logged : ℕ) (q : Request S R L) (ch : Change S E L) : Type 0 where
  put : (v : ℕ) (d : S) → ch.joined ≡ Some (v, d) → ch.added ≡ None → AreConcerned cmp M c (Put v d) handlers logged → Told cmp M c handlers logged q ch
  add : (h : Handler E) (post : Post) → ch.joined ≡ None → ch.added ≡ Some (h, post) → handlers ≡ [] → most_added q ≡ 1 → Told cmp M c handlers logged q ch
  other : ch.joined ≡ None → ch.added ≡ None → handlers ≡ [] → Told cmp M c handlers logged q ch

module _ {P S E R A L : Type 0} (cmp : E → E → Ordering) (M : Machine S E R A L) (c : CoreView P S E L) (handlers : List (Handler E)) (logged : ℕ) where
  same_local : (k : Task L) (o from : L) (f a p : ℕ) → k ≡ Live o f a p → local_of k ≡ Some from → o ≡ from
  same_local k o from f a p is at = let e : Some o ≡ Some from = sym (ap local_of is) ∙ at in cc

  module _ (t : Name E) (from : L) (at : local_of ((state M c).tasks t) ≡ Some from) (con : AreConcerned cmp M c (M.request from) handlers logged) where
    asks_here : (u : Name E) (o : L) (f a p : ℕ) → (state M c).tasks u ≡ Live o f a p → Act u ≡ Act t → M.request from ≡ M.request o
    asks_here u o f a p is e =
        let name : u ≡ t = cc in
        ap M.request (sym (same_local ((state M c).tasks t) o from f a p (sym (ap (state M c).tasks name) ∙ is) at))

    concerned_by : (q : Request S R L) → M.request from ≡ q → AreConcerned cmp M c q handlers logged
    concerned_by q e = subst (λ r. AreConcerned cmp M c r handlers logged) e con

    told : (l : Label E) (ch : Change S E L) → Makes M (state M c) l ch → l ≡ Act t → Told cmp M c handlers logged (M.request from) ch
    told _ _ (puts u o f a p v d s is q j same) e = put v d refl refl (concerned_by (Put v d) (asks_here u o f a p is e ∙ q))
    told _ _ (gets u o f a p v r x is q j) e = other refl refl (concerned_by (Get v r) (asks_here u o f a p is e ∙ q))
    told _ _ (forks u o f a p k is q b) e = other refl refl (concerned_by (Fork k) (asks_here u o f a p is e ∙ q))
    told _ _ (adds u o f a p pool procedure w is q b x y) e =
        add (record { adder = u; number = suc a }) (record { pool = pool; procedure = procedure }) refl refl (concerned_by (Add pool procedure) (asks_here u o f a p is e ∙ q)) (ap most_added (asks_here u o f a p is e ∙ q))
    told _ _ (freezes u o f a p w ps is q) e = other refl refl (concerned_by (Freeze w ps) (asks_here u o f a p is e ∙ q))
    told _ _ (pauses u o f a p is q) e = other refl refl (concerned_by Pause (asks_here u o f a p is e ∙ q))
    told _ _ (ends u o f a p is q) e = other refl refl (concerned_by End (asks_here u o f a p is e ∙ q))
    told _ _ (hands h x post is) e = absurd (let z : ⊥ = cc in z)

-- ---- what a step concerns, where it is no put

abbrev pub IsNoPut : Touched → Type 0
IsNoPut x = (v : ℕ) → x ≡ Touches v → ⊥

ends_no_put : (o : Option ℕ) → IsNoPut (touching (λ w. EndedIn w) o)
ends_no_put None v e = cc
ends_no_put (Some w) v e = cc

no_put : {S E R A L : Type 0} (M : Machine S E R A L) (s : State S E L) (own : Option (Name E × Task L)) → IsNoPut (touched_in M s None own)
no_put M s (Some (u, Ended)) v e = ends_no_put _ v e
no_put M s own v e = cc

-- it brings no entries
pub none_fresh : {S E : Type 0} (variables : List (Variable S E)) (logged : ℕ) (x : Touched) → IsNoPut x → (fresh_in variables logged (Some x) ≡ []) × IsLogged variables logged (Some x)
none_fresh variables logged (Touches v) never = absurd (never v refl)
none_fresh variables logged x never = (refl, tt)

-- a put brings nothing to another variable
put_other : {S E R A L : Type 0} (M : Machine S E R A L) (s : State S E L) (v u : ℕ) (d : S) (own : Option (Name E × Task L)) → nat_eq v u ≡ false → put_brings M s v (Some (u, d)) own ≡ []
put_other M s v u d (Some (w, Live l f a p)) e = ap (λ b. if b then entries w p (fresh_of M.join M.event_same M.events (s.content v) d) else []) e
put_other M s v u d own e = refl

module _ {P S E R A L : Type 0} (cmp : E → E → Ordering) (M : Machine S E R A L) (ok : IsLawful M) (c d : CoreView P S E L) (t : Name E) (from : L) (handlers : List (Handler E)) (logged : ℕ) (step : IsStep M c (Act t) d DoneStep)
    (at : local_of ((state M c).tasks t) ≡ Some from) (con : AreConcerned cmp M c (M.request from) handlers logged) (long : length c.table.variables ≡ length d.table.variables) where
  abbrev done : Effect S E L
  done = effect M (state M c) (Act t)

  none : d.fault ≡ None
  none = done_none M c d (Act t) step

  goes : Running (state M d) ≡ after M (state M c) done
  goes = sym (at_state M d none) ∙ stepped_from M c d (Act t) DoneStep step

  enabled : CanStep M (Running (state M c)) (Act t)
  enabled = subst (λ (q : Configuration S E L). CanStep M q (Act t)) (at_state M c (begins_well M c d (Act t) DoneStep step)) step.enabled.0

  -- the change that the step made
  change : (ch : Change S E L) × (done ≡ Changes ch)
  change = by done refl
    where
      by : (o : Effect S E L) → done ≡ o → (ch : Change S E L) × (done ≡ Changes ch)
      by (Changes ch) e = (ch, e)
      by (Fails k v u) e = absurd (let z : Running (state M d) ≡ Error k v u = goes ∙ ap (after M (state M c)) e in let y : ⊥ = cc in y)
      by Nothing e = absurd (nothing M ok (state M c) (Act t) enabled e)

  tells : Told cmp M c handlers logged (M.request from) change.0
  tells = told cmp M c handlers logged t from at con (Act t) change.0 (view M ok (state M c) (Act t) change.0 change.1) refl

  touched_is : d.touched ≡ Some (touched_in M (state M c) change.0.joined change.0.own)
  touched_is = step.touched ∙ ap (λ o. Some (task_touches M (state M c) o)) change.1

  brought_is : (v : ℕ) → brought M (state M c) (Act t) v ≡ put_brings M (state M c) v change.0.joined change.0.own
  brought_is v = ap (brings M (state M c) v) change.1

  -- the handler that the step added
  added_is : (moved_in done).added ≡ option_map (λ x. x.0) change.0.added
  added_is = ap (λ o. (moved_in o).added) change.1

  -- a step that concerns no variable by a put
  quiet : change.0.joined ≡ None → (fresh_in d.table.variables logged d.touched ≡ []) × IsLogged d.table.variables logged d.touched × ((v : ℕ) → d.touched ≡ Some (Touches v) → ⊥)
  quiet none_joined =
      let told_so : d.touched ≡ Some (touched_in M (state M c) None change.0.own) = touched_is ∙ ap (λ o. Some (touched_in M (state M c) o change.0.own)) none_joined in
      let never = no_put M (state M c) change.0.own in
      let none = subst (λ o. (fresh_in d.table.variables logged o ≡ []) × IsLogged d.table.variables logged o) (sym told_so) (none_fresh d.table.variables logged _ never) in
      (none.0, none.1, λ v e. (let z : Some (touched_in M (state M c) None change.0.own) ≡ Some (Touches v) = sym told_so ∙ e in let y : touched_in M (state M c) None change.0.own ≡ Touches v = cc in never v y))

  nothing_brought : change.0.joined ≡ None → (v : ℕ) → brought M (state M c) (Act t) v ≡ []
  nothing_brought none_joined v = brought_is v ∙ ap (λ o. put_brings M (state M c) v o change.0.own) none_joined

  touches : (u : ℕ) (q : S) → change.0.joined ≡ Some (u, q) → d.touched ≡ Some (Touches u)
  touches u q j = touched_is ∙ ap (λ o. Some (touched_in M (state M c) o change.0.own)) j

  -- the entries after those of before are what a put brought
  put_fresh : (u : ℕ) (x : Variable S E) → slice_get c.table.variables u ≡ Some x → logged ≡ length x.log → d.touched ≡ Some (Touches u)
      → (fresh_in d.table.variables logged d.touched ≡ brought M (state M c) (Act t) u) × IsLogged d.table.variables logged d.touched
  put_fresh u x there count at_u = elim ((slice_get_cases d.table.variables u).1) [
    | inl y ↦
        let grown : y.0.log ≡ x.log ++ brought M (state M c) (Act t) u = step.logs u x y.0 there y.2 in
        let rest : drop logged y.0.log ≡ brought M (state M c) (Act t) u = ap (λ k. drop k y.0.log) count ∙ ap (λ l. drop (length x.log) l) grown ∙ drop-append_seam x.log (brought M (state M c) (Act t) u) in
        let more : length y.0.log ≡ length x.log + length (brought M (state M c) (Act t) u) = ap length grown ∙ length-append x.log (brought M (state M c) (Act t) u) in (
          ap (λ o. fresh_in d.table.variables logged o) at_u ∙ ap (λ o. log_from logged o) y.2 ∙ rest,
          subst (λ o. IsLogged d.table.variables logged o) (sym at_u) (y.0, y.2, omega (arith, count, more)),
        )
    | inr out ↦ absurd (let inside = slice_get_within c.table.variables u x there in omega (arith, inside, out.0, long))
  ]

  is_logged : IsLogged d.table.variables logged d.touched
  is_logged = elim tells [
    | put v q j a k ↦ (put_fresh v k.4.0 k.4.1 k.4.2 (touches v q j)).1
    | add h post j a nobody most ↦ (quiet j).1
    | other j a nobody ↦ (quiet j).1
  ]

  fresh_is : (v : ℕ) → d.touched ≡ Some (Touches v) → fresh_in d.table.variables logged d.touched ≡ brought M (state M c) (Act t) v
  fresh_is v e = elim tells [
    | put u q j a k ↦
        let both : Some (Touches u) ≡ Some (Touches v) = sym (touches u q j) ∙ e in
        let same : u ≡ v = cc in
        (put_fresh u k.4.0 k.4.1 k.4.2 (touches u q j)).0 ∙ ap (brought M (state M c) (Act t)) same
    | add h post j a nobody most ↦ absurd ((quiet j).2 v e)
    | other j a nobody ↦ absurd ((quiet j).2 v e)
  ]

  -- where a put brought something, it was to its variable
  put_there : (u v : ℕ) (q : S) → change.0.joined ≡ Some (u, q) → (brought M (state M c) (Act t) v ≡ [] → ⊥) → v ≡ u
  put_there u v q j some = by (nat_eq v u) refl
    where
      by : (b : Bool) → nat_eq v u ≡ b → v ≡ u
      by true e = nat_eq-true v u e
      by false e = absurd (some (brought_is v ∙ ap (λ o. put_brings M (state M c) v o change.0.own) j ∙ put_other M (state M c) v u q change.0.own e))

  put_concerns : (u : ℕ) (q : S) (held : List (Held E)) → change.0.joined ≡ Some (u, q) → change.0.added ≡ None → AreHandlers M c u held → handlers ≡ map (λ k. k.name) held
      → (es : List (Entry E)) → es ≡ brought M (state M c) (Act t) u → (h : Handler E) → IsAmong h (candidates es handlers None) ↔ Concerns M c (Act t) h
  put_concerns u q held j a are named [] none_here h = (
    λ i. absurd i,
    λ k. elim k [
      | by_handing e same ↦ (let z : ⊥ = cc in z)
      | by_adding added ↦ (let z : None ≡ Some h = sym (added_is ∙ ap (λ o. option_map (λ x. x.0) o) a) ∙ added in let y : ⊥ = cc in y)
      | by_putting v on some ↦ some (ap (brought M (state M c) (Act t)) (put_there u v q j some) ∙ sym none_here)
    ],
  )
  put_concerns u q held j a are named (x ∷ xs) here h = (
    λ i.
        let k = of_map (λ (y : Held E). y.name) h held (subst (λ hs. IsAmong h hs) (append-nil handlers ∙ named) i) in
        let seat : IsHeldAs held h (record { pool = k.0.pool; procedure = k.0.procedure }) = record { handler = k.0; there = contained held k.0 k.1; named = k.2; pool = refl; procedure = refl } in
        let on = (are.just h (record { pool = k.0.pool; procedure = k.0.procedure })).0 seat in
        by_putting u (record { post = record { pool = k.0.pool; procedure = k.0.procedure }; is = on.0; of = on.1 }) (λ e. (let z : x ∷ xs ≡ [] = here ∙ e in let y : ⊥ = cc in y)),
    λ k. elim k [
      | by_handing e same ↦ absurd (let z : ⊥ = cc in z)
      | by_adding added ↦ absurd (let z : None ≡ Some h = sym (added_is ∙ ap (λ o. option_map (λ y. y.0) o) a) ∙ added in let y : ⊥ = cc in y)
      | by_putting v on some ↦
          let same : v ≡ u = put_there u v q j some in
          let seat = (are.just h on.post).1 (on.is, subst (λ w. M.pool_variable on.post.pool ≡ Some w) same on.of) in
          let i : IsAmong h (map (λ y. y.name) held) = subst (λ g. IsAmong g (map (λ y. y.name) held)) seat.named (among_map (λ (y : Held E). y.name) seat.handler held (among held seat.handler seat.there)) in
          subst (λ hs. IsAmong h hs) (sym (append-nil handlers ∙ named)) i
    ],
  )

  quiet_concerns : change.0.joined ≡ None → (added : Option (Handler E)) → added ≡ (moved_in done).added → (h : Handler E) → IsAmong h (option_list added) ↔ Concerns M c (Act t) h
  quiet_concerns j None same h = (
    λ i. absurd i,
    λ k. elim k [
      | by_handing e z ↦ (let y : ⊥ = cc in y)
      | by_adding added ↦ (let z : None ≡ Some h = same ∙ added in let y : ⊥ = cc in y)
      | by_putting v on some ↦ some (nothing_brought j v)
    ],
  )
  quiet_concerns j (Some g) same h = (
    λ i. elim i [
      | inl e ↦ by_adding (sym same ∙ ap (λ x. Some x) (sym e))
      | inr z ↦ absurd z
    ],
    λ k. elim k [
      | by_handing e z ↦ absurd (let y : ⊥ = cc in y)
      | by_adding added ↦ inl (let z : Some g ≡ Some h = same ∙ added in let y : h ≡ g = cc in y)
      | by_putting v on some ↦ absurd (some (nothing_brought j v))
    ],
  )

  listed_sorted : (added : Option (Handler E)) → IsStrictlySortedBy (handler_cmp cmp) (option_list added)
  listed_sorted None = nothing_sorted (handler_cmp cmp)
  listed_sorted (Some h) = one_sorted (handler_cmp cmp) h

  -- just the candidates are concerned, and they are by name
  concerned : (added : Option (Handler E)) → added ≡ (moved_in done).added
      → ((h : Handler E) → IsAmong h (candidates (fresh_in d.table.variables logged d.touched) handlers added) ↔ Concerns M c (Act t) h) × IsStrictlySortedBy (handler_cmp cmp) (candidates (fresh_in d.table.variables logged d.touched) handlers added)
  concerned added same = elim tells [
    | put u q j a k ↦
        let nobody : added ≡ None = same ∙ added_is ∙ ap (λ o. option_map (λ x. x.0) o) a in
        subst (λ (o : Option (Handler E)). ((h : Handler E) → IsAmong h (candidates (fresh_in d.table.variables logged d.touched) handlers o) ↔ Concerns M c (Act t) h) × IsStrictlySortedBy (handler_cmp cmp) (candidates (fresh_in d.table.variables logged d.touched) handlers o)) (sym nobody) (
          λ h. put_concerns u q k.0 j a k.1 k.3 (fresh_in d.table.variables logged d.touched) (put_fresh u k.4.0 k.4.1 k.4.2 (touches u q j)).0 h,
          sorted (fresh_in d.table.variables logged d.touched) (subst (λ hs. IsStrictlySortedBy (handler_cmp cmp) hs) (sym k.3) k.2),
        )
    | add g post j a nobody most ↦ quietly j nobody
    | other j a nobody ↦ quietly j nobody
  ]
    where
      sorted : (es : List (Entry E)) → IsStrictlySortedBy (handler_cmp cmp) handlers → IsStrictlySortedBy (handler_cmp cmp) (candidates es handlers None)
      sorted [] s = nothing_sorted (handler_cmp cmp)
      sorted (x ∷ xs) s = subst (λ hs. IsStrictlySortedBy (handler_cmp cmp) hs) (sym (append-nil handlers)) s

      quietly : change.0.joined ≡ None → handlers ≡ []
          → ((h : Handler E) → IsAmong h (candidates (fresh_in d.table.variables logged d.touched) handlers added) ↔ Concerns M c (Act t) h) × IsStrictlySortedBy (handler_cmp cmp) (candidates (fresh_in d.table.variables logged d.touched) handlers added)
      quietly j empty =
          let only : option_list added ≡ candidates (fresh_in d.table.variables logged d.touched) handlers added = sym (ap (λ es. candidates es handlers added) (quiet j).0) in
          subst (λ hs. ((h : Handler E) → IsAmong h hs ↔ Concerns M c (Act t) h) × IsStrictlySortedBy (handler_cmp cmp) hs) only (λ h. quiet_concerns j added same h, listed_sorted added)

  -- what the board knows of the step
  pub act_made : (labels : List (Label E)) → IsRunTo M c labels → (moved : Moved E L) → IsMoved M (state M c) (Act t) moved → (added : Option (Handler E)) → added ≡ moved.added → IsMade M cmp c (Act t) d logged handlers added moved
  act_made labels leads moved is_moved added same =
      let who = concerned added (same ∙ ap (λ m. m.added) is_moved) in
      record { labels = labels; leads = leads; step = step; told = is_moved; long = long; is_logged = is_logged; fresh = fresh_is; concerned = who.0; by_name = who.1 }

  -- no more is added than there is room for
  pub few_added : (added : Option (Handler E)) → added ≡ (moved_in done).added → length (option_list added) ≤ most_added (M.request from)
  few_added None same = omega arith
  few_added (Some h) same = elim tells [
    | put u q j a k ↦ absurd (let z : Some h ≡ None = same ∙ added_is ∙ ap (λ o. option_map (λ x. x.0) o) a in let y : ⊥ = cc in y)
    | add g post j a nobody most ↦ omega (arith, most)
    | other j a nobody ↦ absurd (let z : Some h ≡ None = same ∙ added_is ∙ ap (λ o. option_map (λ x. x.0) o) a in let y : ⊥ = cc in y)
  ]
