-- What a step brings, and what is noted of it.
use Rattle.std.proofs.Common.{◌≡◌, ◌≤◌, ◌<◌, ◌-◌, ◌+◌, inl, inr, ℕ, zero, suc, Bool, true, false, not, ◌&&◌, List, [], ◌∷◌, ◌++◌, drop, length, Option, Some, None, MatchOption, nat_eq, if◌then◌else◌, refl, sym, ap, subst, ◌∙◌, arith, append-nil, option_map, unwrap_or}
use Rattle.std.proofs.lemmas.Bool.{cases_Bool}
use Rattle.std.proofs.lemmas.Option.{none-some, same_Some, slice_get_within}
use Rattle.std.specs.List.{slice_get}
use Rattle.lvish_lattice.specs.Lattice.{fresh_of}
use Rattle.lvish_calculus.specs.Machine.{Machine}
use Rattle.lvish_calculus.specs.declared.request.ErrorKind.TheVariants.{Frozen}
use Rattle.lvish_calculus.specs.declared.request.Reply.TheVariants.{Done}
use Rattle.lvish_calculus.specs.declared.request.Request.{Request}
use Rattle.lvish_calculus.specs.declared.request.Request.TheVariants.{Put, Get, Fork, Add, Freeze, Pause, End, Fault}
use Rattle.lvish_calculus.specs.Calculus.{Task, Absent, Live, Ended, State, Post, Effect, Changes, Fails, put_effect, get_effect, add_effect, request_effect, task_effect, hand_effect, just}
use Rattle.lvish_calculus.proofs.Names.{nat_eq-true}
use Rattle.lvish_calculus.specs.declared.label.Label.{Label}
use Rattle.lvish_calculus.specs.declared.label.Label.TheVariants.{Act, Hand}
use Rattle.lvish_calculus.specs.Handing.{IsAmong}
use Rattle.lvish_names.specs.Names.{Name, Handler, is_deep}
use Rattle.lvish_variable.specs.declared.entry.Entry.{Entry}
use Rattle.lvish_variable.specs.Variable.{VariableView as Variable, entries}
use Rattle.lvish_core.specs.declared.fault.Stepped.{Stepped}
use Rattle.lvish_core.specs.Changes.{brings, brought}
use Rattle.lvish_core.specs.Core.{CoreView, state}
use Rattle.lvish_core.specs.Reads.{IsItsRequest}
use Rattle.lvish_retrace.specs.declared.bringer.Bringer.{Bringer}
use Rattle.lvish_retrace.specs.Brought.{entry_of, noted, put_variable}
use Rattle.lvish_retrace.specs.Walk.{CantGo, IsGrown, IsMade, IsNoted, MakesOrStops}
use Rattle.lvish_retrace.proofs.Lists.{there_too}

-- whether a request puts into v
abbrev pub puts_into : {S R L : Type 0} → Request S R L → ℕ → Bool
puts_into (Put w d) v = nat_eq v w
puts_into r v = false

puts_nowhere : {S R L : Type 0} (r : Request S R L) (v : ℕ) → put_variable r ≡ None → puts_into r v ≡ false
puts_nowhere (Put w d) v none = absurd (none-some w (sym none))
puts_nowhere (Get w r) v none = refl
puts_nowhere (Fork l) v none = refl
puts_nowhere (Add p k) v none = refl
puts_nowhere (Freeze w ps) v none = refl
puts_nowhere Pause v none = refl
puts_nowhere End v none = refl
puts_nowhere (Fault k) v none = refl

puts_elsewhere : {S R L : Type 0} (r : Request S R L) (v w : ℕ) → put_variable r ≡ Some w → nat_eq v w ≡ false → puts_into r v ≡ false
puts_elsewhere (Put u d) v w is apart = let same : u ≡ w = same_Some u w is in ap (λ z. nat_eq v z) same ∙ apart
puts_elsewhere (Get u r) v w is apart = refl
puts_elsewhere (Fork l) v w is apart = refl
puts_elsewhere (Add p k) v w is apart = refl
puts_elsewhere (Freeze u ps) v w is apart = refl
puts_elsewhere Pause v w is apart = refl
puts_elsewhere End v w is apart = refl
puts_elsewhere (Fault k) v w is apart = refl

-- ---- a step that is no put into v brings nothing to its log

module _ {S E R A L : Type 0} (M : Machine S E R A L) (s : State S E L) (v : ℕ) where
  abbrev BringsNone : Effect S E L → Type 0
  BringsNone e = brings M s v e ≡ []

  either_way : (b : Bool) (x y : Effect S E L) → BringsNone x → BringsNone y → BringsNone (if b then x else y)
  either_way true x y p q = p
  either_way false x y p q = q

  by_request : (t : Name E) (at : L) (f a p : ℕ) (r : Request S R L) → puts_into r v ≡ false → BringsNone (request_effect M s t at f a p r)
  by_request t at f a p (Put w d) apart = by_put (M.join (s.content w) d)
    where
      by_put : (o : Option S) → BringsNone (put_effect M s t (Live (M.resume at Done) f a (suc p)) w d o)
      by_put None = refl
      by_put (Some j) = by_mark (s.frozen w && not (M.same j (s.content w)))
        where
          by_mark : (b : Bool) → BringsNone (if b then Fails Frozen (Some w) t else Changes (record (just {S = S} t (Live (M.resume at Done) f a (suc p))) { joined = Some (w, d) }))
          by_mark true = refl
          by_mark false = ap (λ b. if b then entries t (suc p) (fresh_of M.join M.event_same M.events (s.content v) d) else []) apart
  by_request t at f a p (Get w r) apart = answered (M.answer r (s.content w))
    where
      answered : (o : Option A) → BringsNone (get_effect M t at f a p o)
      answered None = refl
      answered (Some x) = refl
  by_request t at f a p (Fork child) apart = either_way (is_deep t) _ _ refl refl
  by_request t at f a p (Add pool procedure) apart = either_way (is_deep t) _ _ refl (added _ _ _ (M.pool_variable pool))
    where
      added : (k : Task L) (h : Handler E) (post : Post) (o : Option ℕ) → BringsNone (add_effect s t k h post o)
      added k h post None = refl
      added k h post (Some w) = either_way (s.frozen w) _ _ refl refl
  by_request t at f a p (Freeze w pools) apart = refl
  by_request t at f a p Pause apart = refl
  by_request t at f a p End apart = refl
  by_request t at f a p (Fault kind) apart = refl

  by_task : (t : Name E) (r : Request S R L) → ((l : L) (f a p : ℕ) → s.tasks t ≡ Live l f a p → M.request l ≡ r) → puts_into r v ≡ false → brought M s (Act t) v ≡ []
  by_task t r asked apart = by (s.tasks t) refl
    where
      by : (k : Task L) → s.tasks t ≡ k → BringsNone (task_effect M s t k)
      by Absent e = refl
      by Ended e = refl
      by (Live l f a p) e = by_request t (M.at l) f a p (M.request l) (ap (λ q. puts_into q v) (asked l f a p e) ∙ apart)

  by_handing : (h : Handler E) (e : E) → brought M s (Hand h e) v ≡ []
  by_handing h e = by (s.handlers h)
    where
      by : (o : Option Post) → BringsNone (hand_effect M h e o)
      by None = refl
      by (Some post) = refl

-- ---- entries and their puts

first : (k : ℕ) → k ≡ 0 + k
first k = omega arith

next : (n k : ℕ) → suc (n + k) ≡ suc n + k
next n k = omega arith

at_dropped : {X : Type 0} (xs : List X) (n k : ℕ) → slice_get (drop n xs) k ≡ slice_get xs (n + k)
at_dropped xs zero k = ap (λ m. slice_get xs m) (first k)
at_dropped [] (suc n) k = refl
at_dropped (x ∷ xs) (suc n) k = at_dropped xs n k ∙ ap (λ m. slice_get (x ∷ xs) m) (next n k)

module _ {E : Type 0} (v step : ℕ) where
  -- a put that is noted has its entry among these
  noted_at : (es : List (Entry E)) (b : Bringer E) → IsAmong b (noted v step es) → (k : ℕ) × (slice_get es k ≡ Some (entry_of b)) × (b.variable ≡ v) × (b.step ≡ step)
  noted_at [] b i = absurd i
  noted_at (e ∷ es) b (inl same) = (0, ap (λ z. Some (entry_of z)) (sym same), ap (λ z. z.variable) same, ap (λ z. z.step) same)
  noted_at (e ∷ es) b (inr i) = let g = noted_at es b i in (suc g.0, g.1, g.2, g.3)

  -- and each entry its put
  put_at : (es : List (Entry E)) (k : ℕ) (e : Entry E) → slice_get es k ≡ Some e → (b : Bringer E) × IsAmong b (noted v step es) × (b.variable ≡ v) × (b.event ≡ e.event)
  put_at [] k e at = absurd (none-some e at)
  put_at (x ∷ es) zero e at = let same : x ≡ e = cc in (_, inl refl, refl, ap (λ (z : Entry E). z.event) same)
  put_at (x ∷ es) (suc k) e at = let g = put_at es k e at in (g.0, inr g.1, g.2, g.3)

-- the log of a variable, empty where there is none
abbrev log_in : {S E : Type 0} → List (Variable S E) → ℕ → List (Entry E)
log_in variables v = unwrap_or (option_map (λ x. x.log) (slice_get variables v)) []

module _ {P S E R A L : Type 0} (M : Machine S E R A L) (old new : CoreView P S E L) (l : Label E) (number : ℕ) (same : length new.table.variables ≡ length old.table.variables)
    (logs : (v : ℕ) (x y : Variable S E) → slice_get old.table.variables v ≡ Some x → slice_get new.table.variables v ≡ Some y → y.log ≡ x.log ++ brought M (state M old) l v) where
  -- where nothing is brought, a log has no more entries
  no_more : (v : ℕ) (x y : Variable S E) → slice_get old.table.variables v ≡ Some x → slice_get new.table.variables v ≡ Some y → brought M (state M old) l v ≡ []
      → (k : ℕ) (e : Entry E) → length x.log ≤ k → slice_get y.log k ≡ Some e → ⊥
  no_more v x y at_x at_y none k e behind at =
      let is : y.log ≡ x.log = logs v x y at_x at_y ∙ ap (λ zs. x.log ++ zs) none ∙ append-nil x.log in
      let within : k < length x.log = slice_get_within x.log k e (subst (λ zs. slice_get zs k ≡ Some e) is at) in
      omega (arith, within, behind)

  -- a step that brings nothing: nothing is noted
  pub none_noted : ((v : ℕ) → brought M (state M old) l v ≡ []) → IsNoted M old new number []
  none_noted none = record {
    count = same;
    each = λ b i. absurd i;
    there = λ b i. absurd i;
    all = λ v x y at_x at_y k e behind at. absurd (no_more v x y at_x at_y (none v) k e behind at);
  }

  -- a put into v: the entries behind those that its log had are noted
  module _ (v : ℕ) (none : (w : ℕ) → nat_eq w v ≡ false → brought M (state M old) l w ≡ []) where
    abbrev had : ℕ
    had = length (log_in old.table.variables v)

    abbrev fresh : List (Entry E)
    fresh = drop had (log_in new.table.variables v)

    log_of : (variables : List (Variable S E)) (w : ℕ) (x : Variable S E) → w ≡ v → slice_get variables w ≡ Some x → log_in variables v ≡ x.log
    log_of variables w x is at = ap (λ u. log_in variables u) (sym is) ∙ ap (λ o. unwrap_or (option_map (λ (z : Variable S E). z.log) o) []) at

    is_there : (o : Option (Variable S E)) → slice_get new.table.variables v ≡ o → (k : ℕ) (e : Entry E) → slice_get (log_in new.table.variables v) k ≡ Some e → (y : Variable S E) × (slice_get new.table.variables v ≡ Some y)
    is_there (Some y) at k e in_log = (y, at)
    is_there None at k e in_log = absurd (none-some e (sym (ap (λ o. slice_get (unwrap_or (option_map (λ (z : Variable S E). z.log) o) []) k) at) ∙ in_log))

    pub put_noted : IsNoted M old new number (noted v number fresh)
    put_noted = record {
      count = same;
      each = λ b i. let g = noted_at v number fresh b i in (
        g.3,
        λ x y at_x at_y. (
          had + g.0,
          omega (arith, ap length (log_of old.table.variables b.variable x g.2 at_x)),
          ap (λ zs. slice_get zs (had + g.0)) (sym (log_of new.table.variables b.variable y g.2 at_y)) ∙ sym (at_dropped (log_in new.table.variables v) had g.0) ∙ g.1,
        ),
      );
      there = λ b i. let g = noted_at v number fresh b i in
          let y = is_there (slice_get new.table.variables v) refl (had + g.0) (entry_of b) (sym (at_dropped (log_in new.table.variables v) had g.0) ∙ g.1) in
          let x = there_too new.table.variables old.table.variables v y.0 same y.1 in
          (x.0, ap (λ w. slice_get old.table.variables w) g.2 ∙ x.1);
      all = λ w x y at_x at_y k e behind at. elim (cases_Bool (nat_eq w v)) [
        | inl equal ↦
            let is : w ≡ v = nat_eq-true w v equal in
            let many : had ≡ length x.log = ap length (log_of old.table.variables w x is at_x) in
            let place : had + (k - had) ≡ k = omega (arith, many, behind) in
            let g = put_at v number fresh (k - had) e (at_dropped (log_in new.table.variables v) had (k - had) ∙ ap (λ m. slice_get (log_in new.table.variables v) m) place ∙ ap (λ zs. slice_get zs k) (log_of new.table.variables w y is at_y) ∙ at) in
            (g.0, g.1, g.2 ∙ sym is, g.3)
        | inr apart ↦ absurd (no_more w x y at_x at_y (none w apart) k e behind at)
      ];
    }

module _ {P S E R A L : Type 0} (M : Machine S E R A L) (old new : CoreView P S E L) (t : Name E) (number : ℕ) (r : Request S R L) (asked : IsItsRequest M old t r) (bs : List (Bringer E)) where
  -- a step that is no put
  pub unnoted : put_variable r ≡ None → (o : Option Stepped) → MatchOption o (CantGo M old (Act t)) (λ said. IsGrown M old (Act t) new said) → MakesOrStops M old (Act t) new number bs bs o
  unnoted none None stuck = stuck
  unnoted none (Some said) grown = record {
    said = said;
    step = grown.step;
    more = [];
    brought = sym (append-nil bs);
    noted = none_noted M old new (Act t) number grown.count grown.step.logs (λ v. by_task M (state M old) v t r asked (puts_nowhere r v none));
  }

  -- a put into v
  pub made : (v : ℕ) → put_variable r ≡ Some v → (said : Stepped) → IsGrown M old (Act t) new said → (bs1 : List (Bringer E))
      → bs1 ≡ bs ++ noted v number (drop (length (log_in old.table.variables v)) (log_in new.table.variables v)) → IsMade M old (Act t) new number bs bs1
  made v some said grown bs1 is = record {
    said = said;
    step = grown.step;
    more = noted v number (drop (length (log_in old.table.variables v)) (log_in new.table.variables v));
    brought = is;
    noted = put_noted M old new (Act t) number grown.count grown.step.logs v (λ w apart. by_task M (state M old) w t r asked (puts_elsewhere r w v some apart));
  }

-- a handing
pub made_handing : {P S E R A L : Type 0} (M : Machine S E R A L) (old new : CoreView P S E L) (h : Handler E) (e : E) (number : ℕ) (said : Stepped) → IsGrown M old (Hand h e) new said → (bs : List (Bringer E)) → IsMade M old (Hand h e) new number bs bs
made_handing M old new h e number said grown bs = record {
  said = said;
  step = grown.step;
  more = [];
  brought = sym (append-nil bs);
  noted = none_noted M old new (Hand h e) number grown.count grown.step.logs (λ v. by_handing M (state M old) v h e);
}
