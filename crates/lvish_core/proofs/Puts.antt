-- What a run's puts bring to a log, step by step, and which put brought an entry.
use Rattle.std.proofs.Common.{◌≡◌, ◌⊎◌, ◌↔◌, inl, inr, ℕ, zero, suc, ◌<◌, Bool, false, not, filter, List, [], ◌∷◌, ◌++◌, length, get_or, Some, slice_get, Contains, nat_eq, if◌then◌else◌, refl, sym, ap, subst, ◌∙◌, arith, append_assoc, append-nil}
use Rattle.std.proofs.lemmas.Bool.{cases_Bool, both_ways, false_from_ne_true, not-true}
use Rattle.std.proofs.lemmas.List.Elements.{Contains-append_left, Contains-append_right, Contains-append_cases}
use Rattle.std.proofs.lemmas.Map.Made.{is_member-Decides}
use Rattle.std.proofs.lemmas.Option.{same_Some}
use Rattle.std.specs.Set.{is_member}
use Rattle.lvish_lattice.specs.Lattice.{fresh_of, events_beyond}
use Rattle.lvish_core.specs.Vocabulary.{Label, Act, Entry, Put}
use Rattle.lvish_calculus.specs.Machine.{Machine, IsLawful, IsBelow}
use Rattle.lvish_calculus.specs.Calculus.{Live, State, Configuration, Running, Error, Change, Effect, Changes, Fails, Nothing, IsRun, changed, effect, start, step, with_join}
use Rattle.lvish_names.specs.Names.{Name}
use Rattle.lvish_calculus.specs.Laws.{Reaches}
use Rattle.lvish_calculus.specs.Handing.{Introduces}
use Rattle.lvish_calculus.proofs.Names.{nat_eq-true}
use Rattle.lvish_calculus.proofs.Order.{with_join-same, with_join-other}
use Rattle.lvish_calculus.proofs.Steps.{Makes, puts, view, unview}
use Rattle.lvish_calculus.proofs.Runs.{made_by, step_is}
use Rattle.lvish_calculus.proofs.SameThere.{run_join, run_split}
use Rattle.lvish_variable.specs.Variable.{entries, logged}
use Rattle.lvish_picture.specs.Logs.{IsInOrder}
use Rattle.lvish_picture.proofs.Slots.{contained, among, among_filter}
use Rattle.lvish_core.specs.Changes.{put_brings, brings, brought}
use Rattle.lvish_core.proofs.PutCount.{counted}
use Rattle.lvish_core.specs.Puts.{brought_by_run, IsAtPut, IsBroughtAfter, IsOnlyEntry}

module _ {S E R A L : Type 0} (M : Machine S E R A L) where
  -- a run in two parts brings what the first brings, and then what the second does
  brought_append : (d e : Configuration S E L) (xs ys : List (Label E)) → IsRun M d xs e → (v : ℕ) → brought_by_run M d (xs ++ ys) v ≡ brought_by_run M d xs v ++ brought_by_run M e ys v
  brought_append d e [] ys r v = ap (λ z. brought_by_run M z ys v) r
  brought_append (Running c) e (l ∷ xs) ys r v = ap (λ z. brought M c l v ++ z) (brought_append (step M c l) e xs ys r.1 v) ∙ sym (append_assoc (brought M c l v) (brought_by_run M (step M c l) xs v) (brought_by_run M e ys v))
  brought_append (Error k w t) e (l ∷ xs) ys r v = absurd r

  -- one step more
  pub brought_more : (xs : List (Label E)) (c : State S E L) (l : Label E) → Reaches M xs c → (v : ℕ) → brought_by_run M (Running (start M)) (xs ++ l ∷ []) v ≡ brought_by_run M (Running (start M)) xs v ++ brought M c l v
  brought_more xs c l r v = brought_append (Running (start M)) (Running c) xs (l ∷ []) r v ∙ ap (λ z. brought_by_run M (Running (start M)) xs v ++ z) (append-nil (brought M c l v))

-- ---- entries of one put

entry_of : {E : Type 0} (t : Name E) (n : ℕ) (es : List E) (x : Entry E) → Contains (entries t n es) x → (x.task ≡ t) × (x.number ≡ n) × Contains es x.event
entry_of t n [] x z = absurd (omega (arith, z.1))
entry_of {E} t n (e ∷ es) x (zero, lt, is) = (sym (ap (λ (y : Entry E). y.task) is), sym (ap (λ (y : Entry E). y.number) is), (0, omega arith, ap (λ (y : Entry E). y.event) is))
entry_of t n (e ∷ es) x (suc i, lt, is) = let g = entry_of t n es x (i, omega (arith, lt), is) in (g.0, g.1, (suc g.2.0, omega (arith, g.2.1), g.2.2))

entry_there : {E : Type 0} (t : Name E) (n : ℕ) (es : List E) (e : E) → Contains es e → Contains (entries t n es) (record { event = e; task = t; number = n })
entry_there t n [] e z = absurd (omega (arith, z.1))
entry_there {E} t n (x ∷ es) e (zero, lt, is) = (0, omega arith, ap (λ (y : E). record { event = y; task = t; number = n }) is)
entry_there t n (x ∷ es) e (suc i, lt, is) = let g = entry_there t n es e (i, omega (arith, lt), is) in (suc g.0, omega (arith, g.1), g.2)

-- ---- a step that introduces an event

module _ {S E R A L : Type 0} (M : Machine S E R A L) (ok : IsLawful M) where
  -- the step of x's task is its put number x.number, into v, and introduces x's event
  record Brings (c d : State S E L) (l : Label E) (v : ℕ) (x : Entry E) : Type 0 where
    label : l ≡ Act x.task
    local : L
    forks : ℕ
    adds : ℕ
    puts_before : ℕ
    is : c.tasks x.task ≡ Live local forks adds puts_before
    put : S
    asked : M.request local ≡ Put v put
    number : x.number ≡ suc puts_before
    new : IsBelow M x.event (c.content v) → ⊥
    below : IsBelow M x.event (d.content v)

  -- an event that one state has and another hasn't
  abbrev IsNewIn : E → S → S → Type 0
  IsNewIn e a b = IsBelow M e b × (IsBelow M e a → ⊥)

  -- whether a state hasn't the event
  abbrev lacks : S → E → Bool
  lacks a e = not (is_member M.event_same (M.events a) e)

  -- the fresh events of a put are those of the join that weren't there
  are_beyond : (a b : S) (e : E) → Contains (events_beyond M.event_same M.events a (Some b)) e ↔ IsNewIn e a b
  are_beyond a b e = (
    λ z. let f = (among_filter (lacks a) e (M.events b)).0 (among (filter (lacks a) (M.events b)) e z) in
        (contained (M.events b) e f.0, λ q. both_ways _ (not-true _ f.1) ((is_member-Decides ok.event_same_is (M.events a) e).1 q)),
    λ z. let there : is_member M.event_same (M.events a) e ≡ false = false_from_ne_true _ (λ q. z.1 ((is_member-Decides ok.event_same_is (M.events a) e).0 q)) in
        contained (filter (lacks a) (M.events b)) e ((among_filter (lacks a) e (M.events b)).1 (among (M.events b) e z.0, ap not there)),
  )

  are_fresh : (c : State S E L) (ch : Change S E L) (v : ℕ) (d s : S) → M.join (c.content v) d ≡ Some s → ch.joined ≡ Some (v, d) → (e : E)
      → Contains (fresh_of M.join M.event_same M.events (c.content v) d) e ↔ IsNewIn e (c.content v) ((changed M ch c).content v)
  are_fresh c ch v d s j joined e =
      let now : s ≡ (changed M ch c).content v = sym (subst (λ o. with_join M.join o c.content v ≡ s) (sym joined) (with_join-same M ok v d c.content s j)) in
      subst (λ o. Contains (events_beyond M.event_same M.events (c.content v) o) e ↔ IsNewIn e (c.content v) ((changed M ch c).content v)) (sym j)
      (subst (λ b. Contains (events_beyond M.event_same M.events (c.content v) (Some s)) e ↔ IsNewIn e (c.content v) b) now (are_beyond (c.content v) s e))

  module _ (c : State S E L) (v : ℕ) where
    entries_bring : (l : Label E) (ch : Change S E L) → Makes M c l ch → (x : Entry E) → Contains (put_brings M c v ch.joined ch.own) x → Brings c (changed M ch c) l v x
    entries_bring l ch (puts t o f a p w d s is q j same) x z = elim (cases_Bool (nat_eq v w)) [
      | inl b ↦
          let vw : w ≡ v = sym (nat_eq-true v w b) in
          let g = entry_of t (suc p) (fresh_of M.join M.event_same M.events (c.content v) d) x (subst (λ k. Contains (if k then entries t (suc p) (fresh_of M.join M.event_same M.events (c.content v) d) else []) x) b z) in
          let fresh = (are_fresh c ch v d s (subst (λ u. M.join (c.content u) d ≡ Some s) vw j) (ap (λ u. Some (u, d)) vw) x.event).0 g.2 in
          record {
            label = ap (λ u. Act u) (sym g.0);
            local = o;
            forks = f;
            adds = a;
            puts_before = p;
            is = ap c.tasks g.0 ∙ is;
            put = d;
            asked = q ∙ ap (λ u. Put u d) vw;
            number = g.1;
            new = fresh.1;
            below = fresh.0;
          }
      | inr b ↦ absurd (omega (arith, (subst (λ k. Contains (if k then entries t (suc p) (fresh_of M.join M.event_same M.events (c.content v) d) else []) x) b z).1))
    ]
    entries_bring l ch mm x z = absurd (omega (arith, z.1))

    effect_brings : (l : Label E) (o : Effect S E L) → effect M c l ≡ o → (x : Entry E) → Contains (brings M c v o) x → (ch : Change S E L) × Makes M c l ch × Brings c (changed M ch c) l v x
    effect_brings l (Changes ch) e x z = let m = view M ok c l ch e in (ch, m, entries_bring l ch m x z)
    effect_brings l (Fails k w t) e x z = absurd (omega (arith, z.1))
    effect_brings l Nothing e x z = absurd (omega (arith, z.1))

  -- an entry that a run brings, brought after some part of it
  named : (pre xs : List (Label E)) (d last : Configuration S E L) → IsRun M (Running (start M)) pre d → IsRun M d xs last → (v : ℕ) (x : Entry E) → Contains (brought_by_run M d xs v) x
      → (before : List (Label E)) × IsBroughtAfter M before (pre ++ xs) v x
  named pre [] d last r q v x z = absurd (omega (arith, z.1))
  named pre (l ∷ ls) (Error k w t) last r q v x z = absurd q
  named pre (l ∷ ls) (Running c) last r q v x z = elim (Contains-append_cases (brought M c l v) (brought_by_run M (step M c l) ls v) x z) [
    | inl y ↦
        let g = effect_brings c v l (effect M c l) refl x y in
        let b = g.2 in (
          pre,
          record {
            after = ls;
            is = ap (λ k. pre ++ k ∷ ls) b.label;
            put = record { at = c; reaches = r; local = b.local; forks = b.forks; adds = b.adds; puts = b.puts_before; is = b.is; put = b.put; asked = b.asked; number = b.number ∙ ap suc (sym (counted M ok pre c r x.task b.local b.forks b.adds b.puts_before b.is)) };
            introduces = record {
              before = c;
              after = changed M g.0 c;
              reaches_before = r;
              reaches_after = subst (λ k. Reaches M (pre ++ k ∷ []) (changed M g.0 c)) b.label (run_join M pre (l ∷ []) (Running (start M)) (Running c) (Running (changed M g.0 c)) r (q.0, step_is M ok c l g.0 g.1));
              new = b.new;
              below = b.below;
            };
          },
        )
    | inr y ↦
        let g = named (pre ++ l ∷ []) ls (step M c l) last (run_join M pre (l ∷ []) (Running (start M)) (Running c) (step M c l) r (q.0, refl)) q.1 v x y in
        (g.0, subst (λ zs. IsBroughtAfter M g.0 zs v x) (append_assoc pre (l ∷ []) ls) g.1)
  ]

  pub entry_named : (xs : List (Label E)) (last : Configuration S E L) → IsRun M (Running (start M)) xs last → (v : ℕ) (log : List (Entry E)) → log ≡ brought_by_run M (Running (start M)) xs v
      → (x : Entry E) → Contains log x → (before : List (Label E)) × IsBroughtAfter M before xs v x
  entry_named xs last run v log is x z = named [] xs (Running (start M)) last refl run v x (subst (λ l. Contains l x) is z)

  -- ---- the entry of an event that a step introduces

  brings_entry : (c : State S E L) (v : ℕ) (l : Label E) (ch : Change S E L) → Makes M c l ch → (e : E) → (IsBelow M e (c.content v) → ⊥) → IsBelow M e ((changed M ch c).content v)
      → (t : Name E) × (n : ℕ) × Brings c (changed M ch c) l v (record { event = e; task = t; number = n }) × Contains (put_brings M c v ch.joined ch.own) (record { event = e; task = t; number = n })
  brings_entry c v l ch (puts t o f a p w d s is q j same) e new below = elim (cases_Bool (nat_eq v w)) [
    | inl b ↦
        let vw : w ≡ v = sym (nat_eq-true v w b) in
        let fresh = (are_fresh c ch v d s (subst (λ u. M.join (c.content u) d ≡ Some s) vw j) (ap (λ u. Some (u, d)) vw) e).1 (below, new) in
        let there = subst (λ k. Contains (if k then entries t (suc p) (fresh_of M.join M.event_same M.events (c.content v) d) else []) (record { event = e; task = t; number = suc p })) (sym b)
        (entry_there t (suc p) (fresh_of M.join M.event_same M.events (c.content v) d) e fresh) in
        (t, suc p, entries_bring c v l ch (puts t o f a p w d s is q j same) (record { event = e; task = t; number = suc p }) there, there)
    | inr b ↦ absurd (new (subst (λ x. IsBelow M e x) (with_join-other M ok w d c.content v b) below))
  ]
  brings_entry c v l ch mm e new below = absurd (new below)

  at_index : (log : List (Entry E)) (i : ℕ) (x : Entry E) (d : E) → slice_get log i ≡ Some x → (get_or (logged log) i d ≡ x.event) × (i < length (logged log))
  at_index [] i x d e = absurd (cc e)
  at_index (y ∷ log) zero x d e = (ap (λ (z : Entry E). z.event) (same_Some _ _ e), omega arith)
  at_index (y ∷ log) (suc i) x d e = let g = at_index log i x d e in (g.0, omega (arith, g.1))

  found_at : (log : List (Entry E)) (x : Entry E) → Contains log x → (i : ℕ) × (slice_get log i ≡ Some x)
  found_at [] x z = absurd (omega (arith, z.1))
  found_at (y ∷ log) x (zero, lt, is) = (0, ap (λ (z : Entry E). Some z) is)
  found_at (y ∷ log) x (suc i, lt, is) = let g = found_at log x (i, omega (arith, lt), is) in (suc g.0, g.1)

  -- a log whose events differ has one entry of each
  only_one : (xs : List (Label E)) (c : State S E L) (v : ℕ) (log : List (Entry E)) → IsInOrder M xs c v (logged log) → (x : Entry E) → Contains log x → IsOnlyEntry log x
  only_one xs c v log o x z = let g = found_at log x z in record { index = g.0; at = g.1; only = λ i y at same. by i y at same g.0 g.1 }
    where
      apart : (i k : ℕ) → (i ≡ k) ⊎ ((i < k) ⊎ (k < i))
      apart zero zero = inl refl
      apart zero (suc k) = inr (inl (omega arith))
      apart (suc i) zero = inr (inr (omega arith))
      apart (suc i) (suc k) = elim (apart i k) [ inl e ↦ inl (ap suc e) | inr (inl lt) ↦ inr (inl (omega (arith, lt))) | inr (inr lt) ↦ inr (inr (omega (arith, lt))) ]

      by : (i : ℕ) (y : Entry E) → slice_get log i ≡ Some y → y.event ≡ x.event → (k : ℕ) → slice_get log k ≡ Some x → i ≡ k
      by i y at same k is =
          let p = at_index log i y x.event at in
          let q = at_index log k x x.event is in
          elim (apart i k) [
            | inl e ↦ e
            | inr (inl lt) ↦ absurd ((o.order i k x.event lt q.1).other (p.0 ∙ same ∙ sym q.0))
            | inr (inr lt) ↦ absurd ((o.order k i x.event lt p.1).other (q.0 ∙ sym same ∙ sym p.0))
          ]

  pub entry_is_there : (xs : List (Label E)) (c : State S E L) (v : ℕ) (log : List (Entry E)) → IsInOrder M xs c v (logged log) → log ≡ brought_by_run M (Running (start M)) xs v
      → (before after : List (Label E)) (t : Name E) (e : E) → xs ≡ before ++ Act t ∷ after → Introduces M before t v e → (n : ℕ) × IsAtPut M before t n v × IsOnlyEntry log (record { event = e; task = t; number = n })
  entry_is_there xs c v log o is before after t e cuts i =
      let was = i.before in
      let one = run_split M before (Act t ∷ []) (Running (start M)) (Running was) (Running (i.after)) i.reaches_before i.reaches_after in
      let m = made_by M ok was (i.after) (Act t) one.0 (effect M was (Act t)) refl one.1 in
      let g = brings_entry was v (Act t) m.change m.makes e i.new (subst (λ (q : State S E L). IsBelow M e (q.content v)) m.is i.below) in
      let b = g.2 in
      let mine : g.0 ≡ t = sym (act_same t g.0 b.label) in
      let told : brought M was (Act t) v ≡ put_brings M was v m.change.joined m.change.own = ap (λ q. brings M was v q) (unview M ok was (Act t) m.change m.makes) in
      let whole = is ∙ ap (λ ls. brought_by_run M (Running (start M)) ls v) cuts ∙ brought_append M (Running (start M)) (Running was) before (Act t ∷ after) i.reaches_before v in
      let entry : Entry E = record { event = e; task = g.0; number = g.1 } in
      let there = subst (λ l. Contains l entry) (sym whole)
      (Contains-append_right (brought_by_run M (Running (start M)) before v) (brought M was (Act t) v ++ brought_by_run M (step M was (Act t)) after v) entry
      (Contains-append_left (brought M was (Act t) v) (brought_by_run M (step M was (Act t)) after v) entry (subst (λ l. Contains l entry) (sym told) g.3))) in
      let both = subst (λ u. IsAtPut M before u g.1 v × IsOnlyEntry log (record { event = e; task = u; number = g.1 })) mine
      (record { at = was; reaches = i.reaches_before; local = b.local; forks = b.forks; adds = b.adds; puts = b.puts_before; is = b.is; put = b.put; asked = b.asked; number = b.number ∙ ap suc (sym (counted M ok before was i.reaches_before g.0 b.local b.forks b.adds b.puts_before b.is)) }, only_one xs c v log o entry there) in
      (g.1, both.0, both.1)
    where
      act_same : (t u : Name E) → Act t ≡ Act u → t ≡ u
      act_same t u h = cc h
