-- What comes next for a handler that a step doesn't concern.
use Rattle.std.proofs.Common.{◌≡◌, ◌⊎◌, inl, inr, ◌<◌, ℕ, zero, suc, Bool, true, false, not, cond, List, [], ◌∷◌, map, length, Option, Some, None, Contains, slice_get, refl, sym, ap, subst, ◌∙◌, arith, if◌then◌else◌, nat_eq, option_map, filter}
use Rattle.std.specs.Set.{is_member}
use Rattle.std.proofs.lemmas.Bool.{cases_Bool, both_ways}
use Rattle.std.proofs.lemmas.Map.Made.{is_member-Decides}
use Rattle.lvish_lattice.specs.Lattice.{fresh_of, events_beyond}
use Rattle.lvish_calculus.specs.declared.label.Label.{Label}
use Rattle.lvish_calculus.specs.declared.label.Label.TheVariants.{Hand}
use Rattle.lvish_calculus.specs.Machine.{Machine, IsLawful, IsBelow}
use Rattle.lvish_calculus.specs.Calculus.{State, Change, Changes, IsOn, IsEnabled, IsToHand, changed, effect, with_join}
use Rattle.lvish_names.specs.Names.{Handler}
use Rattle.lvish_calculus.proofs.Names.{nat_eq-true}
use Rattle.lvish_calculus.proofs.Order.{with_join-same, with_join-other}
use Rattle.lvish_calculus.proofs.Steps.{Makes, puts, gets, forks, adds, freezes, pauses, ends, hands, view}
use Rattle.lvish_calculus.proofs.Sound.{IsSound}
use Rattle.lvish_calculus.proofs.Keeps.{handlers_after, handed_stays}
use Rattle.lvish_variable.specs.Variable.{VariableView as Variable, entries, logged}
use Rattle.lvish_handlers.specs.declared.held.Held.{Held}
use Rattle.lvish_handlers.specs.Handlers.{HandlersView as Handlers, next_of}
use Rattle.lvish_picture.specs.Picture.{IsPictured}
use Rattle.lvish_picture.specs.Laws.{IsHandlerSeated, HandsBelowTheEnd, HandsTheHeld}
use Rattle.lvish_picture.proofs.Slots.{among, get_there}
use Rattle.lvish_picture.proofs.Tables.{logged_len}
use Rattle.lvish_picture.proofs.Hands.{next_is}
use Rattle.lvish_core.specs.Core.{CoreView, IsRunTo, state}
use Rattle.lvish_core.specs.Changes.{moved_in, brings, put_brings}
use Rattle.lvish_core.specs.laws.Runs.{pictured_by}
use Rattle.lvish_board.specs.Listed.{Concerns, by_adding, by_putting, HasNext}

-- ---- what a put brings

-- what passes a test is left
not_all_gone : {X : Type 0} (test : X → Bool) (xs : List X) (x : X) → Contains xs x → test x ≡ true → filter test xs ≡ [] → ⊥
not_all_gone test [] x c passes gone = omega (arith, c.1)
not_all_gone test (y ∷ ys) x (zero, lt, same) passes gone =
    let here : test y ≡ true = ap test same ∙ passes in
    let no : y ∷ filter test ys ≡ [] = sym (ap (λ b. cond b (y ∷ filter test ys) (filter test ys)) here) ∙ gone in
    (let z : ⊥ = cc in z)
not_all_gone test (y ∷ ys) x (suc k, lt, same) passes gone = elim (cases_Bool (test y)) [
  | inl here ↦ let no : y ∷ filter test ys ≡ [] = sym (ap (λ b. cond b (y ∷ filter test ys) (filter test ys)) here) ∙ gone in (let z : ⊥ = cc in z)
  | inr here ↦ not_all_gone test ys x (k, omega (arith, lt), same) passes (sym (ap (λ b. cond b (y ∷ filter test ys) (filter test ys)) here) ∙ gone)
]

none_mapped : {X Y : Type 0} (f : X → Y) (xs : List X) → map f xs ≡ [] → xs ≡ []
none_mapped f [] e = refl
none_mapped f (x ∷ xs) e = absurd (let z : ⊥ = cc in z)

module _ {S E R A L : Type 0} (M : Machine S E R A L) (ok : IsLawful M) where
  -- an event that the join has and the state hasn't is fresh
  fresh_there : (a d s : S) (e : E) → M.join a d ≡ Some s → IsBelow M e s → is_member M.event_same (M.events a) e ≡ false → fresh_of M.join M.event_same M.events a d ≡ [] → ⊥
  fresh_there a d s e joined below missing gone =
      not_all_gone (λ x. not (is_member M.event_same (M.events a) x)) (M.events s) e below (ap not missing)
      (sym (ap (events_beyond M.event_same M.events a) joined) ∙ gone)

  -- an event below a variable's state after a step was below it before, or the step brought entries to its log
  below_before : (c : State S E L) (l : Label E) (ch : Change S E L) → Makes M c l ch → (v : ℕ) (e : E) → IsBelow M e ((changed M ch c).content v)
      → IsBelow M e (c.content v) ⊎ (put_brings M c v ch.joined ch.own ≡ [] → ⊥)
  below_before c l ch (puts t o f a p w d s is q j same) v e below = elim (cases_Bool (nat_eq v w)) [
    | inl b ↦
        let vv : w ≡ v = sym (nat_eq-true v w b) in
        let j2 : M.join (c.content v) d ≡ Some s = subst (λ y. M.join (c.content y) d ≡ Some s) vv j in
        let now : (changed M ch c).content v ≡ s = ap (λ y. with_join M.join (Some (y, d)) c.content v) vv ∙ with_join-same M ok v d c.content s j2 in
        elim (cases_Bool (is_member M.event_same (M.events (c.content v)) e)) [
          | inl old ↦ inl ((is_member-Decides ok.event_same_is (M.events (c.content v)) e).0 old)
          | inr new ↦ inr (λ gone. fresh_there (c.content v) d s e j2 (subst (λ y. IsBelow M e y) now below) new
              (none_mapped _ _ (sym (ap (λ x. if x then entries t (suc p) (fresh_of M.join M.event_same M.events (c.content v) d) else []) b) ∙ gone)))
        ]
    | inr b ↦ inl (subst (λ y. IsBelow M e y) (with_join-other M ok w d c.content v b) below)
  ]
  below_before c l ch (gets t o f a p w r x is q j) v e below = inl below
  below_before c l ch (forks t o f a p x is q b) v e below = inl below
  below_before c l ch (adds t o f a p pool procedure w is q b x y) v e below = inl below
  below_before c l ch (freezes t o f a p w pools is q) v e below = inl below
  below_before c l ch (pauses t o f a p is q) v e below = inl below
  below_before c l ch (ends t o f a p is q) v e below = inl below
  below_before c l ch (hands g x post o) v e below = inl below

  -- what can be handed to a handler that the step doesn't concern, could be before
  module _ {P : Type 0} (s : CoreView P S E L) (l : Label E) (ch : Change S E L) (does : effect M (state M s) l ≡ Changes ch) (en : IsEnabled M (state M s) l) (sound : IsSound (state M s)) (h : Handler E) (apart : Concerns M s l h → ⊥) where
    abbrev c : State S E L
    c = state M s

    makes : Makes M c l ch
    makes = view M ok c l ch does

    on_before : (v : ℕ) → IsOn M (changed M ch c) h v → IsOn M c h v
    on_before v on = elim (handlers_after M ok c l ch makes en sound h) [
      | inl z ↦ absurd (apart (by_adding (ap (λ o. (moved_in o).added) does ∙ ap (option_map (λ x. x.0)) z.1)))
      | inr z ↦ record { post = on.post; is = sym z ∙ on.is; of = on.of }
    ]

    not_handed_before : (e : E) → (changed M ch c).handed h e ≡ false → c.handed h e ≡ false
    not_handed_before e now = elim (cases_Bool (c.handed h e)) [
      | inl was ↦ absurd (both_ways _ now (handed_stays M ok c l ch makes en sound h e was))
      | inr was ↦ was
    ]

    pub to_hand_before : (e : E) → IsToHand M (changed M ch c) h e → IsToHand M c h e
    to_hand_before e z =
        let on = on_before z.variable z.on in
        elim (below_before c l ch makes z.variable e z.below) [
          | inl below ↦ record { variable = z.variable; on = on; below = below; not_handed = not_handed_before e z.not_handed }
          | inr some ↦ absurd (apart (by_putting z.variable on (λ none. some (sym (ap (brings M c z.variable) does) ∙ none))))
        ]

  -- something comes next for a handler that something can be handed to
  module _ {P : Type 0} (s : CoreView P S E L) (xs : List (Label E)) (leads : IsRunTo M s xs) (fine : s.fault ≡ None) (below : HandsBelowTheEnd M) (held : HandsTheHeld M) where
    pictured : IsPictured M s.table xs
    pictured = pictured_by M s xs fine leads

    pub has_next : (name : Handler E) (e : E) → IsEnabled M (state M s) (Hand name e) → HasNext M s name
    has_next name e en =
        let g = held xs s.table name e pictured en in
        seated g.0 g.1 g.2 g.3 g.4 g.5
      where
        seated : (v : ℕ) (x : Variable S E) (hs : Handlers E) (h : Held E) → IsHandlerSeated s.table v x hs h → h.name ≡ name → HasNext M s name
        seated v x hs h seat is = found (next_of M.event_same x.log hs.held h.name) refl
          where
            found : (o : Option E) → next_of M.event_same x.log hs.held h.name ≡ o → HasNext M s name
            found (Some y) at = (y, record { variable = v; at = x; at_is = seat.at; beside = hs; beside_is = seat.beside; next = subst (λ n. next_of M.event_same x.log hs.held n ≡ Some y) is at })
            found None at =
                let lt : h.handed < length x.log = (below xs s.table v x hs h pictured seat).0 (e, subst (λ n. IsEnabled M (state M s) (Hand n e)) (sym is) en) in
                let long = logged_len x.log in
                let y = get_there (logged x.log) h.handed (omega (arith, lt, long)) in
                let there : next_of M.event_same x.log hs.held h.name ≡ slice_get (logged x.log) h.handed = next_is M ok xs s.table pictured v x seat.at hs seat.beside h (among hs.held h seat.held) in
                let no : ◌≡◌ {A = Option E} None (Some y.0) = sym at ∙ there ∙ y.1 in
                absurd (let z : ⊥ = cc in z)
