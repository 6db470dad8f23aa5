-- States that hold those of a lattice: what comparing, merging and fresh events are on them.
use Rattle.std.specs.Prelude.{◌≡◌, ◌↔◌, Bool, not, IsTrue, List, [], filter, map, Option, Some, None, option_map, is_some, unwrap_or, Result, IfOk, true, ◌∷◌, refl}
use Rattle.std.proofs.Common.{sym, ◌∙◌, ap, subst}
use Rattle.std.proofs.lemmas.Result.{IfOk-weaker}
use Rattle.std.specs.Set.{is_member}
use Rattle.lvish_lattice.specs.Lattice.{IsAtOrBelow, IsMerged, IsOutcome, events_beyond, fresh_of, renamed}
use Rattle.lvish_lattice.specs.declared.brought.Brought.{Brought}
use Rattle.lvish_compound.proofs.Outcomes.{outcome_named}
use Rattle.std.proofs.lemmas.Option.{same_Some}
use Rattle.lvish_compound.specs.Vocabulary.{OrdGhosts, PartialEqGhosts, PartialOrdGhosts, HashGhosts, LatticeGhosts, Above}
use Rattle.lvish_compound.specs.Above.{state_of, same_above}
use Rattle.lvish_compound.proofs.PairFresh.{nothing_beyond}
use Rattle.lvish_compound.specs.Held.{held, held_above}

-- a fact of two values is one of two equal ones
pub along : {X Y : Type 0} (P : X → Y → Type 0) (s x : X) (r y : Y) → s ≡ x → r ≡ y → P x y → P s r
along P s x r y e f h = subst (λ v. P v r) (sym e) (subst (P x) (sym f) h)

some_after : {A B : Type 0} (f : A → B) (t : Bool) (u : Option A) → t ≡ is_some u → t ≡ is_some (option_map f u)
some_after f t (Some x) e = e
some_after f t None e = e

-- what is held is a state of the lattice, in each of its forms: `put` takes the held form, `of` any state
pub record IsCarried {L X S : Type 0} (put : X → S) (state : X → L) (of : L → S) (join : S → S → Option S) (inner : L → L → Option L) : Type 0 where
  pub back : (x : X) → of (state x) ≡ put x
  pub same : (x z : X) → state x ≡ state z → x ≡ z
  pub inside : (x z : X) → join (put x) (put z) ≡ option_map of (inner (state x) (state z))

module _ {L X S : Type 0} {put : X → S} {state : X → L} {of : L → S} {join : S → S → Option S} {inner : L → L → Option L} (c : IsCarried put state of join inner) where
  module _ (pick : S → L) (picked : (s : L) → pick (of s) ≡ s) where
    picks : (x : X) → pick (put x) ≡ state x
    picks x = ap pick (sym (c.back x)) ∙ picked (state x)

    below_by : (z : X) (u : Option L) → option_map of u ≡ Some (put z) → u ≡ Some (state z)
    below_by z (Some d) e = ap (λ v. Some v) (sym (picked d) ∙ ap pick (same_Some _ _ e) ∙ picks z)
    below_by z None e = absurd cc

    carried_below : (x z : X) → IsAtOrBelow inner (state x) (state z) ↔ IsAtOrBelow join (put x) (put z)
    carried_below x z = (
      λ h. c.inside x z ∙ ap (option_map of) h ∙ ap (λ v. Some v) (c.back z),
      λ h. below_by z (inner (state x) (state z)) (sym (c.inside x z) ∙ h),
    )

    pub carried_leq : (t : Bool) (s r : S) (x z : X) (p q : L) → s ≡ put x → r ≡ put z → p ≡ state x → q ≡ state z → IsTrue t ↔ IsAtOrBelow inner p q → IsTrue t ↔ IsAtOrBelow join s r
    carried_leq t s r x z p q es er ep eq h =
        let w : IsAtOrBelow inner (state x) (state z) ↔ IsAtOrBelow join (put x) (put z) = carried_below x z in
        let k : IsTrue t ↔ IsAtOrBelow inner (state x) (state z) = along (λ (v u : L). IsTrue t ↔ IsAtOrBelow inner v u) (state x) p (state z) q (sym ep) (sym eq) h in
        along (λ (v u : S). IsTrue t ↔ IsAtOrBelow join v u) s (put x) r (put z) es er (λ e. w.0 (k.0 e), λ e. k.1 (w.1 e))

  pub carried_join : (s r res : S) (x z : X) (p q d : L) (o : Option L) → s ≡ put x → r ≡ put z → p ≡ state x → q ≡ state z → o ≡ inner p q → o ≡ Some d → res ≡ of d → Some res ≡ join s r
  carried_join s r res x z p q d o es er ep eq e some same = ap (λ v. Some v) same ∙ ap (option_map of) (sym some ∙ e ∙ (λ i. inner (ep i) (eq i))) ∙ sym (c.inside x z) ∙ (λ i. join (sym es i) (sym er i))

  grown : (x new : X) (u : Option L) → state new ≡ unwrap_or u (state x) → put new ≡ unwrap_or (option_map of u) (put x)
  grown x new (Some d) e = sym (c.back new) ∙ ap of e
  grown x new None e = ap put (c.same new x e)

  pub carried_merged : (done : Bool) (s u : S) (x z new : X) → s ≡ put x → u ≡ put z → IsMerged (inner (state x) (state z)) (state x) (state new) done → IsMerged (join s u) s (put new) done
  carried_merged done s u x z new es eu h = along (λ (v w : S). IsMerged (join v w) v (put new) done) s (put x) u (put z) es eu
      (subst (λ (o : Option S). IsMerged o (put x) (put new) done) (sym (c.inside x z)) (some_after of done (inner (state x) (state z)) h.0, grown x new (inner (state x) (state z)) h.1))

  pub carried_merge : {T : Type 0} (r : Result Bool T) (s u : S) (x z new : X) → s ≡ put x → u ≡ put z → IfOk r (λ t. (t ≡ is_some (inner (state x) (state z))) × (state new ≡ unwrap_or (inner (state x) (state z)) (state x)))
      → IfOk r (λ t. (t ≡ is_some (join s u)) × (put new ≡ unwrap_or (join s u) s))
  carried_merge r s u x z new es eu h = IfOk-weaker r _ _ (λ t m. carried_merged t s u x z new es eu m) h

  -- what was brought to the state that is held was brought to the one that holds it, under other names
  pub carried_outcome : {E N : Type 0} (f : E → N) (s u : S) (x z new : X) (xs : List E) (ys : List N) → s ≡ put x → u ≡ put z → map f xs ≡ ys → (t : Brought E) → IsOutcome (inner (state x) (state z)) xs (state x) (state new) t → IsOutcome (join s u) ys s (put new) (renamed f t)
  carried_outcome f s u x z new xs ys es eu names = outcome_named f (inner (state x) (state z)) (join s u) xs ys (state x) (state new) s (put new)
      (λ done m. carried_merged done s u x z new es eu m) (λ same. ap put (c.same new x same) ∙ sym es) (sym names)

  module _ {E N : Type 0} (ee : E → E → Bool) (ev_in : L → List E) (en : N → N → Bool) (ev : S → List N) (wrap : List E → List N) (none : wrap [] ≡ [])
      (beyond : (os zs : List E) → filter (λ n. not (is_member en (wrap os) n)) (wrap zs) ≡ wrap (filter (λ e. not (is_member ee os e)) zs))
      (wraps : (s : L) → ev (of s) ≡ wrap (ev_in s)) where
    wraps_put : (x : X) → ev (put x) ≡ wrap (ev_in (state x))
    wraps_put x = ap ev (sym (c.back x)) ∙ wraps (state x)

    fresh_by : (x : X) (u : Option L) → wrap (events_beyond ee ev_in (state x) u) ≡ events_beyond en ev (put x) (option_map of u)
    fresh_by x (Some d) = sym ((λ i. filter (λ n. not (is_member en (wraps_put x i) n)) (wraps d i)) ∙ beyond (ev_in (state x)) (ev_in d))
    fresh_by x None = none

    pub carried_fresh : (xs : List E) (s r : S) (x z : X) (p q : L) → s ≡ put x → r ≡ put z → p ≡ state x → q ≡ state z → xs ≡ fresh_of inner ee ev_in p q → wrap xs ≡ fresh_of join en ev s r
    carried_fresh xs s r x z p q es er ep eq e = ap wrap (e ∙ (λ i. fresh_of inner ee ev_in (ep i) (eq i))) ∙ fresh_by x (inner (state x) (state z))
        ∙ ap (events_beyond en ev (put x)) (sym (c.inside x z)) ∙ (λ i. fresh_of join en ev (sym es i) (sym er i))

-- what nothing hasn't is all
pub all_beyond : {E : Type 0} (eq : E → E → Bool) (xs : List E) → xs ≡ filter (λ e. not (is_member eq [] e)) xs
all_beyond eq [] = refl
all_beyond eq (x ∷ xs) = ap (λ l. x ∷ l) (all_beyond eq xs)

-- a join with a state that is there already brings nothing
pub none_beyond : {S N : Type 0} (eq : N → N → Bool) → ((n : N) → eq n n ≡ true) → (ev : S → List N) (s : S) (o : Option S) → o ≡ Some s → [] ≡ events_beyond eq ev s o
none_beyond eq its ev s o e = sym (ap (events_beyond eq ev s) e ∙ nothing_beyond eq its (ev s))

-- a state under a name holds the state
pub held_carried : {L E S : Type 0} {l : LatticeGhosts L E} {le : PartialEqGhosts L} {eo : OrdGhosts E} {ee : PartialEqGhosts E} {ep : PartialOrdGhosts E} {eh : HashGhosts E} (put : Above L E l le eo ee ep eh → S) (nothing : S) (join : S → S → Option S)
    → ((x z : Above L E l le eo ee ep eh) → join (put x) (put z) ≡ option_map (held put nothing) (l.joined x.state z.state)) → IsCarried put state_of (held put nothing) join l.joined
held_carried put nothing join inside = record { back = held_above put nothing; same = same_above; inside = inside }
