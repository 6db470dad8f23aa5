-- Whom a put's entries wake, one entry after another.
use Rattle.std.proofs.Common.{◌≡◌, ◌⊎◌, inl, inr, ℕ, zero, suc, List, [], ◌∷◌, ◌++◌, Option, Some, None, Contains, refl, sym, ap, subst, ◌∙◌, arith}
use Rattle.std.proofs.lemmas.List.{map-append}
use Rattle.std.proofs.lemmas.List.Elements.{Contains-append_cases}
use Rattle.lvish_board.specs.Vocabulary.{Request, Get, Freeze, Entry, PutOn as Put, Handed, EndedIn as Ended}
use Rattle.lvish_variable.specs.Variable.{logged}
use Rattle.lvish_board.specs.Shelved.{WaitsAt}
use Rattle.lvish_board.specs.Woken.{MayAnswer, MayWake}

only : {E : Type 0} (e x : E) → Contains (e ∷ []) x → e ≡ x
only e x (zero, lt, same) = same
only e x (suc k, lt, same) = absurd (omega (arith, lt))

none_or_some : {W : Type 0} (k : Option W) → (k ≡ None) ⊎ ((w : W) × (k ≡ Some w))
none_or_some None = inl refl
none_or_some (Some w) = inr (w, refl)

module _ {E W : Type 0} (spot_of : E → W) where
  at_none : (k : Option W) → MayAnswer spot_of k [] → k ≡ None
  at_none None may = refl
  at_none (Some w) may = absurd (omega (arith, may.there.1))

  at_more : (k : Option W) (es : List (Entry E)) (e : Entry E) → MayAnswer spot_of k (es ++ e ∷ []) → MayAnswer spot_of k es ⊎ (k ≡ Some (spot_of e.event))
  at_more None es e may = inl tt
  at_more (Some w) es e may =
      elim (Contains-append_cases (logged es) (e.event ∷ []) may.event (subst (λ l. Contains l may.event) (map-append (λ (x : Entry E). x.event) es (e ∷ [])) may.there)) [
        | inl old ↦ inl (record { event = may.event; there = old; at = may.at })
        | inr last ↦ inr (ap (λ x. Some x) (sym (ap spot_of (only e.event may.event last) ∙ may.at)))
      ]

module _ {S E R L W : Type 0} (spot_of : E → W) (watched : R → Option W) where
  -- without an entry a put may wake the gets that wait at no spot alone
  pub may_first : (v : ℕ) (q : Request S R L) → MayWake spot_of watched (Some (Put v)) [] q → WaitsAt watched v None q
  may_first v (Get w r) may = (may.0, at_none spot_of (watched r) may.1)
  may_first v q may = absurd may

  -- and with an entry more those that wait at its spot
  pub may_more : (v : ℕ) (es : List (Entry E)) (e : Entry E) (q : Request S R L) → MayWake spot_of watched (Some (Put v)) (es ++ e ∷ []) q → MayWake spot_of watched (Some (Put v)) es q ⊎ WaitsAt watched v (Some (spot_of e.event)) q
  may_more v es e (Get w r) may = elim (at_more spot_of (watched r) es e may.1) [
    | inl old ↦ inl (may.0, old)
    | inr at ↦ inr (may.0, at)
  ]
  may_more v es e q may = absurd may

  -- a get that a put may wake waits at its variable, at a spot or at none
  pub may_at : (v : ℕ) (es : List (Entry E)) (q : Request S R L) → MayWake spot_of watched (Some (Put v)) es q → WaitsAt watched v None q ⊎ ((w : W) × WaitsAt watched v (Some w) q)
  may_at v es (Get u r) may = elim (none_or_some (watched r)) [
    | inl e ↦ inl (may.0, e)
    | inr at ↦ inr (at.0, (may.0, at.1))
  ]
  may_at v es q may = absurd may

  -- a handing wakes no others than the end of a task in a pool of the variable
  pub may_end : (v : ℕ) (es fs : List (Entry E)) (q : Request S R L) → MayWake spot_of watched (Some (Ended v)) es q → MayWake spot_of watched (Some (Handed v)) fs q
  may_end v es fs (Freeze w pools) may = may
  may_end v es fs q may = absurd may

  pub may_hand : (v : ℕ) (es fs : List (Entry E)) (q : Request S R L) → MayWake spot_of watched (Some (Handed v)) es q → MayWake spot_of watched (Some (Handed v)) fs q
  may_hand v es fs (Freeze w pools) may = may
  may_hand v es fs q may = absurd may

  -- it is a freeze of the variable
  pub may_freeze : (v : ℕ) (es : List (Entry E)) (q : Request S R L) → MayWake spot_of watched (Some (Handed v)) es q → (pools : List ℕ) × (q ≡ Freeze v pools)
  may_freeze v es (Freeze w pools) may = (pools, ap (λ k. Freeze k pools) may)
  may_freeze v es q may = absurd may
