-- States of a lattice held under a name, and nothing for bottom.
use Rattle.std.proofs.Common.{◌≡◌, Bool, true, false, Option, Some, None, refl, sym, ap, subst, ◌∙◌}
use Rattle.lvish_compound.specs.Vocabulary.{OrdGhosts, PartialEqGhosts, PartialOrdGhosts, HashGhosts, LatticeGhosts, Above}
use Rattle.lvish_lattice.specs.Lattice.{IsIdentity}
use Rattle.lvish_compound.specs.Above.{above, above_is, bottom_is_none}

module _ {L E S : Type 0} {l : LatticeGhosts L E} {le : PartialEqGhosts L} {eo : OrdGhosts E} {ee : PartialEqGhosts E} {ep : PartialOrdGhosts E} {eh : HashGhosts E} (put : Above L E l le eo ee ep eh → S) where
  abbrev pub from : S → Option (Above L E l le eo ee ep eh) → S
  from nothing (Some x) = put x
  from nothing None = nothing

  -- the state under the name, and nothing for bottom
  abbrev pub held : S → L → S
  held nothing s = from nothing (above s)

  -- whether the state is bottom
  abbrev pub is_bottom : L → Bool
  is_bottom s = le.eq s l.least

  abbrev pub test_of : L → L → Bool
  test_of s t = le.eq s t

  abbrev pub bottom_of : L
  bottom_of = l.least

  abbrev pub state_in : Above L E l le eo ee ep eh → L
  state_in x = x.state

  abbrev pub HeldState : Type 0
  HeldState = L

  pub held_above : (nothing : S) (x : Above L E l le eo ee ep eh) → held nothing x.state ≡ put x
  held_above nothing x = ap (from nothing) (above_is x.state x refl)

  pub held_bottom : (nothing : S) (s : L) → is_bottom s ≡ true → held nothing s ≡ nothing
  held_bottom nothing s e = ap (from nothing) (bottom_is_none s e)

  -- a fact of what is held, by whether it is bottom
  pub held_by : (nothing : S) (P : S → Type 0) (s : L) → (is_bottom s ≡ true → P nothing) → ((x : Above L E l le eo ee ep eh) → x.state ≡ s → P (put x)) → P (held nothing s)
  held_by nothing P s f g = elim (is_bottom s) as (λ t. is_bottom s ≡ t → P (held nothing s)) [
    | true ↦ λ e. subst P (sym (held_bottom nothing s e)) (f e)
    | false ↦ λ e. let x : Above L E l le eo ee ep eh = record { state = s; rises = e } in subst P (sym (held_above nothing x)) (g x refl)
  ] refl

  -- what is seen of the state, and of what it is held as
  pub held_agrees : IsIdentity test_of → (nothing : S) {T : Type 0} (seen : S → T) (shown : L → T) → seen nothing ≡ shown bottom_of → ((x : Above L E l le eo ee ep eh) → seen (put x) ≡ shown x.state) → (s : L) → seen (held nothing s) ≡ shown s
  held_agrees same nothing seen shown none some s = held_by nothing (λ v. seen v ≡ shown s) s (λ e. none ∙ ap shown (sym (same s _ e))) (λ x e. some x ∙ ap shown e)
