-- The place of a put in a list.
use Rattle.std.proofs.Common.{◌≡◌, ◌+◌, ◌<◌, ◌≤◌, ◌⊎◌, ◌==◌, ◌&&◌, inl, inr, ℕ, suc, Bool, true, false, List, [], ◌∷◌, length, get_or, Some, refl, sym, ap, ◌∙◌, subst, arith}
use Rattle.std.proofs.lemmas.Bool.{and_parts, and_from, both_ways}
use Rattle.std.proofs.lemmas.Option.{slice_get_read, slice_get_within, get_or_from_slice_get}
use Rattle.std.proofs.Math.Nat.{eq-or-lt_of_le}
use Rattle.std.specs.List.{slice_get}
use Rattle.lvish_lattice.specs.Lattice.{IsIdentity}
use Rattle.lvish_calculus.specs.Handing.{IsAmong}
use Rattle.lvish_calculus.proofs.Names.{nat_eq-true, nat_eq-refl}
use Rattle.lvish_retrace.specs.declared.bringer.Bringer.{Bringer}
use Rattle.lvish_retrace.specs.Brought.{IsPutAt}

-- an element that is at no place is none of them
at_no_place : {X : Type 0} (xs : List X) (x : X) → ((j : ℕ) → slice_get xs j ≡ Some x → ⊥) → IsAmong x xs → ⊥
at_no_place [] x none i = i
at_no_place (y ∷ xs) x none (inl e) = none 0 (ap (λ z. Some z) (sym e))
at_no_place (y ∷ xs) x none (inr i) = at_no_place xs x (λ j at. none (suc j) at) i

module _ {E : Type 0} (eq : E → E → Bool) (bs : List (Bringer E)) (v : ℕ) (e : E) where
  -- the test of a put
  abbrev pub is_of : Bringer E → Bool
  is_of b = b.variable == v && eq b.event e

  -- none of the first puts is it
  abbrev pub IsNotBefore : ℕ → Type 0
  IsNotBefore k = (j : ℕ) (b : Bringer E) → j < k → slice_get bs j ≡ Some b → b.variable ≡ v → b.event ≡ e → ⊥

  passes : ((x : E) → eq x x ≡ true) → (b : Bringer E) → b.variable ≡ v → b.event ≡ e → is_of b ≡ true
  passes own b at is = and_from _ _ (ap (λ w. w == v) at ∙ nat_eq-refl v) (ap (λ x. eq x e) is ∙ own e)

  module _ (k : ℕ) (b : Bringer E) (within : k < length bs) (is : b ≡ get_or bs k b) where
    -- it is found
    pub found_at : IsIdentity eq → is_of b ≡ true → IsPutAt bs v e k
    found_at same t =
        let p = and_parts _ _ t in
        record { put = b; at = slice_get_read bs (length bs) k b refl within is; variable = nat_eq-true b.variable v p.0; event = same b.event e p.1 }

    -- or it isn't there
    pub not_at : ((x : E) → eq x x ≡ true) → is_of b ≡ false → IsNotBefore k → IsNotBefore (k + 1)
    not_at own f before j c less at var event = by (eq-or-lt_of_le (omega (arith, less)))
      where
        by : (j ≡ k) ⊎ (j < k) → ⊥
        by (inl same) =
            let here : get_or bs k b ≡ c = get_or_from_slice_get bs k c b (subst (λ n. slice_get bs n ≡ Some c) same at) in
            both_ways _ f (subst (λ z. is_of z ≡ true) (sym (is ∙ here)) (passes own c var event))
        by (inr earlier) = before j c earlier at var event

  -- at no place up to the end
  pub nowhere : (n : ℕ) → length bs ≤ n → IsNotBefore n → (b : Bringer E) → IsAmong b bs → b.variable ≡ v → b.event ≡ e → ⊥
  nowhere n past none b i var event = at_no_place bs b (λ j at. none j b (omega (arith, past, slice_get_within bs j b at)) at var event) i
