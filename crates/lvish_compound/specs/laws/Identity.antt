-- Tests that hold of identical values alone.
use Rattle.std.proofs.Common.{◌≡◌, Bool, true, false, refl, sym, ◌∙◌, ap}
use Rattle.std.specs.Cmp.{IsEquivalence}
use Rattle.lvish_lattice.specs.Lattice.{IsIdentity}

pub equiv_by_identity : {S : Type 0} (eq : S → S → Bool) → IsIdentity eq → ((s : S) → eq s s ≡ true) → IsEquivalence eq
equiv_by_identity {S} eq same itself = record {
  refl = itself;
  symm = λ x y. swaps x y (eq x y) (eq y x) refl refl;
  congr = λ x y z e. ap (λ w. eq w z) (same x y e);
}
  where
    swaps : (x y : S) (p q : Bool) → eq x y ≡ p → eq y x ≡ q → p ≡ q
    swaps x y true true e f = refl
    swaps x y true false e f = let s : x ≡ y = same x y e in sym (itself y) ∙ ap (eq y) (sym s) ∙ f
    swaps x y false true e f = let s : y ≡ x = same y x f in sym e ∙ ap (eq x) s ∙ itself x
    swaps x y false false e f = refl
