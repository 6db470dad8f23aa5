-- Where the joins of cells, sets and counters are top.
use Rattle.std.proofs.Common.{◌≡◌, ◌↔◌, Bool, true, false, cond, Some, None, refl, sym, ◌∙◌, ap, true≢false}
use Rattle.std.specs.Cmp.{IsEquivalence, IsTotalOrder}
use Rattle.std.specs.declared.cmp.Ord as ord
use Rattle.std.specs.declared.cmp.PartialEq as partial_eq
use Rattle.std.specs.declared.cmp.PartialOrd as partial_ord
use Rattle.lvish_lattice.specs.declared.flat.Flat.TheVariants.{Bottom, Value}
use Rattle.lvish_lattice.specs.Flat as flat
use Rattle.lvish_lattice.specs.GrowSet as grow_set
use Rattle.lvish_lattice.specs.Lattice.{IsIdentity}
use Rattle.lvish_lattice.specs.Listed.{some_is_not_none}
use Rattle.lvish_lattice.specs.MaxCounter as max_counter
use Rattle.lvish_lattice.specs.Top.{IsTopWhere, IsNeverTop, TwoValues}

module _ {V : Type 0} (eq : V → V → Bool) (same : IsIdentity eq) (laws : IsEquivalence eq) where
  value_of : (x y : V) → Value x ≡ Value y → x ≡ y
  value_of x y e = cc

  by_test : (t : Bool) (x y : V) → eq x y ≡ t → (cond t (Some (Value x)) None ≡ None) ↔ TwoValues (Value x) (Value y)
  by_test true x y e = (λ h. absurd cc, λ w. absurd (w.4 (sym (value_of x w.0 w.2) ∙ same x y e ∙ value_of y w.1 w.3)))
  by_test false x y e = (λ _. (x, y, refl, refl, λ s. true≢false (sym (laws.refl x) ∙ ap (eq x) s ∙ e)), λ _. refl)

  pub cells_top : IsTopWhere (flat.joined eq) (TwoValues {V = V})
  cells_top Bottom b = (λ h. absurd cc, λ w. absurd cc)
  cells_top (Value x) Bottom = (λ h. absurd cc, λ w. absurd cc)
  cells_top (Value x) (Value y) = by_test (eq x y) x y refl

pub sets_never_top : {V : Type 0} {o : ord.Ghosts V} {e : partial_eq.Ghosts V} {p : partial_ord.Ghosts V} → IsTotalOrder o.cmp → IsNeverTop (grow_set.joined {o = o} {e = e} {p = p})
sets_never_top total a b h = some_is_not_none (grow_set.joined a b) _ (grow_set.joined-union total a b) h

pub counters_never_top : IsNeverTop max_counter.joined
counters_never_top a b h = some_is_not_none (max_counter.joined a b) _ refl h
