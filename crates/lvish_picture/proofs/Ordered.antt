-- The order of a lattice's events, and of the worked examples' sets.
use Rattle.std.proofs.Common.{◌≡◌, ◌≢◌, Bool, true, List, [], ◌∷◌, AllPairs, get_or, sym, ap, ◌∙◌, subst, arith, ℕ, false, ◌++◌, nat_eq, refl}
use Rattle.std.proofs.lemmas.Bool.{false≢true, true≢false}
use Rattle.std.proofs.lemmas.List.Kept.{AllPairs-cons}
use Rattle.std.proofs.lemmas.Map.Keys.{sorted_tail}
use Rattle.std.proofs.lemmas.Map.Views.{All-after_first}
use Rattle.std.specs.Cmp.{IsTotalOrder, tied_itself, nat_cmp_total, unsigned_ties}
use Rattle.std.specs.List.Sorted.{IsStrictlySortedBy}
use Rattle.std.specs.Ordering.{is_le, is_eq, is_lt, ordering_reverse, eq_by_cmp, nat_cmp}
use Rattle.std.specs.declared.cmp.Ordering.{Ordering}
use Rattle.std.specs.declared.cmp.Ordering.TheVariants.{Less, Equal, Greater}
use Rattle.lvish_lattice.specs.Lattice.{IsIdentity}
use Rattle.lvish_calculus.specs.Program.{Functions}
use Rattle.lvish_calculus.specs.Examples.{Set, if_has, numbers, over_sets}
use Rattle.lvish_calculus.proofs.Names.{nat_eq-true}
use Rattle.lvish_picture.specs.Laws.{IsOrdered}

both_le : (r s : Ordering) → r ≡ ordering_reverse s → is_le r ≡ true → is_le s ≡ true → is_eq r ≡ true
both_le r Less e a b = absurd (false≢true (sym (ap is_le e) ∙ a))
both_le r Equal e a b = ap is_eq e
both_le r Greater e a b = absurd (false≢true b)

module _ {E : Type 0} (eq : E → E → Bool) (cmp : E → E → Ordering) (same : IsIdentity eq) (ties : (x y : E) → eq x y ≡ eq_by_cmp cmp x y) (total : IsTotalOrder cmp) where
  pub antisymmetric : (x y : E) → is_le (cmp x y) ≡ true → is_le (cmp y x) ≡ true → x ≡ y
  antisymmetric x y a b = same x y (ties x y ∙ both_le (cmp x y) (cmp y x) (total.antisymm x y) a b)

  pairs_less : (xs : List E) → IsStrictlySortedBy cmp xs → AllPairs (λ x y. cmp x y ≡ Less) xs
  pairs_less [] s = λ i j d lt ins. absurd (omega arith)
  pairs_less (x ∷ xs) s = AllPairs-cons (λ a b. cmp a b ≡ Less) x xs (All-after_first cmp x xs s) (pairs_less xs (sorted_tail cmp x xs s))

  other : (x y : E) → cmp x y ≡ Less → x ≢ y
  other x y less e = true≢false (sym (ap is_lt (subst (λ z. cmp x z ≡ Less) (sym e) less)) ∙ ap is_lt (tied_itself total x))

  pub ascending : (xs : List E) → IsStrictlySortedBy cmp xs → AllPairs (λ x y. (x ≢ y) × (is_le (cmp x y) ≡ true)) xs
  ascending xs s = λ i j d lt ins.
      let less : cmp (get_or xs i d) (get_or xs j d) ≡ Less = pairs_less xs s i j d lt ins in
      (other (get_or xs i d) (get_or xs j d) less, ap is_le less)

sorted : (z o t : Bool) → IsStrictlySortedBy nat_cmp (if_has z 0 ++ (if_has o 1 ++ if_has t 3))
unfolding IsStrictlySortedBy
sorted true true true = ((refl, (refl, tt)), ((refl, tt), (tt, tt)))
sorted true true false = ((refl, tt), (tt, tt))
sorted true false true = ((refl, tt), (tt, tt))
sorted true false false = (tt, tt)
sorted false true true = ((refl, tt), (tt, tt))
sorted false true false = (tt, tt)
sorted false false true = (tt, tt)
sorted false false false = tt

pub sets_ordered : {L : Type 0} (f : Functions Set ℕ ℕ ℕ L) → IsOrdered (over_sets f)
sets_ordered f = record {
  antisymmetric = antisymmetric nat_eq nat_cmp nat_eq-true unsigned_ties nat_cmp_total;
  ascending = λ s. ascending nat_eq nat_cmp nat_eq-true unsigned_ties nat_cmp_total (numbers s) (sorted s.has_zero s.has_one s.has_three);
}
