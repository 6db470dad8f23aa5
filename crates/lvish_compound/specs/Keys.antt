-- What neighbouring keys share.
use Rattle.std.proofs.Common.{◌≡◌, ◌<ℤ◌, ◌/◌, ℤ, pos, negsuc, arith, refl, subst, sym}
use Rattle.std.proofs.lemmas.Int.{ints}
use Rattle.std.specs.Cmp.{int_cmp_is, int_ranks}
use Rattle.std.specs.Int.{int_shr}
use Rattle.std.specs.Ordering.{int_cmp, MatchOrdering}
use Rattle.std.specs.declared.cmp.Ordering.{Ordering}
use Rattle.std.specs.declared.cmp.Ordering.TheVariants.{Less}

-- what keys share is in the order of the keys
abbrev pub IsRising : {K : Type 0} → (K → K → Ordering) → (K → K) → Type 0
IsRising {K} R high = (x y : K) → R (high x) (high y) ≡ Less → R x y ≡ Less

-- what up to 64 neighbouring numbers share
abbrev pub int_high : ℤ → ℤ
int_high n = int_shr n 6

-- int_cmp by the order of numbers
less : (x y : ℤ) → int_cmp x y ≡ Less → x <ℤ y
less x y e = subst (λ o. MatchOrdering o (x <ℤ y) (x ≡ y) (y <ℤ x)) e (int_ranks x y)

says_less : (x y : ℤ) → x <ℤ y → int_cmp x y ≡ Less
says_less x y h = sym (int_cmp_is x y Less h)

pub int_rises : IsRising int_cmp int_high
int_rises (pos a) (pos b) e =
    let h = less (pos (a / 64)) (pos (b / 64)) e in
    says_less (pos a) (pos b) (omega (arith, ints))
int_rises (pos a) (negsuc b) e = absurd cc
int_rises (negsuc a) (pos b) e = refl
int_rises (negsuc a) (negsuc b) e =
    let h = less (negsuc (a / 64)) (negsuc (b / 64)) e in
    says_less (negsuc a) (negsuc b) (omega (arith, ints))
