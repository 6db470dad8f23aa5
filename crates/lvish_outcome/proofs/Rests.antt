-- What stands at a place is among the others.
use native.Mathlib.Omega.{arith}
use Rattle.std.proofs.Common.{◌≡◌, ◌<◌, inl, inr, ℕ, zero, suc, List, [], ◌∷◌, length, slice_index_or, refl}
use Rattle.std.specs.Prelude.{Some, slice_get}
use Rattle.lvish_calculus.specs.Handing.{IsAmong}

-- what stands at a place of a list is in it
pub among : {X : Type 0} (xs : List X) (k : ℕ) (x : X) → slice_get xs k ≡ Some x → IsAmong x xs
among [] k x e = absurd (cc e)
among (y ∷ ys) zero x e = inl (cc e)
among (y ∷ ys) (suc k) x e = inr (among ys k x e)

-- the same by its index
pub among_at : {X : Type 0} (xs : List X) (k : ℕ) (d : X) → k < length xs → IsAmong (slice_index_or xs k d) xs
among_at [] k d w = absurd (omega arith)
among_at (y ∷ ys) zero d w = inl refl
among_at (y ∷ ys) (suc k) d w = inr (among_at ys k d (omega arith))
