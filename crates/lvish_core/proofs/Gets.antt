-- Elements of lists by their place.
use Rattle.std.proofs.Math.Seq.{take-append_seam}
use Rattle.std.proofs.lemmas.Option.{same_Some, slice_get_read, slice_get_within, slice_get-get_or}
use Rattle.std.proofs.Common.{◌≡◌, ℕ, ◌<◌, List, ◌++◌, take, drop, length, get_or, slice_get, Some, refl, sym, ap, ◌∙◌}

pub get_some : {X : Type 0} (xs : List X) (i : ℕ) (x : X) → i < length xs → x ≡ get_or xs i x → slice_get xs i ≡ Some x
get_some xs i x = slice_get_read xs (length xs) i x refl

-- what is found in a place is what is read there
pub got : {X : Type 0} (xs : List X) (i : ℕ) (x d : X) → slice_get xs i ≡ Some x → x ≡ get_or xs i d
got xs i x d at = same_Some _ _ (sym at ∙ slice_get-get_or xs i d (slice_get_within xs i x at))

-- what a vector has after its slice was changed
pub rewritten : {X : Type 0} (old new : List X) (n : ℕ) → n ≡ length old → length new ≡ length old → new ≡ take n (new ++ drop (length new) old)
rewritten old new n len same = sym (ap (λ m. take m (new ++ drop (length new) old)) (len ∙ sym same) ∙ take-append_seam new (drop (length new) old))
