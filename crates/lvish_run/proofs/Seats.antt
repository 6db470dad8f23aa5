-- What holds of all seats holds of the last and of those before it.
use Rattle.std.proofs.Common.{◌≡◌, ◌++◌, ◌∷◌, ◌<◌, List, [], All, length, slice_index_or, subst, sym, ap, ◌∙◌, arith}
use Rattle.std.proofs.Math.Seq.{get_or-append_seam}
use Rattle.std.proofs.lemmas.List.{get_or_append_left, length-append}

module _ {X : Type 0} (P : X → Type 0) where
  pub before_last : (all xs : List X) (x : X) → all ≡ xs ++ x ∷ [] → All P all → All P xs
  before_last all xs x is h k d lt =
      let more : k < length all = subst (λ l. k < length l) (sym is) (let n = length-append xs (x ∷ []) in omega (arith, n, lt)) in
      subst P (ap (λ l. slice_index_or l k d) is ∙ get_or_append_left xs (x ∷ []) d k lt) (h k d more)

  pub at_last : (all xs : List X) (x : X) → all ≡ xs ++ x ∷ [] → All P all → P x
  at_last all xs x is h =
      let more : length xs < length all = subst (λ l. length xs < length l) (sym is) (let n = length-append xs (x ∷ []) in omega (arith, n)) in
      subst P (ap (λ l. slice_index_or l (length xs) x) is ∙ get_or-append_seam xs x [] x) (h (length xs) x more)
