-- A stack kept as a list with the innermost last.
use Rattle.std.specs.Prelude.{◌≡◌, ◌∷◌, [], ◌++◌, ◌<◌, ◌-◌, List, length, reverse, drop, slice_set}
use Rattle.std.proofs.Common.{ap, subst, ◌∙◌, arith}
use Rattle.std.proofs.Math.Seq.{set-append_seam}
use Rattle.std.proofs.lemmas.List.{reverse-append, reverse-reverse, length-reverse}

set_onto : {X : Type 0} (zs : List X) (y : X) → 0 < length zs → reverse (slice_set (reverse zs) (length (reverse zs) - 1) y) ≡ y ∷ drop 1 zs
set_onto [] y h = absurd (omega arith)
set_onto (z ∷ zs) y h =
    let shape : reverse (z ∷ zs) ≡ reverse zs ++ z ∷ [] = reverse-append (z ∷ []) zs in
    let whole : length (reverse (z ∷ zs)) ≡ length (z ∷ zs) = length-reverse (z ∷ zs) in
    let rest : length (reverse zs) ≡ length zs = length-reverse zs in
    let last : length (reverse (z ∷ zs)) - 1 ≡ length (reverse zs) = omega arith in
    ap (λ i. reverse (slice_set (reverse (z ∷ zs)) i y)) last
    ∙ ap (λ l. reverse (slice_set l (length (reverse zs)) y)) shape
    ∙ ap reverse (set-append_seam (reverse zs) z [] y)
    ∙ reverse-append (reverse zs) (y ∷ [])
    ∙ ap (λ l. y ∷ l) (reverse-reverse zs)

pub not_empty : {X : Type 0} (xs : List X) → 0 < length (reverse xs) → 0 < length xs
not_empty xs h = subst (λ n. 0 < n) (length-reverse xs) h

-- another innermost
pub set_innermost : {X : Type 0} (xs : List X) (y : X) → 0 < length (reverse xs) → reverse (slice_set xs (length xs - 1) y) ≡ y ∷ drop 1 (reverse xs)
set_innermost xs y h =
    let back : reverse (reverse xs) ≡ xs = reverse-reverse xs in
    subst (λ l. reverse (slice_set l (length l - 1) y) ≡ y ∷ drop 1 (reverse xs)) back (set_onto (reverse xs) y h)
