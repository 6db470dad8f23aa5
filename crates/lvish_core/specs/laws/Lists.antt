-- Elements of joined lists, and what holds of each element.
use Rattle.std.proofs.Common.{inl, inr, ap, map, refl, ◌⊎◌, List, [], ◌∷◌, ◌++◌}
use Rattle.std.specs.List.{AllByRecursion}
use Rattle.lvish_calculus.specs.Handing.{IsAmong}

pub either_among : {X : Type 0} (x : X) (ys zs : List X) → IsAmong x (ys ++ zs) → IsAmong x ys ⊎ IsAmong x zs
either_among x [] zs i = inr i
either_among x (y ∷ ys) zs (inl e) = inl (inl e)
either_among x (y ∷ ys) zs (inr i) = elim (either_among x ys zs i) [
  | inl a ↦ inl (inr a)
  | inr b ↦ inr b
]

pub among_first : {X : Type 0} (x : X) (ys zs : List X) → IsAmong x ys → IsAmong x (ys ++ zs)
among_first x [] zs i = absurd i
among_first x (y ∷ ys) zs (inl e) = inl e
among_first x (y ∷ ys) zs (inr i) = inr (among_first x ys zs i)

pub among_last : {X : Type 0} (x : X) (ys zs : List X) → IsAmong x zs → IsAmong x (ys ++ zs)
among_last x [] zs i = i
among_last x (y ∷ ys) zs i = inr (among_last x ys zs i)

pub among_map : {X Y : Type 0} (f : X → Y) (x : X) (xs : List X) → IsAmong x xs → IsAmong (f x) (map f xs)
among_map f x [] h = h
among_map f x (y ∷ ys) (inl e) = inl (ap f e)
among_map f x (y ∷ ys) (inr h) = inr (among_map f x ys h)

pub all_always : {X : Type 0} (P : X → Type 0) → (xs : List X) → ((x : X) → IsAmong x xs → P x) → AllByRecursion P xs
all_always P [] f = tt
all_always P (x ∷ xs) f = (f x (inl refl), all_always P xs (λ y i. f y (inr i)))
