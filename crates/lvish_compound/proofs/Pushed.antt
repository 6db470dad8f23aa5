-- Loops that push what they make of each item of a list.
use Rattle.std.proofs.Common.{◌≡◌, ℕ, ◌+◌, ◌<◌, ◌≤◌, List, [], ◌∷◌, ◌++◌, map, take, length, get_or, append_assoc, append-nil, sym, ◌∙◌, ap}
use Rattle.std.proofs.lemmas.List.{map_more, take_all}

module _ {X Y : Type 0} (f : X → Y) (xs : List X) (i : ℕ) (before ys : List Y) (h : ys ≡ before ++ map f (take i xs)) where
  -- one item more
  pub pushed_more : (d : X) (y : Y) (zs : List Y) → i < length xs → y ≡ f (get_or xs i d) → zs ≡ ys ++ y ∷ [] → zs ≡ before ++ map f (take (i + 1) xs)
  pushed_more d y zs lt is new = new ∙ ap (λ us. us ++ y ∷ []) h ∙ append_assoc before (map f (take i xs)) (y ∷ []) ∙ ap (λ z. before ++ (map f (take i xs) ++ z ∷ [])) is ∙ ap (λ us. before ++ us) (sym (map_more f xs i d lt))

  -- all items
  pub pushed_all : length xs ≤ i → ys ≡ before ++ map f xs
  pushed_all le = h ∙ ap (λ us. before ++ map f us) (take_all i xs le)

module _ {Y : Type 0} (before rest all : List Y) where
  -- one item of those that are still to come
  pub walked_more : (after : List Y) (y : Y) → before ++ y ∷ rest ≡ all → after ≡ before ++ y ∷ [] → after ++ rest ≡ all
  walked_more after y h new = ap (λ ys. ys ++ rest) new ∙ append_assoc before (y ∷ []) rest ∙ h

  -- no item is still to come
  pub walked_all : before ++ rest ≡ all → rest ≡ [] → before ≡ all
  walked_all h none = sym (append-nil before) ∙ ap (λ ys. before ++ ys) (sym none) ∙ h
