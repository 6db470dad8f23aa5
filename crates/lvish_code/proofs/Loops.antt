-- Loops that push what they make of each item of a list.
use Rattle.std.proofs.Common.{◌≡◌, ℕ, ◌+◌, ◌<◌, ◌≤◌, List, [], ◌∷◌, ◌++◌, map, take, length, get_or, sym, ◌∙◌, ap}
use Rattle.std.specs.List.{flat_map}
use Rattle.std.proofs.lemmas.List.{append-nil, map_more, take_more, take_all}
use Rattle.std.proofs.lemmas.Grind.{flat_map-append}

-- one thing of each item
module _ {X Y : Type 0} (f : X → Y) (xs : List X) (i : ℕ) (ys : List Y) (h : ys ≡ map f (take i xs)) where
  pub mapped_more : (d : X) (y : Y) (zs : List Y) → i < length xs → y ≡ f (get_or xs i d) → zs ≡ ys ++ y ∷ [] → zs ≡ map f (take (i + 1) xs)
  mapped_more d y zs lt is new = new ∙ ap (λ us. us ++ y ∷ []) h ∙ ap (λ z. map f (take i xs) ++ z ∷ []) is ∙ sym (map_more f xs i d lt)

  pub mapped_all : length xs ≤ i → ys ≡ map f xs
  mapped_all le = h ∙ ap (map f) (take_all i xs le)

-- a list of each item
module _ {X Y : Type 0} (f : X → List Y) (xs : List X) (i : ℕ) (ys : List Y) (h : ys ≡ flat_map f (take i xs)) where
  pub joined_more : (d : X) (new zs : List Y) → i < length xs → new ≡ f (get_or xs i d) → zs ≡ ys ++ new → zs ≡ flat_map f (take (i + 1) xs)
  joined_more d new zs lt is more =
      let x = get_or xs i d in
      more ∙ ap (λ us. us ++ new) h ∙ ap (λ us. flat_map f (take i xs) ++ us) (is ∙ sym (append-nil (f x)))
      ∙ sym (ap (flat_map f) (take_more xs i d lt) ∙ flat_map-append f (take i xs) (x ∷ []))

  pub joined_all : length xs ≤ i → ys ≡ flat_map f xs
  joined_all le = h ∙ ap (flat_map f) (take_all i xs le)
