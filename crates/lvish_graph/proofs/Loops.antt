-- Loops that push what each item of a list gives, or the items that pass a test.
use Rattle.std.proofs.Common.{◌≡◌, ℕ, ◌+◌, ◌<◌, ◌≤◌, Bool, true, false, List, [], ◌∷◌, ◌++◌, take, map, length, get_or, sym, ap, subst, ◌∙◌, append_assoc}
use Rattle.std.specs.Prelude.{filter, if◌then◌else◌}
use Rattle.std.specs.List.{flat_map}
use Rattle.std.proofs.lemmas.List.{append-nil, take_more, take_all, map-append}
use Rattle.std.proofs.lemmas.List.Elements.{filter_more}
use Rattle.std.proofs.lemmas.Grind.{flat_map-append}

-- a list of each item
module _ {X Y : Type 0} (f : X → List Y) (xs : List X) (i : ℕ) (x : X) (lt : i < length xs) (is : x ≡ get_or xs i x) where
  last : flat_map f (take (i + 1) xs) ≡ flat_map f (take i xs) ++ f x
  last =
      ap (flat_map f) (take_more xs i x lt) ∙ flat_map-append f (take i xs) (get_or xs i x ∷ [])
      ∙ ap (λ u. flat_map f (take i xs) ++ u) (append-nil (f (get_or xs i x)) ∙ ap f (sym is))

  pub joined_more : (old ys zs new : List Y) → ys ≡ old ++ flat_map f (take i xs) → zs ≡ ys ++ new → new ≡ f x → zs ≡ old ++ flat_map f (take (i + 1) xs)
  joined_more old ys zs new h more e =
      more ∙ ap (λ u. ys ++ u) e ∙ ap (λ u. u ++ f x) h ∙ append_assoc old (flat_map f (take i xs)) (f x) ∙ ap (λ u. old ++ u) (sym last)

-- an item of each
pub mapped_more : {X Y : Type 0} (f : X → Y) (xs : List X) (i : ℕ) (x : X) → i < length xs → x ≡ get_or xs i x → (old ys zs : List Y) (y : Y) → ys ≡ old ++ map f (take i xs) → zs ≡ ys ++ y ∷ [] → y ≡ f x → zs ≡ old ++ map f (take (i + 1) xs)
mapped_more f xs i x lt is old ys zs y h more e =
    more ∙ ap (λ u. u ++ y ∷ []) h ∙ ap (λ v. (old ++ map f (take i xs)) ++ v ∷ []) (e ∙ ap f is) ∙ append_assoc old (map f (take i xs)) (f (get_or xs i x) ∷ [])
    ∙ ap (λ u. old ++ u) (sym (ap (map f) (take_more xs i x lt) ∙ map-append f (take i xs) (get_or xs i x ∷ [])))

-- the items that pass
module _ {X : Type 0} (f : X → Bool) (xs : List X) (i : ℕ) (x : X) (lt : i < length xs) (is : x ≡ get_or xs i x) (ys : List X) (h : ys ≡ filter f (take i xs)) where
  one_more : filter f (take (i + 1) xs) ≡ filter f (take i xs) ++ (if f x then x ∷ [] else [])
  one_more = subst (λ y. filter f (take (i + 1) xs) ≡ filter f (take i xs) ++ (if f y then y ∷ [] else [])) (sym is) (filter_more f xs i x lt)

  -- an item that passes
  pub taken_more : (zs : List X) → f x ≡ true → zs ≡ ys ++ x ∷ [] → zs ≡ filter f (take (i + 1) xs)
  taken_more zs e new = new ∙ ap (λ us. us ++ x ∷ []) h ∙ sym (one_more ∙ ap (λ b. filter f (take i xs) ++ (if b then x ∷ [] else [])) e)

  -- one that doesn't
  pub left_out : (zs : List X) → f x ≡ false → zs ≡ ys → zs ≡ filter f (take (i + 1) xs)
  left_out zs e same = same ∙ h ∙ sym (one_more ∙ ap (λ b. filter f (take i xs) ++ (if b then x ∷ [] else [])) e ∙ append-nil (filter f (take i xs)))

-- the lists of all items
pub joined_all : {X Y : Type 0} (f : X → List Y) (xs : List X) (i : ℕ) (old ys : List Y) → length xs ≤ i → ys ≡ old ++ flat_map f (take i xs) → ys ≡ old ++ flat_map f xs
joined_all f xs i old ys le h = h ∙ ap (λ us. old ++ flat_map f us) (take_all i xs le)

-- five lists, each put behind what was there
pub five : {Y : Type 0} (none s t u v w a b c d e : List Y) → none ≡ [] → s ≡ none ++ a → t ≡ s ++ b → u ≡ t ++ c → v ≡ u ++ d → w ≡ v ++ e → w ≡ a ++ (b ++ (c ++ (d ++ e)))
five none s t u v w a b c d e i h k l m n =
    n ∙ ap (λ z. z ++ e) (m ∙ ap (λ z. z ++ d) (l ∙ ap (λ z. z ++ c) (k ∙ ap (λ z. z ++ b) (h ∙ ap (λ z. z ++ a) i))))
    ∙ append_assoc ((a ++ b) ++ c) d e ∙ append_assoc (a ++ b) c (d ++ e) ∙ append_assoc a b (c ++ (d ++ e))
