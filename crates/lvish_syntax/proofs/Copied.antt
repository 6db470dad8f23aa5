-- Loops that copy a list item by item.
use Rattle.std.proofs.Common.{◌≡◌, ℕ, ◌+◌, ◌<◌, ◌≤◌, List, [], ◌∷◌, ◌++◌, length, get_or, take, sym, ap, ◌∙◌}
use Rattle.std.proofs.lemmas.List.{take_more, take_all}

-- what is copied, with one item more
pub copied_more : {X : Type 0} (xs : List X) (i : ℕ) (d x y : X) (before after : List X) → i < length xs → x ≡ get_or xs i d → y ≡ x → before ≡ take i xs → after ≡ before ++ y ∷ [] → after ≡ take (i + 1) xs
copied_more xs i d x y before after lt at is h new = new ∙ ap (λ us. us ++ y ∷ []) h ∙ ap (λ z. take i xs ++ z ∷ []) (is ∙ at) ∙ sym (take_more xs i d lt)

-- all items are copied
pub copied_all : {X : Type 0} (xs : List X) (i : ℕ) (before : List X) → length xs ≤ i → before ≡ take i xs → before ≡ xs
copied_all xs i before le h = h ∙ take_all i xs le
