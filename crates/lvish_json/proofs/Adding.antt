-- One piece of a text after the other, arrays item by item, and whole lines.
use Rattle.std.proofs.Common.{◌≡◌, ℕ, ◌+◌, ◌<◌, ◌≤◌, List, [], ◌∷◌, ◌++◌, Option, Some, map, length, drop, get_or, append_assoc, sym, ap, subst, ◌∙◌}
use Rattle.std.proofs.lemmas.List.{drop_more, drop_all}
use Rattle.json.specs.Token.{Token, end_array}
use Rattle.json.specs.Json.{Json, max_depth}
use Rattle.json.specs.Tree.{json_tokens, items_tokens, depth}
use Rattle.lvish_json.specs.Shape.{items_of, IsLineOf}
use Rattle.lvish_json.specs.Adds.{Adds, IsLineOfTokens}
use Rattle.lvish_json.proofs.Depths.{line_of}

-- two pieces
pub adds_then : (x y z : Option (List Token)) (s t : List Token) → Adds x y s → Adds y z t → Adds x z (s ++ t)
adds_then x y z s t one two c is =
    let second = two c is in
    let first = one second.0 second.1 in
    (first.0, first.1, second.2 ∙ ap (λ u. u ++ t) first.2 ∙ append_assoc first.0 s t)

-- the text of a value that was written behind nothing
pub told_line : (j : Json) (new text : Option (List Token)) (bytes : List ℕ) → new ≡ Some [] → Adds new text (json_tokens j) → depth j ≤ max_depth → IsLineOfTokens text bytes → IsLineOf j bytes
told_line j new text bytes none adds shallow line =
    let there = adds line.ts line.whole in
    let both : Some there.0 ≡ Some [] = sym there.1 ∙ none in
    let empty : there.0 ≡ [] = cc in
    line_of j line.ts bytes (there.2 ∙ ap (λ u. u ++ json_tokens j) empty) shallow line.line line.reads_back line.utf8

-- what was written, and what is left to write, is the whole
abbrev pub Leads : Option (List Token) → Option (List Token) → List Token → List Token → Type 0
Leads old new rest whole = (b : List Token) → new ≡ Some b → (a : List Token) × (old ≡ Some a) × (b ++ rest ≡ a ++ whole)

-- at the bracket that opens, all items are left
pub leads_begin : (x y : Option (List Token)) (t : Token) (rest : List Token) → Adds x y (t ∷ []) → Leads x y rest (t ∷ rest)
leads_begin x y t rest adds b is =
    let there = adds b is in
    (there.0, there.1, ap (λ u. u ++ rest) there.2 ∙ append_assoc there.0 (t ∷ []) rest)

-- one more is written
pub leads_more : (x y z : Option (List Token)) (piece rest whole : List Token) → Leads x y (piece ++ rest) whole → Adds y z piece → Leads x z rest whole
leads_more x y z piece rest whole leads adds c is =
    let one = adds c is in
    let there = leads one.0 one.1 in
    (there.0, there.1, ap (λ u. u ++ rest) one.2 ∙ append_assoc one.0 piece rest ∙ there.2)

-- the last is written
pub leads_end : (x y z : Option (List Token)) (last whole : List Token) → Leads x y last whole → Adds y z last → Adds x z whole
leads_end x y z last whole leads adds c is =
    let one = adds c is in
    let there = leads one.0 one.1 in
    (there.0, there.1, one.2 ∙ there.2)

-- the tokens of these items, and of the bracket that closes
abbrev pub closing : List Json → List Token
closing js = items_tokens (items_of js)

module _ {X : Type 0} (show : X → Json) where
  -- the tokens of the items that are left
  abbrev pub left : List X → List Token
  left xs = closing (map show xs)

  -- the item at a place of a slice is written
  pub place_written : (xs : List X) (i : ℕ) (x : X) → i < length xs → x ≡ get_or xs i x → (old y z : Option (List Token)) (whole : List Token) → Leads old y (left (drop i xs)) whole → Adds y z (json_tokens (show x)) → Leads old z (left (drop (i + 1) xs)) whole
  place_written xs i x within is old y z whole leads adds =
      let here : drop i xs ≡ x ∷ drop (i + 1) xs = drop_more xs i x within ∙ ap (λ u. u ∷ drop (i + 1) xs) (sym is) in
      leads_more old y z (json_tokens (show x)) (left (drop (i + 1) xs)) whole (subst (λ ys. Leads old y (left ys) whole) here leads) adds

  -- all items of a slice are written
  pub all_written : (xs : List X) (i : ℕ) → length xs ≤ i → (old y z : Option (List Token)) (whole : List Token) → Leads old y (left (drop i xs)) whole → Adds y z (end_array ∷ []) → Adds old z whole
  all_written xs i past old y z whole leads adds =
      leads_end old y z (end_array ∷ []) whole (subst (λ ys. Leads old y (left ys) whole) (drop_all i xs past) leads) adds
