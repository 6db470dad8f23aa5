-- Pieces in braces, written one after the other.
use Rattle.std.proofs.Common.{◌≡◌, ℕ, Bool, true, false, codes, List, [], ◌∷◌, ◌++◌, append_assoc, flat_map, map, refl, sym, ap, ◌∙◌}
use Rattle.std.specs.List.{join_by}
use Rattle.std.proofs.lemmas.List.Folds.{flat_map-map}
use Rattle.lvish_report.specs.StateText.{braced, gap}

module _ {X : Type 0} (show : X → List ℕ) where
  -- the pieces of these, with what stands before each
  abbrev pub pieces : Bool → List X → List ℕ
  pieces true xs = join_by show (codes " ") xs
  pieces false xs = flat_map (λ x. codes " " ++ show x) xs

  -- one piece is written
  pub pieces_more : (first : Bool) (x : X) (xs : List X) → pieces first (x ∷ xs) ≡ gap first ++ (show x ++ pieces false xs)
  pieces_more true x xs = refl
  pieces_more false x xs = append_assoc (codes " ") (show x) (pieces false xs)

  joined : (xs : List X) → join_by show (codes " ") xs ≡ join_by (λ t. t) (codes " ") (map show xs)
  joined [] = refl
  joined (x ∷ xs) = ap (λ t. show x ++ t) (sym (flat_map-map (λ t. codes " " ++ t) show xs))

  -- all in braces
  all_braced : (xs : List X) → codes "{" ++ (pieces true xs ++ codes "}") ≡ braced (map show xs)
  all_braced xs = ap (λ t. codes "{" ++ (t ++ codes "}")) (joined xs)

  none_left : (first : Bool) → pieces first [] ≡ []
  none_left true = refl
  none_left false = refl

  -- where a piece was written after a text, what is to come is less by it
  pub after_piece : (first : Bool) (x : X) (xs : List X) (text spaced longer : List ℕ) → spaced ≡ text ++ gap first → longer ≡ spaced ++ show x
      → longer ++ (pieces false xs ++ codes "}") ≡ text ++ (pieces first (x ∷ xs) ++ codes "}")
  after_piece first x xs text spaced longer s l =
      rw (l, s) (
      append_assoc (text ++ gap first) (show x) (pieces false xs ++ codes "}")
      ∙ append_assoc text (gap first) (show x ++ (pieces false xs ++ codes "}"))
      ∙ ap (λ t. text ++ t) (
      sym (ap (λ t. gap first ++ t) (append_assoc (show x) (pieces false xs) (codes "}")))
      ∙ sym (append_assoc (gap first) (show x ++ pieces false xs) (codes "}"))
      ∙ ap (λ t. t ++ codes "}") (sym (pieces_more first x xs)))
      )

  -- where no piece is left to come, the brace that closes makes the text whole
  pub closed : (first : Bool) (all rest : List X) (text old : List ℕ) → rest ≡ [] → text ++ (pieces first rest ++ codes "}") ≡ old ++ (codes "{" ++ (pieces true all ++ codes "}")) → text ++ codes "}" ≡ old ++ braced (map show all)
  closed first all rest text old done so_far =
      ap (λ t. text ++ (t ++ codes "}")) (sym (none_left first))
      ∙ ap (λ xs. text ++ (pieces first xs ++ codes "}")) (sym done)
      ∙ so_far
      ∙ ap (λ t. old ++ t) (all_braced all)
