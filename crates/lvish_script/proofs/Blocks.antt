-- The canonical text of blocks.
use Rattle.std.proofs.Common.{◌≡◌, ℕ, List, [], ◌∷◌, ◌++◌, sym, ap, ◌∙◌, append_assoc}
use Rattle.std.proofs.lemmas.Grind.{flat_map-append}
use Rattle.lvish_script.specs.Vocabulary.{Term, Line, If, Else, End}
use Rattle.lvish_script.specs.Canonical.{line_text, lines_text}
use Rattle.lvish_script.proofs.Layers.{block_of, parts_of_if}

block_text : (l : Line) (a : List Line) → lines_text (block_of l a) ≡ line_text l ++ (lines_text a ++ line_text End)
block_text l a = ap (λ t. line_text l ++ t) (flat_map-append line_text a (End ∷ []))

parts_text : (t : Term) (a b : List Line) → lines_text (parts_of_if t a b) ≡ line_text (If t) ++ (lines_text a ++ (line_text Else ++ (lines_text b ++ line_text End)))
parts_text t a b = ap (λ x. line_text (If t) ++ x) (flat_map-append line_text a (Else ∷ (b ++ End ∷ [])) ∙ ap (λ x. lines_text a ++ (line_text Else ++ x)) (flat_map-append line_text b (End ∷ [])))

-- a block that is written line by line
pub block_written : (old one two all : List ℕ) (l : Line) (a : List Line) → one ≡ old ++ line_text l → two ≡ one ++ lines_text a → all ≡ two ++ line_text End → all ≡ old ++ lines_text (block_of l a)
block_written old one two all l a e f g =
    g ∙ ap (λ t. t ++ line_text End) (f ∙ ap (λ t. t ++ lines_text a) e)
    ∙ append_assoc (old ++ line_text l) (lines_text a) (line_text End) ∙ append_assoc old (line_text l) (lines_text a ++ line_text End)
    ∙ ap (λ t. old ++ t) (sym (block_text l a))

-- an if with both its parts
pub parts_written : (old one two three four all : List ℕ) (t : Term) (a b : List Line) → one ≡ old ++ line_text (If t) → two ≡ one ++ lines_text a → three ≡ two ++ line_text Else → four ≡ three ++ lines_text b → all ≡ four ++ line_text End → all ≡ old ++ lines_text (parts_of_if t a b)
parts_written old one two three four all t a b e f g h k =
    let first : two ≡ (old ++ line_text (If t)) ++ lines_text a = f ∙ ap (λ x. x ++ lines_text a) e in
    let all_of : all ≡ ((((old ++ line_text (If t)) ++ lines_text a) ++ line_text Else) ++ lines_text b) ++ line_text End = k ∙ ap (λ x. x ++ line_text End) (h ∙ ap (λ x. x ++ lines_text b) (g ∙ ap (λ x. x ++ line_text Else) first)) in
    all_of ∙ re (old ++ line_text (If t)) (lines_text a) (line_text Else) (lines_text b) (line_text End) ∙ append_assoc old (line_text (If t)) _ ∙ ap (λ x. old ++ x) (sym (parts_text t a b))
  where
    re : (p q r s u : List ℕ) → (((p ++ q) ++ r) ++ s) ++ u ≡ p ++ (q ++ (r ++ (s ++ u)))
    re p q r s u = append_assoc ((p ++ q) ++ r) s u ∙ append_assoc (p ++ q) r (s ++ u) ∙ append_assoc p q (r ++ (s ++ u))
