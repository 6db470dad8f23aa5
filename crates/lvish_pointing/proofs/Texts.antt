-- The line of a row, by nodes.
use Rattle.std.proofs.Common.{◌≡◌, ℕ, List, [], ◌∷◌, ◌++◌, length, map, refl, sym, ◌∙◌, ap, append-nil}
use Rattle.std.specs.List.{flat_map}
use Rattle.std.proofs.lemmas.List.Folds.{flat_map-map}
use Rattle.lvish_facts.specs.declared.node.Node.{Node}
use Rattle.lvish_facts.specs.Names.{Word}
use Rattle.lvish_pointing.specs.Numbers.{name_at}
use Rattle.lvish_pointing.specs.Answers.{line_with, lines_with}
use Rattle.lvish_pointing.specs.Rows.{row_of}

-- names of nodes, each behind a space
abbrev pub targets_text : List Word → List Node → List ℕ
targets_text names nodes = flat_map (λ n. 32 ∷ name_at names n) nodes

-- the line of a row that isn't empty
pub line_is : (names : List Word) (pointer : Node) (n : Node) (ns : List Node)
    → lines_with (row_of names pointer (n ∷ ns)) ≡ name_at names pointer ++ 58 ∷ (targets_text names (n ∷ ns) ++ 10 ∷ [])
line_is names pointer n ns =
    append-nil (line_with (record { pointer = name_at names pointer; targets = map (name_at names) (n ∷ ns) })) ∙ ap (λ t. name_at names pointer ++ 58 ∷ (t ++ 10 ∷ [])) (flat_map-map (λ (name : Word). 32 ∷ name) (name_at names) (n ∷ ns))

pub row_text : (names : List Word) (pointer : Node) (nodes : List Node) → (length nodes ≡ 0 → ⊥)
    → name_at names pointer ++ 58 ∷ (targets_text names nodes ++ 10 ∷ []) ≡ lines_with (row_of names pointer nodes)
row_text names pointer [] h = absurd (h refl)
row_text names pointer (n ∷ ns) h = sym (line_is names pointer n ns)
