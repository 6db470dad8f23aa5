-- How many names are pointed to, and that the text has room for their number.
use Rattle.std.proofs.Common.{◌≡◌, ◌≤◌, ◌+◌, List, [], ◌∷◌, ◌++◌, length, refl, arith, length-append}
use Rattle.std.specs.List.{flat_map}
use Rattle.std.proofs.lemmas.List.{length-map}
use Rattle.std.proofs.lemmas.List.Sums.{sum_by-append, sum_by-cons}
use Rattle.lvish_facts.specs.declared.node.Node.{Node}
use Rattle.lvish_facts.specs.Names.{Word}
use Rattle.lvish_pointing.specs.Numbers.{name_at}
use Rattle.lvish_pointing.specs.Answers.{Row, line_with, lines_with, pointed}
use Rattle.lvish_pointing.specs.Rows.{row_of}

names_fit : (names : List Word) → length names ≤ length (flat_map (λ (name : Word). 32 ∷ name) names)
names_fit [] = omega arith
names_fit (w ∷ ws) = omega (arith, names_fit ws, length-append (32 ∷ w) (flat_map (λ (name : Word). 32 ∷ name) ws))

line_fits : (row : Row) → length row.targets ≤ length (line_with row)
line_fits row =
    let names = flat_map (λ (name : Word). 32 ∷ name) row.targets in
    omega (arith, names_fit row.targets, length-append row.pointer (58 ∷ (names ++ 10 ∷ [])), length-append names (10 ∷ []))

-- each name that is pointed to has a byte at least
pub pointed_fits : (rows : List Row) → pointed rows ≤ length (lines_with rows)
pointed_fits [] = omega arith
pointed_fits (row ∷ rows) = omega (arith, pointed_fits rows, line_fits row, sum_by-cons (λ (r : Row). length r.targets) row rows, length-append (line_with row) (lines_with rows))

pub row_pointed : (names : List Word) (pointer : Node) (nodes : List Node) → pointed (row_of names pointer nodes) ≡ length nodes
row_pointed names pointer [] = refl
row_pointed names pointer (n ∷ ns) = omega (arith, length-map (n ∷ ns) (name_at names))

pub pointed_more : (rows more : List Row) → pointed (rows ++ more) ≡ pointed rows + pointed more
pointed_more rows more = sum_by-append (λ (r : Row). length r.targets) rows more
