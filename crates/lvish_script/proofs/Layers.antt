-- The lines of a statement, by its blocks.
use Rattle.std.proofs.Common.{◌≡◌, List, [], ◌∷◌, ◌++◌, refl, sym, ap, ◌∙◌}
use Rattle.lvish_script.specs.Vocabulary.{Term, Block, Line}
use Rattle.lvish_syntax.specs.declared.statement.Statement.{Statement, Do, If', IfElse', While', Row_of-Statement, end_of-Statement, more_of-Statement, items-the_row-Statement, items_shown-the_row-Statement-0}
use Rattle.lvish_syntax.specs.declared.statement.Statement.TheOpen as o
use Rattle.lvish_syntax.specs.declared.statement.Statement.TheViews as v
use Rattle.lvish_syntax.specs.declared.statement.Statement.TheViews.{out-Statement, outs-Do, outs-If', outs-IfElse', outs-While', outs-If, outs-IfElse, outs-While}
use Rattle.lvish_syntax.specs.Nested.{statements}
use Rattle.lvish_checks.specs.declared.line.Line.TheVariants as line
use Rattle.lvish_script.specs.Spells.{statement_lines, row_lines, body_lines}

-- the lines of a block that a line opens
abbrev pub block_of : Line → List Line → List Line
block_of l a = l ∷ (a ++ line.End ∷ [])

-- the lines of an if with both its parts
abbrev pub parts_of_if : Term → List Line → List Line → List Line
parts_of_if t a b = line.If t ∷ (a ++ line.Else ∷ (b ++ line.End ∷ []))

-- the lines of a statement, from the blocks that it has
abbrev pub layer_lines : o.Statement-F Statement Block → List Line
layer_lines (o.Do c) = line.Do c ∷ []
layer_lines (o.If t a) = block_of (line.If t) (body_lines (statements a))
layer_lines (o.IfElse t a b) = parts_of_if t (body_lines (statements a)) (body_lines (statements b))
layer_lines (o.While t a) = block_of (line.While t) (body_lines (statements a))

row_list : (n : _) (r : Row_of-Statement n) → row_lines r ≡ body_lines (items-the_row-Statement n r)
row_list n end_of-Statement = refl
row_list n (more_of-Statement s rest) = ap (λ l. statement_lines s ++ l) (row_list _ rest)

two_parts : (t : Term) (a b c d : List Line) → a ≡ c → b ≡ d → parts_of_if t a b ≡ parts_of_if t c d
two_parts t a b c d e h = cc

pub lines_out : (s : Statement) → statement_lines s ≡ layer_lines (out-Statement s)
lines_out (Do c) = ap layer_lines (sym (outs-Do c))
lines_out (If' t s a) =
    let e = row_list _ a ∙ ap body_lines (sym (items_shown-the_row-Statement-0 s a)) in
    ap (block_of (line.If t)) e ∙ ap layer_lines (sym (outs-If' t s a))
lines_out (IfElse' t s a r b) =
    let ea = row_list _ a ∙ ap body_lines (sym (items_shown-the_row-Statement-0 s a)) in
    let eb = row_list _ b ∙ ap body_lines (sym (items_shown-the_row-Statement-0 r b)) in
    two_parts t _ _ _ _ ea eb ∙ ap layer_lines (sym (outs-IfElse' t s a r b))
lines_out (While' t s a) =
    let e = row_list _ a ∙ ap body_lines (sym (items_shown-the_row-Statement-0 s a)) in
    ap (block_of (line.While t)) e ∙ ap layer_lines (sym (outs-While' t s a))

pub lines_if : (t : Term) (a : Block) → statement_lines (v.If t a) ≡ block_of (line.If t) (body_lines (statements a))
lines_if t a = lines_out (v.If t a) ∙ ap layer_lines (outs-If t a)

pub lines_if_else : (t : Term) (a b : Block) → statement_lines (v.IfElse t a b) ≡ parts_of_if t (body_lines (statements a)) (body_lines (statements b))
lines_if_else t a b = lines_out (v.IfElse t a b) ∙ ap layer_lines (outs-IfElse t a b)

pub lines_while : (t : Term) (a : Block) → statement_lines (v.While t a) ≡ block_of (line.While t) (body_lines (statements a))
lines_while t a = lines_out (v.While t a) ∙ ap layer_lines (outs-While t a)
