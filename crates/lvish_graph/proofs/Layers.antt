-- What a statement does, by its blocks.
use Rattle.std.proofs.Common.{◌≡◌, List, [], ◌∷◌, ◌++◌, refl, sym, ap, ◌∙◌}
use Rattle.std.specs.List.{flat_map}
use Rattle.std.proofs.lemmas.List.{append-nil}
use Rattle.std.proofs.lemmas.Grind.{flat_map-append}
use Rattle.lvish_syntax.specs.declared.term.Term.{Term}
use Rattle.lvish_syntax.specs.declared.statement.Block.{Block}
use Rattle.lvish_syntax.specs.Nested.{statements, nested, row_nested, all_nested}
use Rattle.lvish_syntax.specs.declared.statement.Statement.{Statement, Do, If', IfElse', While', Row_of-Statement, end_of-Statement, more_of-Statement, items-the_row-Statement, items_shown-the_row-Statement-0}
use Rattle.lvish_syntax.specs.declared.statement.Statement.TheOpen as o
use Rattle.lvish_syntax.specs.declared.statement.Statement.TheViews.{out-Statement, outs-Do, outs-If', outs-IfElse', outs-While', outs-If, outs-IfElse, outs-While}
use Rattle.lvish_syntax.specs.declared.statement.Statement.TheViews as v
use Rattle.lvish_graph.specs.declared.deed.Deed.{Deed}
use Rattle.lvish_graph.specs.Deeds.{command_deeds, own_deeds, statement_deeds}

-- the statements within a statement's blocks
abbrev deeper : o.Statement-F Statement Block → List Statement
deeper (o.Do c) = []
deeper (o.If t a) = all_nested (statements a)
deeper (o.IfElse t a b) = all_nested (statements a) ++ all_nested (statements b)
deeper (o.While t a) = all_nested (statements a)

row_is : {m : _} (r : Row_of-Statement m) → row_nested r ≡ all_nested (items-the_row-Statement m r)
row_is end_of-Statement = refl
row_is (more_of-Statement s rest) = ap (λ l. nested s ++ l) (row_is rest)

two_lists : {X : Type 0} (a b c d : List X) → a ≡ c → b ≡ d → a ++ b ≡ c ++ d
two_lists a b c d e h = cc

-- a statement, and those within its blocks
nested_out : (s : Statement) → nested s ≡ s ∷ deeper (out-Statement s)
nested_out (Do c) = ap (λ u. Do c ∷ deeper u) (sym (outs-Do c))
nested_out (If' t s a) = ap (λ l. If' t s a ∷ l) (row_is a ∙ ap all_nested (sym (items_shown-the_row-Statement-0 s a))) ∙ ap (λ u. If' t s a ∷ deeper u) (sym (outs-If' t s a))
nested_out (IfElse' t s a r b) =
    let first = row_is a ∙ ap all_nested (sym (items_shown-the_row-Statement-0 s a)) in
    let second = row_is b ∙ ap all_nested (sym (items_shown-the_row-Statement-0 r b)) in
    ap (λ l. IfElse' t s a r b ∷ l) (two_lists _ _ _ _ first second) ∙ ap (λ u. IfElse' t s a r b ∷ deeper u) (sym (outs-IfElse' t s a r b))
nested_out (While' t s a) = ap (λ l. While' t s a ∷ l) (row_is a ∙ ap all_nested (sym (items_shown-the_row-Statement-0 s a))) ∙ ap (λ u. While' t s a ∷ deeper u) (sym (outs-While' t s a))

abbrev done_in : Statement → List Deed
done_in s = own_deeds (out-Statement s)

-- statements and those within them, one by one
pub deeds_all : (ss : List Statement) → flat_map done_in (all_nested ss) ≡ flat_map statement_deeds ss
deeds_all [] = refl
deeds_all (s ∷ ss) = flat_map-append done_in (nested s) (all_nested ss) ∙ ap (λ l. statement_deeds s ++ l) (deeds_all ss)

-- what a statement does, from its blocks
abbrev layer_deeds : o.Statement-F Statement Block → List Deed
layer_deeds (o.Do c) = command_deeds c
layer_deeds (o.If t a) = flat_map statement_deeds (statements a)
layer_deeds (o.IfElse t a b) = flat_map statement_deeds (statements a) ++ flat_map statement_deeds (statements b)
layer_deeds (o.While t a) = flat_map statement_deeds (statements a)

layer_done : (u : o.Statement-F Statement Block) → own_deeds u ++ flat_map done_in (deeper u) ≡ layer_deeds u
layer_done (o.Do c) = append-nil (command_deeds c)
layer_done (o.If t a) = deeds_all (statements a)
layer_done (o.IfElse t a b) = flat_map-append done_in (all_nested (statements a)) (all_nested (statements b)) ∙ two_lists _ _ _ _ (deeds_all (statements a)) (deeds_all (statements b))
layer_done (o.While t a) = deeds_all (statements a)

deeds_out : (s : Statement) → statement_deeds s ≡ layer_deeds (out-Statement s)
deeds_out s = ap (flat_map done_in) (nested_out s) ∙ layer_done (out-Statement s)

pub deeds_if : (t : Term) (a : Block) → statement_deeds (v.If t a) ≡ flat_map statement_deeds (statements a)
deeds_if t a = deeds_out (v.If t a) ∙ ap layer_deeds (outs-If t a)

pub deeds_if_else : (t : Term) (a b : Block) → statement_deeds (v.IfElse t a b) ≡ flat_map statement_deeds (statements a) ++ flat_map statement_deeds (statements b)
deeds_if_else t a b = deeds_out (v.IfElse t a b) ∙ ap layer_deeds (outs-IfElse t a b)

pub deeds_while : (t : Term) (a : Block) → statement_deeds (v.While t a) ≡ flat_map statement_deeds (statements a)
deeds_while t a = deeds_out (v.While t a) ∙ ap layer_deeds (outs-While t a)
