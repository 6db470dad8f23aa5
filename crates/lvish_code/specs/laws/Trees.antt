-- Statements by their layers.
use Rattle.std.proofs.Common.{◌≡◌, List, [], ◌∷◌, ◌++◌, refl, sym, ap, ◌∙◌}
use Rattle.std.specs.List.{flat_map}
use Rattle.std.proofs.lemmas.List.{append-nil}
use Rattle.std.proofs.lemmas.Grind.{flat_map-append}
use Rattle.lvish_syntax.specs.Nested.{statements, nested, row_nested, all_nested}
use Rattle.lvish_syntax.specs.Sound.{own_binds, command_binds, binds}
use Rattle.lvish_code.specs.Vocabulary.{Word, Term, Block, Statement, out-Statement, Operand, Instruction}
use Rattle.lvish_syntax.specs.declared.statement.Statement.{Do, If', IfElse', While', Row_of-Statement, end_of-Statement, more_of-Statement, items-the_row-Statement, items_shown-the_row-Statement-0}
use Rattle.lvish_syntax.specs.declared.statement.Statement.TheOpen as o
use Rattle.lvish_syntax.specs.declared.statement.Statement.TheViews.{outs-Do, outs-If', outs-IfElse', outs-While', outs-If, outs-IfElse, outs-While}
use Rattle.lvish_syntax.specs.declared.statement.Statement.TheViews as v
use Rattle.lvish_code.specs.Compile.{Names, binds_of, operand_of, command_code, if_code, if_else_code, while_code, statement_code, row_code, list_code}

-- ---- code

-- the code of a statement, from the blocks that it has
abbrev pub layer_code : Names → o.Statement-F Statement Block → List Instruction
layer_code names (o.Do c) = command_code names c ∷ []
layer_code names (o.If t a) = if_code (operand_of names t) (list_code names (statements a))
layer_code names (o.IfElse t a b) = if_else_code (operand_of names t) (list_code names (statements a)) (list_code names (statements b))
layer_code names (o.While t a) = while_code (operand_of names t) (list_code names (statements a))

module _ (names : Names) where
  row_list : {m : _} (r : Row_of-Statement m) → row_code names r ≡ list_code names (items-the_row-Statement m r)
  row_list end_of-Statement = refl
  row_list (more_of-Statement s rest) = ap (λ l. statement_code names s ++ l) (row_list rest)

  two_codes : (t : Operand) (a b c d : List Instruction) → a ≡ c → b ≡ d → if_else_code t a b ≡ if_else_code t c d
  two_codes t a b c d e h = cc

  pub code_out : (s : Statement) → statement_code names s ≡ layer_code names (out-Statement s)
  code_out (Do c) = ap (layer_code names) (sym (outs-Do c))
  code_out (If' t s a) = ap (if_code (operand_of names t)) (row_list a ∙ ap (list_code names) (sym (items_shown-the_row-Statement-0 s a))) ∙ ap (layer_code names) (sym (outs-If' t s a))
  code_out (IfElse' t s a r b) =
      let first = row_list a ∙ ap (list_code names) (sym (items_shown-the_row-Statement-0 s a)) in
      let second = row_list b ∙ ap (list_code names) (sym (items_shown-the_row-Statement-0 r b)) in
      two_codes (operand_of names t) _ _ _ _ first second ∙ ap (layer_code names) (sym (outs-IfElse' t s a r b))
  code_out (While' t s a) = ap (while_code (operand_of names t)) (row_list a ∙ ap (list_code names) (sym (items_shown-the_row-Statement-0 s a))) ∙ ap (layer_code names) (sym (outs-While' t s a))

  pub code_if : (t : Term) (a : Block) → statement_code names (v.If t a) ≡ if_code (operand_of names t) (list_code names (statements a))
  code_if t a = code_out (v.If t a) ∙ ap (layer_code names) (outs-If t a)

  pub code_if_else : (t : Term) (a b : Block) → statement_code names (v.IfElse t a b) ≡ if_else_code (operand_of names t) (list_code names (statements a)) (list_code names (statements b))
  code_if_else t a b = code_out (v.IfElse t a b) ∙ ap (layer_code names) (outs-IfElse t a b)

  pub code_while : (t : Term) (a : Block) → statement_code names (v.While t a) ≡ while_code (operand_of names t) (list_code names (statements a))
  code_while t a = code_out (v.While t a) ∙ ap (layer_code names) (outs-While t a)

-- ---- what holds of a statement and those within it

-- the statements within a statement's blocks
abbrev pub deeper : o.Statement-F Statement Block → List Statement
deeper (o.Do c) = []
deeper (o.If t a) = all_nested (statements a)
deeper (o.IfElse t a b) = all_nested (statements a) ++ all_nested (statements b)
deeper (o.While t a) = all_nested (statements a)

row_is : {m : _} (r : Row_of-Statement m) → row_nested r ≡ all_nested (items-the_row-Statement m r)
row_is end_of-Statement = refl
row_is (more_of-Statement s rest) = ap (λ l. nested s ++ l) (row_is rest)

two_lists : {X : Type 0} (a b c d : List X) → a ≡ c → b ≡ d → a ++ b ≡ c ++ d
two_lists a b c d e h = cc

-- a statement, and those within its blocks
pub nested_out : (s : Statement) → nested s ≡ s ∷ deeper (out-Statement s)
nested_out (Do c) = ap (λ u. Do c ∷ deeper u) (sym (outs-Do c))
nested_out (If' t s a) = ap (λ l. If' t s a ∷ l) (row_is a ∙ ap all_nested (sym (items_shown-the_row-Statement-0 s a))) ∙ ap (λ u. If' t s a ∷ deeper u) (sym (outs-If' t s a))
nested_out (IfElse' t s a r b) =
    let first = row_is a ∙ ap all_nested (sym (items_shown-the_row-Statement-0 s a)) in
    let second = row_is b ∙ ap all_nested (sym (items_shown-the_row-Statement-0 r b)) in
    ap (λ l. IfElse' t s a r b ∷ l) (two_lists _ _ _ _ first second) ∙ ap (λ u. IfElse' t s a r b ∷ deeper u) (sym (outs-IfElse' t s a r b))
nested_out (While' t s a) = ap (λ l. While' t s a ∷ l) (row_is a ∙ ap all_nested (sym (items_shown-the_row-Statement-0 s a))) ∙ ap (λ u. While' t s a ∷ deeper u) (sym (outs-While' t s a))

abbrev bound_in : Statement → List Word
bound_in s = own_binds (out-Statement s)

pub binds_all : (ss : List Statement) → binds ss ≡ flat_map binds_of ss
binds_all [] = refl
binds_all (s ∷ ss) = flat_map-append bound_in (nested s) (all_nested ss) ∙ ap (λ l. binds_of s ++ l) (binds_all ss)

-- the locals to which a statement gives values, from its blocks
abbrev layer_binds : o.Statement-F Statement Block → List Word
layer_binds (o.Do c) = command_binds c
layer_binds (o.If t a) = flat_map binds_of (statements a)
layer_binds (o.IfElse t a b) = flat_map binds_of (statements a) ++ flat_map binds_of (statements b)
layer_binds (o.While t a) = flat_map binds_of (statements a)

layer_bound : (u : o.Statement-F Statement Block) → own_binds u ++ flat_map bound_in (deeper u) ≡ layer_binds u
layer_bound (o.Do c) = append-nil (command_binds c)
layer_bound (o.If t a) = binds_all (statements a)
layer_bound (o.IfElse t a b) = flat_map-append bound_in (all_nested (statements a)) (all_nested (statements b)) ∙ two_lists _ _ _ _ (binds_all (statements a)) (binds_all (statements b))
layer_bound (o.While t a) = binds_all (statements a)

pub binds_out : (s : Statement) → binds_of s ≡ layer_binds (out-Statement s)
binds_out s = ap (flat_map bound_in) (nested_out s) ∙ layer_bound (out-Statement s)

pub binds_if : (t : Term) (a : Block) → binds_of (v.If t a) ≡ flat_map binds_of (statements a)
binds_if t a = binds_out (v.If t a) ∙ ap layer_binds (outs-If t a)

pub binds_if_else : (t : Term) (a b : Block) → binds_of (v.IfElse t a b) ≡ flat_map binds_of (statements a) ++ flat_map binds_of (statements b)
binds_if_else t a b = binds_out (v.IfElse t a b) ∙ ap layer_binds (outs-IfElse t a b)

pub binds_while : (t : Term) (a : Block) → binds_of (v.While t a) ≡ flat_map binds_of (statements a)
binds_while t a = binds_out (v.While t a) ∙ ap layer_binds (outs-While t a)
