-- What holds of the lines of statements, and of the statements.
use Rattle.std.proofs.Common.{◌≡◌, ℕ, Bool, true, false, cond, ◌&&◌, List, [], ◌∷◌, ◌++◌, map, Some, refl, sym, ap, ◌∙◌, arith, append_assoc}
use Rattle.std.proofs.Math.Bool.{and-true}
use Rattle.std.proofs.lemmas.Bool.{and_from, or_from, or_parts}
use Rattle.std.specs.Prelude.{count_by, filter}
use Rattle.std.specs.List.{list_any, list_all, flat_map}
use Rattle.std.proofs.lemmas.List.{append-nil, map-append}
use Rattle.std.proofs.lemmas.List.Elements.{filter-append}
use Rattle.std.proofs.lemmas.List.Folds.{list_all-append, list_all-map}
use Rattle.lvish_script.specs.Vocabulary.{Word, Declaration, Procedure, Block, Line}
use Rattle.lvish_syntax.specs.Nested.{statements, nested, row_nested, all_nested}
use Rattle.lvish_syntax.specs.declared.statement.Statement.{Statement, Do, If', IfElse', While', Row_of-Statement, end_of-Statement, more_of-Statement}
use Rattle.lvish_syntax.specs.declared.statement.Statement.TheOpen as o
use Rattle.lvish_syntax.specs.declared.statement.Statement.TheViews.{out-Statement, outs-Do, outs-If', outs-IfElse', outs-While'}
use Rattle.lvish_checks.specs.declared.line.Line.TheVariants as line
use Rattle.lvish_checks.specs.Checks.{is_procedure, binds, binds_until_procedure, locals_after, parameters_of}
use Rattle.lvish_script.specs.Spells.{statement_lines, row_lines, body_lines, procedure_lines, script_lines}
use Rattle.lvish_checks.proofs.Cuts.{left_holds, right_holds}
use Rattle.lvish_script.proofs.Cleaned.{count_cons}

-- the first line of a statement
abbrev pub own_line : o.Statement-F Statement Block → Line
own_line (o.Do c) = line.Do c
own_line (o.If t a) = line.If t
own_line (o.IfElse t a b) = line.If t
own_line (o.While t a) = line.While t

abbrev first : Statement → Line
first s = own_line (out-Statement s)

pub join_all : {X : Type 0} (p : X → Bool) (xs ys : List X) → list_all p xs ≡ true → list_all p ys ≡ true → list_all p (xs ++ ys) ≡ true
join_all p xs ys e f = list_all-append p xs ys ∙ and_from (list_all p xs) (list_all p ys) e f

-- ---- the lines of statements but for each else and end are the first lines of the statements

abbrev begins : Line → Bool
begins line.Else = false
begins line.End = false
begins l = true

closed : (ls : List Line) → filter begins (ls ++ line.End ∷ []) ≡ filter begins ls
closed ls = filter-append begins ls (line.End ∷ []) ∙ append-nil (filter begins ls)

mutual
  firsts : (s : Statement) → filter begins (statement_lines s) ≡ map first (nested s)
  firsts (Do c) = ap (λ u. own_line u ∷ []) (sym (outs-Do c))
  firsts (If' t s a) = ap (λ ls. line.If t ∷ ls) (closed (row_lines a) ∙ firsts_row a) ∙ ap (λ u. own_line u ∷ map first (row_nested a)) (sym (outs-If' t s a))
  firsts (IfElse' t s a r b) =
      ap (λ ls. line.If t ∷ ls) (filter-append begins (row_lines a) (line.Else ∷ (row_lines b ++ line.End ∷ [])) ∙ ap (λ ls. filter begins (row_lines a) ++ ls) (closed (row_lines b) ∙ firsts_row b) ∙ ap (λ ls. ls ++ map first (row_nested b)) (firsts_row a) ∙ sym (map-append first (row_nested a) (row_nested b)))
      ∙ ap (λ u. own_line u ∷ map first (row_nested a ++ row_nested b)) (sym (outs-IfElse' t s a r b))
  firsts (While' t s a) = ap (λ ls. line.While t ∷ ls) (closed (row_lines a) ∙ firsts_row a) ∙ ap (λ u. own_line u ∷ map first (row_nested a)) (sym (outs-While' t s a))

  firsts_row : {m : _} (r : Row_of-Statement m) → filter begins (row_lines r) ≡ map first (row_nested r)
  firsts_row end_of-Statement = refl
  firsts_row (more_of-Statement s rest) = filter-append begins (statement_lines s) (row_lines rest) ∙ ap (λ ls. ls ++ filter begins (row_lines rest)) (firsts s) ∙ ap (λ ls. map first (nested s) ++ ls) (firsts_row rest) ∙ sym (map-append first (nested s) (row_nested rest))

firsts_body : (ss : List Statement) → filter begins (body_lines ss) ≡ map first (all_nested ss)
firsts_body [] = refl
firsts_body (s ∷ ss) = filter-append begins (statement_lines s) (body_lines ss) ∙ ap (λ ls. ls ++ filter begins (body_lines ss)) (firsts s) ∙ ap (λ ls. map first (nested s) ++ ls) (firsts_body ss) ∙ sym (map-append first (nested s) (all_nested ss))

-- a test that holds of each else and end holds of the lines where it holds of the statements
module _ (p : Line → Bool) (q : o.Statement-F Statement Block → Bool) (own : (u : o.Statement-F Statement Block) → p (own_line u) ≡ q u) (else : p line.Else ≡ true) (end : p line.End ≡ true) where
  all_begin : (ls : List Line) → list_all p ls ≡ list_all p (filter begins ls)
  all_begin [] = refl
  all_begin (line.Else ∷ ls) = rw else (all_begin ls)
  all_begin (line.End ∷ ls) = rw end (all_begin ls)
  all_begin (l ∷ ls) = ap (λ b. p l && b) (all_begin ls)

  all_own : (ss : List Statement) → list_all (λ s. p (first s)) ss ≡ list_all (λ s. q (out-Statement s)) ss
  all_own [] = refl
  all_own (s ∷ ss) = rw (own (out-Statement s), all_own ss) refl

  pub all_of_body : (ss : List Statement) → list_all p (body_lines ss) ≡ list_all (λ s. q (out-Statement s)) (all_nested ss)
  all_of_body ss = all_begin (body_lines ss) ∙ ap (list_all p) (firsts_body ss) ∙ list_all-map p first (all_nested ss) ∙ all_own (all_nested ss)

-- what the lines have in their order, the statements have
module _ {X : Type 0} (f : Line → List X) (g : o.Statement-F Statement Block → List X) (own : (u : o.Statement-F Statement Block) → f (own_line u) ≡ g u) (else : f line.Else ≡ []) (end : f line.End ≡ []) where
  flat_begin : (ls : List Line) → flat_map f ls ≡ flat_map f (filter begins ls)
  flat_begin [] = refl
  flat_begin (line.Else ∷ ls) = rw else (flat_begin ls)
  flat_begin (line.End ∷ ls) = rw end (flat_begin ls)
  flat_begin (l ∷ ls) = ap (λ t. f l ++ t) (flat_begin ls)

  flat_own : (ss : List Statement) → flat_map f (map first ss) ≡ flat_map (λ s. g (out-Statement s)) ss
  flat_own [] = refl
  flat_own (s ∷ ss) = rw (own (out-Statement s), flat_own ss) refl

  pub flat_of_body : (ss : List Statement) → flat_map f (body_lines ss) ≡ flat_map (λ s. g (out-Statement s)) (all_nested ss)
  flat_of_body ss = flat_begin (body_lines ss) ∙ ap (flat_map f) (firsts_body ss) ∙ flat_own (all_nested ss)

-- ---- a test of all lines of a script, by its declarations and procedures

-- the test of a procedure: of its first line, and of its statements
abbrev pub of_procedure : (Procedure → Bool) → (o.Statement-F Statement Block → Bool) → Procedure → Bool
of_procedure top own r = top r && list_all (λ s. own (out-Statement s)) (all_nested (statements r.body))

pub record ByParts (p : Line → Bool) (head : Declaration → Bool) (top : Procedure → Bool) (own : o.Statement-F Statement Block → Bool) : Type 0 where
  pub at_head : (d : Declaration) → p (line.Declare d) ≡ head d
  pub at_top : (r : Procedure) → p (line.Proc r.name r.parameters) ≡ top r
  pub at_own : (u : o.Statement-F Statement Block) → p (own_line u) ≡ own u
  pub at_else : p line.Else ≡ true
  pub at_end : p line.End ≡ true

module _ (p : Line → Bool) (head : Declaration → Bool) (top : Procedure → Bool) (own : o.Statement-F Statement Block → Bool) (by : ByParts p head top own) where
  of_heads : (ds : List Declaration) → list_all p (map (λ d. line.Declare d) ds) ≡ list_all head ds
  of_heads [] = refl
  of_heads (d ∷ ds) = rw (by.at_head d, of_heads ds) refl

  of_lines : (r : Procedure) → list_all p (procedure_lines r) ≡ of_procedure top own r
  of_lines r =
      ap (λ b. b && list_all p (body_lines (statements r.body) ++ line.End ∷ [])) (by.at_top r)
      ∙ ap (λ b. top r && b) (list_all-append p (body_lines (statements r.body)) (line.End ∷ []) ∙ ap (λ b. list_all p (body_lines (statements r.body)) && (b && true)) by.at_end ∙ and-true _ ∙ all_of_body p own by.at_own by.at_else by.at_end (statements r.body))

  of_procedures : (ps : List Procedure) → list_all p (flat_map procedure_lines ps) ≡ list_all (of_procedure top own) ps
  of_procedures [] = refl
  of_procedures (r ∷ ps) = list_all-append p (procedure_lines r) (flat_map procedure_lines ps) ∙ ap (λ b. b && list_all p (flat_map procedure_lines ps)) (of_lines r) ∙ ap (λ b. of_procedure top own r && b) (of_procedures ps)

  pub all_of_script : (ds : List Declaration) (ps : List Procedure) → list_all p (script_lines ds ps) ≡ (list_all head ds && list_all (of_procedure top own) ps)
  all_of_script ds ps = list_all-append p (map (λ d. line.Declare d) ds) (flat_map procedure_lines ps) ∙ ap (λ b. b && list_all p (flat_map procedure_lines ps)) (of_heads ds) ∙ ap (λ b. list_all head ds && b) (of_procedures ps)

-- ---- what no line of a statement is

-- lines in the body of a procedure
abbrev pub is_inner : Line → Bool
is_inner (line.Do c) = true
is_inner (line.If t) = true
is_inner (line.While t) = true
is_inner line.Else = true
is_inner line.End = true
is_inner l = false

-- the lines of a body are inner ones
pub inner : (ss : List Statement) → list_all is_inner (body_lines ss) ≡ true
inner ss = all_of_body is_inner (λ u. true) own refl refl ss ∙ always (all_nested ss)
  where
    own : (u : o.Statement-F Statement Block) → is_inner (own_line u) ≡ true
    own (o.Do c) = refl
    own (o.If t a) = refl
    own (o.IfElse t a b) = refl
    own (o.While t a) = refl

    always : (ss : List Statement) → list_all (λ s. true) ss ≡ true
    always [] = refl
    always (s ∷ ss) = always ss

pub none_inner : (p : Line → Bool) → ((l : Line) → is_inner l ≡ true → p l ≡ false) → (ls : List Line) → list_all is_inner ls ≡ true → list_any p ls ≡ false
none_inner p h [] e = refl
none_inner p h (l ∷ ls) e = or_from (p l) _ (h l (left_holds (is_inner l) _ e)) (none_inner p h ls (right_holds (is_inner l) _ e))

pub no_procedure : (l : Line) → is_inner l ≡ true → is_procedure l ≡ false
no_procedure (line.Proc n xs) e = absurd cc
no_procedure l e = refl

pub no_procedures : (ss : List Statement) → list_any is_procedure (body_lines ss) ≡ false
no_procedures ss = none_inner is_procedure no_procedure (body_lines ss) (inner ss)

-- ---- lines without a procedure

pub none_counted : (p : Line → Bool) (ls : List Line) → list_any p ls ≡ false → count_by p ls ≡ 0
none_counted p [] e = refl
none_counted p (l ∷ ls) e =
    let parts = or_parts (p l) _ e in
    let here : ◌≡◌ {A = ℕ} (cond (p l) 1 0) 0 = rw parts.0 refl in
    let one = count_cons p l ls in
    let more = none_counted p ls parts.1 in
    omega (arith, one, here, more)

pub skipped : (n : Word) (ls rest : List Line) → list_any is_procedure ls ≡ false → parameters_of n (ls ++ rest) ≡ parameters_of n rest
skipped n [] rest e = refl
skipped n (line.Proc m xs ∷ ls) rest e = absurd cc
skipped n (l ∷ ls) rest e = skipped n ls rest e

pub locals_inside : (acc : List Word) (ls : List Line) → list_any is_procedure ls ≡ false → locals_after (Some acc) ls ≡ Some (acc ++ flat_map binds ls)
locals_inside acc [] e = ap Some (sym (append-nil acc))
locals_inside acc (line.Proc m xs ∷ ls) e = absurd cc
locals_inside acc (l ∷ ls) e = locals_inside (acc ++ binds l) ls e ∙ ap Some (append_assoc acc (binds l) (flat_map binds ls))

pub binds_inside : (ls rest : List Line) → list_any is_procedure ls ≡ false → binds_until_procedure (ls ++ rest) ≡ flat_map binds ls ++ binds_until_procedure rest
binds_inside [] rest e = refl
binds_inside (line.Proc m xs ∷ ls) rest e = absurd cc
binds_inside (l ∷ ls) rest e = ap (λ t. binds l ++ t) (binds_inside ls rest e) ∙ sym (append_assoc (binds l) (flat_map binds ls) (binds_until_procedure rest))
