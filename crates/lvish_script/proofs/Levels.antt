-- What is open at the lines of statements: each may stand where it does, and how deep blocks stand.
use Rattle.std.proofs.Common.{◌≡◌, ℕ, suc, ◌+◌, ◌≤◌, Bool, true, false, not, ◌&&◌, nat_lt, List, [], ◌∷◌, ◌++◌, length, refl, sym, ap, subst, ◌∙◌, arith, append_assoc}
use Rattle.std.specs.Prelude.{nat_le, max}
use Rattle.std.proofs.Math.Bool.{and_assoc, and-true}
use Rattle.std.proofs.lemmas.Bool.{and_from, and_parts}
use Rattle.std.proofs.lemmas.Bool.Decides.{nat_tests}
use Rattle.std.proofs.lemmas.List.{append-nil}
use Rattle.lvish_syntax.specs.Nested.{depth, row_depth, all_depth}
use Rattle.lvish_syntax.specs.declared.statement.Statement.{Statement, Do, If', IfElse', While', Row_of-Statement, end_of-Statement, more_of-Statement}
use Rattle.lvish_script.specs.Vocabulary.{Line, Opener, InProcedure, InIf, InElse, InWhile}
use Rattle.lvish_checks.specs.declared.line.Line.TheVariants as line
use Rattle.lvish_checks.specs.Checks.{open_step, open_after, is_full, is_misplaced, is_past_limit}
use Rattle.lvish_script.specs.Spells.{statement_lines, row_lines, body_lines}
use Rattle.lvish_syntax.specs.declared.limits.TheConstants.{MOST}

-- ---- what is open after a statement is what was open before it

pub open_append : (os : List Opener) (xs ys : List Line) → open_after os (xs ++ ys) ≡ open_after (open_after os xs) ys
open_append os [] ys = refl
open_append os (x ∷ xs) ys = open_append (open_step os x) xs ys

at_command : (o : Opener) (os : List Opener) (c : _) → open_step (o ∷ os) (line.Do c) ≡ o ∷ os
at_command InProcedure os c = refl
at_command InIf os c = refl
at_command InElse os c = refl
at_command InWhile os c = refl

at_end : (o : Opener) (os : List Opener) → open_step (o ∷ os) line.End ≡ os
at_end InProcedure os = refl
at_end InIf os = refl
at_end InElse os = refl
at_end InWhile os = refl

closes : (o : Opener) (os : List Opener) (ls : List Line) → open_after (o ∷ os) ls ≡ o ∷ os → open_after (o ∷ os) (ls ++ line.End ∷ []) ≡ os
closes o os ls e = open_append _ ls (line.End ∷ []) ∙ ap (λ t. open_after t (line.End ∷ [])) e ∙ at_end o os

mutual
  pub balanced : (o : Opener) (os : List Opener) (s : Statement) → open_after (o ∷ os) (statement_lines s) ≡ o ∷ os
  balanced o os (Do c) = at_command o os c
  balanced o os (If' t s a) = closes InIf (o ∷ os) (row_lines a) (balanced_row InIf (o ∷ os) a)
  balanced o os (IfElse' t s a r b) =
      open_append (InIf ∷ (o ∷ os)) (row_lines a) (line.Else ∷ (row_lines b ++ line.End ∷ []))
      ∙ ap (λ w. open_after w (line.Else ∷ (row_lines b ++ line.End ∷ []))) (balanced_row InIf (o ∷ os) a)
      ∙ closes InElse (o ∷ os) (row_lines b) (balanced_row InElse (o ∷ os) b)
  balanced o os (While' t s a) = closes InWhile (o ∷ os) (row_lines a) (balanced_row InWhile (o ∷ os) a)

  pub balanced_row : (o : Opener) (os : List Opener) {m : _} (r : Row_of-Statement m) → open_after (o ∷ os) (row_lines r) ≡ o ∷ os
  balanced_row o os end_of-Statement = refl
  balanced_row o os (more_of-Statement s rest) =
      open_append (o ∷ os) (statement_lines s) (row_lines rest) ∙ ap (λ t. open_after t (row_lines rest)) (balanced o os s) ∙ balanced_row o os rest

pub balanced_body : (o : Opener) (os : List Opener) (ss : List Statement) → open_after (o ∷ os) (body_lines ss) ≡ o ∷ os
balanced_body o os [] = refl
balanced_body o os (s ∷ ss) =
    open_append (o ∷ os) (statement_lines s) (body_lines ss) ∙ ap (λ t. open_after t (body_lines ss)) (balanced o os s) ∙ balanced_body o os ss

-- ---- a test of each line, by what is open there

abbrev pub goes : (List Opener → Line → Bool) → List Opener → List Line → Bool
goes t os [] = true
goes t os (l ∷ ls) = t os l && goes t (open_step os l) ls

module _ (t : List Opener → Line → Bool) where
  goes_append : (os : List Opener) (xs ys : List Line) → goes t os (xs ++ ys) ≡ (goes t os xs && goes t (open_after os xs) ys)
  goes_append os [] ys = refl
  goes_append os (x ∷ xs) ys = ap (λ b. t os x && b) (goes_append (open_step os x) xs ys) ∙ sym (and_assoc (t os x) (goes t (open_step os x) xs) _)

  -- below lines after which the same is open
  goes_on : (os : List Opener) (xs ys : List Line) → open_after os xs ≡ os → goes t os (xs ++ ys) ≡ (goes t os xs && goes t os ys)
  goes_on os xs ys e = goes_append os xs ys ∙ ap (λ w. goes t os xs && goes t w ys) e

  pub goes_at : (os : List Opener) (b : List Line) (x : Line) (a : List Line) → goes t os (b ++ x ∷ a) ≡ true → t (open_after os b) x ≡ true
  goes_at os b x a e = (and_parts _ _ (and_parts (goes t os b) _ (sym (goes_append os b (x ∷ a)) ∙ e)).1).0

  pub goes_by_cut : (before rest : List Line) → ((b : List Line) (x : Line) (a : List Line) → rest ≡ b ++ x ∷ a → t (open_after [] (before ++ b)) x ≡ true) → goes t (open_after [] before) rest ≡ true
  goes_by_cut before [] h = refl
  goes_by_cut before (x ∷ ls) h =
      let more = goes_by_cut (before ++ x ∷ []) ls (λ b y a e. ap (λ w. t (open_after [] w) y) (append_assoc before (x ∷ []) b) ∙ h (x ∷ b) y a (ap (λ w. x ∷ w) e)) in
      and_from (t (open_after [] before) x) _ (ap (λ w. t (open_after [] w) x) (sym (append-nil before)) ∙ h [] x ls refl) (subst (λ os. goes t os ls ≡ true) (open_append [] before (x ∷ [])) more)

-- ---- each line may stand where it does

abbrev pub stands : List Opener → Line → Bool
stands os l = not (is_misplaced os l)

closed_well : (o : Opener) (os : List Opener) (ls : List Line) → open_after (o ∷ os) ls ≡ o ∷ os → goes stands (o ∷ os) ls ≡ true → goes stands (o ∷ os) (ls ++ line.End ∷ []) ≡ true
closed_well o os ls b e = goes_on stands (o ∷ os) ls (line.End ∷ []) b ∙ and_from _ _ e refl

mutual
  well_in : (o : Opener) (os : List Opener) (s : Statement) → goes stands (o ∷ os) (statement_lines s) ≡ true
  well_in o os (Do c) = refl
  well_in o os (If' t s a) = closed_well InIf (o ∷ os) (row_lines a) (balanced_row InIf (o ∷ os) a) (well_in_row InIf (o ∷ os) a)
  well_in o os (IfElse' t s a r b) =
      goes_on stands (InIf ∷ (o ∷ os)) (row_lines a) _ (balanced_row InIf (o ∷ os) a)
      ∙ and_from _ _ (well_in_row InIf (o ∷ os) a) (closed_well InElse (o ∷ os) (row_lines b) (balanced_row InElse (o ∷ os) b) (well_in_row InElse (o ∷ os) b))
  well_in o os (While' t s a) = closed_well InWhile (o ∷ os) (row_lines a) (balanced_row InWhile (o ∷ os) a) (well_in_row InWhile (o ∷ os) a)

  well_in_row : (o : Opener) (os : List Opener) {m : _} (r : Row_of-Statement m) → goes stands (o ∷ os) (row_lines r) ≡ true
  well_in_row o os end_of-Statement = refl
  well_in_row o os (more_of-Statement s rest) = goes_on stands (o ∷ os) (statement_lines s) (row_lines rest) (balanced o os s) ∙ and_from _ _ (well_in o os s) (well_in_row o os rest)

pub well_body : (o : Opener) (os : List Opener) (ss : List Statement) → goes stands (o ∷ os) (body_lines ss) ≡ true
well_body o os [] = refl
well_body o os (s ∷ ss) = goes_on stands (o ∷ os) (statement_lines s) (body_lines ss) (balanced o os s) ∙ and_from _ _ (well_in o os s) (well_body o os ss)

-- ---- no block is opened where so many are open

abbrev pub opens_block : Line → Bool
opens_block (line.If t) = true
opens_block (line.While t) = true
opens_block l = false

abbrev pub has_room : List Opener → Line → Bool
has_room os l = not (opens_block l && is_full os)

none_deep : (n : ℕ) → n ≤ MOST → true ≡ nat_le (0 + n) MOST
none_deep n le = grind (arith, nat_tests)

one_deeper : (n d : ℕ) (b : Bool) → n ≤ MOST → (suc n ≤ MOST → b ≡ nat_le (d + suc n) MOST) → (not (nat_le MOST n) && b) ≡ nat_le (suc d + n) MOST
one_deeper n d b le h = grind (arith, nat_tests)

as_deep : (a b n : ℕ) → (nat_le (a + n) MOST && nat_le (b + n) MOST) ≡ nat_le (max a b + n) MOST
as_deep a b n = grind (arith, nat_tests)

closed_room : (os : List Opener) (ls : List Line) → goes has_room os (ls ++ line.End ∷ []) ≡ goes has_room os ls
closed_room os ls = goes_append has_room os ls (line.End ∷ []) ∙ and-true _

-- blocks have room just where they do not stand too deep
mutual
  levels : (o : Opener) (os : List Opener) (s : Statement) → suc (length os) ≤ MOST → goes has_room (o ∷ os) (statement_lines s) ≡ nat_le (depth s + suc (length os)) MOST
  levels o os (Do c) le = none_deep (suc (length os)) le
  levels o os (If' t s a) le = one_deeper (suc (length os)) (row_depth a) _ le (λ lt. closed_room _ (row_lines a) ∙ levels_row InIf (o ∷ os) a lt)
  levels o os (IfElse' t s a r b) le =
      one_deeper (suc (length os)) (max (row_depth a) (row_depth b)) _ le (λ lt.
      goes_on has_room (InIf ∷ (o ∷ os)) (row_lines a) _ (balanced_row InIf (o ∷ os) a)
      ∙ ap (λ x. x && goes has_room (InElse ∷ (o ∷ os)) (row_lines b ++ line.End ∷ [])) (levels_row InIf (o ∷ os) a lt)
      ∙ ap (λ x. nat_le (row_depth a + suc (suc (length os))) MOST && x) (closed_room _ (row_lines b) ∙ levels_row InElse (o ∷ os) b lt)
      ∙ as_deep (row_depth a) (row_depth b) (suc (suc (length os))))
  levels o os (While' t s a) le = one_deeper (suc (length os)) (row_depth a) _ le (λ lt. closed_room _ (row_lines a) ∙ levels_row InWhile (o ∷ os) a lt)

  levels_row : (o : Opener) (os : List Opener) {m : _} (r : Row_of-Statement m) → suc (length os) ≤ MOST → goes has_room (o ∷ os) (row_lines r) ≡ nat_le (row_depth r + suc (length os)) MOST
  levels_row o os end_of-Statement le = none_deep (suc (length os)) le
  levels_row o os (more_of-Statement s rest) le =
      goes_on has_room (o ∷ os) (statement_lines s) (row_lines rest) (balanced o os s)
      ∙ ap (λ x. x && goes has_room (o ∷ os) (row_lines rest)) (levels o os s le) ∙ ap (λ x. nat_le (depth s + suc (length os)) MOST && x) (levels_row o os rest le)
      ∙ as_deep (depth s) (row_depth rest) (suc (length os))

levels_body : (o : Opener) (os : List Opener) (ss : List Statement) → suc (length os) ≤ MOST → goes has_room (o ∷ os) (body_lines ss) ≡ nat_le (all_depth ss + suc (length os)) MOST
levels_body o os [] le = none_deep (suc (length os)) le
levels_body o os (s ∷ ss) le =
    goes_on has_room (o ∷ os) (statement_lines s) (body_lines ss) (balanced o os s)
    ∙ ap (λ x. x && goes has_room (o ∷ os) (body_lines ss)) (levels o os s le) ∙ ap (λ x. nat_le (depth s + suc (length os)) MOST && x) (levels_body o os ss le)
    ∙ as_deep (depth s) (all_depth ss) (suc (length os))

-- the statements of a procedure have room just where they do not stand too deep
pub room_of_body : (ss : List Statement) → goes has_room (InProcedure ∷ []) (body_lines ss) ≡ nat_lt (all_depth ss) MOST
room_of_body ss = levels_body InProcedure [] ss (omega arith) ∙ one_less (all_depth ss)
  where
    one_less : (n : ℕ) → nat_le (n + suc 0) MOST ≡ nat_lt n MOST
    one_less n = grind (arith, nat_tests)

pub limit_here : (before : List Line) (x : Line) → is_past_limit before x ≡ false → has_room (open_after [] before) x ≡ true
limit_here before (line.If t) e = ap not e
limit_here before (line.While t) e = ap not e
limit_here before x e = refl
