-- Scripts with the same lines are the same.
use Rattle.std.proofs.Common.{◌≡◌, ℕ, Bool, true, false, List, [], ◌∷◌, ◌++◌, refl, sym, ap, ◌∙◌, append_assoc}
use Rattle.std.specs.List.{AllZip, flat_map}
use Rattle.lvish_syntax.specs.Nested.{statements}
use Rattle.lvish_script.specs.Vocabulary.{Declaration, Procedure, Line}
use Rattle.lvish_syntax.specs.declared.statement.Statement.{Statement, Do, If', IfElse', While', Row_of-Statement, end_of-Statement, more_of-Statement}
use Rattle.lvish_syntax.specs.declared.script.Script.{Script}
use Rattle.lvish_checks.specs.declared.line.Line.TheVariants as line
use Rattle.lvish_script.specs.Spells.{statement_lines, row_lines, body_lines, procedure_lines, script_lines, Spells}
use Rattle.lvish_script.specs.Same.{IsSame, AreSame, IsSameProcedure}

-- ---- lines that are equal

-- lines but for the first
abbrev tail : List Line → List Line
tail [] = []
tail (l ∷ ls) = ls

-- lines after a block: they begin with an end or an else
abbrev closes : List Line → Bool
closes (line.End ∷ ls) = true
closes (line.Else ∷ ls) = true
closes ls = false

-- the lines of a statement close nothing
opens : (s : Statement) (x : List Line) → closes (statement_lines s ++ x) ≡ false
opens (Do c) x = refl
opens (If' t s a) x = refl
opens (IfElse' t s a r b) x = refl
opens (While' t s a) x = refl

-- a block's lines, its end and what follows
ended : (a x : List Line) → (a ++ line.End ∷ []) ++ x ≡ a ++ line.End ∷ x
ended a x = append_assoc a (line.End ∷ []) x

both_parts : (a b x : List Line) → (a ++ line.Else ∷ (b ++ line.End ∷ [])) ++ x ≡ a ++ line.Else ∷ (b ++ line.End ∷ x)
both_parts a b x = append_assoc a (line.Else ∷ (b ++ line.End ∷ [])) x ∙ ap (λ t. a ++ line.Else ∷ t) (ended b x)

-- ---- statements

mutual
  pub one : (s r : Statement) (x y : List Line) → statement_lines s ++ x ≡ statement_lines r ++ y → IsSame s r × (x ≡ y)
  one (Do c) (Do d) x y e = (cc, cc)
  one (If' t s a) (If' u r b) x y e =
      let inner = rows a b (line.End ∷ x) (line.End ∷ y) refl refl (sym (ended (row_lines a) x) ∙ ap tail e ∙ ended (row_lines b) y) in
      ((cc, inner.0), ap tail inner.1)
  one (IfElse' t s a r b) (IfElse' u p c q d) x y e =
      let first = rows a c (line.Else ∷ (row_lines b ++ line.End ∷ x)) (line.Else ∷ (row_lines d ++ line.End ∷ y)) refl refl (sym (both_parts (row_lines a) (row_lines b) x) ∙ ap tail e ∙ both_parts (row_lines c) (row_lines d) y) in
      let second = rows b d (line.End ∷ x) (line.End ∷ y) refl refl (ap tail first.1) in
      ((cc, first.0, second.0), ap tail second.1)
  one (While' t s a) (While' u r b) x y e =
      let inner = rows a b (line.End ∷ x) (line.End ∷ y) refl refl (sym (ended (row_lines a) x) ∙ ap tail e ∙ ended (row_lines b) y) in
      ((cc, inner.0), ap tail inner.1)
  one (If' t s a) (IfElse' u p c q d) x y e =
      let inner = rows a c (line.End ∷ x) (line.Else ∷ (row_lines d ++ line.End ∷ y)) refl refl (sym (ended (row_lines a) x) ∙ ap tail e ∙ both_parts (row_lines c) (row_lines d) y) in
      let f = inner.1 in absurd cc
  one (IfElse' t s a r b) (If' u p c) x y e =
      let inner = rows a c (line.Else ∷ (row_lines b ++ line.End ∷ x)) (line.End ∷ y) refl refl (sym (both_parts (row_lines a) (row_lines b) x) ∙ ap tail e ∙ ended (row_lines c) y) in
      let f = inner.1 in absurd cc
  one s r x y e = absurd cc

  pub rows : {m n : _} (a : Row_of-Statement m) (b : Row_of-Statement n) (x y : List Line) → closes x ≡ true → closes y ≡ true → row_lines a ++ x ≡ row_lines b ++ y → AreSame a b × (x ≡ y)
  rows end_of-Statement end_of-Statement x y f g e = (tt, e)
  rows end_of-Statement (more_of-Statement r more) x y f g e =
      let h = ap closes (e ∙ append_assoc (statement_lines r) (row_lines more) y) in
      let k = opens r (row_lines more ++ y) in absurd cc
  rows (more_of-Statement s rest) end_of-Statement x y f g e =
      let h = ap closes (sym e ∙ append_assoc (statement_lines s) (row_lines rest) x) in
      let k = opens s (row_lines rest ++ x) in absurd cc
  rows (more_of-Statement s rest) (more_of-Statement r more) x y f g e =
      let first = one s r (row_lines rest ++ x) (row_lines more ++ y) (sym (append_assoc (statement_lines s) (row_lines rest) x) ∙ e ∙ append_assoc (statement_lines r) (row_lines more) y) in
      let others = rows rest more x y f g first.1 in
      ((first.0, others.0), others.1)

-- the statements of a body before what closes it
body : (ss ts : List Statement) (x y : List Line) → closes x ≡ true → closes y ≡ true → body_lines ss ++ x ≡ body_lines ts ++ y → AllZip IsSame ss ts × (x ≡ y)
body [] [] x y f g e = (tt, e)
body [] (r ∷ ts) x y f g e =
    let h = ap closes (e ∙ append_assoc (statement_lines r) (body_lines ts) y) in
    let k = opens r (body_lines ts ++ y) in absurd cc
body (s ∷ ss) [] x y f g e =
    let h = ap closes (sym e ∙ append_assoc (statement_lines s) (body_lines ss) x) in
    let k = opens s (body_lines ss ++ x) in absurd cc
body (s ∷ ss) (r ∷ ts) x y f g e =
    let first = one s r (body_lines ss ++ x) (body_lines ts ++ y) (sym (append_assoc (statement_lines s) (body_lines ss) x) ∙ e ∙ append_assoc (statement_lines r) (body_lines ts) y) in
    let others = body ss ts x y f g first.1 in
    ((first.0, others.0), others.1)

-- ---- procedures and declarations

abbrev procedures_lines : List Procedure → List Line
procedures_lines ps = flat_map procedure_lines ps

-- the lines of the first procedure, and those of the others
procedure_first : (p : Procedure) (ps : List Procedure) → procedures_lines (p ∷ ps) ≡ line.Proc p.name p.parameters ∷ (body_lines (statements p.body) ++ line.End ∷ procedures_lines ps)
procedure_first p ps = ap (λ t. line.Proc p.name p.parameters ∷ t) (ended (body_lines (statements p.body)) (procedures_lines ps))

procedures : (ps qs : List Procedure) → procedures_lines ps ≡ procedures_lines qs → AllZip IsSameProcedure ps qs
procedures [] [] e = tt
procedures [] (q ∷ qs) e = absurd cc
procedures (p ∷ ps) [] e = absurd cc
procedures (p ∷ ps) (q ∷ qs) e =
    let f = sym (procedure_first p ps) ∙ e ∙ procedure_first q qs in
    let inner = body (statements p.body) (statements q.body) (line.End ∷ procedures_lines ps) (line.End ∷ procedures_lines qs) refl refl (ap tail f) in
    (record { name = cc; parameters = cc; body = inner.0 }, procedures ps qs (ap tail inner.1))

abbrev declare : Declaration → Line
declare d = line.Declare d

no_declaration : (ps : List Procedure) (d : Declaration) (x : List Line) → procedures_lines ps ≡ line.Declare d ∷ x → ⊥
no_declaration [] d x e = cc
no_declaration (p ∷ ps) d x e = cc

lines_apart : (ds es : List Declaration) (ps qs : List Procedure) → script_lines ds ps ≡ script_lines es qs → (ds ≡ es) × (procedures_lines ps ≡ procedures_lines qs)
lines_apart [] [] ps qs e = (refl, e)
lines_apart [] (d ∷ es) ps qs e = absurd (no_declaration ps d _ e)
lines_apart (d ∷ ds) [] ps qs e = absurd (no_declaration qs d _ (sym e))
lines_apart (d ∷ ds) (c ∷ es) ps qs e =
    let others = lines_apart ds es ps qs (ap tail e) in
    let first : d ≡ c = cc in
    let rest = others.0 in
    (cc, others.1)

module _ (text : List ℕ) (s t : Script) (a : Spells text s) (b : Spells text t) where
  apart : (s.declarations ≡ t.declarations) × (procedures_lines s.procedures ≡ procedures_lines t.procedures)
  apart = lines_apart s.declarations t.declarations s.procedures t.procedures (a.lines ∙ sym b.lines)

  pub one_version : s.version ≡ t.version
  one_version = a.version ∙ sym b.version

  pub one_declarations : s.declarations ≡ t.declarations
  one_declarations = apart.0

  pub one_procedures : AllZip IsSameProcedure s.procedures t.procedures
  one_procedures = procedures s.procedures t.procedures apart.1
