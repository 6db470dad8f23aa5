-- Jumps stay within their routine.
use Rattle.std.proofs.Common.{◌≡◌, ℕ, zero, suc, ◌+◌, ◌<◌, Bool, true, ◌&&◌, ◌==◌, List, [], ◌∷◌, ◌++◌, length, Some, refl, subst, arith}
use Rattle.std.specs.List.{slice_get}
use Rattle.std.proofs.lemmas.List.{length-append}
use Rattle.std.proofs.lemmas.Bool.{and_parts, and_from, lt-ltb, le-leb}
use Rattle.std.proofs.lemmas.Bool.Decides.{Decides-eqb}
use Rattle.lvish_syntax.specs.Nested.{statements}
use Rattle.lvish_code.specs.Vocabulary.{Command, Procedure, Statement, Instruction, BackUnlessZero, GoOn, Return}
use Rattle.lvish_syntax.specs.declared.command.Command.TheVariants as c
use Rattle.lvish_syntax.specs.declared.statement.Statement.{Do, If', IfElse', While', Row_of-Statement, end_of-Statement, more_of-Statement}
use Rattle.lvish_code.specs.Compile.{Names, operand_of, command_code, statement_code, row_code, list_code, routine_of}
use Rattle.lvish_code.specs.Sound.{lands}

-- whether instructions that begin at this place land
abbrev land : ℕ → ℕ → List Instruction → Bool
land count place [] = true
land count place (i ∷ is) = lands count place i && land count (place + 1) is

module _ (count : ℕ) where
  moved : (p q : ℕ) (is : List Instruction) → p ≡ q → land count p is ≡ true → land count q is ≡ true
  moved p q is e h = subst (λ n. land count n is ≡ true) e h

  land_append : (place : ℕ) (a b : List Instruction) → land count place a ≡ true → land count (place + length a) b ≡ true → land count place (a ++ b) ≡ true
  land_append place [] b h k = moved (place + 0) place b (omega arith) k
  land_append place (i ∷ a) b h k =
      let s = and_parts (lands count place i) (land count (place + 1) a) h in
      and_from _ _ s.0 (land_append (place + 1) a b s.1 (moved (place + length (i ∷ a)) (place + 1 + length a) b (omega arith) k))

  land_get : (is : List Instruction) (start place : ℕ) (i : Instruction) → land count start is ≡ true → slice_get is place ≡ Some i → lands count (start + place) i ≡ true
  land_get [] start place i h e = absurd cc
  land_get (j ∷ is) start zero i h e =
      let same : j ≡ i = cc in
      let here : start ≡ start + zero = omega arith in
      subst (λ n. lands count n i ≡ true) here (subst (λ x. lands count start x ≡ true) same (and_parts (lands count start j) _ h).0)
  land_get (j ∷ is) start (suc place) i h e =
      let there : start + 1 + place ≡ start + suc place = omega arith in
      subst (λ n. lands count n i ≡ true) there (land_get is (start + 1) place i (and_parts (lands count start j) _ h).1 e)

  command_lands : (names : Names) (place : ℕ) (c : Command) → place + 1 < count → lands count place (command_code names c) ≡ true
  command_lands names place (c.Let x a) h = lt-ltb _ _ h
  command_lands names place c h = lt-ltb _ _ h

  module _ (names : Names) where
    mutual
      statement_lands : (s : Statement) (place : ℕ) → place + length (statement_code names s) < count → land count place (statement_code names s) ≡ true
      statement_lands (Do c) place h = and_from _ _ (command_lands names place c (omega arith)) refl
      statement_lands (If' t s a) place h =
          let ca = row_code names a in
          and_from _ _ (lt-ltb (place + 1 + length ca) count (omega arith)) (row_lands a (place + 1) (omega arith))
      statement_lands (IfElse' t s a r b) place h =
          let ca = row_code names a in
          let cb = row_code names b in
          let len = length-append ca (GoOn (length cb) ∷ cb) in
          and_from _ _ (lt-ltb (place + 1 + (length ca + 1)) count (omega arith))
          (land_append (place + 1) ca (GoOn (length cb) ∷ cb) (row_lands a (place + 1) (omega arith))
          (and_from _ _ (lt-ltb (place + 1 + length ca + 1 + length cb) count (omega arith)) (row_lands b (place + 1 + length ca + 1) (omega arith))))
      statement_lands (While' t s a) place h =
          let ca = row_code names a in
          let back = BackUnlessZero (operand_of names t) (length ca) ∷ [] in
          let len = length-append ca back in
          and_from _ _ (lt-ltb (place + 1 + (length ca + 1)) count (omega arith))
          (land_append (place + 1) ca back (row_lands a (place + 1) (omega arith))
          (and_from _ _ (and_from _ _ (le-leb (length ca) (place + 1 + length ca) (omega arith)) (lt-ltb (place + 1 + length ca + 1) count (omega arith))) refl))

      row_lands : {m : _} (r : Row_of-Statement m) (place : ℕ) → place + length (row_code names r) < count → land count place (row_code names r) ≡ true
      row_lands end_of-Statement place h = refl
      row_lands (more_of-Statement s rest) place h =
          let len = length-append (statement_code names s) (row_code names rest) in
          land_append place (statement_code names s) (row_code names rest) (statement_lands s place (omega arith)) (row_lands rest (place + length (statement_code names s)) (omega arith))

    list_lands : (ss : List Statement) (place : ℕ) → place + length (list_code names ss) < count → land count place (list_code names ss) ≡ true
    list_lands [] place h = refl
    list_lands (s ∷ ss) place h =
        let len = length-append (statement_code names s) (list_code names ss) in
        land_append place (statement_code names s) (list_code names ss) (statement_lands s place (omega arith)) (list_lands ss (place + length (statement_code names s)) (omega arith))

pub routine_lands : (names : Names) (p : Procedure) (place : ℕ) (i : Instruction) → slice_get (routine_of names p).instructions place ≡ Some i → lands (length (routine_of names p).instructions) place i ≡ true
routine_lands names p place i e =
    let body = list_code names (statements p.body) in
    let all = body ++ Return ∷ [] in
    let count = length all in
    let len : count ≡ length body + 1 = length-append body (Return ∷ []) in
    let last : (0 + length body + 1 == count) ≡ true = (Decides-eqb _ _).1 (omega arith) in
    let whole = land_append count 0 body (Return ∷ []) (list_lands count names (statements p.body) 0 (omega arith)) (and_from _ _ last refl) in
    let here : 0 + place ≡ place = omega arith in
    subst (λ n. lands count n i ≡ true) here (land_get count all 0 place i whole e)
