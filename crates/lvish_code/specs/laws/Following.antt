-- The code of statements does them.
use Rattle.std.proofs.Common.{◌≡◌, ℕ, ◌+◌, ◌-◌, ◌<◌, List, [], ◌∷◌, ◌++◌, length, Some, refl, sym, ap, ◌∙◌, subst, arith, append_assoc}
use Rattle.std.specs.List.{slice_get}
use Rattle.std.proofs.lemmas.List.{length-append, append-nil}
use Rattle.std.proofs.lemmas.Option.{slice_get_within}
use Rattle.lvish_syntax.specs.Nested.{statements}
use Rattle.lvish_code.specs.Vocabulary.{Term, Command, Procedure, Block, Statement, out-Statement, Instruction, SkipIfZero, BackUnlessZero, GoOn, Return}
use Rattle.lvish_syntax.specs.declared.command.Command.TheVariants as c
use Rattle.lvish_syntax.specs.declared.statement.Statement.TheOpen.{Statement-F, Do, If, IfElse, While}
use Rattle.lvish_code.specs.Compile.{Names, operand_of, command_code, if_code, if_else_code, while_code, statement_code, list_code, routine_of}
use Rattle.lvish_code.specs.Follows.{HasAt, Follows, returns, stands, goes_on, repeats, tested_term, taken, passed, DoesCommand, DoesTest, Does}
use Rattle.lvish_code.specs.laws.Trees.{layer_code, code_out}

-- ---- instructions that stand in code

pub has_front : (code : List Instruction) (place : ℕ) (a b : List Instruction) → HasAt code place (a ++ b) → HasAt code place a
has_front code place [] b h = tt
has_front code place (i ∷ a) b h = (h.0, has_front code (place + 1) a b h.1)

pub has_back : (code : List Instruction) (place : ℕ) (a b : List Instruction) → HasAt code place (a ++ b) → HasAt code (place + length a) b
has_back code place [] b h = let e : place ≡ place + 0 = omega arith in subst (λ n. HasAt code n b) e h
has_back code place (i ∷ a) b h =
    let e : place + 1 + length a ≡ place + length (i ∷ a) = omega arith in
    subst (λ n. HasAt code n b) e (has_back code (place + 1) a b h.1)

get_after : (pre : List Instruction) (i : Instruction) (post : List Instruction) → slice_get (pre ++ i ∷ post) (length pre) ≡ Some i
get_after [] i post = refl
get_after (x ∷ pre) i post = get_after pre i post

has_here : (pre is post : List Instruction) → HasAt (pre ++ (is ++ post)) (length pre) is
has_here pre [] post = tt
has_here pre (i ∷ is) post =
    let step : (pre ++ i ∷ []) ++ (is ++ post) ≡ pre ++ (i ∷ (is ++ post)) = append_assoc pre (i ∷ []) (is ++ post) in
    let place : length (pre ++ i ∷ []) ≡ length pre + 1 = length-append pre (i ∷ []) in
    (get_after pre i (is ++ post), subst (λ code. HasAt code (length pre + 1) is) step (subst (λ n. HasAt ((pre ++ i ∷ []) ++ (is ++ post)) n is) place (has_here (pre ++ i ∷ []) is post)))

module _ (names : Names) (code : List Instruction) where
  pub moved : (p q : ℕ) (ks : List Statement) → p ≡ q → Follows names code p ks → Follows names code q ks
  moved p q ks e f = subst (λ n. Follows names code n ks) e f

  -- statements whose code stands here, before what follows
  pub follows_list : (ss : List Statement) (p : ℕ) (ks : List Statement) → HasAt code p (list_code names ss) → Follows names code (p + length (list_code names ss)) ks → Follows names code p (ss ++ ks)
  follows_list [] p ks has f = moved (p + 0) p ks (omega arith) f
  follows_list (s ∷ ss) p ks has f =
      let first = statement_code names s in
      let others = list_code names ss in
      let a = has_front code p first others has in
      let b = has_back code p first others has in
      let e : p + length (first ++ others) ≡ p + length first + length others = omega (arith, length-append first others) in
      stands p s (ss ++ ks) a (follows_list ss (p + length first) ks b (moved _ _ ks e f))

  -- a loop's block, and then the loop once more
  again : (start : ℕ) (s : Statement) (t : Term) (b : Block) (ks : List Statement) → out-Statement s ≡ While t b → HasAt code start (statement_code names s) → Follows names code (start + length (statement_code names s)) ks → Follows names code (start + 1) (statements b ++ s ∷ ks)
  again start s t b ks e has f =
      let o = operand_of names t in
      let cb = list_code names (statements b) in
      let c : statement_code names s ≡ while_code o cb = code_out names s ∙ ap (layer_code names) e in
      let has' = subst (λ l. HasAt code start l) c has in
      let len : length (statement_code names s) ≡ length cb + 2 = ap length c ∙ omega (arith, length-append cb (BackUnlessZero o (length cb) ∷ [])) in
      let place = start + 1 + length cb in
      let front = has_front code (start + 1) cb (BackUnlessZero o (length cb) ∷ []) has'.1 in
      let at : place + 1 ≡ start + length (statement_code names s) = omega arith in
      follows_list (statements b) (start + 1) (s ∷ ks) front (repeats place start s t b ks e has at (moved _ _ ks (sym at) f))

  -- the last instruction of a loop
  last_of : (place start : ℕ) (s : Statement) (t : Term) (b : Block) → out-Statement s ≡ While t b → HasAt code start (statement_code names s) → place + 1 ≡ start + length (statement_code names s) → (slice_get code place ≡ Some (BackUnlessZero (operand_of names t) (length (list_code names (statements b))))) × (start + 1 + length (list_code names (statements b)) ≡ place)
  last_of place start s t b e has at =
      let o = operand_of names t in
      let cb = list_code names (statements b) in
      let c : statement_code names s ≡ while_code o cb = code_out names s ∙ ap (layer_code names) e in
      let has' = subst (λ l. HasAt code start l) c has in
      let len : length (statement_code names s) ≡ length cb + 2 = ap length c ∙ omega (arith, length-append cb (BackUnlessZero o (length cb) ∷ [])) in
      let last = (has_back code (start + 1) cb (BackUnlessZero o (length cb) ∷ []) has'.1).0 in
      let here : start + 1 + length cb ≡ place = omega arith in
      (subst (λ n. slice_get code n ≡ Some (BackUnlessZero o (length cb))) here last, here)

  -- ---- the instruction at a place

  first_of : (p : ℕ) (u : Statement-F Statement Block) → HasAt code p (layer_code names u) → (i : Instruction) × (slice_get code p ≡ Some i)
  first_of p (Do c) h = (_, h.0)
  first_of p u h = (_, h.0)

  -- there is an instruction where statements follow
  pub has_instruction : (p : ℕ) (ks : List Statement) → Follows names code p ks → (i : Instruction) × (slice_get code p ≡ Some i)
  has_instruction _ _ (returns p h) = (Return, h)
  has_instruction _ _ (stands p s ks has f) = first_of p (out-Statement s) (subst (λ l. HasAt code p l) (code_out names s) has)
  has_instruction _ _ (goes_on p n ks h f) = (GoOn n, h)
  has_instruction _ _ (repeats p start s t b ks e has at f) = (BackUnlessZero (operand_of names t) (length (list_code names (statements b))), (last_of p start s t b e has at).0)

  -- a place where statements follow is one of the code
  pub place_within : (p : ℕ) (ks : List Statement) → Follows names code p ks → p < length code
  place_within p ks f = let a = has_instruction p ks f in slice_get_within code p a.0 a.1

  -- ---- what it does

  by_command : (p : ℕ) (ks : List Statement) (c : Command) → DoesCommand names code p ks (command_code names c) → Does names code p ks (command_code names c)
  by_command p ks (c.Let x a) d = d
  by_command p ks c d = d

  -- the instruction tests the first statement's term
  tests : (s : Statement) (ks : List Statement) (u : Statement-F Statement Block) (t : Term) (p q : ℕ) → out-Statement s ≡ u → tested_term u ≡ Some t → Follows names code p (taken s u ks) → Follows names code q (passed u ks) → DoesTest names code (s ∷ ks) (operand_of names t) p q
  tests s ks u t p q e is first second =
      record {
        statement = s;
        rest = ks;
        term = t;
        is = refl;
        tests = ap tested_term e ∙ is;
        operand_is = refl;
        follows_taken = subst (λ w. Follows names code p (taken s w ks)) (sym e) first;
        follows_passed = subst (λ w. Follows names code q (passed w ks)) (sym e) second;
      }

  stands_does : (p : ℕ) (s : Statement) (ks : List Statement) (u : Statement-F Statement Block) → out-Statement s ≡ u → HasAt code p (layer_code names u) → HasAt code p (statement_code names s) → Follows names code (p + length (layer_code names u)) ks → (i : Instruction) → slice_get code p ≡ Some i → Does names code p (s ∷ ks) i
  stands_does p s ks (Do c) e has h f i g =
      let same : command_code names c ≡ i = cc (has.0, g) in
      subst (λ j. Does names code p (s ∷ ks) j) same
      (by_command p (s ∷ ks) c (record { statement = s; rest = ks; command = c; is = refl; out = e; code_is = refl; follows = f }))
  stands_does p s ks (If t a) e has h f i g =
      let o = operand_of names t in
      let ca = list_code names (statements a) in
      let same : SkipIfZero o (length ca) ≡ i = cc (has.0, g) in
      let l : p + length (if_code o ca) ≡ p + 1 + length ca = omega arith in
      let f' = moved _ _ ks l f in
      subst (λ j. Does names code p (s ∷ ks) j) same (tests s ks (If t a) t (p + 1) (p + 1 + length ca) e refl (follows_list (statements a) (p + 1) ks has.1 f') f')
  stands_does p s ks (IfElse t a b) e has h f i g =
      let o = operand_of names t in
      let ca = list_code names (statements a) in
      let cb = list_code names (statements b) in
      let same : SkipIfZero o (length ca + 1) ≡ i = cc (has.0, g) in
      let front = has_front code (p + 1) ca (GoOn (length cb) ∷ cb) has.1 in
      let back = has_back code (p + 1) ca (GoOn (length cb) ∷ cb) has.1 in
      let l : p + length (if_else_code o ca cb) ≡ p + 1 + length ca + 1 + length cb = omega (arith, length-append ca (GoOn (length cb) ∷ cb)) in
      let f' = moved _ _ ks l f in
      let second = follows_list (statements b) (p + 1 + length ca + 1) ks back.1 f' in
      let l2 : p + 1 + length ca + 1 ≡ p + 1 + (length ca + 1) = omega arith in
      let first = follows_list (statements a) (p + 1) ks front (goes_on (p + 1 + length ca) (length cb) ks back.0 f') in
      subst (λ j. Does names code p (s ∷ ks) j) same (tests s ks (IfElse t a b) t (p + 1) (p + 1 + (length ca + 1)) e refl first (moved _ _ _ l2 second))
  stands_does p s ks (While t b) e has h f i g =
      let o = operand_of names t in
      let cb = list_code names (statements b) in
      let same : SkipIfZero o (length cb + 1) ≡ i = cc (has.0, g) in
      let c : statement_code names s ≡ while_code o cb = code_out names s ∙ ap (layer_code names) e in
      let f' = subst (λ l. Follows names code (p + length l) ks) (sym c) f in
      let l : p + length (while_code o cb) ≡ p + 1 + (length cb + 1) = omega (arith, length-append cb (BackUnlessZero o (length cb) ∷ [])) in
      subst (λ j. Does names code p (s ∷ ks) j) same (tests s ks (While t b) t (p + 1) (p + 1 + (length cb + 1)) e refl (again p s t b ks e h f') (moved _ _ _ l f))

  -- what the instruction at a place does, where these statements follow
  pub does : (p : ℕ) (ks : List Statement) → Follows names code p ks → (i : Instruction) → slice_get code p ≡ Some i → Does names code p ks i
  does _ _ (returns p h) i g =
      let same : Return ≡ i = cc (h, g) in
      subst (λ j. Does names code p [] j) same refl
  does _ _ (stands p s ks has f) i g =
      let c = code_out names s in
      stands_does p s ks (out-Statement s) refl (subst (λ l. HasAt code p l) c has) has (subst (λ l. Follows names code (p + length l) ks) c f) i g
  does _ _ (goes_on p n ks h f) i g =
      let same : GoOn n ≡ i = cc (h, g) in
      subst (λ j. Does names code p ks j) same f
  does _ _ (repeats p start s t b ks e has at f) i g =
      let cb = list_code names (statements b) in
      let last = last_of p start s t b e has at in
      let same : BackUnlessZero (operand_of names t) (length cb) ≡ i = cc (last.0, g) in
      let body = again start s t b ks e has (moved _ _ ks at f) in
      let here : start + 1 + length cb ≡ p = last.1 in
      let to : start + 1 ≡ p - length cb = omega arith in
      subst (λ j. Does names code p (s ∷ ks) j) same (tests s ks (While t b) t (p - length cb) (p + 1) e refl (moved _ _ _ to body) f, omega arith)

  pub does_here : (p : ℕ) (ks : List Statement) → Follows names code p ks → (i : Instruction) × (slice_get code p ≡ Some i) × Does names code p ks i
  does_here p ks f = let h = has_instruction p ks f in (h.0, h.1, does p ks f h.0 h.1)

-- ---- procedures

-- the code of a procedure does its statements, from its first instruction on
pub follows_start : (names : Names) (p : Procedure) → Follows names (routine_of names p).instructions 0 (statements p.body)
follows_start names p =
    let ss = statements p.body in
    let body = list_code names ss in
    let code = body ++ Return ∷ [] in
    let all : ss ++ [] ≡ ss = append-nil ss in
    subst (λ ks. Follows names code 0 ks) all (follows_list names code ss 0 [] (has_here [] body (Return ∷ []))
    (moved names code (length body) (0 + length body) [] (omega arith) (returns (length body) (get_after body Return []))))
