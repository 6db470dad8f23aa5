-- A command is sound just where the checks of its line pass.
use Rattle.std.proofs.Common.{◌≡◌, ℕ, Bool, true, false, not, ◌||◌, ◌&&◌, ◌==◌, List, [], ◌∷◌, ◌++◌, length, Option, Some, None, refl, sym, ap, ◌∙◌, arith}
use Rattle.std.proofs.lemmas.Bool.{and_from, and_parts, or_from, or_parts, not-true}
use Rattle.std.specs.Prelude.{is_some, if◌then◌else◌}
use Rattle.std.specs.Option.{option_map_or}
use Rattle.std.specs.List.{list_any, list_all, flat_map}
use Rattle.std.specs.Str.{bytes_eq}
use Rattle.std.proofs.lemmas.List.Folds.{list_any-append}
use Rattle.std.proofs.lemmas.Slice.Eq.{bytes_eq-Decides}
use Rattle.lvish_script.specs.Vocabulary.{Word, Term, Threshold, Declaration, Variable, Pool, Command, Let, Put, PutAt, Get, GetAt, Fork, Call, Handle, Freeze, FreezeEach, Procedure, Block, Statement, Line}
use Rattle.lvish_syntax.specs.Name.{has_name, has_repeat, is_known}
use Rattle.lvish_syntax.specs.Nested.{statements}
use Rattle.lvish_syntax.specs.Sound.{variable_names, pool_names, kind_of, variable_of, procedure_names, takes, command_binds, is_pool_of, is_put_sound, is_get_of_kind, is_get_apart, is_value_known, is_threshold_known, is_command_sound, is_own_sound}
use Rattle.lvish_syntax.specs.declared.statement.Statement.TheOpen as o
use Rattle.lvish_checks.specs.declared.line.Line.TheVariants as line
use Rattle.lvish_checks.specs.Checks.{has_variable, has_pool, has_procedure, has_other_count, command_unknown, command_misfits, command_miscounts, command_mixes, is_procedure, parameters_of}
use Rattle.lvish_script.specs.Spells.{body_lines, procedure_lines, script_lines}
use Rattle.lvish_script.proofs.Bodies.{own_line, no_procedures, skipped}
use Rattle.lvish_script.proofs.Declaring.{heads, declared, procedures_declared}

-- ---- variables and pools by their names

some_there : {X Y : Type 0} (m : Option X) (f : X → Option Y) → is_some (option_map_or f m None) ≡ true → is_some m ≡ true
some_there None f e = e
some_there (Some x) f e = refl

test_there : {X : Type 0} (m : Option X) (f : X → Bool) → option_map_or f m false ≡ true → is_some m ≡ true
test_there None f e = absurd cc
test_there (Some x) f e = refl

found_on : {Y : Type 0} (b : Bool) (m : Option Y) (y : Y) (c : Bool) → is_some m ≡ c → is_some (if b then Some y else m) ≡ (b || c)
found_on true m y c e = refl
found_on false m y c e = e

kind_known : (v : Word) (ds : List Declaration) → is_some (kind_of v ds) ≡ has_name v (variable_names ds)
kind_known v [] = refl
kind_known v (Variable n k ∷ ds) = found_on (bytes_eq n v) (kind_of v ds) k (has_name v (variable_names ds)) (kind_known v ds)
kind_known v (Pool p w ∷ ds) = kind_known v ds

pool_known : (p : Word) (ds : List Declaration) → is_some (variable_of p ds) ≡ has_name p (pool_names ds)
pool_known p [] = refl
pool_known p (Variable n k ∷ ds) = pool_known p ds
pool_known p (Pool q v ∷ ds) = found_on (bytes_eq q p) (variable_of p ds) v (has_name p (pool_names ds)) (pool_known p ds)

-- ---- procedures by their names

skip_heads : (n : Word) (ds : List Declaration) (rest : List Line) → parameters_of n (heads ds ++ rest) ≡ parameters_of n rest
skip_heads n [] rest = refl
skip_heads n (d ∷ ds) rest = skip_heads n ds rest

-- whether a procedure that is there has another number of parameters
abbrev disagrees : ℕ → Option (List Word) → Bool
disagrees k o = option_map_or (λ xs. not (length xs == k)) o false

-- where the names of procedures differ, one takes so many terms just where the first of that name does
takes_is : (n : Word) (k : ℕ) (ps : List Procedure) → has_repeat (procedure_names ps) ≡ false → list_any (takes n k) ps ≡ (has_name n (procedure_names ps) && not (disagrees k (parameters_of n (flat_map procedure_lines ps))))
takes_is n k [] differ = refl
takes_is n k (r ∷ ps) differ =
    let apart = or_parts (has_name r.name (procedure_names ps)) _ differ in
    let none : list_any is_procedure (body_lines (statements r.body) ++ (line.End ∷ [])) ≡ false = list_any-append is_procedure (body_lines (statements r.body)) (line.End ∷ []) ∙ or_from _ _ (no_procedures (statements r.body)) refl in
    on_name (parameters_of n (flat_map procedure_lines ps)) _ _ (bytes_eq r.name n) (takes_is n k ps apart.1) (λ e. ap (λ w. has_name w (procedure_names ps)) (sym ((bytes_eq-Decides r.name n).0 e)) ∙ apart.0)
    ∙ ap (λ m. (bytes_eq r.name n || has_name n (procedure_names ps)) && not (disagrees k (if bytes_eq r.name n then Some r.parameters else m))) (sym (skipped n (body_lines (statements r.body) ++ (line.End ∷ [])) (flat_map procedure_lines ps) none))
  where
    here : (l a b d : Bool) → a ≡ (b && d) → b ≡ false → (l || a) ≡ not (not l)
    here l a b d e f = grind arith

    on_name : (m : Option (List Word)) (a b t : Bool) → a ≡ (b && not (disagrees k m)) → (t ≡ true → b ≡ false) → ((t && (length r.parameters == k)) || a) ≡ ((t || b) && not (disagrees k (if t then Some r.parameters else m)))
    on_name m a b true e fresh = here (length r.parameters == k) a b (not (disagrees k m)) e (fresh refl)
    on_name m a b false e fresh = e

-- ---- a command, by the checks of its line

let_is : (x k : Bool) → (x && k) ≡ ((x && true) && not (not k || false || false || false))
let_is x k = grind arith

put_is : (h p k : Bool) → (p ≡ true → h ≡ true) → (p && k) ≡ (true && not ((not h || not k) || not p || false || false))
put_is h p k there = grind arith

put_at_is : (h p i k : Bool) → (p ≡ true → h ≡ true) → (p && i && k) ≡ (true && not ((not h || not i || not k) || not p || false || false))
put_at_is h p i k there = grind arith

get_is : (x h g a k : Bool) → (g ≡ true → h ≡ true) → (x && (g && a) && k) ≡ ((x && true) && not ((not h || not k) || not g || false || not a))
get_is x h g a k there = grind arith

get_at_is : (x h g a i k : Bool) → (g ≡ true → h ≡ true) → (x && (g && a) && i && k) ≡ ((x && true) && not ((not h || not i || not k) || not g || false || not a))
get_at_is x h g a i k there = grind arith

run_is : (h o t k : Bool) → t ≡ (h && not o) → (t && k) ≡ (true && not ((not h || not k) || false || o || false))
run_is h o t k taken = grind arith

handle_is : (p h o t : Bool) → t ≡ (h && not o) → (p && t) ≡ (true && not ((not p || not h) || false || o || false))
handle_is p h o t taken = grind arith

freeze_is : (x h l q : Bool) → (l ≡ true → q ≡ true) → (x && h && l) ≡ ((x && true) && not ((not h || not q) || not l || false || false))
freeze_is x h l q there = grind arith

freeze_each_is : (x h l q n o t : Bool) → (l ≡ true → q ≡ true) → t ≡ (n && not o) → (x && h && l && t) ≡ ((x && true) && not ((not h || not q || not n) || not l || o || false))
freeze_each_is x h l q n o t there taken = grind arith

module _ (ds : List Declaration) (ps : List Procedure) (differ : has_repeat (procedure_names ps) ≡ false) where
  variable_is : (v : Word) → has_variable v (script_lines ds ps) ≡ is_some (kind_of v ds)
  variable_is v = ap (λ t. has_name v (variable_names t)) (declared ds ps) ∙ sym (kind_known v ds)

  pool_is : (p : Word) → has_pool p (script_lines ds ps) ≡ has_name p (pool_names ds)
  pool_is p = ap (λ t. has_name p (pool_names t)) (declared ds ps)

  put_there : (v : Word) (at : Option Term) → is_put_sound ds v at ≡ true → has_variable v (script_lines ds ps) ≡ true
  put_there v at e = variable_is v ∙ some_there (kind_of v ds) _ e

  get_there : (v : Word) (at : Option Term) (r : Threshold) → is_get_of_kind ds v at r ≡ true → has_variable v (script_lines ds ps) ≡ true
  get_there v at r e = variable_is v ∙ test_there (kind_of v ds) _ e

  pools_there : (v : Word) (pools : List Word) → list_all (is_pool_of ds v) pools ≡ true → list_all (λ p. has_pool p (script_lines ds ps)) pools ≡ true
  pools_there v [] e = refl
  pools_there v (p ∷ pools) e =
      let both = and_parts (is_pool_of ds v p) _ e in
      and_from (has_pool p (script_lines ds ps)) _ (pool_is p ∙ sym (pool_known p ds) ∙ test_there (variable_of p ds) _ both.0) (pools_there v pools both.1)

  taken : (n : Word) (k : ℕ) → list_any (takes n k) ps ≡ (has_procedure n (script_lines ds ps) && not (has_other_count (script_lines ds ps) n k))
  taken n k = takes_is n k ps differ ∙ ap (λ b. b && not (disagrees k (parameters_of n (flat_map procedure_lines ps)))) (sym (procedures_declared n ds ps)) ∙ ap (λ o. has_procedure n (script_lines ds ps) && not (disagrees k o)) (sym (skip_heads n ds (flat_map procedure_lines ps)))

  -- whether the checks of its line pass a command
  abbrev pub passes : List Word → Command → Bool
  passes locals c = not (command_unknown (script_lines ds ps) locals c || command_misfits ds c || command_miscounts (script_lines ds ps) c || command_mixes ds c)

  pub command_is : (locals : List Word) (c : Command) → is_command_sound ds ps locals c ≡ (list_all (λ x. has_name x locals) (command_binds c) && passes locals c)
  command_is locals (Let x v) = let_is (has_name x locals) (is_value_known locals v)
  command_is locals (Put v t) = put_is (has_variable v (script_lines ds ps)) (is_put_sound ds v None) (is_known locals t) (put_there v None)
  command_is locals (PutAt v k t) = put_at_is (has_variable v (script_lines ds ps)) (is_put_sound ds v (Some k)) (is_known locals k) (is_known locals t) (put_there v (Some k))
  command_is locals (Get x v r) = get_is (has_name x locals) (has_variable v (script_lines ds ps)) (is_get_of_kind ds v None r) (is_get_apart ds v None r) (is_threshold_known locals r) (get_there v None r)
  command_is locals (GetAt x v k r) = get_at_is (has_name x locals) (has_variable v (script_lines ds ps)) (is_get_of_kind ds v (Some k) r) (is_get_apart ds v (Some k) r) (is_known locals k) (is_threshold_known locals r) (get_there v (Some k) r)
  command_is locals (Fork n ts) = run_is (has_procedure n (script_lines ds ps)) (has_other_count (script_lines ds ps) n (length ts)) _ (list_all (is_known locals) ts) (taken n (length ts))
  command_is locals (Call n ts) = run_is (has_procedure n (script_lines ds ps)) (has_other_count (script_lines ds ps) n (length ts)) _ (list_all (is_known locals) ts) (taken n (length ts))
  command_is locals (Handle p n) =
      ap (λ b. b && list_any (takes n 2) ps) (sym (pool_is p)) ∙ handle_is (has_pool p (script_lines ds ps)) (has_procedure n (script_lines ds ps)) (has_other_count (script_lines ds ps) n 2) _ (taken n 2)
  command_is locals (Freeze x v pools) =
      ap (λ b. has_name x locals && b && list_all (is_pool_of ds v) pools) (sym (variable_is v))
      ∙ freeze_is (has_name x locals) (has_variable v (script_lines ds ps)) (list_all (is_pool_of ds v) pools) (list_all (λ p. has_pool p (script_lines ds ps)) pools) (pools_there v pools)
  command_is locals (FreezeEach x v pools n) =
      ap (λ b. has_name x locals && b && list_all (is_pool_of ds v) pools && list_any (takes n 2) ps) (sym (variable_is v))
      ∙ freeze_each_is (has_name x locals) (has_variable v (script_lines ds ps)) (list_all (is_pool_of ds v) pools) (list_all (λ p. has_pool p (script_lines ds ps)) pools) (has_procedure n (script_lines ds ps)) (has_other_count (script_lines ds ps) n 2) _ (pools_there v pools) (taken n 2)

-- what the checks of its line say of a command
pub record Passes (a b c d : Bool) : Type 0 where
  pub unknown : a ≡ false
  pub kinds : b ≡ false
  pub counts : c ≡ false
  pub apart : d ≡ false

pub each_passes : (a b c d : Bool) → not (a || b || c || d) ≡ true → Passes a b c d
each_passes a b c d e =
    let three = or_parts (a || b || c) d (not-true _ e) in
    let two = or_parts (a || b) c three.0 in
    let one = or_parts a b two.0 in
    record { unknown = one.0; kinds = one.1; counts = two.1; apart = three.1 }

-- ---- the lines of bodies, and the statements

-- whether a line in the body of a procedure is sound
abbrev pub is_line_sound : List Declaration → List Procedure → List Word → Line → Bool
is_line_sound ds ps locals (line.Do c) = is_command_sound ds ps locals c
is_line_sound ds ps locals (line.If t) = is_known locals t
is_line_sound ds ps locals (line.While t) = is_known locals t
is_line_sound ds ps locals l = true

pub line_is_own : (ds : List Declaration) (ps : List Procedure) (locals : List Word) (u : o.Statement-F Statement Block) → is_line_sound ds ps locals (own_line u) ≡ is_own_sound ds ps locals u
line_is_own ds ps locals (o.Do c) = refl
line_is_own ds ps locals (o.If t a) = refl
line_is_own ds ps locals (o.IfElse t a b) = refl
line_is_own ds ps locals (o.While t a) = refl
