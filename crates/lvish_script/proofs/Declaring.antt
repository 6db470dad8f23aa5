-- What the lines of declarations and procedures declare.
use Rattle.std.proofs.Common.{◌≡◌, ℕ, zero, suc, ◌+◌, ◌≤◌, ◌<◌, Bool, true, false, cond, ◌||◌, ◌&&◌, ◌==◌, List, [], ◌∷◌, ◌++◌, length, map, refl, sym, ap, subst, ◌∙◌, arith, append_assoc}
use Rattle.std.proofs.Math.Bool.{or-false}
use Rattle.std.proofs.lemmas.Bool.{and_from, or_from, or_left}
use Rattle.std.specs.Prelude.{count_by, codes, nat_le}
use Rattle.std.specs.List.{list_any, list_all, flat_map}
use Rattle.std.specs.Str.{bytes_eq}
use Rattle.std.proofs.lemmas.Bool.Decides.{nat_tests}
use Rattle.std.proofs.lemmas.List.{append-nil, length-append}
use Rattle.std.proofs.lemmas.List.Folds.{list_any-append}
use Rattle.std.proofs.lemmas.List.Sums.{sum_by-append}
use Rattle.std.proofs.lemmas.Grind.{flat_map-append}
use Rattle.lvish_script.specs.Vocabulary.{Word, Declaration, Variable, Pool, Procedure, Line, Blank, Bad, Versioned as Version, Declare, Proc, End, InProcedure}
use Rattle.lvish_syntax.specs.Name.{has_name, has_repeat}
use Rattle.lvish_syntax.specs.Nested.{statements}
use Rattle.lvish_syntax.specs.Sound.{variable_name, variable_names, pool_name, pool_names, procedure_names, takes, is_pool_known, follow_variables}
use Rattle.lvish_checks.specs.Checks.{declared_by, declarations, has_procedure, is_nil, is_main, is_variable, is_pool, is_procedure, declares_procedure, declares_again, is_past_limit, open_after}
use Rattle.lvish_script.specs.Spells.{body_lines, procedure_lines, script_lines}
use Rattle.lvish_checks.proofs.Cuts.{differ_by_cut}
use Rattle.lvish_script.proofs.Cleaned.{count_cons}
use Rattle.lvish_script.proofs.Bodies.{is_inner, inner, none_inner, no_procedures, none_counted}
use Rattle.lvish_script.proofs.Levels.{open_append, balanced_body}
use Rattle.lvish_syntax.specs.declared.limits.TheConstants.{MOST}

-- the lines of declarations
abbrev pub heads : List Declaration → List Line
heads ds = map (λ d. Declare d) ds

-- ---- declarations

pub declared_heads : (ds : List Declaration) → declarations (heads ds) ≡ ds
declared_heads [] = refl
declared_heads (d ∷ ds) = ap (λ t. d ∷ t) (declared_heads ds)

none_declared : (ls : List Line) → list_all is_inner ls ≡ true → declarations ls ≡ []
none_declared [] e = refl
none_declared (Blank ∷ ls) e = absurd cc
none_declared (Bad ∷ ls) e = absurd cc
none_declared (Version ∷ ls) e = absurd cc
none_declared (Declare d ∷ ls) e = absurd cc
none_declared (Proc n xs ∷ ls) e = absurd cc
none_declared (l ∷ ls) e = none_declared ls e

pub declarations_append : (xs ys : List Line) → declarations (xs ++ ys) ≡ declarations xs ++ declarations ys
declarations_append xs ys = flat_map-append declared_by xs ys

procedure_declares_none : (r : Procedure) → declarations (procedure_lines r) ≡ []
procedure_declares_none r = declarations_append (body_lines (statements r.body)) (End ∷ []) ∙ ap (λ t. t ++ []) (none_declared (body_lines (statements r.body)) (inner (statements r.body)))

pub procedures_declare_none : (ps : List Procedure) → declarations (flat_map procedure_lines ps) ≡ []
procedures_declare_none [] = refl
procedures_declare_none (r ∷ ps) = declarations_append (procedure_lines r) (flat_map procedure_lines ps) ∙ ap (λ t. t ++ declarations (flat_map procedure_lines ps)) (procedure_declares_none r) ∙ procedures_declare_none ps

pub declared : (ds : List Declaration) (ps : List Procedure) → declarations (script_lines ds ps) ≡ ds
declared ds ps = declarations_append (heads ds) (flat_map procedure_lines ps) ∙ ap (λ t. t ++ declarations (flat_map procedure_lines ps)) (declared_heads ds) ∙ ap (λ t. ds ++ t) (procedures_declare_none ps) ∙ append-nil ds

-- ---- procedures

pub any_heads : (p : Line → Bool) → ((d : Declaration) → p (Declare d) ≡ false) → (ds : List Declaration) → list_any p (heads ds) ≡ false
any_heads p h [] = refl
any_heads p h (d ∷ ds) = or_from (p (Declare d)) _ (h d) (any_heads p h ds)

module _ (p : Line → Bool) (q : Procedure → Bool) (head : (r : Procedure) → p (Proc r.name r.parameters) ≡ q r) (body : (l : Line) → is_inner l ≡ true → p l ≡ false) where
  any_procedure : (r : Procedure) → list_any p (procedure_lines r) ≡ q r
  any_procedure r =
      let none : list_any p (body_lines (statements r.body) ++ End ∷ []) ≡ false = list_any-append p (body_lines (statements r.body)) (End ∷ []) ∙ or_from _ _ (none_inner p body (body_lines (statements r.body)) (inner (statements r.body))) (or_from (p End) false (body End refl) refl) in
      rw (head r, none) (or-false (q r))

  any_procedures : (ps : List Procedure) → list_any p (flat_map procedure_lines ps) ≡ list_any q ps
  any_procedures [] = refl
  any_procedures (r ∷ ps) = list_any-append p (procedure_lines r) (flat_map procedure_lines ps) ∙ rw (any_procedure r, any_procedures ps) refl

any_names : {X : Type 0} (name : X → Word) (v : Word) (xs : List X) → list_any (λ x. bytes_eq (name x) v) xs ≡ has_name v (map name xs)
any_names name v [] = refl
any_names name v (x ∷ xs) = ap (λ b. bytes_eq (name x) v || b) (any_names name v xs)

inner_declares_none : (n : Word) (l : Line) → is_inner l ≡ true → declares_procedure n l ≡ false
inner_declares_none n (Proc m xs) e = absurd cc
inner_declares_none n l e = refl

inner_no_main : (l : Line) → is_inner l ≡ true → is_main l ≡ false
inner_no_main (Proc m xs) e = absurd cc
inner_no_main l e = refl

pub procedures_declared : (n : Word) (ds : List Declaration) (ps : List Procedure) → has_procedure n (script_lines ds ps) ≡ has_name n (procedure_names ps)
procedures_declared n ds ps =
    list_any-append (declares_procedure n) (heads ds) (flat_map procedure_lines ps)
    ∙ ap (λ b. b || list_any (declares_procedure n) (flat_map procedure_lines ps)) (any_heads (declares_procedure n) (λ d. refl) ds)
    ∙ any_procedures (declares_procedure n) (λ r. bytes_eq r.name n) (λ r. refl) (inner_declares_none n) ps
    ∙ any_names (λ (r : Procedure). r.name) n ps

nil_length : {X : Type 0} (xs : List X) → is_nil xs ≡ (length xs == 0)
nil_length [] = refl
nil_length (x ∷ xs) = grind (arith, nat_tests)

main_head : (r : Procedure) → is_main (Proc r.name r.parameters) ≡ takes (codes "main") 0 r
main_head r = ap (λ b. bytes_eq r.name (codes "main") && b) (nil_length r.parameters)

pub main_declared : (ds : List Declaration) (ps : List Procedure) → list_any is_main (script_lines ds ps) ≡ list_any (takes (codes "main") 0) ps
main_declared ds ps =
    list_any-append is_main (heads ds) (flat_map procedure_lines ps)
    ∙ ap (λ b. b || list_any is_main (flat_map procedure_lines ps)) (any_heads is_main (λ d. refl) ds)
    ∙ any_procedures is_main (takes (codes "main") 0) main_head inner_no_main ps

-- ---- how many there are

count_append : (p : Line → Bool) (xs ys : List Line) → count_by p (xs ++ ys) ≡ count_by p xs + count_by p ys
count_append p xs ys = sum_by-append (λ x. cond (p x) 1 0) xs ys

-- where each declaration counts as often as it has a name
counted_by : (p : Line → Bool) (names : Declaration → List Word) → ((d : Declaration) → cond (p (Declare d)) 1 0 ≡ length (names d)) → (ds : List Declaration) → count_by p (heads ds) ≡ length (flat_map names ds)
counted_by p names one [] = refl
counted_by p names one (d ∷ ds) = omega (arith, count_cons p (Declare d) (heads ds), one d, counted_by p names one ds, length-append (names d) (flat_map names ds))

pub variables_counted : (ds : List Declaration) → count_by is_variable (heads ds) ≡ length (variable_names ds)
variables_counted ds = counted_by is_variable variable_name one ds
  where
    one : (d : Declaration) → cond (is_variable (Declare d)) 1 0 ≡ length (variable_name d)
    one (Variable n k) = refl
    one (Pool p v) = refl

pub pools_counted : (ds : List Declaration) → count_by is_pool (heads ds) ≡ length (pool_names ds)
pools_counted ds = counted_by is_pool pool_name one ds
  where
    one : (d : Declaration) → cond (is_pool (Declare d)) 1 0 ≡ length (pool_name d)
    one (Variable n k) = refl
    one (Pool p v) = refl

procedures_counted : (ps : List Procedure) → count_by is_procedure (flat_map procedure_lines ps) ≡ length ps
procedures_counted [] = refl
procedures_counted (r ∷ ps) =
    let all = count_append is_procedure (procedure_lines r) (flat_map procedure_lines ps) in
    let one : count_by is_procedure (procedure_lines r) ≡ 1 + count_by is_procedure (body_lines (statements r.body) ++ End ∷ []) = count_cons is_procedure (Proc r.name r.parameters) (body_lines (statements r.body) ++ End ∷ []) in
    let two = count_append is_procedure (body_lines (statements r.body)) (End ∷ []) in
    let none = none_counted is_procedure (body_lines (statements r.body)) (no_procedures (statements r.body)) in
    let end : count_by is_procedure (End ∷ []) ≡ 0 = refl in
    let more = procedures_counted ps in
    omega arith

pub all_counted : (ds : List Declaration) (ps : List Procedure) → count_by is_procedure (script_lines ds ps) ≡ length ps
all_counted ds ps =
    let both = count_append is_procedure (heads ds) (flat_map procedure_lines ps) in
    let none = none_counted is_procedure (heads ds) (any_heads is_procedure (λ d. refl) ds) in
    let all = procedures_counted ps in
    omega arith

-- ---- what is open between procedures

open_heads : (ds : List Declaration) → open_after [] (heads ds) ≡ []
open_heads [] = refl
open_heads (d ∷ ds) = open_heads ds

open_procedures : (ps : List Procedure) → open_after [] (flat_map procedure_lines ps) ≡ []
open_procedures [] = refl
open_procedures (r ∷ ps) =
    open_append [] (procedure_lines r) (flat_map procedure_lines ps)
    ∙ ap (λ os. open_after os (flat_map procedure_lines ps)) (open_append (InProcedure ∷ []) (body_lines (statements r.body)) (End ∷ []) ∙ ap (λ os. open_after os (End ∷ [])) (balanced_body InProcedure [] (statements r.body)))
    ∙ open_procedures ps

pub none_open : (ds : List Declaration) (ps : List Procedure) → open_after [] (script_lines ds ps) ≡ []
none_open ds ps = open_append [] (heads ds) (flat_map procedure_lines ps) ∙ ap (λ os. open_after os (flat_map procedure_lines ps)) (open_heads ds) ∙ open_procedures ps

-- ---- lists of names by cuts

lighter : (p q m : ℕ) → p ≡ q → p < m → q < m
lighter p q m e l = omega (arith, e, l)

-- names, where an item gives one at most
module _ {X : Type 0} (f : X → List Word) (one : (x : X) → length (f x) ≤ 1) where
  few_on : (n : ℕ) (x : X) (xs : List X) (w : List Word) → f x ≡ w → length w ≤ 1 → ((b : List X) (y : X) (a : List X) → x ∷ xs ≡ b ++ y ∷ a → 1 ≤ length (f y) → length (flat_map f b) < n) → ((m : ℕ) → ((b : List X) (y : X) (a : List X) → xs ≡ b ++ y ∷ a → 1 ≤ length (f y) → length (flat_map f b) < m) → length (flat_map f xs) ≤ m) → length (w ++ flat_map f xs) ≤ n
  few_on n x xs [] e le h more = more n (λ b y a g k. lighter _ _ n (ap (λ t. length (t ++ flat_map f b)) e) (h (x ∷ b) y a (ap (λ t. x ∷ t) g) k))
  few_on zero x xs (v ∷ []) e le h more =
      let k : 1 ≤ length (f x) = rw e (omega arith) in
      let bad : zero < zero = h [] x xs refl k in
      absurd (omega arith)
  few_on (suc n) x xs (v ∷ []) e le h more =
      let few = more n (λ b y a g k.
      let lt : length (f x ++ flat_map f b) < suc n = h (x ∷ b) y a (ap (λ t. x ∷ t) g) k in
      let lt2 : suc (length (flat_map f b)) < suc n = rw e at lt in
      omega (arith, lt2)) in
      omega (arith, few)
  few_on n x xs (v ∷ w ∷ ws) e le h more = absurd (omega (arith, le))

  -- no more than n names, where each has fewer than n before it
  pub few_names : (xs : List X) (n : ℕ) → ((b : List X) (y : X) (a : List X) → xs ≡ b ++ y ∷ a → 1 ≤ length (f y) → length (flat_map f b) < n) → length (flat_map f xs) ≤ n
  few_names [] n h = omega arith
  few_names (x ∷ xs) n h = few_on n x xs (f x) refl (one x) h (few_names xs)

-- ---- cuts of names give cuts of what has them

pub record Named {X : Type 0} (f : X → List Word) (xs : List X) (b : List Word) (v : Word) (a : List Word) : Type 0 where
  pub before : List X
  pub at : X
  pub after : List X
  pub whole : xs ≡ before ++ at ∷ after
  pub its : f at ≡ v ∷ []
  pub names : flat_map f before ≡ b

named_on : {X : Type 0} (f : X → List Word) (one : (x : X) → length (f x) ≤ 1) (x : X) (xs : List X) (w : List Word) → f x ≡ w → length w ≤ 1 → ((b : List Word) (v : Word) (a : List Word) → flat_map f xs ≡ b ++ v ∷ a → Named f xs b v a) → (b : List Word) (v : Word) (a : List Word) → w ++ flat_map f xs ≡ b ++ v ∷ a → Named f (x ∷ xs) b v a
named_on f one x xs [] k le further b v a e =
    let r = further b v a e in
    record { before = x ∷ r.before; at = r.at; after = r.after; whole = ap (λ t. x ∷ t) r.whole; its = r.its; names = ap (λ t. t ++ flat_map f r.before) k ∙ r.names }
named_on f one x xs (u ∷ []) k le further [] v a e =
    let p : u ≡ v = cc in
    record { before = []; at = x; after = xs; whole = refl; its = k ∙ ap (λ y. y ∷ []) p; names = refl }
named_on f one x xs (u ∷ []) k le further (y ∷ b) v a e =
    let p : u ≡ y = cc in
    let q : flat_map f xs ≡ b ++ v ∷ a = cc in
    let r = further b v a q in
    record { before = x ∷ r.before; at = r.at; after = r.after; whole = ap (λ t. x ∷ t) r.whole; its = r.its; names = ap (λ t. t ++ flat_map f r.before) k ∙ ap (λ t. u ∷ t) r.names ∙ ap (λ z. z ∷ b) p }
named_on f one x xs (u ∷ w ∷ ws) k le further b v a e = absurd (omega (arith, le))

named_cut : {X : Type 0} (f : X → List Word) (one : (x : X) → length (f x) ≤ 1) (xs : List X) (b : List Word) (v : Word) (a : List Word) → flat_map f xs ≡ b ++ v ∷ a → Named f xs b v a
named_cut f one [] [] v a e = absurd cc
named_cut f one [] (y ∷ b) v a e = absurd cc
named_cut f one (x ∷ xs) b v a e = named_on f one x xs (f x) refl (one x) (named_cut f one xs) b v a e

map_same : (vs : List Word) → map (λ v. v) vs ≡ vs
map_same [] = refl
map_same (v ∷ vs) = ap (λ t. v ∷ t) (map_same vs)

-- names differ, where none is among those of the items before it
pub names_differ : {X : Type 0} (f : X → List Word) (one : (x : X) → length (f x) ≤ 1) (xs : List X) → ((b : List X) (x : X) (a : List X) (v : Word) → xs ≡ b ++ x ∷ a → f x ≡ v ∷ [] → has_name v (flat_map f b) ≡ false) → has_repeat (flat_map f xs) ≡ false
names_differ f one xs h =
    ap has_repeat (sym (map_same (flat_map f xs))) ∙ differ_by_cut (λ v. v) (flat_map f xs) (λ b v a e.
    let r = named_cut f one xs b v a e in
    ap (has_name v) (map_same b ∙ sym r.names) ∙ h r.before r.at r.after v r.whole r.its)

-- ---- variables and pools

pub one_variable : (d : Declaration) → length (variable_name d) ≤ 1
one_variable (Variable n k) = omega arith
one_variable (Pool p v) = omega arith

pub one_pool : (d : Declaration) → length (pool_name d) ≤ 1
one_pool (Variable n k) = omega arith
one_pool (Pool p v) = omega arith

below_limit : (n : ℕ) → nat_le MOST n ≡ false → n < MOST
below_limit n e = grind (arith, nat_tests)

pub few_variables_before : (d : Declaration) (b : List Declaration) → 1 ≤ length (variable_name d) → is_past_limit (heads b) (Declare d) ≡ false → length (variable_names b) < MOST
few_variables_before (Variable n k) b le h = let few = below_limit (count_by is_variable (heads b)) h in let all = variables_counted b in omega arith
few_variables_before (Pool p v) b le h = absurd (omega (arith, le))

pub few_pools_before : (d : Declaration) (b : List Declaration) → 1 ≤ length (pool_name d) → is_past_limit (heads b) (Declare d) ≡ false → length (pool_names b) < MOST
few_pools_before (Pool p v) b le h = let few = below_limit (count_by is_pool (heads b)) h in let all = pools_counted b in omega arith
few_pools_before (Variable n k) b le h = absurd (omega (arith, le))

pub few_procedures_before : (r : Procedure) (ds : List Declaration) (q : List Procedure) → is_past_limit (script_lines ds q) (Proc r.name r.parameters) ≡ false → length q < MOST
few_procedures_before r ds q h =
    let few = below_limit (count_by is_procedure (script_lines ds q)) h in
    let all = all_counted ds q in
    omega arith

pub new_variable : (d : Declaration) (b : List Declaration) (v : Word) → variable_name d ≡ v ∷ [] → declares_again (heads b) (Declare d) ≡ false → has_name v (variable_names b) ≡ false
new_variable (Variable n k) b v e h = let p : n ≡ v = cc in subst (λ w. has_name w (variable_names b) ≡ false) p (ap (λ ds. has_name n (variable_names ds)) (sym (declared_heads b)) ∙ h)
new_variable (Pool p w) b v e h = absurd cc

pub new_pool : (d : Declaration) (b : List Declaration) (v : Word) → pool_name d ≡ v ∷ [] → declares_again (heads b) (Declare d) ≡ false → has_name v (pool_names b) ≡ false
new_pool (Pool q w) b v e h = let p : q ≡ v = cc in subst (λ w. has_name w (pool_names b) ≡ false) p (ap (λ ds. has_name q (pool_names ds)) (sym (declared_heads b)) ∙ h)
new_pool (Variable n k) b v e h = absurd cc

pub known_further : (b : List Declaration) (d : Declaration) (a : List Declaration) → is_pool_known b d ≡ true → is_pool_known (b ++ a) d ≡ true
known_further b (Variable n k) a e = refl
known_further b (Pool p v) a e =
    ap (has_name v) (flat_map-append variable_name b a) ∙ list_any-append (λ y. bytes_eq y v) (variable_names b) (variable_names a) ∙ or_left (has_name v (variable_names b)) _ e

-- pools follow their variables, where each has its variable before it
pub follow_by_cut : (before rest : List Declaration) → ((b : List Declaration) (d : Declaration) (a : List Declaration) → rest ≡ b ++ d ∷ a → is_pool_known (before ++ b) d ≡ true) → follow_variables before rest ≡ true
follow_by_cut before [] h = refl
follow_by_cut before (d ∷ ds) h =
    and_from (is_pool_known before d) _ (ap (λ t. is_pool_known t d) (sym (append-nil before)) ∙ h [] d ds refl)
    (follow_by_cut (before ++ d ∷ []) ds (λ b e a g. ap (λ t. is_pool_known t e) (append_assoc before (d ∷ []) b) ∙ h (d ∷ b) e a (ap (λ t. d ∷ t) g)))
