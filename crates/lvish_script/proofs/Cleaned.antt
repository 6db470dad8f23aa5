-- Lines without the blank ones and that of the version: the checks see the same.
use Rattle.std.proofs.Common.{◌≡◌, ℕ, Bool, true, false, ◌||◌, ◌&&◌, not, List, [], ◌∷◌, ◌++◌, take, Option, Some, None, refl, sym, ap, ◌∙◌, arith, append_assoc, cond, ◌+◌}
use Rattle.std.specs.Prelude.{filter, count_by, if◌then◌else◌}
use Rattle.std.specs.Option.{option_map, option_map_or}
use Rattle.std.specs.List.{list_any, list_all}
use Rattle.std.specs.Str.{bytes_eq}
use Rattle.std.proofs.lemmas.Bool.{and_from, and_parts, or_from, or_parts, not-true}
use Rattle.std.proofs.lemmas.List.{append-nil}
use Rattle.std.proofs.lemmas.List.Elements.{filter-append}
use Rattle.std.proofs.lemmas.List.Sums.{sum_by-cons}
use Rattle.lvish_script.specs.Vocabulary.{Word, Variable, Pool, Command, Let, Put, PutAt, Get, GetAt, Fork, Call, Handle, Freeze, FreezeEach, Line, Blank, Versioned as Version, Declare, Proc, Do, If, While, Opener, InProcedure, InIf, InElse, InWhile}
use Rattle.lvish_syntax.specs.Name.{has_repeat, is_known}
use Rattle.lvish_checks.specs.Checks.{declarations, has_variable, has_pool, has_procedure, is_variable, is_pool, is_procedure, declares_procedure, declares_again, is_past_limit, binds, binds_until_procedure, locals_step, locals_after, locals_at, open_step, open_after, is_full, parameters_of, miscounts, command_miscounts, command_unknown, names_unknown, misfits, mixes, command_misfits, command_mixes}
use Rattle.lvish_script.specs.Spells.{says_something}

-- ---- what a check counts and looks up

pub any_cleaned : (p : Line → Bool) → p Blank ≡ false → p Version ≡ false → (ls : List Line) → list_any p ls ≡ list_any p (filter says_something ls)
any_cleaned p none same [] = refl
any_cleaned p none same (Blank ∷ ls) = rw none (any_cleaned p none same ls)
any_cleaned p none same (Version ∷ ls) = rw same (any_cleaned p none same ls)
any_cleaned p none same (l ∷ ls) = ap (λ b. p l || b) (any_cleaned p none same ls)

pub all_cleaned : (p : Line → Bool) (ls : List Line) → list_all p ls ≡ true → list_all p (filter says_something ls) ≡ true
all_cleaned p [] e = refl
all_cleaned p (Blank ∷ ls) e = all_cleaned p ls (and_parts (p Blank) _ e).1
all_cleaned p (Version ∷ ls) e = all_cleaned p ls (and_parts (p Version) _ e).1
all_cleaned p (l ∷ ls) e = let both = and_parts (p l) _ e in and_from (p l) _ both.0 (all_cleaned p ls both.1)

pub count_cons : {X : Type 0} (p : X → Bool) (x : X) (xs : List X) → count_by p (x ∷ xs) ≡ cond (p x) 1 0 + count_by p xs
count_cons p x xs = sum_by-cons (λ y. cond (p y) 1 0) x xs

not_counted : (p : Line → Bool) (l : Line) (ls : List Line) → p l ≡ false → count_by p (l ∷ ls) ≡ count_by p ls
not_counted p l ls none =
    let here : ◌≡◌ {A = ℕ} (cond (p l) 1 0) 0 = rw none refl in
    let one = count_cons p l ls in
    omega (arith, one, here)

pub count_cleaned : (p : Line → Bool) → p Blank ≡ false → p Version ≡ false → (ls : List Line) → count_by p ls ≡ count_by p (filter says_something ls)
count_cleaned p none same [] = refl
count_cleaned p none same (Blank ∷ ls) = not_counted p Blank ls none ∙ count_cleaned p none same ls
count_cleaned p none same (Version ∷ ls) = not_counted p Version ls same ∙ count_cleaned p none same ls
count_cleaned p none same (l ∷ ls) = count_cons p l ls ∙ ap (λ n. cond (p l) 1 0 + n) (count_cleaned p none same ls) ∙ sym (count_cons p l (filter says_something ls))

pub declarations_cleaned : (ls : List Line) → declarations ls ≡ declarations (filter says_something ls)
declarations_cleaned [] = refl
declarations_cleaned (Blank ∷ ls) = declarations_cleaned ls
declarations_cleaned (Version ∷ ls) = declarations_cleaned ls
declarations_cleaned (Declare d ∷ ls) = ap (λ t. d ∷ t) (declarations_cleaned ls)
declarations_cleaned (l ∷ ls) = declarations_cleaned ls

nothing_bound : (found : Option (List Word)) → option_map (λ xs. xs ++ []) found ≡ found
nothing_bound None = refl
nothing_bound (Some xs) = ap Some (append-nil xs)

pub locals_after_cleaned : (found : Option (List Word)) (ls : List Line) → locals_after found ls ≡ locals_after found (filter says_something ls)
locals_after_cleaned found [] = refl
locals_after_cleaned found (Blank ∷ ls) = ap (λ f. locals_after f ls) (nothing_bound found) ∙ locals_after_cleaned found ls
locals_after_cleaned found (Version ∷ ls) = ap (λ f. locals_after f ls) (nothing_bound found) ∙ locals_after_cleaned found ls
locals_after_cleaned found (l ∷ ls) = locals_after_cleaned (locals_step found l) ls

pub binds_until_cleaned : (ls : List Line) → binds_until_procedure ls ≡ binds_until_procedure (filter says_something ls)
binds_until_cleaned [] = refl
binds_until_cleaned (Blank ∷ ls) = binds_until_cleaned ls
binds_until_cleaned (Version ∷ ls) = binds_until_cleaned ls
binds_until_cleaned (Proc n xs ∷ ls) = refl
binds_until_cleaned (l ∷ ls) = ap (λ t. binds l ++ t) (binds_until_cleaned ls)

pub parameters_of_cleaned : (p : Word) (ls : List Line) → parameters_of p ls ≡ parameters_of p (filter says_something ls)
parameters_of_cleaned p [] = refl
parameters_of_cleaned p (Blank ∷ ls) = parameters_of_cleaned p ls
parameters_of_cleaned p (Version ∷ ls) = parameters_of_cleaned p ls
parameters_of_cleaned p (Proc n xs ∷ ls) = ap (λ (o : Option (List Word)). if bytes_eq n p then Some xs else o) (parameters_of_cleaned p ls)
parameters_of_cleaned p (l ∷ ls) = parameters_of_cleaned p ls

-- such lines open and close nothing
pub silent_step : (opened : List Opener) → (open_step opened Blank ≡ opened) × (open_step opened Version ≡ opened)
silent_step [] = (refl, refl)
silent_step (InProcedure ∷ os) = (refl, refl)
silent_step (InIf ∷ os) = (refl, refl)
silent_step (InElse ∷ os) = (refl, refl)
silent_step (InWhile ∷ os) = (refl, refl)

pub open_after_cleaned : (opened : List Opener) (ls : List Line) → open_after opened ls ≡ open_after opened (filter says_something ls)
open_after_cleaned opened [] = refl
open_after_cleaned opened (Blank ∷ ls) = ap (λ os. open_after os ls) (silent_step opened).0 ∙ open_after_cleaned opened ls
open_after_cleaned opened (Version ∷ ls) = ap (λ os. open_after os ls) (silent_step opened).1 ∙ open_after_cleaned opened ls
open_after_cleaned opened (l ∷ ls) = open_after_cleaned (open_step opened l) ls

variables_cleaned : (v : Word) (ls : List Line) → has_variable v ls ≡ has_variable v (filter says_something ls)
variables_cleaned v ls = rw (declarations_cleaned ls) refl

pools_cleaned : (p : Word) (ls : List Line) → has_pool p ls ≡ has_pool p (filter says_something ls)
pools_cleaned p ls = rw (declarations_cleaned ls) refl

procedures_cleaned : (n : Word) (ls : List Line) → has_procedure n ls ≡ has_procedure n (filter says_something ls)
procedures_cleaned n ls = any_cleaned (declares_procedure n) refl refl ls

all_pools_cleaned : (ls : List Line) (ps : List Word) → list_all (λ p. has_pool p ls) ps ≡ list_all (λ p. has_pool p (filter says_something ls)) ps
all_pools_cleaned ls [] = refl
all_pools_cleaned ls (p ∷ ps) = rw (pools_cleaned p ls, all_pools_cleaned ls ps) refl

-- ---- the checks of one line

pub declares_again_cleaned : (ls : List Line) (x : Line) → declares_again ls x ≡ declares_again (filter says_something ls) x
declares_again_cleaned ls (Declare (Variable n k)) = variables_cleaned n ls
declares_again_cleaned ls (Declare (Pool p v)) = pools_cleaned p ls
declares_again_cleaned ls (Proc n xs) = ap (λ b. b || has_repeat xs) (procedures_cleaned n ls)
declares_again_cleaned ls x = refl

pub is_past_limit_cleaned : (ls : List Line) (x : Line) → is_past_limit ls x ≡ is_past_limit (filter says_something ls) x
is_past_limit_cleaned ls (Declare (Variable n k)) = rw (count_cleaned is_variable refl refl ls) refl
is_past_limit_cleaned ls (Declare (Pool p v)) = rw (count_cleaned is_pool refl refl ls) refl
is_past_limit_cleaned ls (Proc n xs) = rw (count_cleaned is_procedure refl refl ls) refl
is_past_limit_cleaned ls (If t) = ap is_full (open_after_cleaned [] ls)
is_past_limit_cleaned ls (While t) = ap is_full (open_after_cleaned [] ls)
is_past_limit_cleaned ls x = refl

command_miscounts_cleaned : (ls : List Line) (c : Command) → command_miscounts ls c ≡ command_miscounts (filter says_something ls) c
command_miscounts_cleaned ls (Fork n ts) = rw (parameters_of_cleaned n ls) refl
command_miscounts_cleaned ls (Call n ts) = rw (parameters_of_cleaned n ls) refl
command_miscounts_cleaned ls (Handle p n) = rw (parameters_of_cleaned n ls) refl
command_miscounts_cleaned ls (FreezeEach x v ps n) = rw (parameters_of_cleaned n ls) refl
command_miscounts_cleaned ls c = refl

pub miscounts_cleaned : (ls : List Line) (x : Line) → miscounts ls x ≡ miscounts (filter says_something ls) x
miscounts_cleaned ls (Do c) = command_miscounts_cleaned ls c
miscounts_cleaned ls x = refl

pub misfits_cleaned : (ls : List Line) (x : Line) → misfits ls x ≡ misfits (filter says_something ls) x
misfits_cleaned ls (Do c) = ap (λ ds. command_misfits ds c) (declarations_cleaned ls)
misfits_cleaned ls x = refl

pub mixes_cleaned : (ls : List Line) (x : Line) → mixes ls x ≡ mixes (filter says_something ls) x
mixes_cleaned ls (Do c) = ap (λ ds. command_mixes ds c) (declarations_cleaned ls)
mixes_cleaned ls x = refl

command_unknown_cleaned : (ls : List Line) (locals : List Word) (c : Command) → command_unknown ls locals c ≡ command_unknown (filter says_something ls) locals c
command_unknown_cleaned ls locals (Put v t) = rw (variables_cleaned v ls) refl
command_unknown_cleaned ls locals (PutAt v k t) = rw (variables_cleaned v ls) refl
command_unknown_cleaned ls locals (Get x v r) = rw (variables_cleaned v ls) refl
command_unknown_cleaned ls locals (GetAt x v k r) = rw (variables_cleaned v ls) refl
command_unknown_cleaned ls locals (Fork n ts) = rw (procedures_cleaned n ls) refl
command_unknown_cleaned ls locals (Call n ts) = rw (procedures_cleaned n ls) refl
command_unknown_cleaned ls locals (Handle p n) = rw (pools_cleaned p ls, procedures_cleaned n ls) refl
command_unknown_cleaned ls locals (Freeze x v ps) = rw (variables_cleaned v ls, all_pools_cleaned ls ps) refl
command_unknown_cleaned ls locals (FreezeEach x v ps n) = rw (variables_cleaned v ls, all_pools_cleaned ls ps, procedures_cleaned n ls) refl
command_unknown_cleaned ls locals (Let x v) = refl

-- whether a line has an unknown name, by the lines above it and the locals there
abbrev pub unknown_given : List Line → List Line → List Word → Line → Bool
unknown_given lines before locals (Declare (Pool p v)) = not (has_variable v before)
unknown_given lines before locals (Do c) = command_unknown lines locals c
unknown_given lines before locals (If t) = not (is_known locals t)
unknown_given lines before locals (While t) = not (is_known locals t)
unknown_given lines before locals l = false

pub unknown_is : (lines : List Line) (k : ℕ) (x : Line) → names_unknown lines k x ≡ unknown_given lines (take k lines) (locals_at lines k) x
unknown_is lines k (Declare (Pool p v)) = refl
unknown_is lines k x = refl

pub unknown_cleaned : (ls before : List Line) (locals : List Word) (x : Line) → unknown_given ls before locals x ≡ unknown_given (filter says_something ls) (filter says_something before) locals x
unknown_cleaned ls before locals (Declare (Pool p v)) = ap not (variables_cleaned v before)
unknown_cleaned ls before locals (Do c) = command_unknown_cleaned ls locals c
unknown_cleaned ls before locals x = refl

-- ---- all of these checks of a line

-- the locals of the procedure in which the rest begins
abbrev pub locals_in : List Line → List Line → List Word
locals_in before rest = option_map_or (λ xs. xs ++ binds_until_procedure rest) (locals_after None before) []

-- whether they pass a line, by all lines, those above it and those below it
abbrev pub is_fine : List Line → List Line → Line → List Line → Bool
is_fine ls b x a = not (declares_again b x || unknown_given ls b (locals_in b (x ∷ a)) x || misfits ls x || miscounts ls x || mixes ls x || is_past_limit b x)

-- what they say of it
pub record Fine (ls b : List Line) (x : Line) (a : List Line) : Type 0 where
  pub again : declares_again b x ≡ false
  pub unknown : unknown_given ls b (locals_in b (x ∷ a)) x ≡ false
  pub kinds : misfits ls x ≡ false
  pub counts : miscounts ls x ≡ false
  pub apart : mixes ls x ≡ false
  pub few : is_past_limit b x ≡ false

pub each_fine : (ls b : List Line) (x : Line) (a : List Line) → is_fine ls b x a ≡ true → Fine ls b x a
each_fine ls b x a e =
    let five = or_parts _ (is_past_limit b x) (not-true _ e) in
    let four = or_parts _ (mixes ls x) five.0 in
    let three = or_parts _ (miscounts ls x) four.0 in
    let two = or_parts _ (misfits ls x) three.0 in
    let one = or_parts (declares_again b x) _ two.0 in
    record { again = one.0; unknown = one.1; kinds = two.1; counts = three.1; apart = four.1; few = five.1 }

pub all_fine : (ls b : List Line) (x : Line) (a : List Line) → Fine ls b x a → is_fine ls b x a ≡ true
all_fine ls b x a f = ap not (or_from _ _ (or_from _ _ (or_from _ _ (or_from _ _ (or_from (declares_again b x) _ f.again f.unknown) f.kinds) f.counts) f.apart) f.few)

same_locals : (b : List Line) (x : Line) (a : List Line) → locals_in b (x ∷ a) ≡ locals_in (filter says_something b) (x ∷ filter says_something a)
same_locals b x a =
    ap (λ o. option_map_or (λ xs. xs ++ binds_until_procedure (x ∷ a)) o []) (locals_after_cleaned None b)
    ∙ ap (λ t. option_map_or (λ xs. xs ++ (if is_procedure x then [] else binds x ++ t)) (locals_after None (filter says_something b)) []) (binds_until_cleaned a)

fine_cleaned : (ls b : List Line) (x : Line) (a : List Line) → is_fine ls b x a ≡ is_fine (filter says_something ls) (filter says_something b) x (filter says_something a)
fine_cleaned ls b x a =
    let again = declares_again_cleaned b x in
    let unknown = unknown_cleaned ls b (locals_in b (x ∷ a)) x ∙ ap (λ w. unknown_given (filter says_something ls) (filter says_something b) w x) (same_locals b x a) in
    let kinds = misfits_cleaned ls x in
    let counts = miscounts_cleaned ls x in
    let apart = mixes_cleaned ls x in
    let few = is_past_limit_cleaned b x in
    cc

-- whether they pass each of the lines below some
abbrev pub are_fine : List Line → List Line → List Line → Bool
are_fine ls b [] = true
are_fine ls b (x ∷ a) = is_fine ls b x a && are_fine ls (b ++ x ∷ []) a

nothing_more : (b : List Line) (x : Line) → filter says_something (x ∷ []) ≡ [] → filter says_something (b ++ x ∷ []) ≡ filter says_something b
nothing_more b x e = filter-append says_something b (x ∷ []) ∙ ap (λ t. filter says_something b ++ t) e ∙ append-nil (filter says_something b)

pub are_fine_cleaned : (ls b a : List Line) → are_fine ls b a ≡ are_fine (filter says_something ls) (filter says_something b) (filter says_something a)
are_fine_cleaned ls b [] = refl
are_fine_cleaned ls b (Blank ∷ a) = are_fine_cleaned ls (b ++ Blank ∷ []) a ∙ ap (λ t. are_fine (filter says_something ls) t (filter says_something a)) (nothing_more b Blank refl)
are_fine_cleaned ls b (Version ∷ a) = are_fine_cleaned ls (b ++ Version ∷ []) a ∙ ap (λ t. are_fine (filter says_something ls) t (filter says_something a)) (nothing_more b Version refl)
are_fine_cleaned ls b (x ∷ a) =
    ap (λ t. t && are_fine ls (b ++ x ∷ []) a) (fine_cleaned ls b x a)
    ∙ ap (λ t. is_fine (filter says_something ls) (filter says_something b) x (filter says_something a) && t) (are_fine_cleaned ls (b ++ x ∷ []) a ∙ ap (λ t. are_fine (filter says_something ls) t (filter says_something a)) (filter-append says_something b (x ∷ [])))

pub fine_at_cut : (ls b xs : List Line) (x : Line) (a : List Line) → are_fine ls b (xs ++ x ∷ a) ≡ true → is_fine ls (b ++ xs) x a ≡ true
fine_at_cut ls b [] x a e = ap (λ t. is_fine ls t x a) (append-nil b) ∙ (and_parts (is_fine ls b x a) _ e).0
fine_at_cut ls b (y ∷ xs) x a e = ap (λ t. is_fine ls t x a) (sym (append_assoc b (y ∷ []) xs)) ∙ fine_at_cut ls (b ++ y ∷ []) xs x a (and_parts (is_fine ls b y (xs ++ x ∷ a)) _ e).1

pub fine_by_cut : (ls b rest : List Line) → ((xs : List Line) (x : Line) (a : List Line) → rest ≡ xs ++ x ∷ a → is_fine ls (b ++ xs) x a ≡ true) → are_fine ls b rest ≡ true
fine_by_cut ls b [] h = refl
fine_by_cut ls b (x ∷ a) h =
    and_from (is_fine ls b x a) _ (ap (λ t. is_fine ls t x a) (sym (append-nil b)) ∙ h [] x a refl)
    (fine_by_cut ls (b ++ x ∷ []) a (λ xs y c e. ap (λ t. is_fine ls t y c) (append_assoc b (x ∷ []) xs) ∙ h (x ∷ xs) y c (ap (λ t. x ∷ t) e)))
