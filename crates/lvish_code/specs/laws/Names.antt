-- Names of procedures and of locals.
use Rattle.std.proofs.Common.{◌≡◌, ℕ, suc, ◌≤◌, Bool, true, false, ◌||◌, ◌&&◌, ◌==◌, List, [], ◌∷◌, ◌++◌, length, Some, refl, sym, ap, ◌∙◌, subst, append_assoc, arith}
use Rattle.std.specs.Prelude.{if◌then◌else◌}
use Rattle.std.specs.Option.{option_map}
use Rattle.std.specs.Str.{bytes_eq}
use Rattle.std.specs.Cmp.Lexicographic.{same_text, bytes_decides}
use Rattle.std.proofs.lemmas.Cmp.{nat_list_eq_equiv}
use Rattle.std.specs.List.{list_any, fold, slice_get}
use Rattle.std.proofs.lemmas.List.Folds.{list_any-append}
use Rattle.std.proofs.lemmas.List.Sums.{fold-append}
use Rattle.std.proofs.lemmas.List.{append-nil, length-append}
use Rattle.std.proofs.lemmas.Bool.{or_parts, cond_both, cond-true, cond-false}
use Rattle.std.proofs.lemmas.Bool.Decides.{Decides-eqb}
use Rattle.lvish_syntax.specs.Name.{has_name, has_repeat}
use Rattle.lvish_syntax.specs.Nested.{statements}
use Rattle.lvish_syntax.specs.Sound.{variable_names, pool_names, procedure_names, kind_of, variable_of, binds, locals_of, takes}
use Rattle.lvish_code.specs.Vocabulary.{Word, Variable, Pool, Declaration, Procedure}
use Rattle.lvish_code.specs.Numbering.{name_number, with_name, each_once}
use Rattle.lvish_code.specs.Compile.{local_names, variable_kinds, pool_variables}
use Rattle.lvish_code.specs.laws.Lists.{get_found}

pub text_is : (x y : Word) → bytes_eq x y ≡ true → x ≡ y
text_is x y e = same_text x y (sym e)

symm : (x y : Word) → bytes_eq x y ≡ bytes_eq y x
symm = nat_list_eq_equiv.symm

-- the first procedure of a name, where all names differ, takes what one of that name takes
pub record Taking (ps : List Procedure) (n : Word) (k : ℕ) : Type 0 where
  pub procedure : Procedure
  pub at : slice_get ps (name_number (procedure_names ps) n) ≡ Some procedure
  pub count : length procedure.parameters ≡ k

takes_has_name : (n : Word) (k : ℕ) (ps : List Procedure) → list_any (takes n k) ps ≡ true → has_name n (procedure_names ps) ≡ true
takes_has_name n k [] e = absurd cc
takes_has_name n k (p ∷ ps) e = go (bytes_eq p.name n) (length p.parameters == k) (takes_has_name n k ps) e
  where
    go : (b d : Bool) → (list_any (takes n k) ps ≡ true → has_name n (procedure_names ps) ≡ true) → ((b && d) || list_any (takes n k) ps) ≡ true → (b || has_name n (procedure_names ps)) ≡ true
    go true d h e = refl
    go false d h e = h e

pub taking : (n : Word) (k : ℕ) (ps : List Procedure) → has_repeat (procedure_names ps) ≡ false → list_any (takes n k) ps ≡ true → Taking ps n k
taking n k [] once e = absurd cc
taking n k (p ∷ ps) once e = go (bytes_eq p.name n) refl (length p.parameters == k) refl (taking n k ps (or_parts _ _ once).1) e
  where
    first : slice_get (p ∷ ps) (name_number (procedure_names (p ∷ ps)) n) ≡ (if bytes_eq p.name n then Some p else slice_get ps (name_number (procedure_names ps) n))
    first = get_found p ps (bytes_eq p.name n) (name_number (procedure_names ps) n)

    go : (b : Bool) → bytes_eq p.name n ≡ b → (d : Bool) → (length p.parameters == k) ≡ d → (list_any (takes n k) ps ≡ true → Taking ps n k) → ((b && d) || list_any (takes n k) ps) ≡ true → Taking (p ∷ ps) n k
    go true is true count h e = record { procedure = p; at = first ∙ ap (λ (b : Bool). if b then Some p else slice_get ps (name_number (procedure_names ps) n)) is; count = (Decides-eqb _ _).0 count }
    go true is false count h e =
        let again : has_name p.name (procedure_names ps) ≡ true = subst (λ w. has_name w (procedure_names ps) ≡ true) (sym (text_is p.name n is)) (takes_has_name n k ps e) in
        let never : has_name p.name (procedure_names ps) ≡ false = (or_parts _ _ once).0 in absurd cc
    go false is d count h e =
        let t = h e in
        record { procedure = t.procedure; at = first ∙ ap (λ (b : Bool). if b then Some p else slice_get ps (name_number (procedure_names ps) n)) is ∙ t.at; count = t.count }

-- names grow at their end
pub record Extends (names base : List Word) : Type 0 where
  pub more : List Word
  pub is : names ≡ base ++ more

extends_itself : (base : List Word) → Extends base base
extends_itself base = record { more = []; is = sym (append-nil base) }

extends_name : (base names : List Word) (x : Word) → Extends names base → Extends (with_name names x) base
extends_name base names x e =
    cond_both (has_name x names) names (names ++ x ∷ []) (λ l. Extends l base) (λ t. e)
    (λ f. record { more = e.more ++ x ∷ []; is = ap (λ l. l ++ x ∷ []) e.is ∙ append_assoc base e.more (x ∷ []) })

extends_names : (base : List Word) (xs names : List Word) → Extends names base → Extends (fold with_name names xs) base
extends_names base [] names e = e
extends_names base (x ∷ xs) names e = extends_names base xs (with_name names x) (extends_name base names x e)

-- different names, none of which is there, are added as they stand
fresh_names : (base : List Word) (x : Word) (xs : List Word) → list_any (λ y. has_name y base) xs ≡ false → has_name x xs ≡ false → list_any (λ y. has_name y (base ++ x ∷ [])) xs ≡ false
fresh_names base x [] e h = refl
fresh_names base x (y ∷ ys) e h =
    let a = or_parts (has_name y base) (list_any (λ z. has_name z base) ys) e in
    let b = or_parts (bytes_eq y x) (has_name x ys) h in
    let flipped : bytes_eq x y ≡ false = symm x y ∙ b.0 in
    let here : has_name y (base ++ x ∷ []) ≡ false = list_any-append (λ z. bytes_eq z y) base (x ∷ []) ∙ ap (λ t. t || (bytes_eq x y || false)) a.0 ∙ ap (λ t. t || false) flipped in
    ap (λ t. t || list_any (λ z. has_name z (base ++ x ∷ [])) ys) here ∙ fresh_names base x ys a.1 b.1

all_fresh : (base xs : List Word) → list_any (λ y. has_name y base) xs ≡ false → has_repeat xs ≡ false → fold with_name base xs ≡ base ++ xs
all_fresh base [] e h = sym (append-nil base)
all_fresh base (x ∷ xs) e h =
    let a = or_parts (has_name x base) (list_any (λ y. has_name y base) xs) e in
    let b = or_parts (has_name x xs) (has_repeat xs) h in
    ap (λ (t : Bool). fold with_name (if t then base else base ++ x ∷ []) xs) a.0
    ∙ all_fresh (base ++ x ∷ []) xs (fresh_names base x xs a.1 b.0) b.1
    ∙ append_assoc base (x ∷ []) xs

none_there : (xs : List Word) → list_any (λ y. has_name y []) xs ≡ false
none_there [] = refl
none_there (x ∷ xs) = none_there xs

-- names that all differ are numbered in their order
pub all_once : (names : List Word) → has_repeat names ≡ false → each_once names ≡ names
all_once names e = all_fresh [] names (none_there names) e

-- the parameters are the first of the locals
pub parameters_first : (p : Procedure) → has_repeat p.parameters ≡ false → Extends (local_names p) p.parameters
parameters_first p once =
    let others = binds (statements p.body) in
    let e : local_names p ≡ fold with_name p.parameters others = fold-append with_name [] p.parameters others ∙ ap (λ names. fold with_name names others) (all_once p.parameters once) in
    let f = extends_names p.parameters others p.parameters (extends_itself p.parameters) in
    record { more = f.more; is = e ∙ f.is }

pub parameters_le : (p : Procedure) → has_repeat p.parameters ≡ false → length p.parameters ≤ length (local_names p)
parameters_le p once = let e = parameters_first p once in omega (arith, ap length e.is, length-append p.parameters e.more)

-- a name stays among names that grow
has_more : (x : Word) (names base : List Word) → Extends names base → has_name x base ≡ true → has_name x names ≡ true
has_more x names base e h = ap (has_name x) e.is ∙ list_any-append (λ y. bytes_eq y x) base e.more ∙ ap (λ b. b || has_name x e.more) h

has_itself : (x : Word) (names : List Word) → has_name x (with_name names x) ≡ true
has_itself x names =
    cond_both (has_name x names) names (names ++ x ∷ []) (λ l. has_name x l ≡ true) (λ e. e)
    (λ e. list_any-append (λ y. bytes_eq y x) names (x ∷ []) ∙ ap (λ b. b || (bytes_eq x x || false)) e ∙ ap (λ b. b || false) ((bytes_decides x x).1 refl))

or_true : {P : Type 0} (a b : Bool) → (a || b) ≡ true → (a ≡ true → P) → (b ≡ true → P) → P
or_true true b e f g = f refl
or_true false b e f g = g e

has_bound : (x : Word) (xs names : List Word) → has_name x xs ≡ true → has_name x (fold with_name names xs) ≡ true
has_bound x [] names h = absurd cc
has_bound x (y ∷ ys) names h = or_true (bytes_eq y x) (has_name x ys) h
    (λ e. has_more x _ _ (extends_names (with_name names y) ys (with_name names y) (extends_itself _)) (subst (λ w. has_name w (with_name names y) ≡ true) (text_is y x e) (has_itself y names)))
    (λ e. has_bound x ys (with_name names y) e)

-- each local has a number
pub has_local : (x : Word) (p : Procedure) → has_name x (locals_of p) ≡ true → has_name x (local_names p) ≡ true
has_local x p h = has_bound x (locals_of p) [] h

-- ---- declarations

-- the kinds stand in the order of the names
pub kind_found : (v : Word) (ds : List Declaration) → slice_get (variable_kinds ds) (name_number (variable_names ds) v) ≡ kind_of v ds
kind_found v [] = refl
kind_found v (Variable n k ∷ ds) = get_found k (variable_kinds ds) (bytes_eq n v) _ ∙ ap (λ o. if bytes_eq n v then Some k else o) (kind_found v ds)
kind_found v (Pool p w ∷ ds) = kind_found v ds

pub count_kinds : (ds : List Declaration) → length (variable_kinds ds) ≡ length (variable_names ds)
count_kinds [] = refl
count_kinds (Variable n k ∷ ds) = ap suc (count_kinds ds)
count_kinds (Pool p v ∷ ds) = count_kinds ds

pub count_pools : (names : List Word) (ds : List Declaration) → length (pool_variables names ds) ≡ length (pool_names ds)
count_pools names [] = refl
count_pools names (Variable n k ∷ ds) = count_pools names ds
count_pools names (Pool p v ∷ ds) = ap suc (count_pools names ds)

-- the variables of pools stand in the order of the pools
pub pool_found : (names : List Word) (p : Word) (ds : List Declaration) → slice_get (pool_variables names ds) (name_number (pool_names ds) p) ≡ option_map (name_number names) (variable_of p ds)
pool_found names p [] = refl
pool_found names p (Variable n k ∷ ds) = pool_found names p ds
pool_found names p (Pool q v ∷ ds) =
    get_found (name_number names v) (pool_variables names ds) (bytes_eq q p) _ ∙ ap (λ o. if bytes_eq q p then Some (name_number names v) else o) (pool_found names p ds)
    ∙ cond_both (bytes_eq q p) (Some v) (variable_of p ds) (λ o. (if bytes_eq q p then Some (name_number names v) else option_map (name_number names) (variable_of p ds)) ≡ option_map (name_number names) o)
    (λ e. cond-true _ _ _ e) (λ e. cond-false _ _ _ e)
