-- What a scan over the lines knows after one line more.
use Rattle.std.proofs.Common.{◌≡◌, ℕ, suc, ◌+◌, ◌<◌, ◌≤◌, Bool, true, false, not, cond, ◌||◌, ◌&&◌, List, [], ◌∷◌, ◌++◌, length, take, drop, get_or, Option, Some, None, Bor, refl, sym, ap, ◌∙◌, ◌==◌, arith, append_assoc, add-one, take_all}
use Rattle.std.specs.Prelude.{count_by, if◌then◌else◌}
use Rattle.std.specs.Option.{option_map, option_map_or, option_or}
use Rattle.std.specs.List.{list_any}
use Rattle.std.specs.Str.{bytes_eq}
use Rattle.std.proofs.lemmas.List.{append-nil, drop_all, take-append-drop}
use Rattle.std.proofs.Math.Seq.{drop-cons}
use Rattle.std.proofs.Math.Bool.{or-true, or-false}
use Rattle.std.proofs.lemmas.List.Folds.{list_any-append}
use Rattle.std.proofs.lemmas.List.Sums.{sum_by-append}
use Rattle.std.proofs.lemmas.Grind.{flat_map-append}
use Rattle.lvish_checks.specs.Vocabulary.{Word, VariableKind, Declaration, Variable, Pool, Line, Proc, OpenBlock}
use Rattle.lvish_syntax.specs.Name.{has_name, has_repeat}
use Rattle.lvish_syntax.specs.Sound.{kind_of, variable_of}
use Rattle.lvish_checks.specs.Table.{value_at}
use Rattle.lvish_checks.specs.Checks.{declared_by, declarations, parameters_of, is_procedure, binds, binds_until_procedure, locals_step, locals_after, locals_at, is_misplaced, is_nil, open_after, open_step, line_fails}
use Rattle.std.proofs.lemmas.Bool.{eqb-true, or_from}
use Rattle.lvish_checks.specs.Known.{AreArities, AreKinds, AreOfPools, HaveSameNames}
use Rattle.lvish_checks.proofs.Seen.{bytes_eq_flip}
use Rattle.lvish_checks.proofs.Cuts.{left_fails, right_fails}
use Rattle.lvish_checks.proofs.Lines.{locals_after-more, open_after-more, taken_with}

-- ---- lines one by one

or_last : (a b : Bool) → (b || a) ≡ (a || (b || false))
or_last a b = grind arith

pub any_taken : (p : Line → Bool) (xs : List Line) (k : ℕ) (x : Line) → k < length xs → x ≡ get_or xs k x → list_any p (take (k + 1) xs) ≡ (list_any p (take k xs) || p x)
any_taken p xs k x lt e = ap (list_any p) (taken_with xs k x lt e) ∙ list_any-append p (take k xs) (x ∷ []) ∙ ap (λ b. list_any p (take k xs) || b) (or-false (p x))

pub count_taken : (p : Line → Bool) (xs : List Line) (k : ℕ) (x : Line) → k < length xs → x ≡ get_or xs k x → count_by p (take (k + 1) xs) ≡ count_by p (take k xs) + (if p x then 1 else 0)
count_taken p xs k x lt e = ap (count_by p) (taken_with xs k x lt e) ∙ sum_by-append (λ y. cond (p y) 1 0) (take k xs) (x ∷ []) ∙ ap (λ n. count_by p (take k xs) + n) (one (p x))
  where
    one : (b : Bool) → 0 + cond b 1 0 ≡ (if b then 1 else 0)
    one true = refl
    one false = refl

-- what the lines declare, with a line more
pub declared_more : (before : List Line) (x : Line) → declarations (before ++ x ∷ []) ≡ declarations before ++ declared_by x
declared_more before x = flat_map-append declared_by before (x ∷ []) ∙ ap (λ ds. declarations before ++ ds) (append-nil (declared_by x))

-- ---- counts of parameters

-- the first value of a list and of one item more
pub or_later : {V : Type 0} (t : Bool) (v : V) (all before last : Option V) → all ≡ option_or before last → (if t then Some v else all) ≡ option_or (if t then Some v else before) last
or_later true v all before last e = refl
or_later false v all before last e = e

parameters_push : (q : Word) (before : List Line) (x : Line) → parameters_of q (before ++ x ∷ []) ≡ option_or (parameters_of q before) (parameters_of q (x ∷ []))
parameters_push q [] x = refl
parameters_push q (Proc n xs ∷ before) x = or_later (bytes_eq n q) xs _ _ _ (parameters_push q before x)
parameters_push q (l ∷ before) x = parameters_push q before x

pub or_nothing : {V : Type 0} (o : Option V) → option_or o None ≡ o
or_nothing None = refl
or_nothing (Some v) = refl

-- the value of what is added, where there was none, seen through f
seen_or : {V W : Type 0} (f : V → W) (o : Option V) (v : V) (t : Bool) → option_map f (option_or o (if t then Some v else None)) ≡ option_or (option_map f o) (if t then Some (f v) else None)
seen_or f None v true = refl
seen_or f None v false = refl
seen_or f (Some w) v t = refl

pub arity_more : (old new : List (Word × ℕ)) (n : Word) (xs : List Word) (before : List Line) → ((q : Word) → value_at q new ≡ option_or (value_at q old) (if bytes_eq n q then Some (length xs) else None)) → AreArities old before → AreArities new (before ++ Proc n xs ∷ [])
arity_more old new n xs before added known q =
    added q
    ∙ ap (λ o. option_or o (if bytes_eq n q then Some (length xs) else None)) (known q)
    ∙ sym (seen_or length (parameters_of q before) xs (bytes_eq n q))
    ∙ ap (option_map length) (sym (parameters_push q before (Proc n xs)))

pub arities_same : (counts : List (Word × ℕ)) (before : List Line) (x : Line) → ((q : Word) → parameters_of q (x ∷ []) ≡ None) → AreArities counts before → AreArities counts (before ++ x ∷ [])
arities_same counts before x none known q = known q ∙ ap (option_map length) (sym (parameters_push q before x ∙ ap (option_or (parameters_of q before)) (none q) ∙ or_nothing (parameters_of q before)))

pub no_parameters : (x : Line) → ((n : Word) (xs : List Word) → x ≡ Proc n xs → ⊥) → (q : Word) → parameters_of q (x ∷ []) ≡ None
no_parameters (Proc n xs) h q = absurd (h n xs refl)
no_parameters x h q = refl

-- ---- kinds of variables, and variables of pools

kind_push : (q : Word) (ds : List Declaration) (d : Declaration) → kind_of q (ds ++ d ∷ []) ≡ option_or (kind_of q ds) (kind_of q (d ∷ []))
kind_push q [] d = refl
kind_push q (Variable n k ∷ ds) d = or_later (bytes_eq n q) k _ _ _ (kind_push q ds d)
kind_push q (Pool p v ∷ ds) d = kind_push q ds d

variable_push : (q : Word) (ds : List Declaration) (d : Declaration) → variable_of q (ds ++ d ∷ []) ≡ option_or (variable_of q ds) (variable_of q (d ∷ []))
variable_push q [] d = refl
variable_push q (Pool p v ∷ ds) d = or_later (bytes_eq p q) v _ _ _ (variable_push q ds d)
variable_push q (Variable n k ∷ ds) d = variable_push q ds d

pub kind_more : (old new : List (Word × VariableKind)) (n : Word) (k : VariableKind) (ds : List Declaration) → ((q : Word) → value_at q new ≡ option_or (value_at q old) (if bytes_eq n q then Some k else None)) → AreKinds old ds → AreKinds new (ds ++ Variable n k ∷ [])
kind_more old new n k ds added known q = added q ∙ ap (λ o. option_or o (if bytes_eq n q then Some k else None)) (known q) ∙ sym (kind_push q ds (Variable n k))

pub kinds_past_pool : (kinds : List (Word × VariableKind)) (p v : Word) (ds : List Declaration) → AreKinds kinds ds → AreKinds kinds (ds ++ Pool p v ∷ [])
kinds_past_pool kinds p v ds known q = known q ∙ sym (kind_push q ds (Pool p v) ∙ or_nothing (kind_of q ds))

pub of_pool_more : (old new : List (Word × Bor Word)) (p : Word) (v : Bor Word) (ds : List Declaration) → ((q : Word) → value_at q new ≡ option_or (value_at q old) (if bytes_eq p q then Some v else None)) → AreOfPools old ds → AreOfPools new (ds ++ Pool p v.now ∷ [])
of_pool_more old new p v ds added known q =
    ap (option_map (λ b. b.now)) (added q)
    ∙ seen_or (λ b. b.now) (value_at q old) v (bytes_eq p q)
    ∙ ap (λ o. option_or o (if bytes_eq p q then Some v.now else None)) (known q)
    ∙ sym (variable_push q ds (Pool p v.now))

pub of_pools_past_variable : (variables : List (Word × Bor Word)) (n : Word) (k : VariableKind) (ds : List Declaration) → AreOfPools variables ds → AreOfPools variables (ds ++ Variable n k ∷ [])
of_pools_past_variable variables n k ds known q = known q ∙ sym (variable_push q ds (Variable n k) ∙ or_nothing (variable_of q ds))

-- ---- names that stand twice

found_later : (y x : Word) (xs ys : List Word) → bytes_eq y x ≡ true → has_name y (xs ++ x ∷ ys) ≡ true
found_later y x [] ys e = rw (bytes_eq_flip x y, e) refl
found_later y x (z ∷ xs) ys e = rw (found_later y x xs ys e) (or-true (bytes_eq z y))

either_twice : (y x : Word) (xs ys : List Word) (t : Bool) → bytes_eq y x ≡ t → (has_name x xs ≡ true → has_repeat (xs ++ x ∷ ys) ≡ true) → (bytes_eq y x || has_name x xs) ≡ true → (has_name y (xs ++ x ∷ ys) || has_repeat (xs ++ x ∷ ys)) ≡ true
either_twice y x xs ys true e more h = rw (found_later y x xs ys e) refl
either_twice y x xs ys false e more h =
    let later : has_name x xs ≡ true = rw e at h in
    rw (more later) (or-true (has_name y (xs ++ x ∷ ys)))

pub repeat_found : (x : Word) (xs ys : List Word) → has_name x xs ≡ true → has_repeat (xs ++ x ∷ ys) ≡ true
repeat_found x [] ys h = absurd cc
repeat_found x (y ∷ xs) ys h = either_twice y x xs ys _ refl (repeat_found x xs ys) h

pub no_repeat_more : (x : Word) (xs : List Word) → has_repeat xs ≡ false → has_name x xs ≡ false → has_repeat (xs ++ x ∷ []) ≡ false
no_repeat_more x [] r h = refl
no_repeat_more x (y ∷ xs) r h =
    let apart : bytes_eq x y ≡ false = bytes_eq_flip x y ∙ left_fails (bytes_eq y x) (has_name x xs) h in
    let first : has_name y (xs ++ x ∷ []) ≡ false = list_any-append (λ z. bytes_eq z y) xs (x ∷ []) ∙ or_from (has_name y xs) _ (left_fails (has_name y xs) (has_repeat xs) r) (or_from (bytes_eq x y) false apart refl) in
    or_from (has_name y (xs ++ x ∷ [])) _ first (no_repeat_more x xs (right_fails (has_name y xs) (has_repeat xs) r) (right_fails (bytes_eq y x) (has_name x xs) h))

pub drop_at : {X : Type 0} (xs : List X) (k : ℕ) (x : X) → k < length xs → x ≡ get_or xs k x → drop k xs ≡ x ∷ drop (k + 1) xs
drop_at xs k x lt e = rw add-one (drop-cons xs k x lt ∙ ap (λ y. y ∷ drop (suc k) xs) (sym e))

split_at : {X : Type 0} (xs : List X) (k : ℕ) (x : X) → k < length xs → x ≡ get_or xs k x → take k xs ++ x ∷ drop (k + 1) xs ≡ xs
split_at xs k x lt e = ap (λ t. take k xs ++ t) (sym (drop_at xs k x lt e)) ∙ take-append-drop k xs

pub repeat_at : (xs : List Word) (k : ℕ) (x : Word) → k < length xs → x ≡ get_or xs k x → has_name x (take k xs) ≡ true → has_repeat xs ≡ true
repeat_at xs k x lt e h = ap has_repeat (sym (split_at xs k x lt e)) ∙ repeat_found x (take k xs) (drop (k + 1) xs) h

-- ---- locals

pub names_more : (old new done : List Word) (x : Word) → ((q : Word) → has_name q new ≡ (bytes_eq x q || has_name q old)) → HaveSameNames old done → HaveSameNames new (done ++ x ∷ [])
names_more old new done x added same q = added q ∙ ap (λ b. bytes_eq x q || b) (same q) ∙ or_last (has_name q done) (bytes_eq x q) ∙ sym (list_any-append (λ y. bytes_eq y q) done (x ∷ []))

shifted : (f : Option (List Word)) (b rest : List Word) → option_map_or (λ xs. xs ++ rest) (option_map (λ xs. xs ++ b) f) [] ≡ option_map_or (λ xs. xs ++ (b ++ rest)) f []
shifted None b rest = refl
shifted (Some xs) b rest = append_assoc xs b rest

step_stays : (f : Option (List Word)) (x : Line) → is_procedure x ≡ false → locals_step f x ≡ option_map (λ xs. xs ++ binds x) f
step_stays f (Proc n xs) e = absurd cc
step_stays f x e = refl

until_more : (x : Line) (rest : List Line) → is_procedure x ≡ false → binds_until_procedure (x ∷ rest) ≡ binds x ++ binds_until_procedure rest
until_more x rest e = rw e refl

module _ (lines : List Line) (k : ℕ) (x : Line) (lt : k < length lines) (e : x ≡ get_or lines k x) where
  -- the locals stay those of the procedure
  pub locals_stay : is_procedure x ≡ false → locals_at lines (k + 1) ≡ locals_at lines k
  locals_stay inside =
      let after : locals_after None (take (k + 1) lines) ≡ option_map (λ xs. xs ++ binds x) (locals_after None (take k lines)) = locals_after-more lines k x lt e ∙ step_stays (locals_after None (take k lines)) x inside in
      let rest : binds_until_procedure (drop k lines) ≡ binds x ++ binds_until_procedure (drop (k + 1) lines) = ap binds_until_procedure (drop_at lines k x lt e) ∙ until_more x (drop (k + 1) lines) inside in
      rw (after, rest) (shifted (locals_after None (take k lines)) (binds x) (binds_until_procedure (drop (k + 1) lines)))

  -- or become those of the next
  pub locals_begin : (n : Word) (xs : List Word) → x ≡ Proc n xs → locals_at lines (k + 1) ≡ xs ++ binds_until_procedure (drop (k + 1) lines)
  locals_begin n xs p =
      let after : locals_after None (take (k + 1) lines) ≡ Some xs = locals_after-more lines k x lt e ∙ ap (locals_step (locals_after None (take k lines))) p in
      rw after refl

-- ---- locals that a scan from a procedure's line gathers

regroup : (a b c : Bool) → ((a || b) || c) ≡ (b || (a || c))
regroup a b c = grind arith

-- the names gathered, and those still to come, are the locals
abbrev pub Gathers : List Word → List Word → List Word → Type 0
Gathers names rest all = (q : Word) → (has_name q names || has_name q rest) ≡ has_name q all

module _ (lines : List Line) (k : ℕ) (x : Line) (lt : k < length lines) (e : x ≡ get_or lines k x) where
  pub gathers_one : (old new all : List Word) (y : Word) → is_procedure x ≡ false → binds x ≡ y ∷ [] → ((q : Word) → has_name q new ≡ (bytes_eq y q || has_name q old)) → Gathers old (binds_until_procedure (drop k lines)) all → Gathers new (binds_until_procedure (drop (k + 1) lines)) all
  gathers_one old new all y inside p added known q =
      let rest : binds_until_procedure (drop k lines) ≡ y ∷ binds_until_procedure (drop (k + 1) lines) = ap binds_until_procedure (drop_at lines k x lt e) ∙ until_more x (drop (k + 1) lines) inside ∙ rw p refl in
      rw (added q) (regroup (bytes_eq y q) (has_name q old) (has_name q (binds_until_procedure (drop (k + 1) lines))) ∙ ap (λ t. has_name q old || has_name q t) (sym rest) ∙ known q)

  pub gathers_none : (old all : List Word) → is_procedure x ≡ false → binds x ≡ [] → Gathers old (binds_until_procedure (drop k lines)) all → Gathers old (binds_until_procedure (drop (k + 1) lines)) all
  gathers_none old all inside nothing known q =
      let rest : binds_until_procedure (drop k lines) ≡ binds_until_procedure (drop (k + 1) lines) = ap binds_until_procedure (drop_at lines k x lt e) ∙ until_more x (drop (k + 1) lines) inside ∙ rw nothing refl in
      ap (λ t. has_name q old || has_name q t) (sym rest) ∙ known q

  pub gathers_ends : (old all : List Word) → is_procedure x ≡ true → Gathers old (binds_until_procedure (drop k lines)) all → HaveSameNames old all
  gathers_ends old all begins known q =
      let rest : binds_until_procedure (drop k lines) ≡ [] = ap binds_until_procedure (drop_at lines k x lt e) ∙ rw begins refl in
      sym (or-false (has_name q old)) ∙ ap (λ t. has_name q old || has_name q t) (sym rest) ∙ known q

pub gathers_all : (lines : List Line) (k : ℕ) (old all : List Word) → length lines ≤ k → Gathers old (binds_until_procedure (drop k lines)) all → HaveSameNames old all
gathers_all lines k old all past known q =
    let rest : binds_until_procedure (drop k lines) ≡ [] = ap binds_until_procedure (drop_all k lines past) in
    sym (or-false (has_name q old)) ∙ ap (λ t. has_name q old || has_name q t) (sym rest) ∙ known q

pub no_procedure : (x : Line) → ((n : Word) (xs : List Word) → x ≡ Proc n xs → ⊥) → is_procedure x ≡ false
no_procedure (Proc n xs) h = absurd (h n xs refl)
no_procedure x h = refl

pub begins_gathering : (names parameters rest : List Word) → HaveSameNames names parameters → Gathers names rest (parameters ++ rest)
begins_gathering names parameters rest same q = ap (λ b. b || has_name q rest) (same q) ∙ sym (list_any-append (λ y. bytes_eq y q) parameters rest)

-- ---- blocks

pub open_fails : (lines : List Line) (k : ℕ) (x : Line) → k < length lines → x ≡ get_or lines k x → (last : Bool) → last ≡ (suc k == length lines) → (is_misplaced (open_after [] (take k lines)) x || (last && not (is_nil (open_step (open_after [] (take k lines)) x)))) ≡ line_fails OpenBlock lines k x
open_fails lines k x lt e true l =
    let size : suc k ≡ length lines = omega (arith, eqb-true (suc k) (length lines) (sym l)) in
    let all : open_after [] lines ≡ open_step (open_after [] (take k lines)) x = ap (open_after []) (sym (take_all (k + 1) lines (omega arith))) ∙ open_after-more lines k x lt e in
    rw (← l, all) refl
open_fails lines k x lt e false l = rw (← l) refl
