-- What the words of a line that is written say: the line.
use Rattle.std.proofs.Common.{◌≡◌, Bool, true, false, cond, ◌&&◌, List, [], ◌∷◌, ◌++◌, length, map, drop, Option, Some, None, refl, sym, ap, ◌∙◌}
use Rattle.std.specs.Prelude.{codes, ◌==◌, take_while, ℤ, if◌then◌else◌}
use Rattle.std.specs.Option.{option_map}
use Rattle.std.specs.List.{list_all}
use Rattle.std.specs.Str.{bytes_eq}
use Rattle.std.proofs.lemmas.Slice.Eq.{bytes_eq-Decides}
use Rattle.std.proofs.Math.Seq.{drop-append_seam}
use Rattle.std.proofs.lemmas.List.{append-nil}
use Rattle.std.proofs.lemmas.List.Sums.{take_while-cons}
use Rattle.std.specs.Fmt.{signed_decimal}
use Rattle.lvish_syntax.specs.Words.{Word, is_name}
use Rattle.lvish_syntax.specs.Written.{is_within, is_term_written, is_value_written, is_threshold_written, are_members_written, is_command_written}
use Rattle.lvish_script.specs.Vocabulary.{SimpleKind, Cell, Set, Max, Simple, Map, Pair, Tally, Operator, Add, Subtract, Multiply, Divide, Remainder, Less, Equal, Term, LetValue, Same, Combined, Threshold, Any, In, Has, Least, Total, Variable, Pool, Command, Let, Put, PutAt, Get, GetAt, Fork, Call, Handle, Freeze, FreezeEach, Line}
use Rattle.lvish_checks.specs.declared.line.Line.TheVariants as line
use Rattle.lvish_checks.specs.Form.{term_of, number_word, only, operator_of, value_of, threshold_of, get_of, freeze_each, freeze_after, freeze_of, simple_kind, variable_line, pair_line, pool_line, proc_line, let_line, put_line, get_line, run_line, handle_line, freeze_line, block_line, bare_line, version_line, line_of}
use Rattle.lvish_checks.specs.Spelling.{term_word, kind_word, operator_word, value_words, threshold_words, pool_words, command_words, line_words}
use Rattle.lvish_checks.proofs.Meanings.{is_line_written}
use Rattle.lvish_checks.proofs.Spelled.{not_nil}
use Rattle.lvish_script.proofs.Plain.{term_back, word_back, all_back}
use Rattle.lvish_checks.proofs.Cuts.{left_holds, right_holds}

-- ---- parts of lines

kind_back : (k : SimpleKind) → simple_kind (kind_word k) ≡ Some k
kind_back Cell = refl
kind_back Set = refl
kind_back Max = refl

operator_back : (o : Operator) → operator_of (operator_word o) ≡ Some o
operator_back Add = refl
operator_back Subtract = refl
operator_back Multiply = refl
operator_back Divide = refl
operator_back Remainder = refl
operator_back Less = refl
operator_back Equal = refl

value_back : (v : LetValue) → is_value_written v ≡ true → value_of (value_words v) ≡ Some v
value_back (Same t) e = rw (term_back t e) refl
value_back (Combined a o b) e = rw (term_back a (left_holds (is_term_written a) _ e), operator_back o, term_back b (right_holds (is_term_written a) _ e)) refl

members_back : (zs : List ℤ) → are_members_written zs ≡ true → threshold_of (codes "in" ∷ map signed_decimal zs) ≡ Some (In zs)
members_back [] e = absurd cc
members_back (z ∷ zs) e =
    let some : (length (map signed_decimal (z ∷ zs)) == 0) ≡ false = not_nil (length (map signed_decimal zs)) in
    rw some (ap (λ o. option_map (λ ys. In ys) o) (all_back number_word signed_decimal is_within word_back (z ∷ zs) e))

threshold_back : (r : Threshold) → is_threshold_written r ≡ true → threshold_of (threshold_words r) ≡ Some r
threshold_back Any e = refl
threshold_back (In zs) e = members_back zs e
threshold_back (Has t) e = rw (term_back t e) refl
threshold_back (Least t) e = rw (term_back t e) refl
threshold_back (Total t) e = rw (term_back t e) refl

-- the words that begin a threshold are no terms
no_terms : (term_of (codes "any") ≡ None) × (term_of (codes "in") ≡ None) × (term_of (codes "has") ≡ None) × (term_of (codes "least") ≡ None)
unfolding is_name
no_terms = (refl, refl, refl, refl)

each_no_name : is_name (codes "each") ≡ false
unfolding is_name
each_no_name = refl

get_back : (x v : Word) (r : Threshold) → is_threshold_written r ≡ true → get_of x v (threshold_words r) ≡ Some (Get x v r)
get_back x v r e = rw (threshold_back r e) refl

-- a word that is a term isn't one that is none
other_word : (w u : Word) (k : Term) → term_of w ≡ Some k → term_of u ≡ None → bytes_eq w u ≡ false
other_word w u k e none = on_test (bytes_eq w u) refl
  where
    on_test : (b : Bool) → bytes_eq w u ≡ b → bytes_eq w u ≡ false
    on_test true h = let same : term_of w ≡ term_of u = ap term_of ((bytes_eq-Decides w u).0 h) in absurd cc
    on_test false h = h

-- no threshold is a single term
no_term : (r : Threshold) → only term_of (threshold_words r) ≡ None
no_term Any = no_terms.0
no_term (In []) = no_terms.1
no_term (In (z ∷ zs)) = refl
no_term (Has t) = refl
no_term (Least t) = refl
no_term (Total t) = refl

no_total : (b : Bool) (m : Option Term) → m ≡ None → (if b then option_map (λ t. Total t) m else None) ≡ None
no_total true m e = ap (option_map (λ t. Total t)) e
no_total false m e = refl

-- a term before a threshold begins none
no_threshold : (w : Word) (k : Term) (r : Threshold) → term_of w ≡ Some k → threshold_of (w ∷ threshold_words r) ≡ None
no_threshold w k r e =
    rw (other_word w (codes "any") k e no_terms.0, other_word w (codes "in") k e no_terms.1, other_word w (codes "has") k e no_terms.2, other_word w (codes "least") k e no_terms.3)
    (no_total (bytes_eq w (codes "total")) (only term_of (threshold_words r)) (no_term r))

get_at_back : (x v : Word) (k : Term) (r : Threshold) → is_term_written k ≡ true → is_threshold_written r ≡ true → get_of x v (term_word k ∷ threshold_words r) ≡ Some (GetAt x v k r)
get_at_back x v k r e f = rw (no_threshold (term_word k) k r (term_back k e), term_back k e, threshold_back r f) refl

-- names before a word that is none
names_before : (ps rest : List Word) → list_all is_name ps ≡ true → take_while is_name rest ≡ [] → take_while is_name (ps ++ rest) ≡ ps
names_before [] rest e f = f
names_before (p ∷ ps) rest e f =
    take_while-cons is_name p (ps ++ rest) ∙ ap (λ b. cond b (p ∷ take_while is_name (ps ++ rest)) []) (left_holds (is_name p) _ e)
    ∙ ap (λ t. p ∷ t) (names_before ps rest (right_holds (is_name p) _ e) f)

after_back : (x v p : Word) (ps rest : List Word) → list_all is_name (p ∷ ps) ≡ true → take_while is_name rest ≡ [] → freeze_after x v ((p ∷ ps) ++ rest) ≡ freeze_each x v (p ∷ ps) rest
after_back x v p ps rest e f =
    let taken : take_while is_name ((p ∷ ps) ++ rest) ≡ p ∷ ps = names_before (p ∷ ps) rest e f in
    let some : (length (p ∷ ps) == 0) ≡ false = not_nil (length ps) in
    ap (λ t. if length t == 0 then None else freeze_each x v t (drop (length t) ((p ∷ ps) ++ rest))) taken
    ∙ ap (λ b. if b then None else freeze_each x v (p ∷ ps) (drop (length (p ∷ ps)) ((p ∷ ps) ++ rest))) some
    ∙ ap (freeze_each x v (p ∷ ps)) (drop-append_seam (p ∷ ps) rest)

none_taken : (n : Word) → take_while is_name (codes "each" ∷ n ∷ []) ≡ []
none_taken n = take_while-cons is_name (codes "each") (n ∷ []) ∙ ap (λ b. cond b (codes "each" ∷ take_while is_name (n ∷ [])) []) each_no_name

freeze_back : (x v : Word) (ps : List Word) → list_all is_name ps ≡ true → freeze_of x v (pool_words ps) ≡ Some (Freeze x v ps)
freeze_back x v [] e = refl
freeze_back x v (p ∷ ps) e = ap (λ t. freeze_after x v (p ∷ t)) (sym (append-nil ps)) ∙ after_back x v p ps [] e refl

freeze_each_back : (x v : Word) (ps : List Word) (n : Word) → list_all is_name ps ≡ true → is_name n ≡ true → freeze_of x v (pool_words ps ++ codes "each" ∷ n ∷ []) ≡ Some (FreezeEach x v ps n)
freeze_each_back x v [] n e f = rw f refl
freeze_each_back x v (p ∷ ps) n e f = after_back x v p ps (codes "each" ∷ n ∷ []) e (none_taken n) ∙ rw f refl

-- ---- lines

run_back : (f : Word → List Term → Command) (n : Word) (ts : List Term) → is_name n ≡ true → list_all is_term_written ts ≡ true → run_line f (n ∷ map term_word ts) ≡ line.Do (f n ts)
unfolding run_line
run_back f n ts e g = rw (e, all_back term_of term_word is_term_written term_back ts g) refl

command_back : (c : Command) → is_command_written c ≡ true → line_of (command_words c) ≡ line.Do c
unfolding let_line put_line get_line handle_line freeze_line
command_back (Let x v) e = rw (left_holds (is_name x) _ e, value_back v (right_holds (is_name x) _ e)) refl
command_back (Put v t) e = rw (left_holds (is_name v) _ e, term_back t (right_holds (is_name v) _ e)) refl
command_back (PutAt v k t) e =
    let both = right_holds (is_name v) _ e in
    rw (left_holds (is_name v) _ e, term_back k (left_holds (is_term_written k) _ both), term_back t (right_holds (is_term_written k) _ both)) refl
command_back (Get x v r) e = rw (left_holds (is_name x && is_name v) _ e, get_back x v r (right_holds (is_name x && is_name v) _ e)) refl
command_back (GetAt x v k r) e =
    let both = right_holds (is_name x && is_name v) _ e in
    rw (left_holds (is_name x && is_name v) _ e, get_at_back x v k r (left_holds (is_term_written k) _ both) (right_holds (is_term_written k) _ both)) refl
command_back (Fork n ts) e = run_back (λ n ts. Fork n ts) n ts (left_holds (is_name n) _ e) (right_holds (is_name n) _ e)
command_back (Call n ts) e = run_back (λ n ts. Call n ts) n ts (left_holds (is_name n) _ e) (right_holds (is_name n) _ e)
command_back (Handle p n) e = rw e refl
command_back (Freeze x v ps) e = rw (left_holds (is_name x && is_name v) _ e, freeze_back x v ps (right_holds (is_name x && is_name v) _ e)) refl
command_back (FreezeEach x v ps n) e =
    let both = right_holds (is_name x && is_name v) _ e in
    rw (left_holds (is_name x && is_name v) _ e, freeze_each_back x v ps n (left_holds (list_all is_name ps) _ both) (right_holds (list_all is_name ps) _ both)) refl

-- a line of a script is neither blank nor bad
abbrev pub is_good : Line → Bool
is_good line.Blank = false
is_good line.Bad = false
is_good l = true

-- a line that is written says itself again
pub line_back : (l : Line) → is_line_written l ≡ true → is_good l ≡ true → line_of (line_words l) ≡ l
unfolding variable_line pair_line pool_line proc_line block_line bare_line version_line
line_back line.Blank e g = absurd cc
line_back line.Bad e g = absurd cc
line_back line.Version e g = refl
line_back (line.Declare (Variable n (Simple Cell))) e g = rw e refl
line_back (line.Declare (Variable n (Simple Set))) e g = rw e refl
line_back (line.Declare (Variable n (Simple Max))) e g = rw e refl
line_back (line.Declare (Variable n Map)) e g = rw e refl
line_back (line.Declare (Variable n (Pair a b))) e g = rw (e, kind_back a, kind_back b) refl
line_back (line.Declare (Variable n Tally)) e g = rw e refl
line_back (line.Declare (Pool p v)) e g = rw e refl
line_back (line.Proc n xs) e g = rw e refl
line_back (line.Do c) e g = command_back c e
line_back (line.If t) e g = rw (term_back t e) refl
line_back (line.While t) e g = rw (term_back t e) refl
line_back line.Else e g = refl
line_back line.End e g = refl
