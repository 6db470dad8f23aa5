-- Words whose numbers are spelled in another way have the same form.
use Rattle.std.proofs.Common.{◌≡◌, ◌≢◌, Bool, true, false, not, ◌||◌, ◌&&◌, List, [], ◌∷◌, length, map, drop, Option, Some, None, refl, sym, ap, subst, ◌∙◌, inl, inr}
use Rattle.std.specs.Prelude.{codes, ◌==◌, nat_le, take_while, ℤ, option_and_then, if◌then◌else◌}
use Rattle.std.specs.Option.{option_map, option_or}
use Rattle.std.specs.List.{list_any, list_all}
use Rattle.std.specs.Str.{bytes_eq}
use Rattle.std.specs.Str.Parse.{digits_value}
use Rattle.std.specs.Fmt.{signed_decimal}
use Rattle.std.proofs.lemmas.Bool.{and_from}
use Rattle.std.proofs.lemmas.List.{drop-map, length-map}
use Rattle.std.proofs.lemmas.List.Sums.{take_while-cons}
use Rattle.std.proofs.lemmas.Option.{cond_some}
use Rattle.std.proofs.lemmas.Slice.Eq.{bytes_eq-Decides}
use Rattle.lvish_syntax.specs.Words.{Word, is_name, is_digit}
use Rattle.lvish_syntax.specs.Written.{is_within}
use Rattle.lvish_checks.specs.Vocabulary.{Cell, Set, Max, VariableKind, Simple, Map, Pair, Tally, Term, Number, Same, Combined, In, Has, Least, Total, Variable, Pool, Command, Line, Bad, Versioned as Version, Declare, Proc, Do, If, While, Else, End}
use Rattle.lvish_syntax.specs.declared.command.Command.TheVariants as command
use Rattle.lvish_checks.specs.Form.{is_number_word, is_numeral, number_spelled, number_word, term_of, all_of, terms_of, only, simple_kind, operator_of, or_bad, variable_line, pair_kind, pair_line, pool_line, proc_line, value_of, let_line, put_of, put_line, threshold_of, get_at, get_of, get_line, run_line, handle_line, freeze_each, freeze_after, freeze_of, freeze_line, block_line, bare_line, version_line, declaration_form, command_form, block_form, line_of}
use Rattle.lvish_checks.specs.Spelling.{AgreesWith, Agree}
use Rattle.lvish_checks.proofs.Cuts.{left_fails, right_fails, left_holds}
use Rattle.lvish_checks.proofs.Values.{Each}
use Rattle.lvish_checks.proofs.Decimals.{digits_word, number_within, number_back}
use Rattle.lvish_checks.proofs.Names.{name_no_number}

-- ---- words that spell numbers

either : (a b c : Bool) → b ≡ true → c ≡ true → (a || (b && c)) ≡ true
either true b c e f = refl
either false b c e f = and_from b c e f

number_is_word : (w : Word) (z : ℤ) → number_spelled w ≡ Some z → is_number_word w ≡ true
number_is_word [] z e = absurd cc
number_is_word (b ∷ bs) z e = by (b == 45) refl
  where
    by : (t : Bool) → (b == 45) ≡ t → is_number_word (b ∷ bs) ≡ true
    by true h =
        let test = (cond_some (is_numeral bs && nat_le (digits_value 10 bs) _) _ z (rw h at e)).0 in
        either (is_digit b) (b == 45) (not (length bs == 0)) h (left_holds (not (length bs == 0)) _ (left_holds (is_numeral bs) _ test))
    by false h = digits_word (b ∷ bs) (left_holds (is_numeral (b ∷ bs)) _ (cond_some (is_numeral (b ∷ bs) && _) _ z (rw h at e)).0)

number_is : (w : Word) (z : ℤ) → number_spelled w ≡ Some z → number_word w ≡ Some z
number_is w z e = rw (number_is_word w z e, e) refl

term_is : (w : Word) (z : ℤ) → number_spelled w ≡ Some z → term_of w ≡ Some (Number z)
term_is w z e = rw (number_is_word w z e, e) refl

no_name : (w : Word) (z : ℤ) → number_spelled w ≡ Some z → is_name w ≡ false
no_name w z e = by (is_name w) refl
  where
    by : (b : Bool) → is_name w ≡ b → is_name w ≡ false
    by true h = absurd (let n = name_no_number w h in let y = number_is_word w z e in cc)
    by false h = h

no_keyword : (k w : Word) (z : ℤ) → is_number_word k ≡ false → number_spelled w ≡ Some z → bytes_eq w k ≡ false
no_keyword k w z other e = by (bytes_eq w k) refl
  where
    by : (b : Bool) → bytes_eq w k ≡ b → bytes_eq w k ≡ false
    by true h = absurd (let same : w ≡ k = (bytes_eq-Decides w k).0 h in let y = number_is_word w z e in cc)
    by false h = h

no_kind : (w : Word) (z : ℤ) → number_spelled w ≡ Some z → simple_kind w ≡ None
no_kind w z e = rw (no_keyword (codes "cell") w z refl e, no_keyword (codes "set") w z refl e, no_keyword (codes "max") w z refl e) refl

no_operator : (w : Word) (z : ℤ) → number_spelled w ≡ Some z → operator_of w ≡ None
no_operator w z e =
    rw (no_keyword (codes "+") w z refl e, no_keyword (codes "-") w z refl e, no_keyword (codes "*") w z refl e, no_keyword (codes "/") w z refl e, no_keyword (codes "%") w z refl e, no_keyword (codes "<") w z refl e, no_keyword (codes "=") w z refl e)
    refl

-- ---- the shortest spelling

abbrev spelled_as : Word → Option ℤ → Word
spelled_as w None = w
spelled_as w (Some z) = signed_decimal z

-- a word, and in place of a number's the number's shortest decimal form
abbrev shortest : Word → Word
shortest w = spelled_as w (number_spelled w)

abbrev all_shortest : List Word → List Word
all_shortest ws = map shortest ws

shortest_spells : (w : Word) (z : ℤ) → number_spelled w ≡ Some z → number_spelled (signed_decimal z) ≡ Some z
shortest_spells w z e = number_back z (subst (Each (λ y. is_within y ≡ true)) e (number_within w))

-- what is alike at all words that spell a number is alike at a word and its shortest spelling
by_spelling : {X : Type 0} (f : Word → X) → ((v w : Word) (z : ℤ) → number_spelled v ≡ Some z → number_spelled w ≡ Some z → f v ≡ f w) → (w : Word) → f (shortest w) ≡ f w
by_spelling f h w = by (number_spelled w) refl
  where
    by : (o : Option ℤ) → number_spelled w ≡ o → f (spelled_as w o) ≡ f w
    by None e = refl
    by (Some z) e = h (signed_decimal z) w z (shortest_spells w z e) e

by_value : {X : Type 0} (f : Word → X) (value : ℤ → X) → ((w : Word) (z : ℤ) → number_spelled w ≡ Some z → f w ≡ value z) → (w : Word) → f (shortest w) ≡ f w
by_value f value h w = by_spelling f (λ v w z d e. h v z d ∙ sym (h w z e)) w

number_again : (w : Word) → number_word (shortest w) ≡ number_word w
number_again w = by_value number_word (λ z. Some z) number_is w

term_again : (w : Word) → term_of (shortest w) ≡ term_of w
term_again w = by_value term_of (λ z. Some (Number z)) term_is w

kind_again : (w : Word) → simple_kind (shortest w) ≡ simple_kind w
kind_again w = by_value simple_kind (λ z. None) no_kind w

operator_again : (w : Word) → operator_of (shortest w) ≡ operator_of w
operator_again w = by_value operator_of (λ z. None) no_operator w

keyword_again : (k : Word) → is_number_word k ≡ false → (w : Word) → bytes_eq (shortest w) k ≡ bytes_eq w k
keyword_again k other w = by_value (λ u. bytes_eq u k) (λ z. false) (λ u z e. no_keyword k u z other e) w

keywords_again : (w : Word) (ks : List Word) → list_any is_number_word ks ≡ false → list_any (bytes_eq (shortest w)) ks ≡ list_any (bytes_eq w) ks
keywords_again w [] other = refl
keywords_again w (k ∷ ks) other = λ i. keyword_again k (left_fails (is_number_word k) _ other) w i || keywords_again w ks (right_fails (is_number_word k) _ other) i

-- ---- tests for names

neither : {X : Type 0} (a : Bool) (x y : X) → (if a && false then x else y) ≡ y
neither true x y = refl
neither false x y = refl

named : {X : Type 0} (w : Word) (f : Word → X) (y : X) → (if is_name (shortest w) then f (shortest w) else y) ≡ (if is_name w then f w else y)
named w f y = by_value (λ u. if is_name u then f u else y) (λ z. y) (λ u z e. ap (λ b. if b then f u else y) (no_name u z e)) w

tested_name : {X : Type 0} (a : Bool) (w : Word) (f : Word → X) (y : X) → (if a && is_name (shortest w) then f (shortest w) else y) ≡ (if a && is_name w then f w else y)
tested_name a w f y = by_value (λ u. if a && is_name u then f u else y) (λ z. y) (λ u z e. ap (λ b. if a && b then f u else y) (no_name u z e) ∙ neither a (f u) y) w

both_named : {X : Type 0} (v w : Word) (f : Word → Word → X) (y : X) → (if is_name (shortest v) && is_name (shortest w) then f (shortest v) (shortest w) else y) ≡ (if is_name v && is_name w then f v w else y)
both_named v w f y =
    by_value (λ u. if is_name u && is_name (shortest w) then f u (shortest w) else y) (λ z. y) (λ u z e. ap (λ b. if b && is_name (shortest w) then f u (shortest w) else y) (no_name u z e)) v
    ∙ tested_name (is_name v) w (f v) y

all_named : {X : Type 0} (ws : List Word) (f : List Word → X) (y : X) → (if list_all is_name (all_shortest ws) then f (all_shortest ws) else y) ≡ (if list_all is_name ws then f ws else y)
all_named [] f y = refl
all_named (w ∷ ws) f y =
    by_value (λ u. if is_name u && list_all is_name (all_shortest ws) then f (u ∷ all_shortest ws) else y) (λ z. y) (λ u z e. ap (λ b. if b && list_all is_name (all_shortest ws) then f (u ∷ all_shortest ws) else y) (no_name u z e)) w
    ∙ rest (is_name w) (all_named ws (λ t. f (w ∷ t)) y)
  where
    rest : (b : Bool) → (if list_all is_name (all_shortest ws) then f (w ∷ all_shortest ws) else y) ≡ (if list_all is_name ws then f (w ∷ ws) else y) → (if b && list_all is_name (all_shortest ws) then f (w ∷ all_shortest ws) else y) ≡ (if b && list_all is_name ws then f (w ∷ ws) else y)
    rest true h = h
    rest false h = refl

front_named : (ws : List Word) → take_while is_name (all_shortest ws) ≡ take_while is_name ws
front_named [] = refl
front_named (w ∷ ws) =
    take_while-cons is_name (shortest w) (all_shortest ws) ∙ named w (λ u. u ∷ take_while is_name (all_shortest ws)) []
    ∙ ap (λ t. if is_name w then w ∷ t else []) (front_named ws) ∙ sym (take_while-cons is_name w ws)

-- ---- parts of lines

same_if : {X : Type 0} {a b : Bool} {x y u v : X} → a ≡ b → x ≡ y → u ≡ v → (if a then x else u) ≡ (if b then y else v)
same_if p q r = λ i. if p i then q i else r i

all_again : {X : Type 0} (f : Word → Option X) → ((w : Word) → f (shortest w) ≡ f w) → (ws : List Word) → all_of f (all_shortest ws) ≡ all_of f ws
all_again f h [] = refl
all_again f h (w ∷ ws) = λ i. option_and_then (λ x. option_map (λ xs. x ∷ xs) (all_again f h ws i)) (h w i)

only_again : {X : Type 0} (f : Word → Option X) → ((w : Word) → f (shortest w) ≡ f w) → (ws : List Word) → only f (all_shortest ws) ≡ only f ws
only_again f h [] = refl
only_again f h (w ∷ []) = h w
only_again f h (v ∷ w ∷ ws) = refl

value_again : (ws : List Word) → value_of (all_shortest ws) ≡ value_of ws
value_again [] = refl
value_again (a ∷ []) = ap (option_map (λ t. Same t)) (term_again a)
value_again (a ∷ o ∷ []) = refl
value_again (a ∷ o ∷ b ∷ []) = λ i. option_and_then (λ s. option_and_then (λ p. option_map (λ t. Combined s p t) (term_again b i)) (operator_again o i)) (term_again a i)
value_again (a ∷ o ∷ b ∷ c ∷ ws) = refl

put_again : (v : Word) (ws : List Word) → put_of v (all_shortest ws) ≡ put_of v ws
put_again v [] = refl
put_again v (t ∷ []) = ap (option_map (λ a. command.Put v a)) (term_again t)
put_again v (k ∷ t ∷ []) = λ i. option_and_then (λ a. option_map (λ b. command.PutAt v a b) (term_again t i)) (term_again k i)
put_again v (k ∷ t ∷ u ∷ ws) = refl

threshold_again : (ws : List Word) → threshold_of (all_shortest ws) ≡ threshold_of ws
threshold_again [] = refl
threshold_again (k ∷ ws) =
    let one = only_again term_of term_again ws in
    let many = all_again number_word number_again ws in
    let none = ap (λ n. n == 0) (length-map ws shortest) in
    same_if (keyword_again (codes "any") refl k) (same_if none refl refl)
    (same_if (keyword_again (codes "in") refl k) (same_if none refl (ap (option_map (λ zs. In zs)) many))
    (same_if (keyword_again (codes "has") refl k) (ap (option_map (λ t. Has t)) one)
    (same_if (keyword_again (codes "least") refl k) (ap (option_map (λ t. Least t)) one)
    (same_if (keyword_again (codes "total") refl k) (ap (option_map (λ t. Total t)) one) refl))))

get_at_again : (x v : Word) (ws : List Word) → get_at x v (all_shortest ws) ≡ get_at x v ws
get_at_again x v [] = refl
get_at_again x v (k ∷ ws) = λ i. option_and_then (λ t. option_map (λ r. command.GetAt x v t r) (threshold_again ws i)) (term_again k i)

get_again : (x v : Word) (ws : List Word) → get_of x v (all_shortest ws) ≡ get_of x v ws
get_again x v ws = λ i. option_or (option_map (λ r. command.Get x v r) (threshold_again ws i)) (get_at_again x v ws i)

each_again : (x v : Word) (ps ws : List Word) → freeze_each x v ps (all_shortest ws) ≡ freeze_each x v ps ws
each_again x v ps [] = refl
each_again x v ps (k ∷ []) = refl
each_again x v ps (k ∷ n ∷ []) =
    tested_name (bytes_eq (shortest k) (codes "each")) n (λ u. Some (command.FreezeEach x v ps u)) None
    ∙ ap (λ b. if b && is_name n then Some (command.FreezeEach x v ps n) else None) (keyword_again (codes "each") refl k)
each_again x v ps (k ∷ n ∷ m ∷ ws) = refl

after_again : (x v : Word) (ws : List Word) → freeze_after x v (all_shortest ws) ≡ freeze_after x v ws
after_again x v ws =
    let ps = take_while is_name ws in
    ap (λ t. if length t == 0 then None else freeze_each x v t (drop (length t) (all_shortest ws))) (front_named ws)
    ∙ ap (λ m. if length ps == 0 then None else m) (ap (freeze_each x v ps) (drop-map shortest (length ps) ws) ∙ each_again x v ps (drop (length ps) ws))

freeze_again : (x v : Word) (ws : List Word) → freeze_of x v (all_shortest ws) ≡ freeze_of x v ws
freeze_again x v [] = refl
freeze_again x v (k ∷ ws) = same_if (keyword_again (codes "after") refl k) (after_again x v ws) (each_again x v [] (k ∷ ws))

-- ---- lines

variable_again : (k : VariableKind) (ws : List Word) → variable_line k (all_shortest ws) ≡ variable_line k ws
unfolding variable_line
variable_again k [] = refl
variable_again k (n ∷ []) = named n (λ u. Declare (Variable u k)) Bad
variable_again k (n ∷ m ∷ ws) = refl

pair_again : (ws : List Word) → pair_line (all_shortest ws) ≡ pair_line ws
unfolding pair_line
pair_again [] = refl
pair_again (n ∷ []) = refl
pair_again (n ∷ a ∷ []) = refl
pair_again (n ∷ a ∷ b ∷ []) =
    named n (λ u. or_bad (option_map (λ k. Declare (Variable u k)) (pair_kind (shortest a) (shortest b)))) Bad
    ∙ (λ i. if is_name n then or_bad (option_map (λ k. Declare (Variable n k)) (option_and_then (λ k. option_map (λ l. Pair k l) (kind_again b i)) (kind_again a i))) else Bad)
pair_again (n ∷ a ∷ b ∷ c ∷ ws) = refl

pool_again : (ws : List Word) → pool_line (all_shortest ws) ≡ pool_line ws
unfolding pool_line
pool_again [] = refl
pool_again (p ∷ []) = refl
pool_again (p ∷ v ∷ []) = both_named p v (λ q u. Declare (Pool q u)) Bad
pool_again (p ∷ v ∷ u ∷ ws) = refl

abbrev proc_of : List Word → Line
proc_of [] = Bad
proc_of (n ∷ xs) = Proc n xs

proc_again : (ws : List Word) → proc_line (all_shortest ws) ≡ proc_line ws
unfolding proc_line
proc_again [] = refl
proc_again (n ∷ xs) = all_named (n ∷ xs) proc_of Bad

let_again : (ws : List Word) → let_line (all_shortest ws) ≡ let_line ws
unfolding let_line
let_again [] = refl
let_again (x ∷ ws) =
    named x (λ u. or_bad (option_map (λ v. Do (command.Let u v)) (value_of (all_shortest ws)))) Bad
    ∙ ap (λ m. if is_name x then or_bad (option_map (λ v. Do (command.Let x v)) m) else Bad) (value_again ws)

put_line_again : (ws : List Word) → put_line (all_shortest ws) ≡ put_line ws
unfolding put_line
put_line_again [] = refl
put_line_again (v ∷ ws) =
    named v (λ u. or_bad (option_map (λ c. Do c) (put_of u (all_shortest ws)))) Bad
    ∙ ap (λ m. if is_name v then or_bad (option_map (λ c. Do c) m) else Bad) (put_again v ws)

get_line_again : (ws : List Word) → get_line (all_shortest ws) ≡ get_line ws
unfolding get_line
get_line_again [] = refl
get_line_again (x ∷ []) = refl
get_line_again (x ∷ v ∷ ws) =
    both_named x v (λ y u. or_bad (option_map (λ c. Do c) (get_of y u (all_shortest ws)))) Bad
    ∙ ap (λ m. if is_name x && is_name v then or_bad (option_map (λ c. Do c) m) else Bad) (get_again x v ws)

run_again : (f : Word → List Term → Command) (ws : List Word) → run_line f (all_shortest ws) ≡ run_line f ws
unfolding run_line
run_again f [] = refl
run_again f (n ∷ ts) =
    named n (λ u. or_bad (option_map (λ xs. Do (f u xs)) (terms_of (all_shortest ts)))) Bad
    ∙ ap (λ m. if is_name n then or_bad (option_map (λ xs. Do (f n xs)) m) else Bad) (all_again term_of term_again ts)

handle_again : (ws : List Word) → handle_line (all_shortest ws) ≡ handle_line ws
unfolding handle_line
handle_again [] = refl
handle_again (p ∷ []) = refl
handle_again (p ∷ n ∷ []) = both_named p n (λ q u. Do (command.Handle q u)) Bad
handle_again (p ∷ n ∷ m ∷ ws) = refl

freeze_line_again : (ws : List Word) → freeze_line (all_shortest ws) ≡ freeze_line ws
unfolding freeze_line
freeze_line_again [] = refl
freeze_line_again (x ∷ []) = refl
freeze_line_again (x ∷ v ∷ ws) =
    both_named x v (λ y u. or_bad (option_map (λ c. Do c) (freeze_of y u (all_shortest ws)))) Bad
    ∙ ap (λ m. if is_name x && is_name v then or_bad (option_map (λ c. Do c) m) else Bad) (freeze_again x v ws)

block_again : (f : Term → Line) (ws : List Word) → block_line f (all_shortest ws) ≡ block_line f ws
unfolding block_line
block_again f ws = ap (λ m. or_bad (option_map f m)) (only_again term_of term_again ws)

bare_again : (l : Line) (ws : List Word) → bare_line l (all_shortest ws) ≡ bare_line l ws
unfolding bare_line
bare_again l [] = refl
bare_again l (w ∷ ws) = refl

declaration_again : (k : Word) (ws : List Word) → declaration_form (shortest k) (all_shortest ws) ≡ declaration_form k ws
declaration_again k ws =
    same_if (keyword_again (codes "cell") refl k) (variable_again (Simple Cell) ws)
    (same_if (keyword_again (codes "set") refl k) (variable_again (Simple Set) ws)
    (same_if (keyword_again (codes "max") refl k) (variable_again (Simple Max) ws)
    (same_if (keyword_again (codes "map") refl k) (variable_again Map ws)
    (same_if (keyword_again (codes "pair") refl k) (pair_again ws)
    (same_if (keyword_again (codes "tally") refl k) (variable_again Tally ws)
    (same_if (keyword_again (codes "pool") refl k) (pool_again ws)
    (same_if (keyword_again (codes "proc") refl k) (proc_again ws) refl)))))))

command_again : (k : Word) (ws : List Word) → command_form (shortest k) (all_shortest ws) ≡ command_form k ws
command_again k ws =
    same_if (keyword_again (codes "let") refl k) (let_again ws)
    (same_if (keyword_again (codes "put") refl k) (put_line_again ws)
    (same_if (keyword_again (codes "get") refl k) (get_line_again ws)
    (same_if (keyword_again (codes "fork") refl k) (run_again (λ n ts. command.Fork n ts) ws)
    (same_if (keyword_again (codes "call") refl k) (run_again (λ n ts. command.Call n ts) ws)
    (same_if (keyword_again (codes "handle") refl k) (handle_again ws)
    (same_if (keyword_again (codes "freeze") refl k) (freeze_line_again ws) refl))))))

block_form_again : (k : Word) (ws : List Word) → block_form (shortest k) (all_shortest ws) ≡ block_form k ws
block_form_again k ws =
    same_if (keyword_again (codes "if") refl k) (block_again (λ t. If t) ws)
    (same_if (keyword_again (codes "while") refl k) (block_again (λ t. While t) ws)
    (same_if (keyword_again (codes "else") refl k) (bare_again Else ws)
    (same_if (keyword_again (codes "end") refl k) (bare_again End ws) refl)))

-- ---- words that agree

-- of all lines but that of a version
line_again : (k : Word) (ws : List Word) → bytes_eq k (codes "lvish") ≡ false → line_of (all_shortest (k ∷ ws)) ≡ line_of (k ∷ ws)
line_again k ws e =
    same_if (keywords_again k (codes "cell" ∷ codes "set" ∷ codes "max" ∷ codes "map" ∷ codes "pair" ∷ codes "tally" ∷ codes "pool" ∷ codes "proc" ∷ []) refl) (declaration_again k ws)
    (same_if (keywords_again k (codes "let" ∷ codes "put" ∷ codes "get" ∷ codes "fork" ∷ codes "call" ∷ codes "handle" ∷ codes "freeze" ∷ []) refl) (command_again k ws)
    (ap (λ b. if b then version_line (all_shortest ws) else block_form (shortest k) (all_shortest ws)) (keyword_again (codes "lvish") refl k ∙ e)
    ∙ block_form_again k ws ∙ sym (ap (λ b. if b then version_line ws else block_form k ws) e)))

version_alone : (ws : List Word) → version_line ws ≢ Bad → version_line ws ≡ Version
unfolding version_line
version_alone [] form = absurd (form refl)
version_alone (n ∷ []) form = by (bytes_eq n (codes "2")) form
  where
    by : (b : Bool) → (if b then Version else Bad) ≢ Bad → (if b then Version else Bad) ≡ Version
    by true form = refl
    by false form = absurd (form refl)
version_alone (n ∷ m ∷ ws) form = absurd (form refl)

no_version : (k : Word) (ws : List Word) → line_of (k ∷ ws) ≢ Bad → line_of (k ∷ ws) ≢ Version → bytes_eq k (codes "lvish") ≡ false
no_version k ws form other = by (bytes_eq k (codes "lvish")) refl
  where
    by : (b : Bool) → bytes_eq k (codes "lvish") ≡ b → bytes_eq k (codes "lvish") ≡ false
    by true e =
        let same : line_of (k ∷ ws) ≡ version_line ws = ap (λ w. line_of (w ∷ ws)) ((bytes_eq-Decides k (codes "lvish")).0 e) in
        absurd (other (same ∙ version_alone ws (λ bad. form (same ∙ bad))))
    by false e = e

alike : (v w : Word) → AgreesWith v w → shortest v ≡ shortest w
alike v w (inl e) = ap shortest e
alike v w (inr h) = ap (spelled_as v) h.1 ∙ sym (ap (spelled_as w) h.2)

all_alike : (vs ws : List Word) → Agree vs ws → all_shortest vs ≡ all_shortest ws
all_alike [] [] h = refl
all_alike [] (w ∷ ws) h = absurd h
all_alike (v ∷ vs) [] h = absurd h
all_alike (v ∷ vs) (w ∷ ws) h = λ i. alike v w h.0 i ∷ all_alike vs ws h.1 i

pub same_form : (vs ws : List Word) → Agree vs ws → line_of ws ≢ Bad → line_of ws ≢ Version → line_of vs ≡ line_of ws
same_form [] [] h form other = refl
same_form [] (w ∷ ws) h form other = absurd h
same_form (v ∷ vs) [] h form other = absurd h
same_form (v ∷ vs) (w ∷ ws) h form other =
    let there = no_version w ws form other in
    let first : bytes_eq v (codes "lvish") ≡ false = sym (keyword_again (codes "lvish") refl v) ∙ ap (λ u. bytes_eq u (codes "lvish")) (alike v w h.0) ∙ keyword_again (codes "lvish") refl w ∙ there in
    sym (line_again v vs first) ∙ ap line_of (all_alike (v ∷ vs) (w ∷ ws) h) ∙ line_again w ws there
