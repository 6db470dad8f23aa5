-- The canonical text of a script says its lines.
use Rattle.std.proofs.Common.{◌≡◌, cond, ℕ, ◌-◌, Bool, true, false, not, ◌&&◌, List, [], ◌∷◌, ◌++◌, length, map, take, refl, sym, ap, ◌∙◌, arith, append_assoc}
use Rattle.std.proofs.lemmas.Bool.{and_from, or_from, not-true}
use Rattle.std.specs.Prelude.{filter, codes, ◌==◌, slice_index, ℤ, if◌then◌else◌}
use Rattle.std.specs.List.{list_any, list_all, slice_split, flat_map}
use Rattle.std.proofs.Math.Seq.{take-append_seam}
use Rattle.std.proofs.lemmas.Bool.Decides.{nat_tests}
use Rattle.std.proofs.lemmas.List.{append-nil, length_push}
use Rattle.std.specs.Fmt.{signed_decimal}
use Rattle.lvish_syntax.specs.Words.{Word, is_name}
use Rattle.lvish_syntax.specs.Written.{is_within, is_term_written, is_value_written, is_threshold_written, are_members_written, is_command_written}
use Rattle.lvish_syntax.specs.Nested.{statements}
use Rattle.lvish_script.specs.Vocabulary.{SimpleKind, Cell, Set, Max, Simple, Map, Pair, Tally, Operator, Add, Subtract, Multiply, Divide, Remainder, Less, Equal, Term, LetValue, Same, Combined, Threshold, Any, In, Has, Least, Total, Declaration, Variable, Pool, Command, Let, Put, PutAt, Get, GetAt, Fork, Call, Handle, Freeze, FreezeEach, Procedure, Line}
use Rattle.lvish_checks.specs.declared.line.Line.TheVariants as line
use Rattle.lvish_checks.specs.Text.{is_foreign, lines_of, without_last_feed, words_of}
use Rattle.lvish_checks.specs.Form.{line_of, is_bad_number}
use Rattle.lvish_script.specs.Spells.{body_lines, procedure_lines, script_lines, says_something}
use Rattle.lvish_checks.specs.Spelling.{term_word, kind_word, operator_word, value_words, threshold_words, pool_words, command_words, line_words}
use Rattle.lvish_script.specs.Canonical.{words_joined, lines_text}
use Rattle.lvish_script.proofs.Bodies.{is_inner, inner, join_all}
use Rattle.lvish_script.proofs.Declaring.{heads}
use Rattle.lvish_checks.proofs.Meanings.{is_line_written}
use Rattle.lvish_script.proofs.Plain.{is_plain, name_plain, number_plain, term_plain, name_good, number_good, term_good, all_map, all_same, words_back, split_at, split_none, no_feed, no_foreign}
use Rattle.lvish_script.proofs.Reread.{is_good, line_back}
use Rattle.lvish_checks.proofs.Cuts.{left_holds, right_holds}

-- ---- the words of a line that is written

-- a word that a line can have, and no bad number
abbrev pub is_fine : Word → Bool
is_fine w = is_plain w && not (is_bad_number w)

name_fine : (w : Word) → is_name w ≡ true → is_fine w ≡ true
name_fine w e = and_from (is_plain w) _ (name_plain w e) (ap not (name_good w e))

number_fine : (z : ℤ) → is_within z ≡ true → is_fine (signed_decimal z) ≡ true
number_fine z e = and_from (is_plain (signed_decimal z)) _ (number_plain z e) (ap not (number_good z e))

term_fine : (t : Term) → is_term_written t ≡ true → is_fine (term_word t) ≡ true
term_fine t e = and_from (is_plain (term_word t)) _ (term_plain t e) (ap not (term_good t e))

-- words that are all fine
pub record AreFine (ws : List Word) : Type 0 where
  pub all : list_all is_fine ws ≡ true

no_words : AreFine []
no_words = record { all = refl }

names_fine : (ws : List Word) → list_all is_name ws ≡ true → AreFine ws
names_fine ws e = record { all = all_same is_name is_fine name_fine ws e }

kind_fine : (k : SimpleKind) → is_fine (kind_word k) ≡ true
kind_fine Cell = refl
kind_fine Set = refl
kind_fine Max = refl

operator_fine : (o : Operator) → is_fine (operator_word o) ≡ true
operator_fine Add = refl
operator_fine Subtract = refl
operator_fine Multiply = refl
operator_fine Divide = refl
operator_fine Remainder = refl
operator_fine Less = refl
operator_fine Equal = refl

and_more : (w : Word) {ws : List Word} → is_fine w ≡ true → AreFine ws → AreFine (w ∷ ws)
and_more w e f = record { all = and_from (is_fine w) _ e f.all }

value_fine : (v : LetValue) → is_value_written v ≡ true → AreFine (value_words v)
value_fine (Same t) e = and_more (term_word t) (term_fine t e) no_words
value_fine (Combined a o b) e =
    and_more (term_word a) (term_fine a (left_holds (is_term_written a) _ e)) (and_more (operator_word o) (operator_fine o) (and_more (term_word b) (term_fine b (right_holds (is_term_written a) _ e)) no_words))

members_fine : (zs : List ℤ) → are_members_written zs ≡ true → list_all is_within zs ≡ true
members_fine [] e = refl
members_fine (z ∷ zs) e = e

threshold_fine : (r : Threshold) → is_threshold_written r ≡ true → AreFine (threshold_words r)
threshold_fine Any e = record { all = refl }
threshold_fine (In zs) e = and_more (codes "in") refl (record { all = all_map signed_decimal is_within is_fine number_fine zs (members_fine zs e) })
threshold_fine (Has t) e = and_more (codes "has") refl (and_more (term_word t) (term_fine t e) no_words)
threshold_fine (Least t) e = and_more (codes "least") refl (and_more (term_word t) (term_fine t e) no_words)
threshold_fine (Total t) e = and_more (codes "total") refl (and_more (term_word t) (term_fine t e) no_words)

pools_fine : (ps : List Word) → list_all is_name ps ≡ true → AreFine (pool_words ps)
pools_fine [] e = no_words
pools_fine (p ∷ ps) e = and_more (codes "after") refl (names_fine (p ∷ ps) e)

join_fine : (xs ys : List Word) → AreFine xs → AreFine ys → AreFine (xs ++ ys)
join_fine xs ys e f = record { all = join_all is_fine xs ys e.all f.all }

command_fine : (c : Command) → is_command_written c ≡ true → AreFine (command_words c)
command_fine (Let x v) e = and_more (codes "let") refl (and_more x (name_fine x (left_holds (is_name x) _ e)) (value_fine v (right_holds (is_name x) _ e)))
command_fine (Put v t) e = and_more (codes "put") refl (and_more v (name_fine v (left_holds (is_name v) _ e)) (and_more (term_word t) (term_fine t (right_holds (is_name v) _ e)) no_words))
command_fine (PutAt v k t) e =
    let both = right_holds (is_name v) _ e in
    and_more (codes "put") refl (and_more v (name_fine v (left_holds (is_name v) _ e)) (and_more (term_word k) (term_fine k (left_holds (is_term_written k) _ both)) (and_more (term_word t) (term_fine t (right_holds (is_term_written k) _ both)) no_words)))
command_fine (Get x v r) e =
    let names = left_holds (is_name x && is_name v) _ e in
    and_more (codes "get") refl (and_more x (name_fine x (left_holds (is_name x) _ names)) (and_more v (name_fine v (right_holds (is_name x) _ names)) (threshold_fine r (right_holds (is_name x && is_name v) _ e))))
command_fine (GetAt x v k r) e =
    let names = left_holds (is_name x && is_name v) _ e in
    let both = right_holds (is_name x && is_name v) _ e in
    and_more (codes "get") refl (and_more x (name_fine x (left_holds (is_name x) _ names)) (and_more v (name_fine v (right_holds (is_name x) _ names)) (and_more (term_word k) (term_fine k (left_holds (is_term_written k) _ both)) (threshold_fine r (right_holds (is_term_written k) _ both)))))
command_fine (Fork n ts) e = and_more (codes "fork") refl (and_more n (name_fine n (left_holds (is_name n) _ e)) (record { all = all_map term_word is_term_written is_fine term_fine ts (right_holds (is_name n) _ e) }))
command_fine (Call n ts) e = and_more (codes "call") refl (and_more n (name_fine n (left_holds (is_name n) _ e)) (record { all = all_map term_word is_term_written is_fine term_fine ts (right_holds (is_name n) _ e) }))
command_fine (Handle p n) e = and_more (codes "handle") refl (and_more p (name_fine p (left_holds (is_name p) _ e)) (and_more n (name_fine n (right_holds (is_name p) _ e)) no_words))
command_fine (Freeze x v ps) e =
    let names = left_holds (is_name x && is_name v) _ e in
    and_more (codes "freeze") refl (and_more x (name_fine x (left_holds (is_name x) _ names)) (and_more v (name_fine v (right_holds (is_name x) _ names)) (pools_fine ps (right_holds (is_name x && is_name v) _ e))))
command_fine (FreezeEach x v ps n) e =
    let names = left_holds (is_name x && is_name v) _ e in
    let both = right_holds (is_name x && is_name v) _ e in
    and_more (codes "freeze") refl (and_more x (name_fine x (left_holds (is_name x) _ names)) (and_more v (name_fine v (right_holds (is_name x) _ names)) (join_fine (pool_words ps) (codes "each" ∷ n ∷ []) (pools_fine ps (left_holds (list_all is_name ps) _ both)) (and_more (codes "each") refl (and_more n (name_fine n (right_holds (list_all is_name ps) _ both)) no_words)))))

pub line_fine : (l : Line) → is_line_written l ≡ true → AreFine (line_words l)
line_fine line.Blank e = no_words
line_fine line.Bad e = no_words
line_fine line.Version e = record { all = refl }
line_fine (line.Declare (Variable n (Simple k))) e = and_more (kind_word k) (kind_fine k) (and_more n (name_fine n e) no_words)
line_fine (line.Declare (Variable n Map)) e = and_more (codes "map") refl (and_more n (name_fine n e) no_words)
line_fine (line.Declare (Variable n (Pair a b))) e = and_more (codes "pair") refl (and_more n (name_fine n e) (and_more (kind_word a) (kind_fine a) (and_more (kind_word b) (kind_fine b) no_words)))
line_fine (line.Declare (Variable n Tally)) e = and_more (codes "tally") refl (and_more n (name_fine n e) no_words)
line_fine (line.Declare (Pool p v)) e = and_more (codes "pool") refl (and_more p (name_fine p (left_holds (is_name p) _ e)) (and_more v (name_fine v (right_holds (is_name p) _ e)) no_words))
line_fine (line.Proc n xs) e = and_more (codes "proc") refl (and_more n (name_fine n (left_holds (is_name n) _ e)) (names_fine xs (right_holds (is_name n) _ e)))
line_fine (line.Do c) e = command_fine c e
line_fine (line.If t) e = and_more (codes "if") refl (and_more (term_word t) (term_fine t e) no_words)
line_fine (line.While t) e = and_more (codes "while") refl (and_more (term_word t) (term_fine t e) no_words)
line_fine line.Else e = record { all = refl }
line_fine line.End e = record { all = refl }

line_plain : (l : Line) → is_line_written l ≡ true → list_all is_plain (line_words l) ≡ true
line_plain l e = all_same is_fine is_plain (λ w f. left_holds (is_plain w) _ f) (line_words l) (line_fine l e).all

-- the bytes of a line
abbrev pub line_bytes : Line → List ℕ
line_bytes l = words_joined (line_words l)

-- no byte is foreign
pub bytes_known : (ls : List Line) → list_all is_line_written ls ≡ true → list_any (λ line. list_any is_foreign line) (map line_bytes ls) ≡ false
bytes_known [] e = refl
bytes_known (l ∷ ls) e = or_from (list_any is_foreign (line_bytes l)) _ (no_foreign (line_words l) (line_plain l (left_holds (is_line_written l) _ e))) (bytes_known ls (right_holds (is_line_written l) _ e))

not_bad : (ws : List Word) → list_all is_fine ws ≡ true → list_any is_bad_number ws ≡ false
not_bad [] e = refl
not_bad (w ∷ ws) e = or_from (is_bad_number w) _ (not-true _ (right_holds (is_plain w) _ (left_holds (is_fine w) _ e))) (not_bad ws (right_holds (is_fine w) _ e))

-- no number word is bad
pub numbers_good : (ls : List Line) → list_all is_line_written ls ≡ true → list_any (λ words. list_any is_bad_number words) (map line_words ls) ≡ false
numbers_good [] e = refl
numbers_good (l ∷ ls) e = or_from (list_any is_bad_number (line_words l)) _ (not_bad (line_words l) (line_fine l (left_holds (is_line_written l) _ e)).all) (numbers_good ls (right_holds (is_line_written l) _ e))

-- ---- the lines of the text

-- the text of lines without its last line feed
abbrev bare : Line → List Line → List ℕ
bare l [] = line_bytes l
bare l (m ∷ ls) = line_bytes l ++ 10 ∷ bare m ls

text_is : (l : Line) (ls : List Line) → lines_text (l ∷ ls) ≡ bare l ls ++ 10 ∷ []
text_is l [] = append-nil (line_bytes l ++ 10 ∷ [])
text_is l (m ∷ ls) =
    ap (λ t. (line_bytes l ++ 10 ∷ []) ++ t) (text_is m ls)
    ∙ append_assoc (line_bytes l) (10 ∷ []) (bare m ls ++ 10 ∷ [])
    ∙ sym (append_assoc (line_bytes l) (10 ∷ bare m ls) (10 ∷ []))

split_bare : (l : Line) (ls : List Line) → list_all is_line_written (l ∷ ls) ≡ true → slice_split (λ b. b == 10) (bare l ls) ≡ map line_bytes (l ∷ ls)
split_bare l [] e = split_none (λ b. b == 10) (line_bytes l) (no_feed (line_words l) (line_plain l (left_holds (is_line_written l) _ e)))
split_bare l (m ∷ ls) e =
    split_at (λ b. b == 10) (line_bytes l) 10 (bare m ls) (no_feed (line_words l) (line_plain l (left_holds (is_line_written l) _ e))) refl
    ∙ ap (λ t. line_bytes l ∷ t) (split_bare m ls (right_holds (is_line_written l) _ e))

last_byte : (b : List ℕ) (c : ℕ) → slice_index (b ++ c ∷ []) (length b) ≡ c
last_byte [] c = refl
last_byte (x ∷ b) c = last_byte b c

without_feed : (b : List ℕ) → without_last_feed (b ++ 10 ∷ []) ≡ b
without_feed b =
    let n : length (b ++ 10 ∷ []) - 1 ≡ length b = omega (arith, length_push b 10) in
    ap (λ k. if slice_index (b ++ 10 ∷ []) k == 10 then take k (b ++ 10 ∷ []) else b ++ 10 ∷ []) n
    ∙ ap (λ c. if c == 10 then take (length b) (b ++ 10 ∷ []) else b ++ 10 ∷ []) (last_byte b 10)
    ∙ take-append_seam b (10 ∷ [])

not_none : (b : List ℕ) → (length (b ++ 10 ∷ []) == 0) ≡ false
not_none b = let n = length_push b 10 in grind (arith, nat_tests)

lines_split : (l : Line) (ls : List Line) → list_all is_line_written (l ∷ ls) ≡ true → lines_of (lines_text (l ∷ ls)) ≡ map line_bytes (l ∷ ls)
lines_split l ls e =
    ap lines_of (text_is l ls)
    ∙ ap (λ b. if b then [] else slice_split (λ c. c == 10) (without_last_feed (bare l ls ++ 10 ∷ []))) (not_none (bare l ls))
    ∙ ap (slice_split (λ c. c == 10)) (without_feed (bare l ls))
    ∙ split_bare l ls e

-- the lines of the text of lines
pub lines_are : (ls : List Line) → list_all is_line_written ls ≡ true → lines_of (lines_text ls) ≡ map line_bytes ls
lines_are [] e = refl
lines_are (l ∷ ls) e = lines_split l ls e

words_again : (ws : List Word) → list_all is_plain ws ≡ true → words_of (words_joined ws) ≡ ws
words_again [] e = refl
words_again (w ∷ ws) e = words_back w ws e

-- their words
pub words_are : (ls : List Line) → list_all is_line_written ls ≡ true → map words_of (map line_bytes ls) ≡ map line_words ls
words_are [] e = refl
words_are (l ∷ ls) e = rw (words_again (line_words l) (line_plain l (left_holds (is_line_written l) _ e)), words_are ls (right_holds (is_line_written l) _ e)) refl

-- what they say
pub said_are : (ls : List Line) → list_all is_line_written ls ≡ true → list_all is_good ls ≡ true → map line_of (map line_words ls) ≡ ls
said_are [] e g = refl
said_are (l ∷ ls) e g = rw (line_back l (left_holds (is_line_written l) _ e) (left_holds (is_good l) _ g), said_are ls (right_holds (is_line_written l) _ e) (right_holds (is_good l) _ g)) refl

-- ---- the lines of a script beside that of its version

-- neither blank nor bad, nor the line of a version
abbrev pub is_own : Line → Bool
is_own line.Blank = false
is_own line.Bad = false
is_own line.Version = false
is_own l = true

heads_own : (ds : List Declaration) → list_all is_own (heads ds) ≡ true
heads_own [] = refl
heads_own (d ∷ ds) = heads_own ds

inner_own : (ls : List Line) → list_all is_inner ls ≡ true → list_all is_own ls ≡ true
inner_own [] e = refl
inner_own (l ∷ ls) e = and_from (is_own l) _ (own l (left_holds (is_inner l) _ e)) (inner_own ls (right_holds (is_inner l) _ e))
  where
    own : (l : Line) → is_inner l ≡ true → is_own l ≡ true
    own line.Blank e = absurd cc
    own line.Bad e = absurd cc
    own line.Version e = absurd cc
    own l e = refl

procedures_own : (ps : List Procedure) → list_all is_own (flat_map procedure_lines ps) ≡ true
procedures_own [] = refl
procedures_own (r ∷ ps) = join_all is_own (procedure_lines r) (flat_map procedure_lines ps) (join_all is_own (body_lines (statements r.body)) (line.End ∷ []) (inner_own (body_lines (statements r.body)) (inner (statements r.body))) refl) (procedures_own ps)

pub all_own : (ds : List Declaration) (ps : List Procedure) → list_all is_own (script_lines ds ps) ≡ true
all_own ds ps = join_all is_own (heads ds) (flat_map procedure_lines ps) (heads_own ds) (procedures_own ps)

pub own_good : (l : Line) → is_own l ≡ true → is_good l ≡ true
own_good line.Blank e = absurd cc
own_good line.Bad e = absurd cc
own_good line.Version e = absurd cc
own_good l e = refl

-- they are neither blank nor bad
pub all_good : (ds : List Declaration) (ps : List Procedure) → list_all is_good (script_lines ds ps) ≡ true
all_good ds ps = all_same is_own is_good own_good (script_lines ds ps) (all_own ds ps)

own_says : (l : Line) → is_own l ≡ true → says_something l ≡ true
own_says line.Blank e = absurd cc
own_says line.Version e = absurd cc
own_says l e = refl

kept_on : (l : Line) (ls : List Line) (b : Bool) → b ≡ true → cond b (l ∷ ls) ls ≡ l ∷ ls
kept_on l ls true e = refl
kept_on l ls false e = absurd cc

said_all : (ls : List Line) → list_all is_own ls ≡ true → filter says_something ls ≡ ls
said_all [] e = refl
said_all (l ∷ ls) e = kept_on l (filter says_something ls) (says_something l) (own_says l (left_holds (is_own l) _ e)) ∙ ap (λ t. l ∷ t) (said_all ls (right_holds (is_own l) _ e))

-- all of them say something
pub all_say : (ds : List Declaration) (ps : List Procedure) → filter says_something (script_lines ds ps) ≡ script_lines ds ps
all_say ds ps = said_all (script_lines ds ps) (all_own ds ps)
