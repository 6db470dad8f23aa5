-- What a line says can be written, and the line has the words of its form, and no others.
use Rattle.std.proofs.Common.{◌≡◌, ◌≢◌, ℕ, suc, Bool, true, false, ◌&&◌, List, [], ◌∷◌, ◌++◌, length, map, drop, Option, Some, None, refl, sym, ap, subst, ◌∙◌, arith, append-nil}
use Rattle.std.specs.Prelude.{codes, ◌==◌, take_while, if◌then◌else◌, ℤ}
use Rattle.std.specs.Option.{option_map}
use Rattle.std.specs.List.{list_any, list_all}
use Rattle.std.specs.Str.{bytes_eq}
use Rattle.std.specs.Fmt.{signed_decimal}
use Rattle.std.proofs.lemmas.Bool.{and_from}
use Rattle.std.proofs.lemmas.Bool.Decides.{nat_tests}
use Rattle.std.proofs.lemmas.List.{take-append-drop}
use Rattle.std.proofs.lemmas.List.Folds.{length-prefix_len}
use Rattle.std.proofs.lemmas.List.Sums.{take_while-cons}
use Rattle.std.proofs.lemmas.Slice.Eq.{bytes_eq-Decides}
use Rattle.lvish_syntax.specs.Words.{Word, is_name}
use Rattle.lvish_checks.specs.Vocabulary.{Cell, Set, Max, VariableKind, Simple, Map, Pair, Tally, Term, LetValue, Same, Combined, Threshold, Any, In, Has, Least, Total, Variable, Command, Line, Bad, Versioned as Version, Declare, Do, If, While, Else, End}
use Rattle.lvish_syntax.specs.Written.{is_within, is_term_written, is_value_written, is_threshold_written, are_members_written, is_command_written}
use Rattle.lvish_syntax.specs.declared.command.Command.TheVariants as command
use Rattle.lvish_checks.specs.Form.{is_bad_number, number_word, term_of, terms_of, numbers_of, only, simple_kind, operator_of, or_bad, variable_line, pair_kind, pair_line, pool_line, proc_line, value_of, let_line, put_of, put_line, threshold_after, threshold_of, get_at, get_of, get_line, run_line, handle_line, freeze_each, freeze_after, freeze_of, freeze_line, block_line, bare_line, version_line, declaration_form, command_form, block_form, begins_declaration, begins_command, line_of}
use Rattle.lvish_checks.specs.Spelling.{term_word, value_words, threshold_words, pool_words, command_words, declaration_words, line_words, Agree}
use Rattle.lvish_checks.proofs.Cuts.{left_holds, right_holds}
use Rattle.lvish_checks.proofs.Values.{Each, each_if, each_map, each_then, each_or, each_weaker}
use Rattle.lvish_checks.proofs.Meanings.{Means, Mean, same, itself, themselves, agree, is_line_written, Part, Spelled, bad, spelled_if, or_bad_if, spelled_or_bad, IsNumber, number_means, IsTerm, term_means, all_mean, IsOnly, only_means, IsKind, IsOperator, kind_means, operator_means}

-- ---- declarations

variable_spelled : (k w : Word) (kind : VariableKind) → Means k w → ((n : Word) → declaration_words (Variable n kind) ≡ w ∷ n ∷ []) → (ws : List Word) → Spelled (k ∷ ws) (variable_line kind ws)
unfolding variable_line
variable_spelled k w kind h f [] = bad (k ∷ [])
variable_spelled k w kind h f (n ∷ []) = or_bad_if (k ∷ n ∷ []) (is_name n) _ (λ e. (e, λ form. subst (Mean (k ∷ n ∷ [])) (sym (f n)) (h, (itself n, tt))))
variable_spelled k w kind h f (n ∷ m ∷ ws) = bad (k ∷ n ∷ m ∷ ws)

-- two words mean those of the sides of a pair
abbrev IsPair : Word → Word → VariableKind → Type 0
IsPair a b (Pair x y) = IsKind a x × IsKind b y
IsPair a b p = ⊥

pair_spelled : (k : Word) → Means k (codes "pair") → (ws : List Word) → Spelled (k ∷ ws) (pair_line ws)
unfolding pair_line
pair_spelled k h [] = bad (k ∷ [])
pair_spelled k h (n ∷ []) = bad (k ∷ n ∷ [])
pair_spelled k h (n ∷ a ∷ []) = bad (k ∷ n ∷ a ∷ [])
pair_spelled k h (n ∷ a ∷ b ∷ []) =
    or_bad_if (k ∷ n ∷ a ∷ b ∷ []) (is_name n) _ (λ e. spelled_or_bad (k ∷ n ∷ a ∷ b ∷ []) _
    (each_map (IsPair a b) (Spelled (k ∷ n ∷ a ∷ b ∷ [])) (λ p. Declare (Variable n p)) (pair_kind a b)
    (each_then (IsKind a) (IsPair a b) _ (simple_kind a) (kind_means a) (λ x f.
    each_map (IsKind b) (IsPair a b) (λ y. Pair x y) (simple_kind b) (kind_means b) (λ y g. (f, g))))
    (λ p f. (e, λ form. of_pair p f))))
  where
    of_pair : (p : VariableKind) → IsPair a b p → Mean (k ∷ n ∷ a ∷ b ∷ []) (declaration_words (Variable n p))
    of_pair (Simple s) f = absurd f
    of_pair Map f = absurd f
    of_pair Tally f = absurd f
    of_pair (Pair x y) f = (h, (itself n, (f.0, (f.1, tt))))
pair_spelled k h (n ∷ a ∷ b ∷ c ∷ ws) = bad (k ∷ n ∷ a ∷ b ∷ c ∷ ws)

pool_spelled : (k : Word) → Means k (codes "pool") → (ws : List Word) → Spelled (k ∷ ws) (pool_line ws)
unfolding pool_line
pool_spelled k h [] = bad (k ∷ [])
pool_spelled k h (p ∷ []) = bad (k ∷ p ∷ [])
pool_spelled k h (p ∷ v ∷ []) = or_bad_if (k ∷ p ∷ v ∷ []) (is_name p && is_name v) _ (λ e. (e, λ form. (h, themselves (p ∷ v ∷ []))))
pool_spelled k h (p ∷ v ∷ u ∷ ws) = bad (k ∷ p ∷ v ∷ u ∷ ws)

proc_spelled : (k : Word) → Means k (codes "proc") → (ws : List Word) → Spelled (k ∷ ws) (proc_line ws)
unfolding proc_line
proc_spelled k h [] = bad (k ∷ [])
proc_spelled k h (n ∷ xs) = or_bad_if (k ∷ n ∷ xs) (is_name n && list_all is_name xs) _ (λ e. (e, λ form. (h, themselves (n ∷ xs))))

-- ---- statements of one line

-- a statement of one line, by its words
abbrev IsCommand : List Word → Command → Type 0
IsCommand ws c = Part is_command_written command_words ws c

done : (ws : List Word) (m : Option Command) → Each (IsCommand ws) m → Spelled ws (or_bad (option_map (λ c. Do c) m))
done ws m h = spelled_or_bad ws _ (each_map (IsCommand ws) (Spelled ws) (λ c. Do c) m h (λ c e. (e.0, λ form. e.1)))

abbrev IsValue : List Word → LetValue → Type 0
IsValue ws v = Part is_value_written value_words ws v

value_means_words : (ws : List Word) → Each (IsValue ws) (value_of ws)
value_means_words [] = tt
value_means_words (a ∷ []) = each_map (IsTerm a) (IsValue (a ∷ [])) (λ t. Same t) (term_of a) (term_means a) (λ t e. (e.0, (e.1, tt)))
value_means_words (a ∷ op ∷ []) = tt
value_means_words (a ∷ op ∷ b ∷ []) =
    each_then (IsTerm a) (IsValue (a ∷ op ∷ b ∷ [])) _ (term_of a) (term_means a) (λ s e.
    each_then (IsOperator op) (IsValue (a ∷ op ∷ b ∷ [])) _ (operator_of op) (operator_means op) (λ o f.
    each_map (IsTerm b) (IsValue (a ∷ op ∷ b ∷ [])) (λ t. Combined s o t) (term_of b) (term_means b) (λ t g. (and_from (is_term_written s) _ e.0 g.0, (e.1, (f, (g.1, tt)))))))
value_means_words (a ∷ op ∷ b ∷ c ∷ ws) = tt

let_spelled : (k : Word) → Means k (codes "let") → (ws : List Word) → Spelled (k ∷ ws) (let_line ws)
unfolding let_line
let_spelled k h [] = bad (k ∷ [])
let_spelled k h (x ∷ ws) =
    or_bad_if (k ∷ x ∷ ws) (is_name x) _ (λ e. spelled_or_bad (k ∷ x ∷ ws) _
    (each_map (IsValue ws) (Spelled (k ∷ x ∷ ws)) (λ v. Do (command.Let x v)) (value_of ws) (value_means_words ws) (λ v f. (and_from (is_name x) _ e f.0, λ form. (h, (itself x, f.1))))))

put_means : (k : Word) → Means k (codes "put") → (v : Word) → is_name v ≡ true → (ws : List Word) → Each (IsCommand (k ∷ v ∷ ws)) (put_of v ws)
put_means k h v n [] = tt
put_means k h v n (t ∷ []) = each_map (IsTerm t) (IsCommand (k ∷ v ∷ t ∷ [])) (λ a. command.Put v a) (term_of t) (term_means t) (λ a e. (and_from (is_name v) _ n e.0, (h, (itself v, (e.1, tt)))))
put_means k h v n (p ∷ t ∷ []) =
    each_then (IsTerm p) (IsCommand (k ∷ v ∷ p ∷ t ∷ [])) _ (term_of p) (term_means p) (λ a e.
    each_map (IsTerm t) (IsCommand (k ∷ v ∷ p ∷ t ∷ [])) (λ b. command.PutAt v a b) (term_of t) (term_means t) (λ b f.
    (and_from (is_name v) _ n (and_from (is_term_written a) _ e.0 f.0), (h, (itself v, (e.1, (f.1, tt)))))))
put_means k h v n (p ∷ t ∷ u ∷ ws) = tt

put_spelled : (k : Word) → Means k (codes "put") → (ws : List Word) → Spelled (k ∷ ws) (put_line ws)
unfolding put_line
put_spelled k h [] = bad (k ∷ [])
put_spelled k h (v ∷ ws) = or_bad_if (k ∷ v ∷ ws) (is_name v) _ (λ e. done (k ∷ v ∷ ws) (put_of v ws) (put_means k h v e ws))

abbrev IsThreshold : List Word → Threshold → Type 0
IsThreshold ws r = Part is_threshold_written threshold_words ws r

pub not_nil : (n : ℕ) → (suc n == 0) ≡ false
not_nil n = grind (arith, nat_tests)

any_means : (k : Word) → Means k (codes "any") → (ws : List Word) → Each (IsThreshold (k ∷ ws)) (if length ws == 0 then Some Any else None)
any_means k h [] = (refl, (h, tt))
any_means k h (w ∷ ws) = each_if (IsThreshold (k ∷ w ∷ ws)) (length (w ∷ ws) == 0) _ None (λ e. let f = not_nil (length ws) in absurd cc) (λ e. tt)

-- numbers, of which there is one at least
abbrev IsMembers : List Word → List ℤ → Type 0
IsMembers ws zs = Part are_members_written (map signed_decimal) ws zs

in_means : (k : Word) → Means k (codes "in") → (ws : List Word) → Each (IsThreshold (k ∷ ws)) (if length ws == 0 then None else option_map (λ zs. In zs) (numbers_of ws))
in_means k h [] = tt
in_means k h (w ∷ ws) =
    each_if (IsThreshold (k ∷ w ∷ ws)) (length (w ∷ ws) == 0) None _ (λ f. tt) (λ f.
    each_map (IsMembers (w ∷ ws)) (IsThreshold (k ∷ w ∷ ws)) (λ zs. In zs) (numbers_of (w ∷ ws))
    (each_then (IsNumber w) (IsMembers (w ∷ ws)) _ (number_word w) (number_means w) (λ z e.
    each_map (Part (list_all is_within) (map signed_decimal) ws) (IsMembers (w ∷ ws)) (λ zs. z ∷ zs) (numbers_of ws) (all_mean number_word is_within signed_decimal number_means ws) (λ zs g. (and_from (is_within z) _ e.0 g.0, (e.1, g.1)))))
    (λ zs g. (g.0, (h, g.1))))

term_threshold : (k w : Word) (f : Term → Threshold) → Means k w → ((t : Term) → is_threshold_written (f t) ≡ is_term_written t) → ((t : Term) → threshold_words (f t) ≡ w ∷ term_word t ∷ []) → (ws : List Word) → Each (IsThreshold (k ∷ ws)) (option_map f (only term_of ws))
term_threshold k w f h p q ws = each_map (IsOnly ws) (IsThreshold (k ∷ ws)) f (only term_of ws) (only_means ws) (λ t e. (p t ∙ e.0, subst (Mean (k ∷ ws)) (sym (q t)) (h, e.1)))

threshold_after_means : (k : Word) (ws : List Word) → Each (IsThreshold (k ∷ ws)) (threshold_after k ws)
threshold_after_means k ws =
    each_if (IsThreshold (k ∷ ws)) (bytes_eq k (codes "any")) _ _ (λ e. any_means k (same k _ e) ws) (λ e.
    each_if (IsThreshold (k ∷ ws)) (bytes_eq k (codes "in")) _ _ (λ e. in_means k (same k _ e) ws) (λ e.
    each_if (IsThreshold (k ∷ ws)) (bytes_eq k (codes "has")) _ _ (λ e. term_threshold k (codes "has") (λ t. Has t) (same k _ e) (λ t. refl) (λ t. refl) ws) (λ e.
    each_if (IsThreshold (k ∷ ws)) (bytes_eq k (codes "least")) _ _ (λ e. term_threshold k (codes "least") (λ t. Least t) (same k _ e) (λ t. refl) (λ t. refl) ws) (λ e.
    each_if (IsThreshold (k ∷ ws)) (bytes_eq k (codes "total")) _ None (λ e. term_threshold k (codes "total") (λ t. Total t) (same k _ e) (λ t. refl) (λ t. refl) ws) (λ e. tt)))))

threshold_means : (ws : List Word) → Each (IsThreshold ws) (threshold_of ws)
threshold_means [] = tt
threshold_means (k ∷ ws) = threshold_after_means k ws

module _ (k x v : Word) (h : Means k (codes "get")) (n : (is_name x && is_name v) ≡ true) where
  get_at_means : (ws : List Word) → Each (IsCommand (k ∷ x ∷ v ∷ ws)) (get_at x v ws)
  get_at_means [] = tt
  get_at_means (w ∷ ws) =
      each_then (IsTerm w) (IsCommand (k ∷ x ∷ v ∷ w ∷ ws)) _ (term_of w) (term_means w) (λ t f.
      each_map (IsThreshold ws) (IsCommand (k ∷ x ∷ v ∷ w ∷ ws)) (λ r. command.GetAt x v t r) (threshold_of ws) (threshold_means ws) (λ r g.
      (and_from (is_name x && is_name v) _ n (and_from (is_term_written t) _ f.0 g.0), (h, (itself x, (itself v, (f.1, g.1)))))))

  get_means : (ws : List Word) → Each (IsCommand (k ∷ x ∷ v ∷ ws)) (get_of x v ws)
  get_means ws =
      each_or (IsCommand (k ∷ x ∷ v ∷ ws)) _ (get_at x v ws)
      (each_map (IsThreshold ws) (IsCommand (k ∷ x ∷ v ∷ ws)) (λ r. command.Get x v r) (threshold_of ws) (threshold_means ws) (λ r g. (and_from (is_name x && is_name v) _ n g.0, (h, (itself x, (itself v, g.1))))))
      (get_at_means ws)

get_spelled : (k : Word) → Means k (codes "get") → (ws : List Word) → Spelled (k ∷ ws) (get_line ws)
unfolding get_line
get_spelled k h [] = bad (k ∷ [])
get_spelled k h (x ∷ []) = bad (k ∷ x ∷ [])
get_spelled k h (x ∷ v ∷ ws) = or_bad_if (k ∷ x ∷ v ∷ ws) (is_name x && is_name v) _ (λ e. done (k ∷ x ∷ v ∷ ws) (get_of x v ws) (get_means k x v h e ws))

run_spelled : (k w : Word) (f : Word → List Term → Command) → Means k w → ((n : Word) (ts : List Term) → is_command_written (f n ts) ≡ (is_name n && list_all is_term_written ts)) → ((n : Word) (ts : List Term) → command_words (f n ts) ≡ w ∷ n ∷ map term_word ts) → (ws : List Word) → Spelled (k ∷ ws) (run_line f ws)
unfolding run_line
run_spelled k w f h written words [] = bad (k ∷ [])
run_spelled k w f h written words (n ∷ ts) =
    or_bad_if (k ∷ n ∷ ts) (is_name n) _ (λ e. spelled_or_bad (k ∷ n ∷ ts) _
    (each_map (Part (list_all is_term_written) (map term_word) ts) (Spelled (k ∷ n ∷ ts)) (λ xs. Do (f n xs)) (terms_of ts) (all_mean term_of is_term_written term_word term_means ts) (λ xs g.
    (written n xs ∙ and_from (is_name n) _ e g.0, λ form. subst (Mean (k ∷ n ∷ ts)) (sym (words n xs)) (h, (itself n, g.1))))))

handle_spelled : (k : Word) → Means k (codes "handle") → (ws : List Word) → Spelled (k ∷ ws) (handle_line ws)
unfolding handle_line
handle_spelled k h [] = bad (k ∷ [])
handle_spelled k h (p ∷ []) = bad (k ∷ p ∷ [])
handle_spelled k h (p ∷ n ∷ []) = or_bad_if (k ∷ p ∷ n ∷ []) (is_name p && is_name n) _ (λ e. (e, λ form. (h, themselves (p ∷ n ∷ []))))
handle_spelled k h (p ∷ n ∷ m ∷ ws) = bad (k ∷ p ∷ n ∷ m ∷ ws)

-- the names at the front of words, and the words after them
abbrev names : List Word → List Word
names ws = take_while is_name ws

abbrev beyond : List Word → List Word
beyond ws = drop (length (names ws)) ws

whole : (ws : List Word) → names ws ++ beyond ws ≡ ws
whole ws = ap (λ n. names ws ++ drop n ws) (length-prefix_len is_name ws) ∙ take-append-drop _ ws

begun : (ps rest : List Word) → (length ps == 0) ≡ false → pool_words ps ++ rest ≡ codes "after" ∷ (ps ++ rest)
begun [] rest e = absurd cc
begun (p ∷ ps) rest e = refl

all_names : (ws : List Word) → list_all is_name (names ws) ≡ true
all_names [] = refl
all_names (w ∷ ws) = ap (list_all is_name) (take_while-cons is_name w ws) ∙ taken (is_name w) refl (all_names ws)
  where
    taken : (b : Bool) → is_name w ≡ b → list_all is_name (names ws) ≡ true → list_all is_name (if b then w ∷ names ws else []) ≡ true
    taken true e h = and_from (is_name w) _ e h
    taken false e h = refl

module _ (x v : Word) (n : (is_name x && is_name v) ≡ true) where
  -- a freeze that can be written, with these words after its two names
  abbrev IsFreeze : List Word → Command → Type 0
  IsFreeze ws c = (is_command_written c ≡ true) × (command_words c ≡ codes "freeze" ∷ x ∷ v ∷ ws)

  freeze_again : (us ws : List Word) (m : Option Command) → us ≡ ws → Each (IsFreeze us) m → Each (IsFreeze ws) m
  freeze_again us ws m e h = subst (λ t. Each (IsFreeze t) m) e h

  each_means : (ps ws : List Word) → list_all is_name ps ≡ true → Each (IsFreeze (pool_words ps ++ ws)) (freeze_each x v ps ws)
  each_means ps [] f = (and_from (is_name x && is_name v) _ n f, ap (λ t. codes "freeze" ∷ x ∷ v ∷ t) (sym (append-nil (pool_words ps))))
  each_means ps (k ∷ []) f = tt
  each_means ps (k ∷ m ∷ []) f =
      each_if (IsFreeze (pool_words ps ++ k ∷ m ∷ [])) (bytes_eq k (codes "each") && is_name m) _ None
      (λ e. (and_from (is_name x && is_name v) _ n (and_from (list_all is_name ps) _ f (right_holds (bytes_eq k (codes "each")) _ e)), ap (λ t. codes "freeze" ∷ x ∷ v ∷ (pool_words ps ++ t ∷ m ∷ [])) (sym ((bytes_eq-Decides k (codes "each")).0 (left_holds (bytes_eq k (codes "each")) _ e))))) (λ e. tt)
  each_means ps (k ∷ m ∷ o ∷ ws) f = tt

  after_means : (ws : List Word) → Each (IsFreeze (codes "after" ∷ ws)) (freeze_after x v ws)
  after_means ws =
      each_if (IsFreeze (codes "after" ∷ ws)) (length (names ws) == 0) None _ (λ e. tt) (λ e.
      freeze_again (pool_words (names ws) ++ beyond ws) (codes "after" ∷ ws) _ (begun (names ws) (beyond ws) e ∙ ap (λ t. codes "after" ∷ t) (whole ws)) (each_means (names ws) (beyond ws) (all_names ws)))

  freeze_means : (ws : List Word) → Each (IsFreeze ws) (freeze_of x v ws)
  freeze_means [] = (and_from (is_name x && is_name v) _ n refl, refl)
  freeze_means (k ∷ ws) =
      each_if (IsFreeze (k ∷ ws)) (bytes_eq k (codes "after")) _ _
      (λ e. freeze_again (codes "after" ∷ ws) (k ∷ ws) (freeze_after x v ws) (ap (λ t. t ∷ ws) (sym ((bytes_eq-Decides k (codes "after")).0 e))) (after_means ws))
      (λ e. each_means [] (k ∷ ws) refl)

freeze_spelled : (k : Word) → Means k (codes "freeze") → (ws : List Word) → Spelled (k ∷ ws) (freeze_line ws)
unfolding freeze_line
freeze_spelled k h [] = bad (k ∷ [])
freeze_spelled k h (x ∷ []) = bad (k ∷ x ∷ [])
freeze_spelled k h (x ∷ v ∷ ws) =
    or_bad_if (k ∷ x ∷ v ∷ ws) (is_name x && is_name v) _ (λ e. done (k ∷ x ∷ v ∷ ws) (freeze_of x v ws)
    (each_weaker (IsFreeze x v e ws) (IsCommand (k ∷ x ∷ v ∷ ws)) (freeze_of x v ws) (freeze_means x v e ws) (λ c f. (f.0, subst (Mean (k ∷ x ∷ v ∷ ws)) (sym f.1) (h, themselves (x ∷ v ∷ ws))))))

-- ---- blocks, and the version

block_spelled : (k : Word) (f : Term → Line) → ((t : Term) (ws : List Word) → IsOnly ws t → Spelled (k ∷ ws) (f t)) → (ws : List Word) → Spelled (k ∷ ws) (block_line f ws)
unfolding block_line
block_spelled k f g ws = spelled_or_bad (k ∷ ws) _ (each_map (IsOnly ws) (Spelled (k ∷ ws)) f (only term_of ws) (only_means ws) (λ t e. g t ws e))

bare_spelled : (k : Word) (l : Line) → Spelled (k ∷ []) l → (ws : List Word) → Spelled (k ∷ ws) (bare_line l ws)
unfolding bare_line
bare_spelled k l h [] = h
bare_spelled k l h (w ∷ ws) = bad (k ∷ w ∷ ws)

version_spelled : (k : Word) → Means k (codes "lvish") → (ws : List Word) → Spelled (k ∷ ws) (version_line ws)
unfolding version_line
version_spelled k h [] = bad (k ∷ [])
version_spelled k h (n ∷ []) = or_bad_if (k ∷ n ∷ []) (bytes_eq n (codes "2")) Version (λ e. (refl, λ form. (h, (same n _ e, tt))))
version_spelled k h (n ∷ m ∷ ws) = bad (k ∷ n ∷ m ∷ ws)

-- ---- lines

declaration_form_spelled : (k : Word) (ws : List Word) → Spelled (k ∷ ws) (declaration_form k ws)
declaration_form_spelled k ws =
    spelled_if (k ∷ ws) (bytes_eq k (codes "cell")) _ _ (λ e. variable_spelled k (codes "cell") (Simple Cell) (same k _ e) (λ n. refl) ws)
    (spelled_if (k ∷ ws) (bytes_eq k (codes "set")) _ _ (λ e. variable_spelled k (codes "set") (Simple Set) (same k _ e) (λ n. refl) ws)
    (spelled_if (k ∷ ws) (bytes_eq k (codes "max")) _ _ (λ e. variable_spelled k (codes "max") (Simple Max) (same k _ e) (λ n. refl) ws)
    (spelled_if (k ∷ ws) (bytes_eq k (codes "map")) _ _ (λ e. variable_spelled k (codes "map") Map (same k _ e) (λ n. refl) ws)
    (spelled_if (k ∷ ws) (bytes_eq k (codes "pair")) _ _ (λ e. pair_spelled k (same k _ e) ws)
    (spelled_if (k ∷ ws) (bytes_eq k (codes "tally")) _ _ (λ e. variable_spelled k (codes "tally") Tally (same k _ e) (λ n. refl) ws)
    (spelled_if (k ∷ ws) (bytes_eq k (codes "pool")) _ _ (λ e. pool_spelled k (same k _ e) ws)
    (or_bad_if (k ∷ ws) (bytes_eq k (codes "proc")) _ (λ e. proc_spelled k (same k _ e) ws))))))))

command_form_spelled : (k : Word) (ws : List Word) → Spelled (k ∷ ws) (command_form k ws)
command_form_spelled k ws =
    spelled_if (k ∷ ws) (bytes_eq k (codes "let")) _ _ (λ e. let_spelled k (same k _ e) ws)
    (spelled_if (k ∷ ws) (bytes_eq k (codes "put")) _ _ (λ e. put_spelled k (same k _ e) ws)
    (spelled_if (k ∷ ws) (bytes_eq k (codes "get")) _ _ (λ e. get_spelled k (same k _ e) ws)
    (spelled_if (k ∷ ws) (bytes_eq k (codes "fork")) _ _ (λ e. run_spelled k (codes "fork") (λ n ts. command.Fork n ts) (same k _ e) (λ n ts. refl) (λ n ts. refl) ws)
    (spelled_if (k ∷ ws) (bytes_eq k (codes "call")) _ _ (λ e. run_spelled k (codes "call") (λ n ts. command.Call n ts) (same k _ e) (λ n ts. refl) (λ n ts. refl) ws)
    (spelled_if (k ∷ ws) (bytes_eq k (codes "handle")) _ _ (λ e. handle_spelled k (same k _ e) ws)
    (or_bad_if (k ∷ ws) (bytes_eq k (codes "freeze")) _ (λ e. freeze_spelled k (same k _ e) ws)))))))

block_form_spelled : (k : Word) (ws : List Word) → Spelled (k ∷ ws) (block_form k ws)
block_form_spelled k ws =
    spelled_if (k ∷ ws) (bytes_eq k (codes "if")) _ _ (λ e. block_spelled k (λ t. If t) (λ t vs f. (f.0, λ form. (same k _ e, f.1))) ws)
    (spelled_if (k ∷ ws) (bytes_eq k (codes "while")) _ _ (λ e. block_spelled k (λ t. While t) (λ t vs f. (f.0, λ form. (same k _ e, f.1))) ws)
    (spelled_if (k ∷ ws) (bytes_eq k (codes "else")) _ _ (λ e. bare_spelled k Else (refl, λ form. (same k _ e, tt)) ws)
    (or_bad_if (k ∷ ws) (bytes_eq k (codes "end")) _ (λ e. bare_spelled k End (refl, λ form. (same k _ e, tt)) ws))))

line_spelled : (ws : List Word) → Spelled ws (line_of ws)
line_spelled [] = (refl, λ form. tt)
line_spelled (k ∷ ws) =
    spelled_if (k ∷ ws) (begins_declaration k) _ _ (λ e. declaration_form_spelled k ws)
    (spelled_if (k ∷ ws) (begins_command k) _ _ (λ e. command_form_spelled k ws)
    (spelled_if (k ∷ ws) (bytes_eq k (codes "lvish")) _ _ (λ e. version_spelled k (same k _ e) ws) (block_form_spelled k ws)))

pub its_words : (ws : List Word) → list_any is_bad_number ws ≡ false → line_of ws ≢ Bad → Agree ws (line_words (line_of ws))
its_words ws good form = agree ws (line_words (line_of ws)) good ((line_spelled ws).1 form)

-- what the lines of a text say can be written
pub said_written : (words : List (List Word)) → list_all is_line_written (map line_of words) ≡ true
said_written [] = refl
said_written (ws ∷ words) = and_from (is_line_written (line_of ws)) _ (line_spelled ws).0 (said_written words)
