-- What words mean: numbers, terms, kinds and operators, and the lines that can be written.
use Rattle.std.proofs.Common.{◌≡◌, ◌≢◌, inl, inr, Bool, true, false, ◌&&◌, List, [], ◌∷◌, map, Option, Some, None, refl, ap}
use Rattle.std.specs.Prelude.{codes, unwrap_or, is_none, if◌then◌else◌, ℤ, pos}
use Rattle.std.specs.List.{list_any, list_all, AllZip}
use Rattle.std.specs.Str.{bytes_eq}
use Rattle.std.specs.Fmt.{signed_decimal}
use Rattle.std.proofs.lemmas.Bool.{and_from}
use Rattle.std.proofs.lemmas.Slice.Eq.{bytes_eq-Decides}
use Rattle.lvish_syntax.specs.Words.{Word, is_name}
use Rattle.lvish_checks.specs.Vocabulary.{SimpleKind, Operator, Term, Line, Bad, Declare, Proc, Do, If, While}
use Rattle.lvish_syntax.specs.Written.{is_within, is_term_written, is_command_written, is_declaration_written}
use Rattle.lvish_checks.specs.Form.{is_number_word, number_spelled, is_bad_number, value_of_number, number_word, term_of, all_of, only, simple_kind, operator_of, or_bad}
use Rattle.lvish_checks.specs.Spelling.{term_word, kind_word, operator_word, line_words, AgreesWith, Agree}
use Rattle.lvish_checks.proofs.Cuts.{left_fails, right_fails}
use Rattle.lvish_checks.proofs.Values.{Each, each_if, each_map, each_then, each_weaker}
use Rattle.lvish_checks.proofs.Decimals.{number_within, number_back}

-- ---- words that agree

-- a word agrees with another, unless it is a number word that is no number
abbrev pub Means : Word → Word → Type 0
Means v w = is_bad_number v ≡ false → AgreesWith v w

abbrev pub Mean : List Word → List Word → Type 0
Mean vs ws = AllZip Means vs ws

pub same : (v w : Word) → bytes_eq v w ≡ true → Means v w
same v w e good = inl ((bytes_eq-Decides v w).0 e)

pub itself : (w : Word) → Means w w
itself w good = inl refl

pub themselves : (ws : List Word) → Mean ws ws
themselves [] = tt
themselves (w ∷ ws) = (itself w, themselves ws)

pub agree : (vs ws : List Word) → list_any is_bad_number vs ≡ false → Mean vs ws → Agree vs ws
agree [] [] good h = tt
agree [] (w ∷ ws) good h = h
agree (v ∷ vs) [] good h = h
agree (v ∷ vs) (w ∷ ws) good h = (h.0 (left_fails (is_bad_number v) _ good), agree vs ws (right_fails (is_bad_number v) _ good) h.1)

-- ---- what lines say

-- whether a line has only names and numbers that can stand in it
abbrev pub is_line_written : Line → Bool
is_line_written (Declare d) = is_declaration_written d
is_line_written (Proc n xs) = is_name n && list_all is_name xs
is_line_written (Do c) = is_command_written c
is_line_written (If t) = is_term_written t
is_line_written (While t) = is_term_written t
is_line_written l = true

-- a part of a line can be written, and these words mean its words
abbrev pub Part : {X : Type 0} → (X → Bool) → (X → List Word) → List Word → X → Type 0
Part p words ws x = (p x ≡ true) × Mean ws (words x)

-- a line can be written, and these words mean its words if it isn't bad
abbrev pub Spelled : List Word → Line → Type 0
Spelled ws l = (is_line_written l ≡ true) × (l ≢ Bad → Mean ws (line_words l))

pub bad : (ws : List Word) → Spelled ws Bad
bad ws = (refl, λ form. absurd (form refl))

pub spelled_if : (ws : List Word) (b : Bool) (x y : Line) → (b ≡ true → Spelled ws x) → Spelled ws y → Spelled ws (if b then x else y)
spelled_if ws true x y h k = h refl
spelled_if ws false x y h k = k

-- a line where a test holds, and a bad one where it doesn't
pub or_bad_if : (ws : List Word) (b : Bool) (x : Line) → (b ≡ true → Spelled ws x) → Spelled ws (if b then x else Bad)
or_bad_if ws b x h = spelled_if ws b x Bad h (bad ws)

pub spelled_or_bad : (ws : List Word) (m : Option Line) → Each (Spelled ws) m → Spelled ws (or_bad m)
spelled_or_bad ws None h = bad ws
spelled_or_bad ws (Some l) h = h

-- ---- numbers and terms

abbrev pub IsNumber : Word → ℤ → Type 0
IsNumber w z = (is_within z ≡ true) × Means w (signed_decimal z)

numeral : (w : Word) (m : Option ℤ) → number_spelled w ≡ m → Each (λ z. is_within z ≡ true) m → is_number_word w ≡ true → IsNumber w (unwrap_or m (pos 0))
numeral w None e h k = (refl, λ good. let some = there (is_number_word w) _ k good in let none : is_none (number_spelled w) ≡ true = ap is_none e in absurd cc)
  where
    there : (a b : Bool) → a ≡ true → (a && b) ≡ false → b ≡ false
    there true b e h = h
    there false b e h = absurd cc
numeral w (Some z) e h k = (h, λ good. inr (z, e, number_back z h))

value_means : (w : Word) → is_number_word w ≡ true → IsNumber w (value_of_number w)
value_means w e = numeral w (number_spelled w) refl (number_within w) e

pub number_means : (w : Word) → Each (IsNumber w) (number_word w)
number_means w = each_if (IsNumber w) (is_number_word w) _ None (value_means w) (λ e. tt)

-- a word means that of the term for which it stands
abbrev pub IsTerm : Word → Term → Type 0
IsTerm w t = (is_term_written t ≡ true) × Means w (term_word t)

pub term_means : (w : Word) → Each (IsTerm w) (term_of w)
term_means w = each_if (IsTerm w) (is_number_word w) _ _ (value_means w) (λ e. each_if (IsTerm w) (is_name w) _ None (λ f. (f, itself w)) (λ f. tt))

pub all_mean : {X : Type 0} (f : Word → Option X) (p : X → Bool) (word : X → Word) → ((w : Word) → Each (λ x. (p x ≡ true) × Means w (word x)) (f w)) → (ws : List Word) → Each (Part (list_all p) (map word) ws) (all_of f ws)
all_mean f p word h [] = (refl, tt)
all_mean f p word h (w ∷ ws) =
    each_then (λ x. (p x ≡ true) × Means w (word x)) _ _ (f w) (h w) (λ x e.
    each_map (Part (list_all p) (map word) ws) (Part (list_all p) (map word) (w ∷ ws)) (λ xs. x ∷ xs) (all_of f ws) (all_mean f p word h ws) (λ xs g. (and_from (p x) _ e.0 g.0, (e.1, g.1))))

-- words are one word, which means that of the term
abbrev pub IsOnly : List Word → Term → Type 0
IsOnly ws t = Part is_term_written (λ t. term_word t ∷ []) ws t

pub only_means : (ws : List Word) → Each (IsOnly ws) (only term_of ws)
only_means [] = tt
only_means (w ∷ []) = each_weaker (IsTerm w) (IsOnly (w ∷ [])) (term_of w) (term_means w) (λ t e. (e.0, (e.1, tt)))
only_means (w ∷ v ∷ ws) = tt

-- a word means that of the kind or the operator for which it stands
abbrev pub IsKind : Word → SimpleKind → Type 0
IsKind w k = Means w (kind_word k)

abbrev pub IsOperator : Word → Operator → Type 0
IsOperator w o = Means w (operator_word o)

pub kind_means : (w : Word) → Each (IsKind w) (simple_kind w)
kind_means w =
    each_if (IsKind w) (bytes_eq w (codes "cell")) _ _ (same w _) (λ e.
    each_if (IsKind w) (bytes_eq w (codes "set")) _ _ (same w _) (λ e.
    each_if (IsKind w) (bytes_eq w (codes "max")) _ None (same w _) (λ e. tt)))

pub operator_means : (w : Word) → Each (IsOperator w) (operator_of w)
operator_means w =
    each_if (IsOperator w) (bytes_eq w (codes "+")) _ _ (same w _) (λ e.
    each_if (IsOperator w) (bytes_eq w (codes "-")) _ _ (same w _) (λ e.
    each_if (IsOperator w) (bytes_eq w (codes "*")) _ _ (same w _) (λ e.
    each_if (IsOperator w) (bytes_eq w (codes "/")) _ _ (same w _) (λ e.
    each_if (IsOperator w) (bytes_eq w (codes "%")) _ _ (same w _) (λ e.
    each_if (IsOperator w) (bytes_eq w (codes "<")) _ _ (same w _) (λ e.
    each_if (IsOperator w) (bytes_eq w (codes "=")) _ None (same w _) (λ e. tt)))))))
