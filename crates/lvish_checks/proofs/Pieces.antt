-- The words of a line, piece by piece between its separators.
use Rattle.std.proofs.Common.{◌≡◌, ℕ, ◌+◌, ◌<◌, ◌≤◌, Bool, true, false, not, cond, List, [], ◌∷◌, ◌++◌, length, take, drop, get_or, refl, sym, ap, ◌∙◌, arith, take_all, ◌==◌, subst}
use Rattle.std.specs.Prelude.{filter, take_while, if◌then◌else◌, nat_lt}
use Rattle.std.specs.List.{slice_split, position_or_len}
use Rattle.std.proofs.lemmas.List.Sums.{take_while-cons, fails_before_first}
use Rattle.std.proofs.lemmas.List.Splits.{slice_split_first, slice_split_none}
use Rattle.std.proofs.Math.Dec.{eqb-suc-zero}
use Rattle.std.proofs.lemmas.Bool.{ltb-true, ltb-false}
use Rattle.std.proofs.lemmas.List.{append-nil, append_assoc}
use Rattle.lvish_syntax.specs.Words.{Word}
use Rattle.lvish_checks.specs.Text.{is_separator, is_comment, words_of}

-- the words among pieces
abbrev pub kept : List Word → List Word
kept pieces = take_while (λ w. not (is_comment w)) (filter (λ w. not (length w == 0)) pieces)

-- a piece, unless it is empty
abbrev pub unless_empty : Word → List Word
unless_empty w = if length w == 0 then [] else w ∷ []

nonempty : (b : ℕ) (bs : List ℕ) → (length (b ∷ bs) == 0) ≡ false
nonempty b bs = eqb-suc-zero (length bs)

kept_begins : (b : ℕ) (bs : List ℕ) (ws : List Word) → kept ((b ∷ bs) ∷ ws) ≡ cond (not (is_comment (b ∷ bs))) ((b ∷ bs) ∷ kept ws) []
kept_begins b bs ws = ap (λ t. take_while (λ w. not (is_comment w)) (cond (not t) ((b ∷ bs) ∷ filter (λ w. not (length w == 0)) ws) (filter (λ w. not (length w == 0)) ws))) (nonempty b bs) ∙ take_while-cons (λ w. not (is_comment w)) (b ∷ bs) (filter (λ w. not (length w == 0)) ws)

kept_more : (w : Word) (ws : List Word) → is_comment w ≡ false → kept (w ∷ ws) ≡ unless_empty w ++ kept ws
kept_more [] ws e = refl
kept_more (b ∷ bs) ws e = kept_begins b bs ws ∙ ap (λ c. cond (not c) ((b ∷ bs) ∷ kept ws) []) e ∙ ap (λ t. (if t then [] else (b ∷ bs) ∷ []) ++ kept ws) (sym (nonempty b bs))

kept_ends : (w : Word) (ws : List Word) → is_comment w ≡ true → kept (w ∷ ws) ≡ []
kept_ends [] ws e = absurd cc
kept_ends (b ∷ bs) ws e = kept_begins b bs ws ∙ ap (λ c. cond (not c) ((b ∷ bs) ∷ kept ws) []) e

module _ (rest : List ℕ) (n : ℕ) (at : n ≡ position_or_len is_separator rest) where
  first_piece : n < length rest → slice_split is_separator rest ≡ take n rest ∷ slice_split is_separator (drop (n + 1) rest)
  first_piece lt = subst (λ k. slice_split is_separator rest ≡ take k rest ∷ slice_split is_separator (drop (k + 1) rest)) (sym at) (slice_split_first is_separator rest 0 (omega (arith, at, lt)))

  last_piece : n ≡ length rest → slice_split is_separator rest ≡ rest ∷ []
  last_piece e = slice_split_none is_separator rest (λ k d l. fails_before_first is_separator rest k d (omega (arith, at, e, l)))

  -- a comment begins here
  pub no_more_words : n ≤ length rest → is_comment (take n rest) ≡ true → words_of rest ≡ []
  no_more_words le c =
      elim (nat_lt n (length rest)) as (λ b. nat_lt n (length rest) ≡ b → words_of rest ≡ []) [
        | true ↦ λ e. ap kept (first_piece (ltb-true _ _ e)) ∙ kept_ends (take n rest) (slice_split is_separator (drop (n + 1) rest)) c
        | false ↦ λ e.
            let all : length rest ≤ n = ltb-false _ _ e in
            ap kept (last_piece (omega (arith, le, all))) ∙ kept_ends rest [] (subst (λ w. is_comment w ≡ true) (take_all n rest all) c)
      ] refl

  pub words_more : n < length rest → is_comment (take n rest) ≡ false → words_of rest ≡ unless_empty (take n rest) ++ words_of (drop (n + 1) rest)
  words_more lt c = ap kept (first_piece lt) ∙ kept_more (take n rest) (slice_split is_separator (drop (n + 1) rest)) c

  pub words_end : n ≡ length rest → is_comment (take n rest) ≡ false → words_of rest ≡ unless_empty (take n rest)
  words_end e c =
      let whole : take n rest ≡ rest = take_all n rest (omega (arith, e)) in
      ap kept (last_piece e) ∙ kept_more rest [] (subst (λ w. is_comment w ≡ false) whole c) ∙ append-nil (unless_empty rest) ∙ ap unless_empty (sym whole)

  module _ (done more : List Word) (line : List ℕ) (told : done ++ words_of rest ≡ words_of line) where
    -- the words are those before a comment
    pub ended_early : n ≤ length rest → is_comment (take n rest) ≡ true → done ≡ words_of line
    ended_early le c = sym (append-nil done) ∙ ap (λ ws. done ++ ws) (sym (no_more_words le c)) ∙ told

    -- the piece was the last
    pub ended : n ≡ length rest → is_comment (take n rest) ≡ false → more ≡ done ++ unless_empty (take n rest) → more ≡ words_of line
    ended e c put = put ∙ ap (λ ws. done ++ ws) (sym (words_end e c)) ∙ told

    -- more pieces stand behind it
    pub went_on : n < length rest → is_comment (take n rest) ≡ false → more ≡ done ++ unless_empty (take n rest) → more ++ words_of (drop (n + 1) rest) ≡ words_of line
    went_on lt c put =
        ap (λ ws. ws ++ words_of (drop (n + 1) rest)) put
        ∙ append_assoc done (unless_empty (take n rest)) (words_of (drop (n + 1) rest))
        ∙ ap (λ ws. done ++ ws) (sym (words_more lt c)) ∙ told

-- no item before the next place passes
pub fails_more : (p : ℕ → Bool) (xs : List ℕ) (at : ℕ) → ((k : ℕ) → k < at → p (get_or xs k 0) ≡ false) → p (get_or xs at 0) ≡ false → (k : ℕ) → k < at + 1 → p (get_or xs k 0) ≡ false
fails_more p xs at before here k lt =
    elim (nat_lt k at) as (λ b. nat_lt k at ≡ b → p (get_or xs k 0) ≡ false) [
      | true ↦ λ e. before k (ltb-true _ _ e)
      | false ↦ λ e.
          let same : k ≡ at = omega (arith, lt, ltb-false _ _ e) in
          subst (λ i. p (get_or xs i 0) ≡ false) (sym same) here
    ] refl
