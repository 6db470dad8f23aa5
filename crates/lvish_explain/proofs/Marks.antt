-- The columns of words, by the cut of their line.
use Rattle.std.proofs.Common.{◌≡◌, ℕ, zero, suc, ◌+◌, ◌-◌, Bool, true, false, not, ◌&&◌, List, [], ◌∷◌, ◌++◌, length, take, drop, Some, refl, sym, ap, subst, ◌∙◌, arith}
use Rattle.std.specs.Prelude.{slice_get, if◌then◌else◌}
use Rattle.std.specs.Option.{option_or}
use Rattle.std.specs.List.{list_any}
use Rattle.std.proofs.lemmas.List.{append-nil}
use Rattle.std.proofs.Math.Seq.{take-append_seam}
use Rattle.lvish_syntax.specs.Words.{Word}
use Rattle.lvish_checks.specs.Text.{is_separator, words_of}
use Rattle.lvish_checks.proofs.Cuts.{left_fails, right_fails}
use Rattle.lvish_format.proofs.Cut.{Cut, none, skip, comment, last, word, Begins, cut_of}
use Rattle.lvish_explain.specs.Mark.{word_columns, mark_at, mark_of, IsUnder}

-- past the bytes of a word
past : (j : ℕ) (w rest : List ℕ) → list_any is_separator w ≡ false → word_columns j false (w ++ rest) ≡ word_columns (j + length w) false rest
past j [] rest e = ap (λ n. word_columns n false rest) (omega arith)
past j (b ∷ w) rest e =
    ap (λ s. word_columns (suc j) s (w ++ rest)) (left_fails (is_separator b) _ e)
    ∙ past (suc j) w rest (right_fails (is_separator b) _ e)
    ∙ ap (λ n. word_columns n false rest) (omega arith)

-- the word at a place stands in its column
pub record Stands (j : ℕ) (line : List ℕ) (n : ℕ) (w : Word) : Type 0 where
  pub from : ℕ
  pub column : slice_get (word_columns j true line) n ≡ Some (j + from)
  pub bytes : take (length w) (drop from line) ≡ w

-- where a word begins, the columns go on behind it
behind : (j a : ℕ) (w rest : List ℕ) → Begins a w → word_columns j true ((a ∷ w) ++ rest) ≡ j ∷ word_columns (j + suc (length w)) false rest
behind j a w rest h =
    ap (λ s. if true && not s then j ∷ word_columns (suc j) s (w ++ rest) else word_columns (suc j) s (w ++ rest)) (left_fails (is_separator a) _ h.whole)
    ∙ ap (λ t. j ∷ t) (past (suc j) w rest (right_fails (is_separator a) _ h.whole) ∙ ap (λ n. word_columns n false rest) (omega arith))

-- the columns from a separator on
after : (j b : ℕ) (line : List ℕ) (m : Bool) → is_separator b ≡ true → word_columns j m (b ∷ line) ≡ word_columns (suc j) true line
after j b line true e = ap (λ s. if true && not s then j ∷ word_columns (suc j) s line else word_columns (suc j) s line) e
after j b line false e = ap (λ s. word_columns (suc j) s line) e

first_word : (j a : ℕ) (w rest : List ℕ) → Begins a w → (v : Word) → Some (a ∷ w) ≡ Some v → Stands j ((a ∷ w) ++ rest) 0 v
first_word j a w rest h v e =
    let same : a ∷ w ≡ v = cc in
    subst (Stands j ((a ∷ w) ++ rest) 0) same (record {
      from = 0;
      column = ap (λ t. slice_get t 0) (behind j a w rest h) ∙ ap Some (omega arith);
      bytes = take-append_seam (a ∷ w) rest;
    })

drop_past : (w : List ℕ) (b : ℕ) (line : List ℕ) (n : ℕ) → drop (length w + suc n) (w ++ b ∷ line) ≡ drop n line
drop_past [] b line n = let e : 0 + suc n ≡ suc n = omega arith in ap (λ k. drop k (b ∷ line)) e
drop_past (x ∷ w) b line n =
    let e : length (x ∷ w) + suc n ≡ suc (length w + suc n) = omega arith in
    ap (λ k. drop k (x ∷ (w ++ b ∷ line))) e ∙ drop_past w b line n

stands : {line : List ℕ} {ws : List Word} {c : List ℕ} → Cut line ws c → (j n : ℕ) (v : Word) → slice_get ws n ≡ Some v → Stands j line n v
stands none j n v e = absurd cc
stands (skip b line s more) j n v e =
    let found = stands more (suc j) n v e in
    record {
      from = suc found.from;
      column = ap (λ t. slice_get t n) (after j b line true s) ∙ found.column ∙ ap Some (omega arith);
      bytes = found.bytes;
    }
stands (comment rest) j n v e = absurd cc
stands (last a w h) j zero v e = subst (λ t. Stands j t 0 v) (append-nil (a ∷ w)) (first_word j a w [] h v e)
stands (last a w h) j (suc n) v e = absurd cc
stands (word a w b line h s more) j zero v e = first_word j a w (b ∷ line) h v e
stands (word a w b line h s more) j (suc n) v e =
    let found = stands more (suc (j + suc (length w))) n v e in
    record {
      from = length (a ∷ w) + suc found.from;
      column = ap (λ t. slice_get t (suc n)) (behind j a w (b ∷ line) h ∙ ap (λ t. j ∷ t) (after (j + suc (length w)) b line false s)) ∙ found.column ∙ ap Some (omega arith);
      bytes = ap (take (length v)) (drop_past (a ∷ w) b line found.from) ∙ found.bytes;
    }

marked : (columns : List ℕ) (ws : List Word) (k c : ℕ) (w : Word) → slice_get ws k ≡ Some w → slice_get columns k ≡ Some c → mark_at columns ws k ≡ Some (record { column = c; length = length w })
marked columns ws k c w e f = rw (e, f) refl

-- the carets of a word stand under its bytes
pub marks_are_words : (line : List ℕ) (k : ℕ) (w : Word) → slice_get (words_of line) k ≡ Some w → IsUnder line w (mark_of line (words_of line) k)
marks_are_words line k w e =
    let found = stands (cut_of line) 1 k w e in
    let mark : mark_of line (words_of line) k ≡ Some (record { column = 1 + found.from; length = length w }) =
    ap (λ o. option_or o (mark_at (word_columns 1 true line) (words_of line) 0)) (marked (word_columns 1 true line) (words_of line) k (1 + found.from) w e found.column) in
    let from : (1 + found.from) - 1 ≡ found.from = omega arith in
    subst (IsUnder line w) (sym mark) (refl, ap (λ n. take (length w) (drop n line)) from ∙ found.bytes)
