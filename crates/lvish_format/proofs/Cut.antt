-- Lines cut into their words and their comment.
use Rattle.std.proofs.Common.{◌≡◌, cond, ℕ, zero, suc, Bool, true, false, not, ◌&&◌, ◌||◌, List, [], ◌∷◌, ◌++◌, length, refl, sym, ap, subst, ◌∙◌, arith, append_assoc}
use Rattle.std.specs.Prelude.{◌==◌, filter, take_while, if◌then◌else◌}
use Rattle.std.specs.List.{list_any, slice_split, onto_first}
use Rattle.std.proofs.Math.Bool.{or-false}
use Rattle.std.proofs.lemmas.Bool.{or_from, eqb-true}
use Rattle.std.proofs.lemmas.Bool.Decides.{nat_tests}
use Rattle.std.proofs.lemmas.List.{append-nil}
use Rattle.std.proofs.lemmas.List.Folds.{list_any-append}
use Rattle.std.proofs.lemmas.List.Sums.{take_while-cons}
use Rattle.std.proofs.lemmas.List.Splits.{slice_split-cons_yes}
use Rattle.lvish_syntax.specs.Words.{Word}
use Rattle.lvish_checks.specs.Text.{is_separator, is_comment, words_of}
use Rattle.lvish_checks.specs.Checks.{is_nil}
use Rattle.lvish_checks.proofs.Cuts.{left_fails, right_fails}
use Rattle.lvish_checks.proofs.Numbers.{length_some}
use Rattle.lvish_script.specs.Canonical.{spaced, words_joined}
use Rattle.lvish_script.proofs.Plain.{split_at, split_none}
use Rattle.lvish_format.specs.Format.{trimmed, comment_from, comment_of, unless_empty, pieces_of, indent, margin, formatted_line}

-- a word that begins with this byte and no comment, and has no separator
pub record Begins (a : ℕ) (w : Word) : Type 0 where
  pub apart : (a == 35) ≡ false
  pub whole : list_any is_separator (a ∷ w) ≡ false

-- a line, its words, and its comment with all that follows it
pub data Cut : List ℕ → List Word → List ℕ → Type 0 where
  none : Cut [] [] []
  skip : (b : ℕ) (line : List ℕ) {ws : List Word} {c : List ℕ} → is_separator b ≡ true → Cut line ws c → Cut (b ∷ line) ws c
  comment : (rest : List ℕ) → Cut (35 ∷ rest) [] (35 ∷ rest)
  last : (a : ℕ) (w : Word) → Begins a w → Cut (a ∷ w) ((a ∷ w) ∷ []) []
  word : (a : ℕ) (w : Word) (b : ℕ) (line : List ℕ) {ws : List Word} {c : List ℕ} → Begins a w → is_separator b ≡ true → Cut line ws c → Cut ((a ∷ w) ++ b ∷ line) ((a ∷ w) ∷ ws) c

-- ---- each line has a cut

pub record Cuts (line : List ℕ) : Type 0 where
  pub words : List Word
  pub rest : List ℕ
  pub cut : Cut line words rest

begins_more : (a : ℕ) (w : Word) (b : ℕ) → Begins a w → is_separator b ≡ false → Begins a (w ++ b ∷ [])
begins_more a w b h e = record {
  apart = h.apart;
  whole = list_any-append is_separator (a ∷ w) (b ∷ []) ∙ or_from (list_any is_separator (a ∷ w)) _ h.whole (or_from (is_separator b) false e refl);
}

-- a line after a byte at which a word may begin
at_start : (b : ℕ) (bs : List ℕ) (s h : Bool) → is_separator b ≡ s → (b == 35) ≡ h → Cuts bs → ((a : ℕ) (w : Word) → Begins a w → Cuts ((a ∷ w) ++ bs)) → Cuts (b ∷ bs)
at_start b bs true h e f fresh inside = record { words = fresh.words; rest = fresh.rest; cut = skip b bs e fresh.cut }
at_start b bs false true e f fresh inside =
    let hash : b ≡ 35 = eqb-true b 35 f in
    record { words = []; rest = b ∷ bs; cut = subst (λ a. Cut (a ∷ bs) [] (a ∷ bs)) (sym hash) (comment bs) }
at_start b bs false false e f fresh inside = inside b [] (record { apart = f; whole = or_from (is_separator b) false e refl })

-- a line after a byte within a word
at_word : (a : ℕ) (w : Word) → Begins a w → (b : ℕ) (bs : List ℕ) (s : Bool) → is_separator b ≡ s → Cuts bs → ((a : ℕ) (w : Word) → Begins a w → Cuts ((a ∷ w) ++ bs)) → Cuts ((a ∷ w) ++ b ∷ bs)
at_word a w h b bs true e fresh inside = record { words = (a ∷ w) ∷ fresh.words; rest = fresh.rest; cut = word a w b bs h e fresh.cut }
at_word a w h b bs false e fresh inside = subst Cuts (append_assoc (a ∷ w) (b ∷ []) bs) (inside a (w ++ b ∷ []) (begins_more a w b h e))

cut_from : (line : List ℕ) → Cuts line × ((a : ℕ) (w : Word) → Begins a w → Cuts ((a ∷ w) ++ line))
cut_from [] = (record { words = []; rest = []; cut = none }, λ a w h. subst Cuts (sym (append-nil (a ∷ w))) (record { words = (a ∷ w) ∷ []; rest = []; cut = last a w h }))
cut_from (b ∷ bs) =
    let more = cut_from bs in
    (at_start b bs (is_separator b) (b == 35) refl refl more.0 more.1, λ a w h. at_word a w h b bs (is_separator b) refl more.0 more.1)

-- ---- a cut has the words and the comment of its line

-- the words among the pieces of a line
abbrev told : List Word → List Word
told pieces = take_while (λ w. not (is_comment w)) (filter (λ w. not (length w == 0)) pieces)

kept : (w : Word) (ws : List Word) (t : Bool) → t ≡ true → cond t (w ∷ ws) ws ≡ w ∷ ws
kept w ws true e = refl
kept w ws false e = absurd cc

told_word : (a : ℕ) (w : Word) (pieces : List Word) → told ((a ∷ w) ∷ pieces) ≡ cond (not (a == 35)) ((a ∷ w) ∷ told pieces) []
told_word a w pieces =
    ap (take_while (λ w. not (is_comment w))) (kept (a ∷ w) (filter (λ w. not (length w == 0)) pieces) (not (length (a ∷ w) == 0)) (length_some (length (a ∷ w)) (omega arith)))
    ∙ take_while-cons (λ w. not (is_comment w)) (a ∷ w) (filter (λ w. not (length w == 0)) pieces)

told_more : (a : ℕ) (w : Word) (pieces : List Word) → (a == 35) ≡ false → told ((a ∷ w) ∷ pieces) ≡ (a ∷ w) ∷ told pieces
told_more a w pieces e = told_word a w pieces ∙ ap (λ t. cond (not t) ((a ∷ w) ∷ told pieces) []) e

told_comment : (pieces : List Word) → told (onto_first 35 pieces) ≡ []
told_comment [] = refl
told_comment (w ∷ pieces) = told_word 35 w pieces

pub words_cut : {line : List ℕ} {ws : List Word} {c : List ℕ} → Cut line ws c → words_of line ≡ ws
words_cut none = refl
words_cut (skip b line e more) = ap told (slice_split-cons_yes is_separator b line e) ∙ words_cut more
words_cut (comment rest) = told_comment (slice_split is_separator rest)
words_cut (last a w h) = ap told (split_none is_separator (a ∷ w) h.whole) ∙ told_more a w [] h.apart
words_cut (word a w b line h e more) = ap told (split_at is_separator (a ∷ w) b line h.whole e) ∙ told_more a w (slice_split is_separator line) h.apart ∙ ap (λ t. (a ∷ w) ∷ t) (words_cut more)

separator_no_hash : (b : ℕ) → is_separator b ≡ true → (b == 35) ≡ false
separator_no_hash b e = grind (arith, nat_tests)

from_separator : (b : ℕ) (line : List ℕ) (m : Bool) → is_separator b ≡ true → comment_from m (b ∷ line) ≡ comment_from true line
from_separator b line true e = ap (λ t. if t then b ∷ line else comment_from (is_separator b) line) (separator_no_hash b e) ∙ ap (λ s. comment_from s line) e
from_separator b line false e = ap (λ s. comment_from s line) e

past_word : (w rest : List ℕ) → list_any is_separator w ≡ false → comment_from false (w ++ rest) ≡ comment_from false rest
past_word [] rest e = refl
past_word (b ∷ w) rest e = ap (λ s. comment_from s (w ++ rest)) (left_fails (is_separator b) _ e) ∙ past_word w rest (right_fails (is_separator b) _ e)

past_begun : (a : ℕ) (w rest : List ℕ) → Begins a w → comment_from true ((a ∷ w) ++ rest) ≡ comment_from false rest
past_begun a w rest h =
    ap (λ t. if t then a ∷ (w ++ rest) else comment_from (is_separator a) (w ++ rest)) h.apart
    ∙ ap (λ s. comment_from s (w ++ rest)) (left_fails (is_separator a) _ h.whole)
    ∙ past_word w rest (right_fails (is_separator a) _ h.whole)

pub comment_cut : {line : List ℕ} {ws : List Word} {c : List ℕ} → Cut line ws c → comment_from true line ≡ c
comment_cut none = refl
comment_cut (skip b line e more) = from_separator b line true e ∙ comment_cut more
comment_cut (comment rest) = refl
comment_cut (last a w h) = ap (comment_from true) (sym (append-nil (a ∷ w))) ∙ past_begun a w [] h
comment_cut (word a w b line h e more) = past_begun a w (b ∷ line) h ∙ from_separator b line false e ∙ comment_cut more

-- the cut of each line
pub cut_of : (line : List ℕ) → Cut line (words_of line) (comment_from true line)
cut_of line =
    let it = (cut_from line).0 in
    subst (λ c. Cut line (words_of line) c) (sym (comment_cut it.cut)) (subst (λ ws. Cut line ws it.rest) (sym (words_cut it.cut)) it.cut)

-- ---- the cut of a formatted line

joined : (a : ℕ) (w : Word) → Begins a w → (ws : List Word) (c : List ℕ) → Cut (words_joined (ws ++ unless_empty c)) ws c → Cut ((a ∷ w) ++ spaced (ws ++ unless_empty c)) ((a ∷ w) ∷ ws) c
joined a w h [] [] more = subst (λ t. Cut t ((a ∷ w) ∷ []) []) (sym (append-nil (a ∷ w))) (last a w h)
joined a w h [] (b ∷ c) more = word a w 32 _ h refl more
joined a w h (v ∷ ws) c more = word a w 32 _ h refl more

pub cut_again : {line : List ℕ} {ws : List Word} {c : List ℕ} → Cut line ws c → Cut (words_joined (ws ++ unless_empty (trimmed c))) ws (trimmed c)
cut_again none = none
cut_again (skip b line e more) = cut_again more
cut_again (comment rest) = subst (λ t. Cut t [] (35 ∷ trimmed rest)) (sym (append-nil (35 ∷ trimmed rest))) (comment (trimmed rest))
cut_again (last a w h) = joined a w h [] [] none
cut_again (word a w b line h e more) = joined a w h _ _ (cut_again more)

indented : (n : ℕ) {line : List ℕ} {ws : List Word} {c : List ℕ} → Cut line ws c → Cut (indent n ++ line) ws c
indented zero more = more
indented (suc n) more = skip 32 _ refl (skip 32 _ refl (indented n more))

placed : (d : ℕ) (pieces : List Word) {ws : List Word} {c : List ℕ} → Cut (words_joined pieces) ws c → Cut (formatted_line d pieces) ws c
placed d [] more = more
placed d (w ∷ pieces) more = indented (margin d w) more

pub cut_formatted : (d : ℕ) (line : List ℕ) → Cut (formatted_line d (pieces_of line)) (words_of line) (comment_of line)
cut_formatted d line = placed d (pieces_of line) (cut_again (cut_of line))

-- ---- bytes

-- a test that no separator passes
module _ (p : ℕ → Bool) (h : (b : ℕ) → is_separator b ≡ true → p b ≡ false) where
  moved : (a b c d : Bool) → b ≡ (c || d) → (a || b) ≡ ((a || c) || d)
  moved true b c d e = refl
  moved false b c d e = e

  pub bytes_cut : {line : List ℕ} {ws : List Word} {c : List ℕ} → Cut line ws c → list_any p line ≡ (list_any (list_any p) ws || list_any p c)
  bytes_cut none = refl
  bytes_cut (skip b line e more) = ap (λ t. t || list_any p line) (h b e) ∙ bytes_cut more
  bytes_cut (comment rest) = refl
  bytes_cut (last a w k) = sym (or-false (list_any p (a ∷ w))) ∙ sym (or-false (list_any p (a ∷ w) || false))
  bytes_cut (word a w b line k e more) =
      list_any-append p (a ∷ w) (b ∷ line)
      ∙ ap (λ t. list_any p (a ∷ w) || t) (ap (λ t. t || list_any p line) (h b e))
      ∙ moved (list_any p (a ∷ w)) _ _ _ (bytes_cut more)

  trimmed_by : (b : ℕ) (bs rest : List ℕ) (s : Bool) → is_separator b ≡ s → list_any p rest ≡ list_any p bs → list_any p (if s && is_nil rest then [] else b ∷ rest) ≡ list_any p (b ∷ bs)
  trimmed_by b bs [] true e f = f ∙ ap (λ t. t || list_any p bs) (sym (h b e))
  trimmed_by b bs (r ∷ rest) true e f = ap (λ t. p b || t) f
  trimmed_by b bs rest false e f = ap (λ t. p b || t) f

  pub trimmed_bytes : (bs : List ℕ) → list_any p (trimmed bs) ≡ list_any p bs
  trimmed_bytes [] = refl
  trimmed_bytes (b ∷ bs) = trimmed_by b bs (trimmed bs) (is_separator b) refl (trimmed_bytes bs)

  -- a formatted line has such bytes where the line has
  pub same_bytes : (d : ℕ) (line : List ℕ) → list_any p (formatted_line d (pieces_of line)) ≡ list_any p line
  same_bytes d line =
      bytes_cut (cut_formatted d line)
      ∙ ap (λ t. list_any (list_any p) (words_of line) || t) (trimmed_bytes (comment_from true line))
      ∙ sym (bytes_cut (cut_of line))

-- ---- twice

trim_again : (b : ℕ) (rest : List ℕ) (s : Bool) → is_separator b ≡ s → trimmed rest ≡ rest → trimmed (if s && is_nil rest then [] else b ∷ rest) ≡ (if s && is_nil rest then [] else b ∷ rest)
trim_again b [] true e f = refl
trim_again b (r ∷ rest) true e f = ap (λ t. if is_separator b && is_nil t then [] else b ∷ t) f ∙ ap (λ t. if t then [] else b ∷ r ∷ rest) (and_nil (is_separator b))
  where
    and_nil : (t : Bool) → (t && false) ≡ false
    and_nil true = refl
    and_nil false = refl
trim_again b rest false e f = ap (λ t. if is_separator b && is_nil t then [] else b ∷ t) f ∙ ap (λ t. if t && is_nil rest then [] else b ∷ rest) e

pub trimmed_twice : (bs : List ℕ) → trimmed (trimmed bs) ≡ trimmed bs
trimmed_twice [] = refl
trimmed_twice (b ∷ bs) = trim_again b (trimmed bs) (is_separator b) refl (trimmed_twice bs)

pub pieces_again : (d : ℕ) (line : List ℕ) → pieces_of (formatted_line d (pieces_of line)) ≡ pieces_of line
pieces_again d line =
    let cut = cut_formatted d line in
    ap (λ ws. ws ++ unless_empty (comment_of (formatted_line d (pieces_of line)))) (words_cut cut)
    ∙ ap (λ c. words_of line ++ unless_empty (trimmed c)) (comment_cut cut)
    ∙ ap (λ c. words_of line ++ unless_empty c) (trimmed_twice (comment_from true line))

pub words_again : (d : ℕ) (line : List ℕ) → words_of (formatted_line d (pieces_of line)) ≡ words_of line
words_again d line = words_cut (cut_formatted d line)
