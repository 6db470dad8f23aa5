-- Comments byte by byte, as loops see them.
use Rattle.std.proofs.Common.{◌≡◌, ℕ, zero, suc, ◌+◌, ◌-◌, ◌<◌, ◌≤◌, Bool, true, false, ◌&&◌, List, [], ◌∷◌, ◌++◌, length, take, drop, get_or, refl, sym, ap, ◌∙◌, arith, add-one, drop-cons}
use Rattle.std.proofs.lemmas.List.{take_more}
use Rattle.std.specs.Prelude.{◌==◌, if◌then◌else◌}
use Rattle.lvish_checks.specs.Text.{is_separator}
use Rattle.lvish_checks.specs.Checks.{is_nil}
use Rattle.lvish_format.specs.Format.{trimmed, comment_from, indent}

pub trimmed_push : (xs : List ℕ) (b : ℕ) → is_separator b ≡ true → trimmed (xs ++ b ∷ []) ≡ trimmed xs
trimmed_push [] b e = ap (λ s. if s && true then [] else b ∷ []) e
trimmed_push (x ∷ xs) b e = ap (λ t. if is_separator x && is_nil t then [] else x ∷ t) (trimmed_push xs b e)

not_nil : (t : Bool) (x : ℕ) (xs : List ℕ) (b : ℕ) → (if t && is_nil (xs ++ b ∷ []) then [] else x ∷ (xs ++ b ∷ [])) ≡ x ∷ (xs ++ b ∷ [])
not_nil false x xs b = refl
not_nil true x [] b = refl
not_nil true x (y ∷ xs) b = refl

pub whole_push : (xs : List ℕ) (b : ℕ) → is_separator b ≡ false → trimmed (xs ++ b ∷ []) ≡ xs ++ b ∷ []
whole_push [] b e = ap (λ s. if s && true then [] else b ∷ []) e
whole_push (x ∷ xs) b e = ap (λ t. if is_separator x && is_nil t then [] else x ∷ t) (whole_push xs b e) ∙ not_nil (is_separator x) x xs b

pub indent_more : (n : ℕ) → indent n ++ 32 ∷ 32 ∷ [] ≡ indent (suc n)
indent_more zero = refl
indent_more (suc n) = ap (λ t. 32 ∷ 32 ∷ t) (indent_more n)

-- a separator at the end goes
pub trimmed_less : (bytes : List ℕ) (n : ℕ) → 0 < n → n ≤ length bytes → is_separator (get_or bytes (n - 1) 0) ≡ true → trimmed (take (n - 1) bytes) ≡ trimmed (take n bytes)
trimmed_less bytes n some within e =
    let one : (n - 1) + 1 ≡ n = omega arith in
    sym (trimmed_push (take (n - 1) bytes) (get_or bytes (n - 1) 0) e)
    ∙ ap trimmed (sym (take_more bytes (n - 1) 0 (omega arith)) ∙ ap (λ k. take k bytes) one)

-- any other byte stays
pub trimmed_whole : (bytes : List ℕ) (n : ℕ) → 0 < n → n ≤ length bytes → is_separator (get_or bytes (n - 1) 0) ≡ false → trimmed (take n bytes) ≡ take n bytes
trimmed_whole bytes n some within e =
    let one : (n - 1) + 1 ≡ n = omega arith in
    let cut : take n bytes ≡ take (n - 1) bytes ++ get_or bytes (n - 1) 0 ∷ [] = ap (λ k. take k bytes) (sym one) ∙ take_more bytes (n - 1) 0 (omega arith) in
    ap trimmed cut ∙ whole_push (take (n - 1) bytes) (get_or bytes (n - 1) 0) e ∙ sym cut

-- the bytes from a place on
rest_at : (bytes : List ℕ) (k : ℕ) → k < length bytes → drop k bytes ≡ get_or bytes k 0 ∷ drop (k + 1) bytes
rest_at bytes k lt = rw add-one (drop-cons bytes k 0 lt)

pub comment_passes : (bytes : List ℕ) (k : ℕ) (m : Bool) → k < length bytes → (m && get_or bytes k 0 == 35) ≡ false → comment_from m (drop k bytes) ≡ comment_from (is_separator (get_or bytes k 0)) (drop (k + 1) bytes)
comment_passes bytes k m lt e =
    ap (comment_from m) (rest_at bytes k lt)
    ∙ ap (λ t. if t then get_or bytes k 0 ∷ drop (k + 1) bytes else comment_from (is_separator (get_or bytes k 0)) (drop (k + 1) bytes)) e

pub comment_here : (bytes : List ℕ) (k : ℕ) (m : Bool) → k < length bytes → (m && get_or bytes k 0 == 35) ≡ true → comment_from m (drop k bytes) ≡ drop k bytes
comment_here bytes k m lt e =
    ap (comment_from m) (rest_at bytes k lt)
    ∙ ap (λ t. if t then get_or bytes k 0 ∷ drop (k + 1) bytes else comment_from (is_separator (get_or bytes k 0)) (drop (k + 1) bytes)) e
    ∙ sym (rest_at bytes k lt)
