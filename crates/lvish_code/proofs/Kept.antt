-- Names that are kept in a set in the order of insertion.
use Rattle.std.proofs.Common.{◌≡◌, ℕ, suc, ◌+◌, ◌≤◌, Bool, true, false, not, ◌||◌, cond, ltb, List, [], ◌∷◌, ◌++◌, length, map, Option, Some, None, refl, ap, ◌∙◌, Bor, arith}
use Rattle.std.specs.Prelude.{if◌then◌else◌}
use Rattle.std.specs.Option.{unwrap_or}
use Rattle.std.specs.List.{list_any, position_or_len}
use Rattle.std.specs.Str.{bytes_eq}
use Rattle.std.proofs.lemmas.Cmp.{nat_list_eq_equiv}
use Rattle.std.proofs.lemmas.List.{map-append}
use Rattle.std.proofs.lemmas.Bool.Decides.{Decides-ltb}
use Rattle.lvish_syntax.specs.Words.{Word}
use Rattle.lvish_syntax.specs.Name.{has_name}
use Rattle.lvish_code.specs.Numbering.{name_number, with_name}

abbrev pub texts : List (Bor (List ℕ)) → List Word
texts ks = map (λ k. k.now) ks

found : (q : Word) (ks : List (Bor (List ℕ))) → list_any (λ k. bytes_eq q k.now) ks ≡ has_name q (texts ks)
found q [] = refl
found q (k ∷ ks) = ap (λ b. b || list_any (λ j. bytes_eq q j.now) ks) (nat_list_eq_equiv.symm q k.now) ∙ ap (λ b. bytes_eq k.now q || b) (found q ks)

pub name_inserted : (x : Bor (List ℕ)) (ks : List (Bor (List ℕ))) → texts (if list_any (λ k. bytes_eq x.now k.now) ks then ks else ks ++ x ∷ []) ≡ with_name (texts ks) x.now
name_inserted x ks = go (list_any (λ k. bytes_eq x.now k.now) ks) ∙ ap (λ (b : Bool). if b then texts ks else texts ks ++ x.now ∷ []) (found x.now ks)
  where
    go : (b : Bool) → texts (if b then ks else ks ++ x ∷ []) ≡ (if b then texts ks else texts ks ++ x.now ∷ [])
    go true = refl
    go false = map-append (λ k. k.now) ks (x ∷ [])

pub number_kept : (q : Word) (ks : List (Bor (List ℕ))) → position_or_len (λ k. bytes_eq q k.now) ks ≡ name_number (texts ks) q
number_kept q [] = refl
number_kept q (k ∷ ks) =
    ap (λ b. cond (not b) (1 + position_or_len (λ j. bytes_eq q j.now) ks) 0) (nat_list_eq_equiv.symm q k.now)
    ∙ ap (λ n. cond (not (bytes_eq k.now q)) (1 + n) 0) (number_kept q ks)

place_le : {X : Type 0} (p : X → Bool) (xs : List X) → position_or_len p xs ≤ length xs
place_le p [] = omega arith
place_le p (x ∷ xs) = go (p x) (place_le p xs)
  where
    go : (b : Bool) → position_or_len p xs ≤ length xs → cond (not b) (1 + position_or_len p xs) 0 ≤ suc (length xs)
    go true h = omega arith
    go false h = omega arith

-- what a look-up answers, or the length where it finds nothing
pub number_found : {X : Type 0} (p : X → Bool) (xs : List X) (r : Option ℕ) (n m : ℕ) → r ≡ cond (ltb (position_or_len p xs) (length xs)) (Some (position_or_len p xs)) None → m ≡ length xs → n ≡ unwrap_or r m → n ≡ position_or_len p xs
number_found p xs r n m e len h = h ∙ ap (λ o. unwrap_or o m) e ∙ by (ltb (position_or_len p xs) (length xs)) refl
  where
    by : (b : Bool) → ltb (position_or_len p xs) (length xs) ≡ b → unwrap_or (cond b (Some (position_or_len p xs)) None) m ≡ position_or_len p xs
    by true t = refl
    by false t = let l = place_le p xs in let k : length xs ≡ position_or_len p xs = grind (arith, Decides-ltb (position_or_len p xs) (length xs)) in len ∙ k
