-- Sets of names, as lists of borrowed texts.
use Rattle.std.proofs.Common.{◌≡◌, ℕ, Bool, true, false, ◌||◌, List, [], ◌∷◌, ◌++◌, map, refl, sym, ap, subst, ◌∙◌, Bor}
use Rattle.std.specs.Prelude.{if◌then◌else◌}
use Rattle.std.specs.List.{list_any}
use Rattle.std.specs.Str.{bytes_eq}
use Rattle.std.proofs.lemmas.List.{map-append}
use Rattle.std.proofs.lemmas.List.Folds.{list_any-append}
use Rattle.std.proofs.lemmas.Cmp.{nat_list_eq_equiv}
use Rattle.std.proofs.lemmas.Slice.Eq.{bytes_eq-Decides}
use Rattle.lvish_syntax.specs.Words.{Word}
use Rattle.lvish_syntax.specs.Name.{has_name}

pub bytes_eq_flip : (x y : Word) → bytes_eq x y ≡ bytes_eq y x
bytes_eq_flip x y = nat_list_eq_equiv.symm x y

-- a look-up in a set finds the names that are in it
pub found_by_name : (q : Word) (ks : List (Bor (List ℕ))) → list_any (λ k. bytes_eq q k.now) ks ≡ has_name q (map (λ k. k.now) ks)
found_by_name q [] = refl
found_by_name q (k ∷ ks) = rw (bytes_eq_flip q k.now, found_by_name q ks) refl

or_swap : (a b : Bool) → (a || (b || false)) ≡ (b || a)
or_swap true true = refl
or_swap true false = refl
or_swap false true = refl
or_swap false false = refl

absorbed : (x q : Word) (names : List Word) (t : Bool) → bytes_eq x q ≡ t → has_name x names ≡ true → has_name q names ≡ (bytes_eq x q || has_name q names)
absorbed x q names true e h = let p : x ≡ q = (bytes_eq-Decides x q).0 e in rw e (subst (λ n. has_name n names ≡ true) p h)
absorbed x q names false e h = rw e refl

added_names : (x : Bor (List ℕ)) (q : Word) (ks : List (Bor (List ℕ))) (t : Bool) → list_any (λ k. bytes_eq x.now k.now) ks ≡ t → has_name q (map (λ k. k.now) (if t then ks else ks ++ x ∷ [])) ≡ (bytes_eq x.now q || has_name q (map (λ k. k.now) ks))
added_names x q ks true e = absorbed x.now q (map (λ k. k.now) ks) _ refl (sym (found_by_name x.now ks) ∙ e)
added_names x q ks false e =
    ap (has_name q) (map-append (λ (k : Bor (List ℕ)). k.now) ks (x ∷ []))
    ∙ list_any-append (λ y. bytes_eq y q) (map (λ k. k.now) ks) (x.now ∷ [])
    ∙ or_swap (has_name q (map (λ k. k.now) ks)) (bytes_eq x.now q)

-- after a name is added, the set has it and what it had
pub names_added : (x : Bor (List ℕ)) (q : Word) (ks : List (Bor (List ℕ))) → has_name q (map (λ k. k.now) (if list_any (λ k. bytes_eq x.now k.now) ks then ks else ks ++ x ∷ [])) ≡ (bytes_eq x.now q || has_name q (map (λ k. k.now) ks))
names_added x q ks = added_names x q ks (list_any (λ k. bytes_eq x.now k.now) ks) refl
