-- Lists by their cuts: what holds of each item and the items before it.
use Rattle.std.proofs.Common.{◌≡◌, ℕ, zero, suc, ◌<◌, ◌≤◌, Bool, true, false, ◌||◌, ◌&&◌, List, [], ◌∷◌, ◌++◌, length, map, refl, ap, ◌∙◌, arith}
use Rattle.std.proofs.lemmas.Bool.{and_from, or_from}
use Rattle.std.proofs.lemmas.Cmp.{nat_list_eq_equiv}
use Rattle.std.specs.List.{list_any, list_all}
use Rattle.std.specs.Str.{bytes_eq}
use Rattle.std.proofs.lemmas.Slice.Eq.{bytes_eq-Decides}
use Rattle.lvish_syntax.specs.Words.{Word}
use Rattle.lvish_syntax.specs.Name.{has_name, has_repeat}

-- ---- tests

pub left_fails : (a b : Bool) → (a || b) ≡ false → a ≡ false
left_fails true b e = absurd cc
left_fails false b e = refl

pub right_fails : (a b : Bool) → (a || b) ≡ false → b ≡ false
right_fails true b e = absurd cc
right_fails false b e = e

pub left_holds : (a b : Bool) → (a && b) ≡ true → a ≡ true
left_holds true b e = refl
left_holds false b e = absurd cc

pub right_holds : (a b : Bool) → (a && b) ≡ true → b ≡ true
right_holds true b e = e
right_holds false b e = absurd cc

pub same_name : (x : Word) → bytes_eq x x ≡ true
same_name x = (bytes_eq-Decides x x).1 refl

-- ---- every cut

pub all_by_cut : {X : Type 0} (p : X → Bool) (xs : List X) → ((b : List X) (x : X) (a : List X) → xs ≡ b ++ x ∷ a → p x ≡ true) → list_all p xs ≡ true
all_by_cut p [] h = refl
all_by_cut p (x ∷ xs) h = and_from (p x) _ (h [] x xs refl) (all_by_cut p xs (λ b y a e. h (x ∷ b) y a (ap (λ t. x ∷ t) e)))

pub none_by_cut : {X : Type 0} (p : X → Bool) (xs : List X) → ((b : List X) (x : X) (a : List X) → xs ≡ b ++ x ∷ a → p x ≡ false) → list_any p xs ≡ false
none_by_cut p [] h = refl
none_by_cut p (x ∷ xs) h = or_from (p x) _ (h [] x xs refl) (none_by_cut p xs (λ b y a e. h (x ∷ b) y a (ap (λ t. x ∷ t) e)))

-- no more than n items, where each has fewer than n before it
pub few_by_cut : {X : Type 0} (n : ℕ) (xs : List X) → ((b : List X) (x : X) (a : List X) → xs ≡ b ++ x ∷ a → length b < n) → length xs ≤ n
few_by_cut n [] h = omega arith
few_by_cut zero (x ∷ xs) h = let e : zero < zero = h [] x xs refl in absurd (omega arith)
few_by_cut (suc n) (x ∷ xs) h =
    let more : length xs ≤ n = few_by_cut n xs (λ b y a e. let m : length (x ∷ b) < suc n = h (x ∷ b) y a (ap (λ t. x ∷ t) e) in omega arith) in
    omega arith

module _ {X : Type 0} (name : X → Word) where
  apart : (x : X) (xs : List X) → ((b : List X) (y : X) (a : List X) → xs ≡ b ++ y ∷ a → bytes_eq (name x) (name y) ≡ false) → has_name (name x) (map name xs) ≡ false
  apart x [] h = refl
  apart x (y ∷ xs) h = or_from (bytes_eq (name y) (name x)) _ (nat_list_eq_equiv.symm (name y) (name x) ∙ h [] y xs refl) (apart x xs (λ b z a e. h (y ∷ b) z a (ap (λ t. y ∷ t) e)))

  -- the names differ, where none is among those before it
  pub differ_by_cut : (xs : List X) → ((b : List X) (x : X) (a : List X) → xs ≡ b ++ x ∷ a → has_name (name x) (map name b) ≡ false) → has_repeat (map name xs) ≡ false
  differ_by_cut [] h = refl
  differ_by_cut (x ∷ xs) h =
      or_from (has_name (name x) (map name xs)) _
      (apart x xs (λ b y a e. left_fails (bytes_eq (name x) (name y)) _ (h (x ∷ b) y a (ap (λ t. x ∷ t) e))))
      (differ_by_cut xs (λ b y a e. right_fails (bytes_eq (name x) (name y)) _ (h (x ∷ b) y a (ap (λ t. x ∷ t) e))))
