-- Names at the front of words, and how many words a form has.
use Rattle.std.proofs.Common.{◌≡◌, ◌≢◌, ℕ, zero, suc, ◌<◌, ◌==◌, drop, arith, Bool, true, false, cond, List, [], ◌∷◌, length, map, take, refl, ap, sym, ◌∙◌}
use Rattle.std.specs.Prelude.{take_while}
use Rattle.std.specs.List.{list_all}
use Rattle.std.proofs.lemmas.List.Sums.{take_while-cons}
use Rattle.std.proofs.lemmas.List.{length-map, take-map}
use Rattle.std.proofs.lemmas.List.Folds.{length-prefix_len}
use Rattle.lvish_syntax.specs.Words.{Word, is_name}
use Rattle.lvish_checks.specs.Form.{freeze_each, freeze_after}
use Rattle.lvish_checks.specs.Vocabulary.{Line, Bad}
use Rattle.std.proofs.lemmas.Bool.Decides.{nat_tests}

-- ---- the words at the front that pass a test

front_by : (p : Word → Bool) (w : Word) (ws : List Word) (t : Bool) → p w ≡ t → list_all p (take_while p ws) ≡ true → list_all p (cond t (w ∷ take_while p ws) []) ≡ true
front_by p w ws true e h = rw e h
front_by p w ws false e h = refl

pub front_passes : (p : Word → Bool) (ws : List Word) → list_all p (take_while p ws) ≡ true
front_passes p [] = refl
front_passes p (w ∷ ws) = ap (list_all p) (take_while-cons p w ws) ∙ front_by p w ws (p w) refl (front_passes p ws)

-- ---- how many names stand at the front, and the words from there on

front_by_map : {X : Type 0} (f : X → Word) (p : Word → Bool) (x : X) (xs : List X) (t : Bool) → take_while p (map f xs) ≡ map f (take_while (λ y. p (f y)) xs) → cond t (f x ∷ take_while p (map f xs)) [] ≡ map f (cond t (x ∷ take_while (λ y. p (f y)) xs) [])
front_by_map f p x xs true h = ap (λ ws. f x ∷ ws) h
front_by_map f p x xs false h = refl

front_map : {X : Type 0} (f : X → Word) (p : Word → Bool) (xs : List X) → take_while p (map f xs) ≡ map f (take_while (λ y. p (f y)) xs)
front_map f p [] = refl
front_map f p (x ∷ xs) =
    take_while-cons p (f x) (map f xs) ∙ front_by_map f p x xs (p (f x)) (front_map f p xs)
    ∙ ap (map f) (sym (take_while-cons (λ y. p (f y)) x xs))

pub front_length : {X : Type 0} (f : X → Word) (p : Word → Bool) (xs : List X) → length (take_while (λ y. p (f y)) xs) ≡ length (take_while p (map f xs))
front_length f p xs = sym (ap length (front_map f p xs) ∙ length-map (take_while (λ y. p (f y)) xs) f)

pub front_taken : {X : Type 0} (f : X → Word) (p : Word → Bool) (xs : List X) (n : ℕ) → n ≡ length (take_while p (map f xs)) → map f (take n xs) ≡ take_while p (map f xs)
front_taken f p xs n e = sym (take-map f n xs) ∙ ap (λ k. take k (map f xs)) (e ∙ length-prefix_len p (map f xs))

not_none : (n : ℕ) → n ≢ 0 → (n == 0) ≡ false
not_none zero h = absurd (h refl)
not_none (suc n) h = grind (arith, nat_tests)

-- a freeze after the names at the front, of which there is one at least
pub freeze_taken : (x v : Word) (ws : List Word) (n : ℕ) (ps rest : List Word) → n ≡ length (take_while is_name ws) → n ≢ 0 → ps ≡ take_while is_name ws → rest ≡ drop n ws → freeze_each x v ps rest ≡ freeze_after x v ws
freeze_taken x v ws n ps rest e some p r =
    let none : (length (take_while is_name ws) == 0) ≡ false = ap (λ k. k == 0) (sym e) ∙ not_none n some in
    rw (none, p, r, e) refl

-- ---- fewer words than a form has

pub short : (form : List Word → Line) → form [] ≡ Bad → ((w : Word) → form (w ∷ []) ≡ Bad) → {X : Type 0} (f : X → Word) (xs : List X) → length xs < 2 → Bad ≡ form (map f xs)
short form none one f [] lt = sym none
short form none one f (x ∷ []) lt = sym (one (f x))
short form none one f (x ∷ y ∷ xs) lt = absurd (omega arith)
