-- Lines one after the other, as a loop sees them.
use Rattle.std.proofs.Common.{◌≡◌, ℕ, zero, suc, ◌+◌, ◌<◌, ◌≤◌, Bool, true, false, List, [], ◌∷◌, ◌++◌, length, take, get_or, Option, None, Some, refl, sym, ap, subst, ◌∙◌, arith, inl, inr}
use Rattle.std.specs.Prelude.{slice_get, map, if◌then◌else◌}
use Rattle.std.specs.Option.{option_map_or, option_or}
use Rattle.std.proofs.lemmas.Option.{slice_get_past}
use Rattle.std.proofs.lemmas.List.{take_more}
use Rattle.std.proofs.lemmas.Bool.{cases_lt}
use Rattle.lvish_checks.specs.Vocabulary.{Line, Opener}
use Rattle.lvish_checks.specs.Checks.{on_line, IsLowest, IsFirstOn, open_after, open_step, locals_after, locals_step}

pub open_after-push : (opened : List Opener) (ls : List Line) (l : Line) → open_after opened (ls ++ l ∷ []) ≡ open_step (open_after opened ls) l
open_after-push opened [] l = refl
open_after-push opened (x ∷ ls) l = open_after-push (open_step opened x) ls l

pub locals_after-push : (found : Option (List (List ℕ))) (ls : List Line) (l : Line) → locals_after found (ls ++ l ∷ []) ≡ locals_step (locals_after found ls) l
locals_after-push found [] l = refl
locals_after-push found (x ∷ ls) l = locals_after-push (locals_step found x) ls l

pub open_after-more : (ls : List Line) (i : ℕ) (x : Line) → i < length ls → x ≡ get_or ls i x → open_after [] (take (i + 1) ls) ≡ open_step (open_after [] (take i ls)) x
open_after-more ls i x lt e = rw (take_more ls i x lt) (open_after-push [] (take i ls) (get_or ls i x) ∙ ap (open_step (open_after [] (take i ls))) (sym e))

pub locals_after-more : (ls : List Line) (i : ℕ) (x : Line) → i < length ls → x ≡ get_or ls i x → locals_after None (take (i + 1) ls) ≡ locals_step (locals_after None (take i ls)) x
locals_after-more ls i x lt e = rw (take_more ls i x lt) (locals_after-push None (take i ls) (get_or ls i x) ∙ ap (locals_step (locals_after None (take i ls))) (sym e))

module _ {X : Type 0} (test : ℕ → X → Bool) (xs : List X) where
  pub passes_more : (k : ℕ) → ((m : ℕ) → m ≤ k → on_line test xs m ≡ false) → option_map_or (test k) (slice_get xs k) false ≡ false → (m : ℕ) → m ≤ k + 1 → on_line test xs m ≡ false
  passes_more k h here m le =
      elim (cases_lt m (k + 1)) [
        | inl lt ↦ h m (omega arith)
        | inr ge ↦ let e : suc k ≡ m = omega arith in subst (λ j. on_line test xs j ≡ false) e here
      ]

  pub passes_all : (k : ℕ) → length xs ≤ k → ((m : ℕ) → m ≤ k → on_line test xs m ≡ false) → (m : ℕ) → on_line test xs m ≡ false
  passes_all k past h zero = refl
  passes_all k past h (suc j) =
      elim (cases_lt j k) [
        | inl lt ↦ h (suc j) (omega arith)
        | inr ge ↦ rw (slice_get_past xs j (omega arith)) refl
      ]

  pub lowest_here : (k : ℕ) → ((m : ℕ) → m ≤ k → on_line test xs m ≡ false) → option_map_or (test k) (slice_get xs k) false ≡ true → IsLowest (on_line test xs) (k + 1)
  lowest_here k h here = record {
    at = let e : suc k ≡ k + 1 = omega arith in subst (λ j. on_line test xs j ≡ true) e here;
    below = λ m lt. h m (omega arith);
  }

-- the first line on which a test holds, of those up to a line
abbrev pub IsFirstUpTo : (ℕ → Bool) → ℕ → Option ℕ → Type 0
IsFirstUpTo test k None = (m : ℕ) → m ≤ k → test m ≡ false
IsFirstUpTo test k (Some l) = IsLowest test l

module _ {X : Type 0} (test : ℕ → X → Bool) (xs : List X) where
  pub first_more : (k : ℕ) (found : Option ℕ) (b : Bool) → option_map_or (test k) (slice_get xs k) false ≡ b → IsFirstUpTo (on_line test xs) k found → IsFirstUpTo (on_line test xs) (k + 1) (option_or found (if b then Some (k + 1) else None))
  first_more k None true here h = lowest_here test xs k h here
  first_more k None false here h = passes_more test xs k h here
  first_more k (Some l) b here low = low

  pub first_of_all : (k : ℕ) (found : Option ℕ) → length xs ≤ k → IsFirstUpTo (on_line test xs) k found → IsFirstOn (on_line test xs) found
  first_of_all k None past h = passes_all test xs k past h
  first_of_all k (Some l) past low = low

-- the item that a list made by f has at a place
pub at_map : {X Y : Type 0} (f : X → Y) (test : Y → Bool) (xs : List X) (k : ℕ) (d : X) → k < length xs → option_map_or test (slice_get (map f xs) k) false ≡ test (f (get_or xs k d))
at_map f test [] k d lt = absurd (omega arith)
at_map f test (y ∷ xs) zero d lt = refl
at_map f test (y ∷ xs) (suc k) d lt = at_map f test xs k d (omega arith)

pub at_place : {X : Type 0} (test : X → Bool) (xs : List X) (k : ℕ) (d : X) → k < length xs → option_map_or test (slice_get xs k) false ≡ test (get_or xs k d)
at_place test [] k d lt = absurd (omega arith)
at_place test (y ∷ xs) zero d lt = refl
at_place test (y ∷ xs) (suc k) d lt = at_place test xs k d (omega arith)

pub at_item : {X : Type 0} (test : X → Bool) (xs : List X) (k : ℕ) (x : X) → k < length xs → x ≡ get_or xs k x → option_map_or test (slice_get xs k) false ≡ test x
at_item test xs k x lt e = at_place test xs k x lt ∙ ap test (sym e)

-- ---- a step of a loop over the lines, at the line x with place k

module _ {X : Type 0} (test : ℕ → X → Bool) (xs : List X) (k : ℕ) (x : X) (lt : k < length xs) (e : x ≡ get_or xs k x) where
  pub passed_on : ((m : ℕ) → m ≤ k → on_line test xs m ≡ false) → test k x ≡ false → (m : ℕ) → m ≤ k + 1 → on_line test xs m ≡ false
  passed_on before here = passes_more test xs k before (at_item (test k) xs k x lt e ∙ here)

  pub fails_at : ((m : ℕ) → m ≤ k → on_line test xs m ≡ false) → test k x ≡ true → IsLowest (on_line test xs) (k + 1)
  fails_at before here = lowest_here test xs k before (at_item (test k) xs k x lt e ∙ here)

-- the lines up to and with x
pub taken_with : {X : Type 0} (xs : List X) (k : ℕ) (x : X) → k < length xs → x ≡ get_or xs k x → take (k + 1) xs ≡ take k xs ++ x ∷ []
taken_with xs k x lt e = take_more xs k x lt ∙ ap (λ y. take k xs ++ y ∷ []) (sym e)
