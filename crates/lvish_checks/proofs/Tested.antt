-- Loops that test each item of a list.
use Rattle.std.proofs.Common.{◌≡◌, ℕ, ◌+◌, ◌<◌, ◌≤◌, Bool, true, false, ◌&&◌, ◌||◌, List, length, get_or, drop, sym, ap, ◌∙◌}
use Rattle.std.specs.List.{list_all, list_any}
use Rattle.std.proofs.lemmas.List.{drop_all, drop_more}

module _ {X : Type 0} (p : X → Bool) (xs : List X) (i : ℕ) where
  -- this item passes: all do where those behind it do
  pub all_more : {b : Bool} (d : X) → i < length xs → p (get_or xs i d) ≡ true → list_all p (drop i xs) ≡ b → list_all p (drop (i + 1) xs) ≡ b
  all_more d lt passed h = ap (λ t. t && list_all p (drop (i + 1) xs)) (sym passed) ∙ ap (list_all p) (sym (drop_more xs i d lt)) ∙ h

  -- this item fails
  pub all_fail : {b : Bool} (d : X) → i < length xs → p (get_or xs i d) ≡ false → list_all p (drop i xs) ≡ b → false ≡ b
  all_fail d lt failed h = ap (λ t. t && list_all p (drop (i + 1) xs)) (sym failed) ∙ ap (list_all p) (sym (drop_more xs i d lt)) ∙ h

  -- no item is left
  pub all_pass : {b : Bool} → length xs ≤ i → list_all p (drop i xs) ≡ b → true ≡ b
  all_pass le h = ap (list_all p) (sym (drop_all i xs le)) ∙ h

  -- this item fails: one passes where one behind it does
  pub any_more : {b : Bool} (d : X) → i < length xs → p (get_or xs i d) ≡ false → list_any p (drop i xs) ≡ b → list_any p (drop (i + 1) xs) ≡ b
  any_more d lt failed h = ap (λ t. t || list_any p (drop (i + 1) xs)) (sym failed) ∙ ap (list_any p) (sym (drop_more xs i d lt)) ∙ h

  -- this item passes
  pub any_passes : {b : Bool} (d : X) → i < length xs → p (get_or xs i d) ≡ true → list_any p (drop i xs) ≡ b → true ≡ b
  any_passes d lt passed h = ap (λ t. t || list_any p (drop (i + 1) xs)) (sym passed) ∙ ap (list_any p) (sym (drop_more xs i d lt)) ∙ h

  -- no item is left
  pub none_passes : {b : Bool} → length xs ≤ i → list_any p (drop i xs) ≡ b → false ≡ b
  none_passes le h = ap (list_any p) (sym (drop_all i xs le)) ∙ h
