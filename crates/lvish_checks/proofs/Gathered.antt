-- A loop that gathers a value for each word, where each has one.
use Rattle.std.proofs.Common.{◌≡◌, ℕ, ◌+◌, ◌<◌, ◌≤◌, List, [], ◌∷◌, ◌++◌, length, get_or, drop, map, Option, Some, None, Bor, refl, sym, ap, ◌∙◌, append_assoc}
use Rattle.std.specs.Option.{option_map}
use Rattle.std.proofs.lemmas.List.{append-nil, drop_all, drop_more}
use Rattle.lvish_syntax.specs.Words.{Word}
use Rattle.lvish_checks.specs.Form.{all_of}

pub values_begin : {X : Type 0} (done : List X) (m : Option (List X)) → done ≡ [] → option_map (λ xs. done ++ xs) m ≡ m
values_begin done None e = refl
values_begin done (Some xs) e = rw e refl

shifted : {X : Type 0} (done : List X) (x : X) (m : Option (List X)) → option_map (λ xs. (done ++ x ∷ []) ++ xs) m ≡ option_map (λ xs. done ++ xs) (option_map (λ xs. x ∷ xs) m)
shifted done x None = refl
shifted done x (Some xs) = ap Some (append_assoc done (x ∷ []) xs)

module _ {X : Type 0} (f : Word → Option X) (words : List (Bor Word)) (i : ℕ) (done : List X) (whole : Option (List X)) where
  -- the values before a place, with those of the words from there on
  abbrev Gathered : Type 0
  Gathered = option_map (λ xs. done ++ xs) (all_of f (map (λ w. w.now) (drop i words))) ≡ whole

  pub values_more : (d : Bor Word) (x : X) → i < length words → Some x ≡ f (get_or words i d).now → Gathered → option_map (λ xs. (done ++ x ∷ []) ++ xs) (all_of f (map (λ w. w.now) (drop (i + 1) words))) ≡ whole
  values_more d x lt e h =
      let here : all_of f (map (λ w. w.now) (drop i words)) ≡ option_map (λ xs. x ∷ xs) (all_of f (map (λ w. w.now) (drop (i + 1) words))) = rw (drop_more words i d lt, ← e) refl in
      shifted done x _ ∙ ap (option_map (λ xs. done ++ xs)) (sym here) ∙ h

  pub values_none : (d : Bor Word) → i < length words → None ≡ f (get_or words i d).now → Gathered → None ≡ whole
  values_none d lt e h =
      let here : all_of f (map (λ w. w.now) (drop i words)) ≡ None = rw (drop_more words i d lt, ← e) refl in
      ap (option_map (λ xs. done ++ xs)) (sym here) ∙ h

  pub values_end : length words ≤ i → Gathered → Some done ≡ whole
  values_end le h =
      let none : all_of f (map (λ w. w.now) (drop i words)) ≡ Some [] = rw (drop_all i words le) refl in
      ap Some (sym (append-nil done)) ∙ ap (option_map (λ xs. done ++ xs)) (sym none) ∙ h
