-- What the checks of places and blocks give the reader of nested statements.
use Rattle.std.proofs.Common.{◌≡◌, ℕ, suc, ◌+◌, ◌-◌, ◌<◌, ◌≤◌, Bool, true, false, ◌||◌, ◌&&◌, not, List, [], ◌∷◌, ◌++◌, length, take, get_or, Option, Some, None, refl, sym, ap, subst, ◌∙◌, arith, eq-eqb, take_all, map, reverse}
use Rattle.std.specs.Prelude.{filter, ◌==◌}
use Rattle.std.specs.List.{list_any}
use Rattle.std.proofs.lemmas.Bool.{not-false}
use Rattle.std.proofs.lemmas.List.{take_more}
use Rattle.std.proofs.lemmas.List.Elements.{filter-append}
use Rattle.std.proofs.lemmas.List.Folds.{list_any-append}
use Rattle.lvish_script.specs.Vocabulary.{Procedure, Line, Blank, Bad, Versioned as Version, Declare, BadLine, OpenBlock, Opener, InProcedure}
use Rattle.lvish_script.specs.declared.nest.OpenProcedure.{OpenProcedure}
use Rattle.lvish_checks.specs.Checks.{on_line, line_fails, open_after, is_nil, is_procedure, is_misplaced, is_out_of_place}
use Rattle.lvish_script.specs.Spells.{says_something}
use Rattle.lvish_script.specs.Nested.{TakesLine, HasNone, opener, openers, what_is_said}
use Rattle.lvish_checks.proofs.Cuts.{left_fails, right_fails}
use Rattle.lvish_checks.proofs.Lines.{at_place, at_item}

and_right : (a b : Bool) → a ≡ true → (a && b) ≡ false → b ≡ false
and_right true b e h = h
and_right false b e h = absurd cc

one_said : (x : Line) → filter says_something (x ∷ []) ≡ what_is_said x
one_said Blank = refl
one_said Version = refl
one_said x = refl

fits_at : (before : List Line) (ps : List Procedure) (o : Option OpenProcedure) (line : Line) → (list_any is_procedure before ≡ false → HasNone ps o) → is_out_of_place before line ≡ false → is_misplaced (openers o) line ≡ false → TakesLine ps o line
fits_at before ps o Bad none bad mis = absurd cc
fits_at before ps o (Declare d) none bad mis = none bad
fits_at before ps o x none bad mis = mis

-- nothing is open, where no opener is
nil_openers : (o : Option OpenProcedure) → is_nil (openers o) ≡ true → o ≡ None
nil_openers None e = refl
nil_openers (Some p) e = absurd (never_nil (reverse (map opener p.blocks.items)) e)
  where
    never_nil : (os : List Opener) → is_nil (os ++ InProcedure ∷ []) ≡ true → ⊥
    never_nil [] e = cc
    never_nil (x ∷ os) e = cc

module _ (said : List Line) (placed : (l : ℕ) → on_line (line_fails BadLine said) said l ≡ false) (closed : (l : ℕ) → on_line (line_fails OpenBlock said) said l ≡ false) where
  pub fits : (i : ℕ) (x : Line) (ps : List Procedure) (o : Option OpenProcedure) → i < length said → x ≡ get_or said i x → openers o ≡ open_after [] (take i said) → (list_any is_procedure (take i said) ≡ false → HasNone ps o) → TakesLine ps o x
  fits i x ps o lt e opened none =
      let bad : is_out_of_place (take i said) x ≡ false = left_fails _ _ (sym (at_item (line_fails BadLine said i) said i x lt e) ∙ placed (suc i)) in
      let mis = left_fails _ _ (sym (at_item (line_fails OpenBlock said i) said i x lt e) ∙ closed (suc i)) in
      fits_at (take i said) ps o x none bad (subst (λ s. is_misplaced s x ≡ false) (sym opened) mis)

  pub says_more : (i : ℕ) (x : Line) → i < length said → x ≡ get_or said i x → filter says_something (take (i + 1) said) ≡ filter says_something (take i said) ++ what_is_said x
  says_more i x lt e = rw (take_more said i x lt) (filter-append says_something (take i said) (get_or said i x ∷ []) ∙ ap (λ (y : Line). filter says_something (take i said) ++ filter says_something (y ∷ [])) (sym e) ∙ ap (λ t. filter says_something (take i said) ++ t) (one_said x))

  pub none_more : (i : ℕ) (x : Line) → i < length said → x ≡ get_or said i x → list_any is_procedure (take (i + 1) said) ≡ false → (list_any is_procedure (take i said) ≡ false) × (is_procedure x ≡ false)
  none_more i x lt e h =
      let g : (list_any is_procedure (take i said) || (is_procedure x || false)) ≡ false = ap (λ (y : Line). list_any is_procedure (take i said) || (is_procedure y || false)) e ∙ sym (list_any-append is_procedure (take i said) (get_or said i x ∷ [])) ∙ ap (list_any is_procedure) (sym (take_more said i x lt)) ∙ h in
      (left_fails _ _ g, left_fails _ _ (right_fails _ _ g))

  pub closes : (d : Line) (o : Option OpenProcedure) → openers o ≡ open_after [] said → 0 < length said → o ≡ None
  closes d o e pos =
      let k = length said - 1 in
      let lt : length said - 1 < length said = omega arith in
      let last : (suc (length said - 1) == length said) ≡ true = eq-eqb _ _ (omega arith) in
      let r = right_fails (is_misplaced (open_after [] (take (length said - 1) said)) (get_or said (length said - 1) d)) _ (sym (at_place (line_fails OpenBlock said (length said - 1)) said (length said - 1) d lt) ∙ closed (suc (length said - 1))) in
      let n = and_right _ _ last r in
      nil_openers o (not-false _ (subst (λ s. not (is_nil s) ≡ false) (sym e) n))

pub ends_closed : (said : List Line) (placed : (l : ℕ) → on_line (line_fails BadLine said) said l ≡ false) (closed : (l : ℕ) → on_line (line_fails OpenBlock said) said l ≡ false) (i : ℕ) → length said ≤ i → (o : Option OpenProcedure) → openers o ≡ open_after [] (take i said) → o ≡ None
ends_closed [] placed closed i le o e = nil_openers o (ap is_nil (e ∙ ap (open_after []) (take_all i [] le)))
ends_closed (y ∷ ys) placed closed i le o e = closes (y ∷ ys) placed closed y o (e ∙ ap (open_after []) (take_all i (y ∷ ys) le)) (omega arith)
