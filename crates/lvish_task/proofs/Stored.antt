-- Values of locals by number and by name.
use Rattle.std.proofs.Common.{◌≡◌, ◌≢◌, ℕ, ℤ, pos, zero, suc, ◌+◌, ◌<◌, Bool, true, false, not, cond, List, [], ◌∷◌, ◌++◌, length, map, Ok, refl, sym, ap, ◌∙◌, subst, arith}
use Rattle.std.specs.Prelude.{if◌then◌else◌, replicate}
use Rattle.std.specs.Str.{bytes_eq}
use Rattle.std.specs.List.{slice_index_or, slice_set}
use Rattle.std.specs.Cmp.Lexicographic.{bytes_decides}
use Rattle.std.proofs.lemmas.List.{get_or-set_same, get_or-set_other}
use Rattle.lvish_compound.specs.declared.number_test.Test.TheVariants as test
use Rattle.lvish_syntax.specs.Words.{Word}
use Rattle.lvish_syntax.specs.Name.{has_name}
use Rattle.lvish_task.specs.Vocabulary.{Term, LetValue, Threshold}
use Rattle.lvish_syntax.specs.declared.term.Term.TheVariants.{Local, Number}
use Rattle.lvish_syntax.specs.declared.let_value.LetValue.TheVariants.{Same, Combined}
use Rattle.lvish_syntax.specs.declared.threshold.Threshold.TheVariants.{Any, In, Has, Least, Total}
use Rattle.lvish_code.specs.Numbering.{name_number}
use Rattle.lvish_code.specs.Compile.{Names, operand_of, expression_of, wanted_of}
use Rattle.lvish_code.specs.laws.Lists.{place_below}
use Rattle.lvish_code.specs.laws.Names.{text_is}
use Rattle.lvish_task.specs.Arithmetic.{combined}
use Rattle.lvish_task.specs.Run.{operand_value, expression_value, wanted_test}
use Rattle.lvish_task.specs.Meaning.{Valuation, term_value, with_value, value_given, threshold_test, bound}

zeros : (n k : ℕ) → slice_index_or (replicate n (pos 0)) k (pos 0) ≡ pos 0
zeros zero k = refl
zeros (suc n) zero = refl
zeros (suc n) (suc k) = zeros n k

index_next : (v : ℤ) (vs : List ℤ) (k : ℕ) → slice_index_or (v ∷ vs) (1 + k) (pos 0) ≡ slice_index_or vs k (pos 0)
index_next v vs k = let e : 1 + k ≡ suc k = omega arith in ap (λ n. slice_index_or (v ∷ vs) n (pos 0)) e

-- at its beginning a procedure has its arguments, and zeros
pub bound_at : (xs more : List Word) (vs : List ℤ) (n : ℕ) (y : Word) → length vs ≡ length xs → slice_index_or (vs ++ replicate n (pos 0)) (name_number (xs ++ more) y) (pos 0) ≡ bound xs vs y
bound_at [] more [] n y e = zeros n (name_number more y)
bound_at [] more (v ∷ vs) n y e = absurd (omega arith)
bound_at (x ∷ xs) more [] n y e = absurd (omega arith)
bound_at (x ∷ xs) more (v ∷ vs) n y e = go (bytes_eq x y) (bound_at xs more vs n y (omega arith))
  where
    go : (b : Bool) → slice_index_or (vs ++ replicate n (pos 0)) (name_number (xs ++ more) y) (pos 0) ≡ bound xs vs y → slice_index_or (v ∷ (vs ++ replicate n (pos 0))) (cond (not b) (1 + name_number (xs ++ more) y) 0) (pos 0) ≡ (if b then v else bound xs vs y)
    go true h = refl
    go false h = index_next v (vs ++ replicate n (pos 0)) (name_number (xs ++ more) y) ∙ h

-- two names that stand and have one number are one
same_number : (names : List Word) (x y : Word) → name_number names x < length names → name_number names y ≡ name_number names x → y ≡ x
same_number [] x y h e = absurd (omega arith)
same_number (z ∷ zs) x y h e = go (bytes_eq z x) refl (bytes_eq z y) refl (same_number zs x y) h e
  where
    go : (b : Bool) → bytes_eq z x ≡ b → (d : Bool) → bytes_eq z y ≡ d → (name_number zs x < length zs → name_number zs y ≡ name_number zs x → y ≡ x) → cond (not b) (1 + name_number zs x) 0 < suc (length zs) → cond (not d) (1 + name_number zs y) 0 ≡ cond (not b) (1 + name_number zs x) 0 → y ≡ x
    go true p true q i h e = sym (text_is z y q) ∙ text_is z x p
    go true p false q i h e = absurd (omega arith)
    go false p true q i h e = absurd (omega arith)
    go false p false q i h e = i (omega arith) (omega arith)

-- a value given to a local is given to its name
pub stored_at : (names : List Word) (vs : List ℤ) (f : Valuation) (x : Word) (a : ℤ) → length vs ≡ length names → has_name x names ≡ true → ((y : Word) → slice_index_or vs (name_number names y) (pos 0) ≡ f y) → (y : Word) → slice_index_or (slice_set vs (name_number names x) a) (name_number names y) (pos 0) ≡ with_value f x a y
stored_at names vs f x a long has values y = go (bytes_eq y x) refl
  where
    within : name_number names x < length names
    within = place_below (λ z. bytes_eq z x) names has

    go : (b : Bool) → bytes_eq y x ≡ b → slice_index_or (slice_set vs (name_number names x) a) (name_number names y) (pos 0) ≡ (if b then a else f y)
    go true is =
        ap (λ z. slice_index_or (slice_set vs (name_number names x) a) (name_number names z) (pos 0)) (text_is y x is)
        ∙ get_or-set_same vs (name_number names x) a (pos 0) (subst (λ n. name_number names x < n) (sym long) within)
    go false is =
        let other : name_number names y ≢ name_number names x = λ e. let s = same_number names x y within e in let t : bytes_eq y x ≡ true = ap (λ z. bytes_eq z x) s ∙ (bytes_decides x x).1 refl in absurd cc in
        get_or-set_other vs (name_number names x) (name_number names y) a (pos 0) other ∙ values y

module _ (names : Names) (vs : List ℤ) (f : Valuation) (values : (y : Word) → slice_index_or vs (name_number names.locals y) (pos 0) ≡ f y) where
  pub value_at : (t : Term) → operand_value vs (operand_of names t) ≡ term_value f t
  value_at (Local x) = values x
  value_at (Number n) = refl

  pub values_at : (ts : List Term) → map (operand_value vs) (map (operand_of names) ts) ≡ map (term_value f) ts
  values_at [] = refl
  values_at (t ∷ ts) = let h = value_at t in let k = values_at ts in cc

  pub given_at : (v : LetValue) → expression_value vs (expression_of names v) ≡ value_given f v
  given_at (Same t) = ap (λ n. Ok n) (value_at t)
  given_at (Combined a o b) = ap (λ n. combined o n (operand_value vs (operand_of names b))) (value_at a) ∙ ap (combined o (term_value f a)) (value_at b)

  pub test_at : (r : Threshold) → wanted_test vs (wanted_of names r) ≡ threshold_test f r
  test_at Any = refl
  test_at (In ns) = refl
  test_at (Has t) = ap test.At (value_at t)
  test_at (Least t) = ap test.At (value_at t)
  test_at (Total t) = ap test.At (value_at t)
