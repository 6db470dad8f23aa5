-- Where the tasks of a table stand.
use Rattle.std.proofs.Common.{◌≡◌, ◌<◌, inl, inr, ℕ, zero, suc, Bool, true, List, [], ◌∷◌, ◌++◌, Option, Some, None, refl, sym, ap, ◌∙◌}
use Rattle.std.specs.Prelude.{slice_get}
use Rattle.std.specs.Option.{option_map, unwrap_or}
use Rattle.std.specs.List.{IsDistinct}
use Rattle.std.specs.Map.{keys_of}
use Rattle.std.proofs.lemmas.Bool.{cases_order, false≢true}
use Rattle.std.proofs.lemmas.Map.Keys.{apart_from_distinct}
use Rattle.std.proofs.lemmas.Option.{slice_get-map, slice_get_within, get_or_from_slice_get}
use Rattle.lvish_calculus.specs.Calculus.{Task}
use Rattle.lvish_names.specs.Names.{Name, same_name}
use Rattle.lvish_names.proofs.NameLaws.{same_name-refl}
use Rattle.lvish_core.specs.Vocabulary.{Stage}
use Rattle.lvish_core.specs.Tasks.{HasEachOnce, IsAt, standings, task_names}
use Rattle.lvish_core.proofs.Maps.{names-standings}

same_some : {X : Type 0} {x y : X} → Some x ≡ Some y → x ≡ y
same_some {x = x} e = ap (λ o. unwrap_or o x) e

-- what a list has at an index, a longer one has there
pub at_still : {X : Type 0} (xs ys : List X) (i : ℕ) (x : X) → slice_get xs i ≡ Some x → slice_get (xs ++ ys) i ≡ Some x
at_still [] ys i x e = absurd (cc e)
at_still (y ∷ xs) ys zero x e = e
at_still (y ∷ xs) ys (suc i) x e = at_still xs ys i x e

-- a name that stands once has one index
one_index : {E : Type 0} (eq : Name E → Name E → Bool) → ((t : Name E) → eq t t ≡ true) → (names : List (Name E)) → IsDistinct eq names → (i j : ℕ) (t : Name E) → slice_get names i ≡ Some t → slice_get names j ≡ Some t → i < j → ⊥
one_index eq same names once i j t one other less =
    let apart = apart_from_distinct eq names i j t once less (slice_get_within names j t other) in
    false≢true (sym apart ∙ (λ k. eq (get_or_from_slice_get names i t t one k) (get_or_from_slice_get names j t t other k)) ∙ same t)

module _ {E L : Type 0} where
  -- an index of the names is one of the keys
  pub at-keys : (es : List (Name E × Stage L)) (i : ℕ) (t : Name E) → slice_get (keys_of es) i ≡ Some t → IsAt (standings es) i t
  at-keys es i t e = ap (λ ts. slice_get ts i) (names-standings es) ∙ e

  pub keys-at : (es : List (Name E × Stage L)) (i : ℕ) (t : Name E) → IsAt (standings es) i t → slice_get (keys_of es) i ≡ Some t
  keys-at es i t at = sym (ap (λ ts. slice_get ts i) (names-standings es)) ∙ at

  -- where a task stands there is its entry
  pub entry_at : (es : List (Name E × Stage L)) (i : ℕ) (t : Name E) → IsAt (standings es) i t → (s : Stage L) × (slice_get es i ≡ Some (t, s))
  entry_at es i t at = by (slice_get es i) refl
    where
      by : (o : Option (Name E × Stage L)) → slice_get es i ≡ o → (s : Stage L) × (slice_get es i ≡ Some (t, s))
      by None e = absurd (cc (sym (ap (option_map (λ p. p.0)) e) ∙ sym (slice_get-map (λ p. p.0) es i) ∙ keys-at es i t at))
      by (Some p) e = (p.1, e ∙ ap (λ u. Some (u, p.1)) (same_some (sym (ap (option_map (λ p. p.0)) e) ∙ sym (slice_get-map (λ p. p.0) es i) ∙ keys-at es i t at)))

  pub each_once : (eq : E → E → Bool) → ((e : E) → eq e e ≡ true) → (xs : List (Name E × Task L)) → IsDistinct (same_name eq) (task_names xs) → HasEachOnce xs
  each_once eq same xs once i j t one other =
      let no = one_index (same_name eq) (same_name-refl eq same) (task_names xs) once in
      elim (cases_order i j) [
        | inl equal ↦ equal
        | inr apart ↦ elim apart [
          | inl less ↦ absurd (no i j t one other less)
          | inr more ↦ absurd (no j i t other one more)
        ]
      ]
