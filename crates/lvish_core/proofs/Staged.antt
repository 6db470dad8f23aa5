-- Names and what runs under them, in two lists beside each other, as one list of tasks.
use Rattle.std.proofs.Common.{◌≡◌, ◌+◌, ◌<◌, ◌++◌, ◌∷◌, ℕ, zero, suc, List, [], length, map, get_or, min, take, take_all, Option, Some, None, option_copied, slice_get, slice_set, sym, ap, refl, ◌∙◌, arith, Bor}
use Rattle.std.specs.List.{zip}
use Rattle.std.specs.Slice.{IsItemAt}
use Rattle.std.specs.Map.Iter.{deref_pair}
use Rattle.std.proofs.lemmas.List.{length-map, map-append, take_more}
use Rattle.std.proofs.lemmas.Map.Made.{keys_of-zip}
use Rattle.std.proofs.lemmas.Slice.Zip.{get_or-zip, length-zip}
use Rattle.std.proofs.lemmas.Option.{slice_get_past, slice_get_read}
use Rattle.lvish_names.specs.Names.{Name}
use Rattle.lvish_core.specs.Tasks.{IsAt, entries_at, standing, standings, task_names}
use Rattle.lvish_core.specs.Vocabulary.{Stage}
use Rattle.lvish_core.proofs.Maps.{names-standings}

-- ---- lists beside each other

-- what is lent of a list is what it has at the index
pub item_at : {X : Type 0} (xs : List X) (i : ℕ) (r : Option (Bor X)) → IsItemAt xs i r → option_copied r ≡ slice_get xs i
item_at xs i None is = sym (slice_get_past xs i is.3)
item_at xs i (Some x) is = sym (slice_get_read xs _ i x.now refl is.3.0 is.1)

module _ {K X : Type 0} where
  -- what stands at an index
  pub zip_at : (ks : List K) (xs : List X) (i : ℕ) (k : K) (x : X) → slice_get ks i ≡ Some k → slice_get xs i ≡ Some x → slice_get (zip ks xs) i ≡ Some (k, x)
  zip_at [] xs i k x is there = absurd (cc is)
  zip_at (l ∷ ks) [] i k x is there = absurd (cc there)
  zip_at (l ∷ ks) (y ∷ xs) zero k x is there = cc (is, there)
  zip_at (l ∷ ks) (y ∷ xs) (suc i) k x is there = zip_at ks xs i k x is there

  -- after one of the second list was written
  pub zip_set : (ks : List K) (xs : List X) (i : ℕ) (k : K) (x : X) → slice_get ks i ≡ Some k → zip ks (slice_set xs i x) ≡ slice_set (zip ks xs) i (k, x)
  zip_set [] xs i k x is = absurd (cc is)
  zip_set (l ∷ ks) [] i k x is = refl
  zip_set (l ∷ ks) (y ∷ xs) zero k x is = ap (λ o. (o, x) ∷ zip ks xs) (cc is)
  zip_set (l ∷ ks) (y ∷ xs) (suc i) k x is = ap (λ es. (l, y) ∷ es) (zip_set ks xs i k x is)

  -- after one more came behind each
  pub zip_push : (ks : List K) (xs : List X) (k : K) (x : X) → length xs ≡ length ks → zip (ks ++ k ∷ []) (xs ++ x ∷ []) ≡ zip ks xs ++ (k, x) ∷ []
  zip_push [] [] k x beside = refl
  zip_push [] (y ∷ xs) k x beside = absurd (omega (arith, beside))
  zip_push (l ∷ ks) [] k x beside = absurd (omega (arith, beside))
  zip_push (l ∷ ks) (y ∷ xs) k x beside = ap (λ es. (l, y) ∷ es) (zip_push ks xs k x (omega (arith, beside)))

-- ---- names and stages

module _ {E L : Type 0} where
  -- what runs under the names
  pub stages-zip : (names : List (Name E)) (stages : List (Stage L)) → length stages ≡ length names → map standing stages ≡ map (λ e. e.1) (standings (zip names stages))
  stages-zip [] [] beside = refl
  stages-zip [] (s ∷ stages) beside = absurd (omega (arith, beside))
  stages-zip (t ∷ names) [] beside = absurd (omega (arith, beside))
  stages-zip (t ∷ names) (s ∷ stages) beside = ap (λ xs. standing s ∷ xs) (stages-zip names stages (omega (arith, beside)))

module _ {E L : Type 0} (names : List (Name E)) (stages : List (Stage L)) (beside : length stages ≡ length names) where
  -- the names of the tasks
  pub names-zip : task_names (standings (zip names stages)) ≡ names
  names-zip = names-standings (zip names stages) ∙ keys_of-zip names stages beside

  -- there are as many tasks as names
  pub length-tasks : length (standings (zip names stages)) ≡ length names
  length-tasks = sym (length-map (standings (zip names stages)) (λ e. e.0)) ∙ ap length names-zip

  -- an index of a name is its task's
  pub at-names : (i : ℕ) (t : Name E) → slice_get names i ≡ Some t → IsAt (standings (zip names stages)) i t
  at-names i t is = ap (λ ts. slice_get ts i) names-zip ∙ is

  pub names-at : (i : ℕ) (t : Name E) → IsAt (standings (zip names stages)) i t → slice_get names i ≡ Some t
  names-at i t at = sym (ap (λ ts. slice_get ts i) names-zip) ∙ at

-- ---- references to both, pair by pair

module _ {E L : Type 0} (names : List (Name E)) (stages : List (Stage L)) (refs : List (Bor (Name E) × Bor (Stage L))) (n : ℕ) (so_far : entries_at refs ≡ take n (zip names stages)) where
  -- one pair more
  pub named_more : (r : Bor (Name E) × Bor (Stage L)) → n < length names → n < length stages → ((d : Name E) → r.0.now ≡ get_or names n d) → ((d : Stage L) → r.1.now ≡ get_or stages n d)
      → (m : ℕ) → m ≡ n + 1 → (more : List (Bor (Name E) × Bor (Stage L))) → more ≡ refs ++ r ∷ [] → entries_at more ≡ take m (zip names stages)
  named_more r short long name stage m next more is =
      let within : n < length (zip names stages) = omega (arith, short, long, length-zip names stages) in
      ap entries_at is ∙ map-append deref_pair refs (r ∷ []) ∙ (λ i. so_far i ++ entry i ∷ []) ∙ sym (take_more (zip names stages) n (deref_pair r) within) ∙ ap (λ k. take k (zip names stages)) (sym next)
    where
      entry : deref_pair r ≡ get_or (zip names stages) n (deref_pair r)
      entry = (λ i. (name r.0.now i, stage r.1.now i)) ∙ sym (get_or-zip names stages n (deref_pair r) short long)

  -- all pairs
  pub named_all : n ≡ min (length names) (length stages) → entries_at refs ≡ zip names stages
  named_all end = so_far ∙ take_all n (zip names stages) (omega (arith, end, length-zip names stages))
