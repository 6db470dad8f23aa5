-- Lists of entries, each a key and a value above the least one: finite functions into a lattice, and their pointwise join.
use Rattle.std.specs.Prelude.{Bool, cond, not, List, [], ◌∷◌, Option, Some, option_and_then, option_map}
use Rattle.lvish_compound.specs.Vocabulary.{Ordering}
use Rattle.std.specs.Ordering.{eq_by_cmp, match_ordering}
use Rattle.std.specs.List.{list_all}
use Rattle.std.specs.Prelude.{Bool, ◌&&◌, List, [], ◌∷◌, ◌++◌, map}
use Rattle.std.specs.Ordering.{eq_by_cmp, ordering_then}

abbrev pub key : {K L : Type 0} → K × L → K
key e = e.0

-- no entry holds x
abbrev pub has_no : {K L : Type 0} → (L → L → Bool) → L → List (K × L) → Bool
has_no eq x es = list_all (λ e. not (eq e.1 x)) es

-- one entry, and none where the value is x
abbrev pub single_entry : {K L : Type 0} → (L → L → Bool) → L → K → L → List (K × L)
single_entry eq x k v = cond (eq v x) [] ((k, v) ∷ [])

module _ {K L : Type 0} (R : K → K → Ordering) (least : L) (join : L → L → Option L) where
  -- what a key holds
  abbrev pub at : List (K × L) → K → L
  at [] q = least
  at (e ∷ es) q = cond (eq_by_cmp R q e.0) e.1 (at es q)

  -- the value joined to what the key holds
  abbrev pub add : K → L → List (K × L) → Option (List (K × L))
  add k v [] = Some ((k, v) ∷ [])
  add k v (e ∷ es) = match_ordering (R k e.0) (Some ((k, v) ∷ e ∷ es)) (option_map (λ w. (e.0, w) ∷ es) (join e.1 v)) (option_map (λ fs. e ∷ fs) (add k v es))

  -- each entry of the second list joined to the first
  abbrev pub add_all : List (K × L) → List (K × L) → Option (List (K × L))
  add_all es [] = Some es
  add_all es (f ∷ fs) = option_and_then (λ gs. add_all gs fs) (add f.0 f.1 es)

-- the key with each of the events
abbrev pub of_key : {K E : Type 0} → K → List E → List (K × E)
of_key k xs = map (λ x. (k, x)) xs

-- the events of all entries, where those of a value depend on its key too
abbrev pub events_by : {K L E : Type 0} → (K → L → List E) → List (K × L) → List (K × E)
events_by ev [] = []
events_by ev (e ∷ es) = of_key e.0 (ev e.0 e.1) ++ events_by ev es

abbrev pub events_of : {K L E : Type 0} → (L → List E) → List (K × L) → List (K × E)
events_of ev = events_by (λ _ v. ev v)

-- pairs by the first part, and then by the second
abbrev pub by_both : {K E : Type 0} → (K → K → Ordering) → (E → E → Ordering) → K × E → K × E → Ordering
by_both R C x y = ordering_then (R x.0 y.0) (C x.1 y.1)

abbrev pub both_tie : {K E : Type 0} → (K → K → Ordering) → (E → E → Ordering) → K × E → K × E → Bool
both_tie R C x y = eq_by_cmp R x.0 y.0 && eq_by_cmp C x.1 y.1
