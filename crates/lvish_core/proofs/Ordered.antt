-- A map's entries in the order of their names.
use Rattle.std.specs.Ordering.{is_lt, is_eq, eq_by_cmp, ordering_reverse}
use Rattle.std.proofs.lemmas.List.MinMax.{ranks_by}
use Rattle.std.proofs.lemmas.Map.Keys.{IsDistinct-IsPermutation}
use Rattle.std.proofs.Common.{◌≡◌, ℕ, suc, ◌<◌, ◌≤◌, Bool, true, false, List, [], ◌∷◌, length, get_or, Option, Some, None, Ordering, map, sym, ap, subst, ◌∙◌, refl, arith, Less, Equal, Greater, Bor}
use Rattle.std.specs.Cmp.{IsEquivalence, IsTotalOrder}
use Rattle.std.specs.List.{AllByRecursion, IsDistinct}
use Rattle.std.specs.List.Sorted.{IsPermutation, IsSortedBy, IsStrictlySortedBy}
use Rattle.std.specs.Map.{lookup, keys_of}
use Rattle.std.specs.Map.Iter.{deref_pair}
use Rattle.lvish_names.specs.NameOrder.{name_cmp}
use Rattle.std.proofs.lemmas.List.Sorted.{IsPermutation-sym, IsPermutation-map, Contains-permutation, sorted_far}
use Rattle.std.proofs.lemmas.Map.Views.{Contains-from_lookup, lookup-from_Contains}
use Rattle.lvish_names.specs.Names.{Name, same_name}
use Rattle.lvish_core.specs.declared.stage.Stage.{Stage}
use Rattle.lvish_core.specs.Tasks.{SameTasks, standing_at, standings, entries_at, task_names}
use Rattle.lvish_core.proofs.Maps.{names-standings, task_of-standings}

module _ {K X : Type 0} {eq : K → K → Bool} (laws : IsEquivalence eq) (exact : (x y : K) → eq x y ≡ true → x ≡ y) where
  -- what a look-up finds it finds in any order
  still_there : (q : K) (v : X) (es fs : List (K × X)) → IsPermutation es fs → IsDistinct eq (keys_of fs) → lookup (eq q) es ≡ Some v → lookup (eq q) fs ≡ Some v
  still_there q v es fs p d h = lookup-from_Contains laws q v fs d (Contains-permutation es fs (q, v) p (Contains-from_lookup exact q v es h))

  by_cases : (q : K) (es fs : List (K × X)) → IsPermutation es fs → IsDistinct eq (keys_of es) → IsDistinct eq (keys_of fs)
      → (o r : Option X) → lookup (eq q) es ≡ o → lookup (eq q) fs ≡ r → o ≡ r
  by_cases q es fs p d e (Some v) r h k = sym (still_there q v es fs p e h) ∙ k
  by_cases q es fs p d e None (Some w) h k = sym h ∙ still_there q w fs es (IsPermutation-sym es fs p) d k
  by_cases q es fs p d e None None h k = refl

  pub lookup_in_order : (q : K) (es fs : List (K × X)) → IsPermutation es fs → IsDistinct eq (keys_of es) → IsDistinct eq (keys_of fs) → lookup (eq q) es ≡ lookup (eq q) fs
  lookup_in_order q es fs p d e = by_cases q es fs p d e (lookup (eq q) es) (lookup (eq q) fs) refl refl

-- tasks in another order are the same tasks
pub same_tasks : {E L : Type 0} (eq : E → E → Bool) → IsEquivalence (same_name eq) → ((t u : Name E) → same_name eq t u ≡ true → t ≡ u)
    → (es fs : List (Name E × Stage L)) → IsPermutation es fs → IsDistinct (same_name eq) (keys_of es) → IsDistinct (same_name eq) (keys_of fs)
    → SameTasks eq (standings es) (standings fs)
same_tasks eq laws exact es fs p d e t =
    task_of-standings eq es t ∙ ap standing_at (lookup_in_order laws exact t es fs p d e) ∙ sym (task_of-standings eq fs t)

-- ---- sorted by its key, and distinct: strictly sorted

flipped : (r : Ordering) → is_eq (ordering_reverse r) ≡ is_eq r
flipped Less = refl
flipped Equal = refl
flipped Greater = refl

remains : (r s : Ordering) → s ≡ ordering_reverse r → is_lt s ≡ false → is_eq r ≡ false → r ≡ Less
remains Less s e above other = refl
remains Equal s e above other = absurd cc
remains Greater s e above other =
    let yes : is_lt s ≡ true = ap is_lt e in
    absurd cc

module _ {T K : Type 0} (key : T → K) {cmp : K → K → Ordering} (o : IsTotalOrder cmp) where
  above_all : (t : K) (ps : List T) → ((k : ℕ) (d : T) → k < length ps → is_lt (cmp (key (get_or ps k d)) t) ≡ false) → AllByRecursion (λ u. is_eq (cmp t u) ≡ false) (map key ps) → AllByRecursion (λ u. cmp t u ≡ Less) (map key ps)
  above_all t [] up other = tt
  above_all t (p ∷ ps) up other = (remains (cmp t (key p)) (cmp (key p) t) (o.antisymm (key p) t) (up 0 p (omega arith)) other.0, above_all t ps (λ k d lt. up (suc k) d (omega (arith, lt))) other.1)

  ascend : (ps : List T) → ((i j : ℕ) (d : T) → i ≤ j → j < length ps → is_lt (cmp (key (get_or ps j d)) (key (get_or ps i d))) ≡ false) → IsDistinct (λ t u. is_eq (cmp t u)) (map key ps) → IsStrictlySortedBy cmp (map key ps)
  unfolding IsStrictlySortedBy IsDistinct
  ascend [] far once = tt
  ascend (p ∷ ps) far once = (above_all (key p) ps (λ k d lt. far 0 (suc k) d (omega arith) (omega (arith, lt))) once.0, ascend ps (λ i j d le lt. far (suc i) (suc j) d (omega (arith, le)) (omega (arith, lt))) once.1)

  pub distinct_too : (ps qs : List T) → IsDistinct (λ t u. is_eq (cmp t u)) (map key ps) → IsPermutation ps qs → IsDistinct (λ t u. is_eq (cmp t u)) (map key qs)
  distinct_too ps qs once moved = IsDistinct-IsPermutation (λ t u. is_eq (cmp t u)) (λ t u. ap is_eq (o.antisymm t u) ∙ flipped (cmp u t)) (map key ps) (map key qs) (IsPermutation-map key ps qs moved) once

  pub ascending : (ps qs : List T) → IsDistinct (λ t u. is_eq (cmp t u)) (map key ps) → IsPermutation ps qs → IsSortedBy (λ x y. is_lt (cmp (key x) (key y))) qs → IsStrictlySortedBy cmp (map key qs)
  ascending ps qs once moved up = ascend qs (sorted_far (λ x y. is_lt (cmp (key x) (key y))) (ranks_by o key) qs up) (distinct_too ps qs once moved)

-- ---- references to a map's entries

keys_at : {E L : Type 0} (refs : List (Bor (Name E) × Bor (Stage L))) → keys_of (entries_at refs) ≡ map (λ r. r.0.now) refs
keys_at [] = refl
keys_at (r ∷ refs) = ap (λ ts. r.0.now ∷ ts) (keys_at refs)

module _ {E L : Type 0} (eq : E → E → Bool) (laws : IsEquivalence (same_name eq)) (es : List (Name E × Stage L)) (once : IsDistinct (same_name eq) (keys_of es))
    (refs sorted : List (Bor (Name E) × Bor (Stage L))) (all : entries_at refs ≡ es) (moved : IsPermutation refs sorted) where
  moved_entries : IsPermutation es (entries_at sorted)
  moved_entries = subst (λ xs. IsPermutation xs (entries_at sorted)) all (IsPermutation-map deref_pair refs sorted moved)

  moved_once : IsDistinct (same_name eq) (keys_of (entries_at sorted))
  moved_once = IsDistinct-IsPermutation (same_name eq) laws.symm (keys_of es) (keys_of (entries_at sorted)) (IsPermutation-map (λ e. e.0) es (entries_at sorted) moved_entries) once

  pub sorted_tasks : ((t u : Name E) → same_name eq t u ≡ true → t ≡ u) → SameTasks eq (standings es) (standings (entries_at sorted))
  sorted_tasks exact = same_tasks eq laws exact es (entries_at sorted) moved_entries once moved_once

  module _ (cmp : E → E → Ordering) (total : IsTotalOrder (name_cmp cmp)) (ties : (t u : Name E) → same_name eq t u ≡ eq_by_cmp (name_cmp cmp) t u) where
    pub sorted_names : IsSortedBy (λ x y. is_lt (name_cmp cmp x.0.now y.0.now)) sorted → IsStrictlySortedBy (name_cmp cmp) (task_names (standings (entries_at sorted)))
    sorted_names up =
        let apart : IsDistinct (same_name eq) (map (λ r. r.0.now) refs) = subst (λ ks. IsDistinct (same_name eq) ks) (ap keys_of (sym all) ∙ keys_at refs) once in
        let apart_by : IsDistinct (λ t u. is_eq (name_cmp cmp t u)) (map (λ r. r.0.now) refs) = subst (λ test. IsDistinct test (map (λ r. r.0.now) refs)) (λ i t u. ties t u i) apart in
        subst (λ ks. IsStrictlySortedBy (name_cmp cmp) ks) (sym (names-standings (entries_at sorted) ∙ keys_at sorted)) (ascending (λ (r : Bor (Name E) × Bor (Stage L)). r.0.now) total refs sorted apart_by moved up)
