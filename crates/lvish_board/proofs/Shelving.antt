-- A list under a key is written, and the others stay.
use Rattle.std.proofs.Common.{◌≡◌, inl, inr, Bool, true, false, cond, if◌then◌else◌, List, [], ◌∷◌, ◌++◌, length, ℕ, zero, suc, Option, Some, None, refl, sym, ap, subst, ◌∙◌}
use Rattle.smallvec.specs.SmallVec.{SmallVec}
use Rattle.std.specs.Prelude.{slice_get, slice_set}
use Rattle.std.specs.Cmp.{IsEquivalence}
use Rattle.std.specs.Map.{lookup}
use Rattle.std.specs.HashMap.{HashMap, get}
use Rattle.std.proofs.lemmas.Bool.{cases_Bool}
use Rattle.lvish_calculus.specs.Handing.{IsAmong}
use Rattle.lvish_core.specs.laws.Lists.{among_last}
use Rattle.lvish_board.specs.Shelved.{shelf, shelf_at, shelf_of, list_at, list_items}

-- what was pushed to a list lies on it
pub shelf_pushed : {T : Type 0} (x : T) (xs ys zs : List T) → ys ≡ xs ++ x ∷ [] → zs ≡ ys → IsAmong x zs
shelf_pushed x xs ys zs e d = subst (λ ws. IsAmong x ws) (sym (d ∙ e)) (among_last x xs (x ∷ []) (inl refl))

-- what lay on a list lies on the one that is there now
pub list_kept : {T : Type 0} (x : T) (o : Option (SmallVec T)) (v : SmallVec T) → ((u : SmallVec T) → o ≡ Some u → v ≡ u) → IsAmong x (list_items o) → IsAmong x v.items
list_kept x None v is i = absurd i
list_kept x (Some u) v is i = subst (λ l. IsAmong x l.items) (sym (is u refl)) i

-- in an empty list nothing lies
pub empty_list : {T : Type 0} (xs : List T) (x : T) → length xs ≡ 0 → IsAmong x xs → ⊥
empty_list [] x none i = i
empty_list (y ∷ ys) x none i = absurd cc

-- where there are no lists nothing lies
pub empty_shelf : {K T H : Type 0} (eq : K → K → Bool) (m : HashMap K (SmallVec T) H) → length m.entries ≡ 0 → (k : K) (x : T) → IsAmong x (shelf eq m k) → ⊥
empty_shelf {K} {T} eq m none k x i = by m.entries none i
  where
    by : (es : List (K × SmallVec T)) → length es ≡ 0 → IsAmong x (list_items (lookup (eq k) es)) → ⊥
    by [] z j = j
    by (e ∷ es) z j = absurd cc

module _ {K : Type 0} (eq : K → K → Bool) (laws : IsEquivalence eq) where
  -- under equal keys the same lies
  alike : {T : Type 0} (k q : K) → eq k q ≡ true → (es : List (K × T)) → lookup (eq k) es ≡ lookup (eq q) es
  alike k q e [] = refl
  alike k q e (x ∷ es) = ap (λ b. cond b (Some x.1) (lookup (eq k) es)) (laws.congr k q x.0 e) ∙ ap (λ r. cond (eq q x.0) (Some x.1) r) (alike k q e es)

  module _ {T H : Type 0} (m n : HashMap K (SmallVec T) H) (k : K) (w : SmallVec T) (updates : (q : K) → get eq n q ≡ cond (eq k q) (Some w) (get eq m q)) where
    -- what stays on the list that is written stays on every list
    pub shelf_kept : (q : K) (x : T) → (IsAmong x (shelf eq m k) → IsAmong x w.items) → IsAmong x (shelf eq m q) → IsAmong x (shelf eq n q)
    shelf_kept q x more i = elim (cases_Bool (eq k q)) [
      | inl e ↦
          let is : get eq n q ≡ Some w = updates q ∙ ap (λ b. cond b (Some w) (get eq m q)) e in
          subst (λ s. IsAmong x (list_items s)) (sym is) (more (subst (λ s. IsAmong x (list_items s)) (sym (alike k q e m.entries)) i))
      | inr e ↦
          let is : get eq n q ≡ get eq m q = updates q ∙ ap (λ b. cond b (Some w) (get eq m q)) e in
          subst (λ s. IsAmong x (list_items s)) (sym is) i
    ]

    -- and the list that is written is there
    pub shelf_written : shelf eq n k ≡ w.items
    shelf_written = ap (λ s. list_items s) (updates k ∙ ap (λ b. cond b (Some w) (get eq m k)) (laws.refl k))

module _ {X T : Type 0} (lies : Option X → List T) (nothing : (x : T) → IsAmong x (lies None) → ⊥) where
  -- what lies at the variables stays where what is written at one has what lay there
  written_kept : (xs : List X) (i : ℕ) (w : X) (v : ℕ) (x : T) → (IsAmong x (lies (slice_get xs i)) → IsAmong x (lies (Some w))) → IsAmong x (lies (slice_get xs v)) → IsAmong x (lies (slice_get (slice_set xs i w) v))
  written_kept [] i w zero x more a = absurd (nothing x a)
  written_kept [] i w (suc v) x more a = absurd (nothing x a)
  written_kept (z ∷ zs) zero w zero x more a = more a
  written_kept (z ∷ zs) zero w (suc v) x more a = a
  written_kept (z ∷ zs) (suc i) w zero x more a = a
  written_kept (z ∷ zs) (suc i) w (suc v) x more a = written_kept zs i w v x more a

  -- and where one more comes behind the others
  pushed_kept : (xs : List X) (w : X) (v : ℕ) (x : T) → IsAmong x (lies (slice_get xs v)) → IsAmong x (lies (slice_get (xs ++ w ∷ []) v))
  pushed_kept [] w zero x a = absurd (nothing x a)
  pushed_kept [] w (suc v) x a = absurd (nothing x a)
  pushed_kept (z ∷ zs) w zero x a = a
  pushed_kept (z ∷ zs) w (suc v) x a = pushed_kept zs w v x a

  pushed_kept_if : (b : Bool) (xs : List X) (w : X) (v : ℕ) (x : T) → IsAmong x (lies (slice_get xs v)) → IsAmong x (lies (slice_get (if b then (xs ++ w ∷ []) else xs) v))
  pushed_kept_if true xs w v x a = pushed_kept xs w v x a
  pushed_kept_if false xs w v x a = a

-- of lists by variable
module _ {T : Type 0} where
  pub listed_kept : (lists : List (SmallVec T)) (i : ℕ) (w : SmallVec T) (v : ℕ) (x : T) → (IsAmong x (list_at lists i) → IsAmong x w.items) → IsAmong x (list_at lists v) → IsAmong x (list_at (slice_set lists i w) v)
  listed_kept lists i w v x more a = written_kept (λ o. list_items o) (λ y j. j) lists i w v x more a

  pub listed_pushed : (lists : List (SmallVec T)) (w : SmallVec T) (v : ℕ) (x : T) → IsAmong x (list_at lists v) → IsAmong x (list_at (lists ++ w ∷ []) v)
  listed_pushed lists w v x a = pushed_kept (λ o. list_items o) (λ y j. j) lists w v x a

  pub listed_pushed_if : (b : Bool) (lists : List (SmallVec T)) (w : SmallVec T) (v : ℕ) (x : T) → IsAmong x (list_at lists v) → IsAmong x (list_at (if b then (lists ++ w ∷ []) else lists) v)
  listed_pushed_if b lists w v x a = pushed_kept_if (λ o. list_items o) (λ y j. j) b lists w v x a

-- and of tables by variable
module _ {K T H : Type 0} (eq : K → K → Bool) where
  pub tables_kept : (tables : List (HashMap K (SmallVec T) H)) (i : ℕ) (m : HashMap K (SmallVec T) H) (v : ℕ) (q : K) (x : T) → (IsAmong x (shelf_at eq tables i q) → IsAmong x (shelf eq m q)) → IsAmong x (shelf_at eq tables v q) → IsAmong x (shelf_at eq (slice_set tables i m) v q)
  tables_kept tables i m v q x more a = written_kept (λ o. shelf_of eq o q) (λ y j. j) tables i m v x more a

  pub tables_pushed : (tables : List (HashMap K (SmallVec T) H)) (m : HashMap K (SmallVec T) H) (v : ℕ) (q : K) (x : T) → IsAmong x (shelf_at eq tables v q) → IsAmong x (shelf_at eq (tables ++ m ∷ []) v q)
  tables_pushed tables m v q x a = pushed_kept (λ o. shelf_of eq o q) (λ y j. j) tables m v x a

  pub tables_pushed_if : (b : Bool) (tables : List (HashMap K (SmallVec T) H)) (m : HashMap K (SmallVec T) H) (v : ℕ) (q : K) (x : T) → IsAmong x (shelf_at eq tables v q) → IsAmong x (shelf_at eq (if b then (tables ++ m ∷ []) else tables) v q)
  tables_pushed_if b tables m v q x a = pushed_kept_if (λ o. shelf_of eq o q) (λ y j. j) b tables m v x a
