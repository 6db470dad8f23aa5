-- Where a key stands in the list of a block, or would stand, and what is put there.
use Rattle.std.proofs.Common.{◌≡◌, ℕ, zero, suc, ◌<◌, ◌≤◌, add-one, Bool, true, false, true≢false, Option, List, [], ◌∷◌, ◌++◌, map, length, ◌+◌, get_or, slice_get, slice_set, Some, None, refl, ap, subst, sym, ◌∙◌, arith}
use Rattle.std.proofs.lemmas.List.Sorted.{searchable_from_sorted}
use Rattle.std.proofs.lemmas.Option.{same_Some, get_or_from_slice_get}
use Rattle.std.specs.List.{AllByRecursion, AllWithin, HoldsAt, insert}
use Rattle.std.specs.List.Sorted.{IsStrictlySortedBy, IsNonDecreasingBy}
use Rattle.std.specs.Prelude.{cond}
use Rattle.std.specs.Cmp.{IsTotalOrder, Equal-is}
use Rattle.std.specs.Map.{lookup}
use Rattle.std.specs.Ordering.{match_ordering, is_eq, is_lt, is_gt, is_some_and, partial_gt, ordering_reverse, ordering_index}
use Rattle.std.specs.BTreeMap.{insert_entry, is_at}
use Rattle.lvish_compound.specs.Vocabulary.{Ordering, Less, Equal, Greater}
use Rattle.lvish_compound.specs.Blocks.{Before, Past, IsAt, IsGap}
use Rattle.lvish_compound.specs.Keys.{IsRising}
use Rattle.lvish_compound.specs.Keyed.{key}
use Rattle.lvish_compound.proofs.Blocks.{flip, flop, insert_past, insert_first, right_rises}

only_less : (r : Ordering) → ordering_index r ≤ 0 → r ≡ Less
only_less Less h = refl
only_less Equal h = absurd (omega arith)
only_less Greater h = absurd (omega arith)

only_greater : (r : Ordering) → is_gt r ≡ true → r ≡ Greater
only_greater Less h = absurd (cc h)
only_greater Equal h = absurd (cc h)
only_greater Greater h = refl

-- what `>` and `==` say of the order
pub test_above : {K : Type 0} (R : K → K → Ordering) (compare : K → K → Option Ordering) → ((x y : K) → compare x y ≡ Some (R x y)) → (x y : K) → partial_gt compare x y ≡ true → R x y ≡ Greater
test_above R compare by x y h = only_greater (R x y) (sym (ap (is_some_and is_gt) (by x y)) ∙ h)

pub test_not_above : {K : Type 0} (R : K → K → Ordering) (compare : K → K → Option Ordering) → ((x y : K) → compare x y ≡ Some (R x y)) → (x y : K) → partial_gt compare x y ≡ false → R x y ≡ Greater → ⊥
test_not_above R compare by x y h above = true≢false (sym (ap (is_some_and is_gt) (by x y) ∙ ap is_gt above) ∙ h)

pub test_equal : {K : Type 0} (R : K → K → Ordering) (eq : K → K → Bool) → ((x y : K) → eq x y ≡ is_eq (R x y)) → (x y : K) → eq x y ≡ true → R x y ≡ Equal
test_equal R eq ties x y h = (Equal-is (R x y)).0 (sym (ties x y) ∙ h)

pub test_other : {K : Type 0} (R : K → K → Ordering) (eq : K → K → Bool) → ((x y : K) → eq x y ≡ is_eq (R x y)) → (x y : K) → eq x y ≡ false → R x y ≡ Equal → ⊥
test_other R eq ties x y h equal = true≢false (sym (ties x y ∙ ap is_eq equal) ∙ h)

-- what a search for the key knows: the keys of the entries before `low` are below it, and none from `top` on is
abbrev pub IsNarrowed : {K X : Type 0} → (K → K → Ordering) → K → List (K × X) → ℕ → ℕ → Type 0
IsNarrowed R k es low top = (low ≤ top) × (top ≤ length es) × AllWithin (λ e. R e.0 k ≡ Less) es 0 low × AllWithin (λ e. R e.0 k ≡ Less → ⊥) es top (length es)

module _ {K X : Type 0} (R : K → K → Ordering) (high : K → K) (o : IsTotalOrder R) (same : (x y : K) → R x y ≡ Equal → x ≡ y) (rises : IsRising R high) where
  neighbours : (es : List (K × X)) → IsStrictlySortedBy R (map key es) → (i : ℕ) (d : K × X) → suc i < length es → is_lt (R (key (get_or es (suc i) d)) (key (get_or es i d))) ≡ false
  unfolding IsStrictlySortedBy
  neighbours [] s i d lt = absurd (omega arith)
  neighbours (x ∷ []) s i d lt = absurd (omega arith)
  neighbours (x ∷ y ∷ ys) s zero d lt = ap is_lt (flop R o (key x) (key y) s.0.0)
  neighbours (x ∷ y ∷ ys) s (suc i) d lt = neighbours (y ∷ ys) s.1 i d (omega arith)

  -- what a binary search asks
  searchable : (es : List (K × X)) → IsStrictlySortedBy R (map key es) → (k : K) → IsNonDecreasingBy (λ e. ordering_index (R e.0 k)) es
  searchable es s k = searchable_from_sorted o key es k (λ i d low lt. rw add-one (neighbours es s i d (omega arith)))

  all_at : (P : K → Type 0) (xs ys : List (K × X)) (e : K × X) → AllByRecursion P (map key (xs ++ e ∷ ys)) → P e.0
  all_at P [] ys e h = h.0
  all_at P (x ∷ xs) ys e h = all_at P xs ys e h.1

  at_from : (k : K) (es : List (K × X)) (i : ℕ) → IsStrictlySortedBy R (map key es) → i < length es → HoldsAt (λ e. R e.0 k ≡ Equal) es i → IsAt R k es i
  unfolding IsStrictlySortedBy
  at_from k [] i s lt h = absurd (omega arith)
  at_from k (e ∷ es) zero s lt h = ([], e, es, refl, refl, tt, o.antisymm k e.0 ∙ ap ordering_reverse (h e))
  at_from k (e ∷ es) (suc i) s lt h =
      let w = at_from k es i s.1 (omega arith) (λ d. h d) in
      let less : R e.0 w.1.0 ≡ Less = all_at (λ j. R e.0 j ≡ Less) w.0 w.2 w.1 (subst (λ zs. AllByRecursion (λ j. R e.0 j ≡ Less) (map key zs)) w.3 s.0) in
      let above : R k e.0 ≡ Greater = subst (λ j. R j e.0 ≡ Greater) (sym (same k w.1.0 w.6)) (flop R o e.0 w.1.0 less) in
      (e ∷ w.0, w.1, w.2, ap (λ zs. e ∷ zs) w.3, ap suc w.4, (above, w.5), w.6)

  gap_from : (k : K) (es : List (K × X)) (i : ℕ) → i ≤ length es → AllWithin (λ e. R e.0 k ≡ Less) es 0 i → AllWithin (λ e. R e.0 k ≡ Greater) es i (length es) → IsGap R k es i
  gap_from k [] zero le below above = ([], [], refl, refl, tt, tt)
  gap_from k (e ∷ es) zero le below above = ([], e ∷ es, refl, refl, tt, flip R o e.0 k (above 0 e (omega arith) (omega arith)))
  gap_from k [] (suc i) le below above = absurd (omega arith)
  gap_from k (e ∷ es) (suc i) le below above =
      let w = gap_from k es i (omega arith) (λ j d low lt. below (suc j) d (omega arith) (omega arith)) (λ j d low lt. above (suc j) d (omega arith) (omega arith)) in
      (e ∷ w.0, w.1, ap (λ zs. e ∷ zs) w.2, ap suc w.3, (flop R o e.0 k (below 0 e (omega arith) (omega arith)), w.4), w.5)

  pub narrowed_all : (k : K) (es : List (K × X)) (top : ℕ) → top ≡ length es → IsNarrowed R k es 0 top
  narrowed_all k es top all = (omega arith, omega arith, (λ j d from under. absurd (omega arith)), (λ j d from under. absurd (omega arith)))

  module _ (k : K) (es : List (K × X)) (s : IsStrictlySortedBy R (map key es)) where
    -- the entries up to one that is below the key
    pub narrowed_up : (low top middle : ℕ) (x : K × X) → IsNarrowed R k es low top → middle < top → slice_get es middle ≡ Some x → R k x.0 ≡ Greater → IsNarrowed R k es (middle + 1) top
    narrowed_up low top middle x n lt there above = (
      omega arith,
      n.1,
      (λ j d le under.
          only_less (R (get_or es j d).0 k) (below j d (searchable es s k j middle d (omega arith) (let t = n.1 in omega arith)))),
      n.3,
    )
      where
        less : (d : K × X) → ordering_index (R (get_or es middle d).0 k) ≡ 0
        less d = ap (λ y. ordering_index (R y.0 k)) (get_or_from_slice_get es middle x d there) ∙ ap ordering_index (flip R o k x.0 above)

        below : (j : ℕ) (d : K × X) → ordering_index (R (get_or es j d).0 k) ≤ ordering_index (R (get_or es middle d).0 k) → ordering_index (R (get_or es j d).0 k) ≤ 0
        below j d le = let z = less d in omega arith

    -- and those from one on that isn't
    pub narrowed_down : (low top middle : ℕ) (x : K × X) → IsNarrowed R k es low top → low ≤ middle → middle < top → slice_get es middle ≡ Some x → (R k x.0 ≡ Greater → ⊥) → IsNarrowed R k es low middle
    narrowed_down low top middle x n le lt there stays = (
      le,
      (let t = n.1 in omega arith),
      n.2,
      (λ j d from under less.
          stays (flop R o x.0 k (ap (λ y. R y.0 k) (sym (get_or_from_slice_get es middle x d there)) ∙ only_less (R (get_or es middle d).0 k) (zero_of j d less (searchable es s k middle j d from under))))),
    )
      where
        zero_of : (j : ℕ) (d : K × X) → R (get_or es j d).0 k ≡ Less → ordering_index (R (get_or es middle d).0 k) ≤ ordering_index (R (get_or es j d).0 k) → ordering_index (R (get_or es middle d).0 k) ≤ 0
        zero_of j d less le = let z = ap ordering_index less in omega arith

    -- where a search ends
    pub narrowed_at : (i : ℕ) (x : K × X) → i < length es → slice_get es i ≡ Some x → R k x.0 ≡ Equal → IsAt R k es i
    narrowed_at i x lt there equal = at_from k es i s lt (λ d. ap (λ y. R y.0 k) (get_or_from_slice_get es i x d there) ∙ (o.antisymm x.0 k ∙ ap ordering_reverse equal))

    pub narrowed_end : (low i : ℕ) → IsNarrowed R k es low i → i ≤ low → low ≡ length es → IsGap R k es low
    narrowed_end low i n done last = gap_from k es low (omega arith) n.2 (λ j d from under. absurd (omega arith))

    pub narrowed_gap : (low i : ℕ) (x : K × X) → IsNarrowed R k es low i → i ≤ low → slice_get es low ≡ Some x → (R k x.0 ≡ Equal → ⊥) → IsGap R k es low
    narrowed_gap low i x n done there other = gap_from k es low (let a = n.0 in let b = n.1 in omega arith) n.2 (λ j d from under. above j d under from (R (get_or es j d).0 k) refl)
      where
        here : (d : K × X) → get_or es low d ≡ x
        here d = get_or_from_slice_get es low x d there

        not_less : (d : K × X) → low < length es → R (get_or es low d).0 k ≡ Less → ⊥
        not_less d lt = n.3 low d (omega arith) lt

        not_equal : (d : K × X) → R (get_or es low d).0 k ≡ Equal → ⊥
        not_equal d e = other (o.antisymm k x.0 ∙ ap ordering_reverse (ap (λ y. R y.0 k) (sym (here d)) ∙ e))

        low_rank : (d : K × X) → low < length es → (r : Ordering) → R (get_or es low d).0 k ≡ r → ordering_index r ≤ 1 → ⊥
        low_rank d lt Less e h = not_less d lt e
        low_rank d lt Equal e h = not_equal d e
        low_rank d lt Greater e h = absurd (omega arith)

        above : (j : ℕ) (d : K × X) → j < length es → low ≤ j → (r : Ordering) → R (get_or es j d).0 k ≡ r → R (get_or es j d).0 k ≡ Greater
        above j d under from Less e = absurd (n.3 j d (omega arith) under e)
        above j d under from Equal e = absurd (low_rank d (omega arith) (R (get_or es low d).0 k) refl (let z = ap ordering_index e in let m = searchable es s k low j d from under in omega arith))
        above j d under from Greater e = e

  insert_here : (xs ys : List (K × X)) (e : K × X) → insert (xs ++ ys) (length xs) e ≡ xs ++ e ∷ ys
  insert_here [] ys e = refl
  insert_here (x ∷ xs) ys e = ap (λ zs. x ∷ zs) (insert_here xs ys e)

  -- an entry that is put where it isn't, but would stand
  pub insert_at_gap : (k : K) (v : X) (es : List (K × X)) (i : ℕ) → IsGap R k es i → insert es i (k, v) ≡ insert_entry R es k v
  insert_at_gap k v es i (xs, ys, is, at, past, before) =
      let put : insert_entry R (xs ++ ys) k v ≡ xs ++ (k, v) ∷ ys = insert_past R high o same rises k v xs ys past ∙ ap (λ zs. xs ++ zs) (insert_first R high o same rises k v ys before) in
      subst (λ zs. insert zs i (k, v) ≡ insert_entry R zs k v) (sym is) (subst (λ j. insert (xs ++ ys) j (k, v) ≡ insert_entry R (xs ++ ys) k v) at (insert_here xs ys (k, v) ∙ sym put))

  lookup_past : (k : K) (xs ys : List (K × X)) → Past R k xs → lookup (is_at (R k)) (xs ++ ys) ≡ lookup (is_at (R k)) ys
  lookup_past k [] ys h = refl
  lookup_past k (x ∷ xs) ys h = ap (λ r. cond (is_eq r) (Some x.1) (lookup (is_at (R k)) (xs ++ ys))) h.0 ∙ lookup_past k xs ys h.1

  lookup_before : (k : K) (ys : List (K × X)) → IsStrictlySortedBy R (map key ys) → Before R k ys → lookup (is_at (R k)) ys ≡ None
  unfolding IsStrictlySortedBy
  lookup_before k [] s h = refl
  lookup_before k (y ∷ []) s h = ap (λ r. cond (is_eq r) (Some y.1) None) h
  lookup_before k (y ∷ z ∷ zs) s h = ap (λ r. cond (is_eq r) (Some y.1) (lookup (is_at (R k)) (z ∷ zs))) h ∙ lookup_before k (z ∷ zs) s.1 (o.trans k y.0 z.0 h s.0.0)

  pub lookup_at_gap : (k : K) (es : List (K × X)) (i : ℕ) → IsGap R k es i → IsStrictlySortedBy R (map key es) → lookup (is_at (R k)) es ≡ None
  lookup_at_gap k es i (xs, ys, is, at, past, before) s =
      ap (lookup (is_at (R k))) is ∙ lookup_past k xs ys past ∙ lookup_before k ys (right_rises R high o same rises xs ys (subst (λ zs. IsStrictlySortedBy R (map key zs)) is s)) before

  get_here : (xs ys : List (K × X)) (e : K × X) → slice_get (xs ++ e ∷ ys) (length xs) ≡ Some e
  get_here [] ys e = refl
  get_here (x ∷ xs) ys e = get_here xs ys e

  set_here : (xs ys : List (K × X)) (e f : K × X) → slice_set (xs ++ e ∷ ys) (length xs) f ≡ xs ++ f ∷ ys
  set_here [] ys e f = refl
  set_here (x ∷ xs) ys e f = ap (λ zs. x ∷ zs) (set_here xs ys e f)

  insert_here_again : (k : K) (w : X) (ys : List (K × X)) (e : K × X) → R k e.0 ≡ Equal → insert_entry R (e ∷ ys) k w ≡ (e.0, w) ∷ ys
  insert_here_again k w ys e t = ap (λ r. match_ordering r ((k, w) ∷ e ∷ ys) ((e.0, w) ∷ ys) (e ∷ insert_entry R ys k w)) t

  -- an entry that is there, with another part
  pub set_at : (k : K) (w : X) (es : List (K × X)) (i : ℕ) (x : K × X) → IsAt R k es i → slice_get es i ≡ Some x → slice_set es i (x.0, w) ≡ insert_entry R es k w
  set_at k w es i x (xs, e, ys, is, at, past, equal) there =
      let here : e ≡ x = same_Some _ _ (sym (get_here xs ys e) ∙ ap (slice_get (xs ++ e ∷ ys)) at ∙ ap (λ zs. slice_get zs i) (sym is) ∙ there) in
      let put : insert_entry R (xs ++ e ∷ ys) k w ≡ xs ++ (e.0, w) ∷ ys = insert_past R high o same rises k w xs (e ∷ ys) past ∙ ap (λ zs. xs ++ zs) (insert_here_again k w ys e equal) in
      subst (λ (z : K × X). slice_set es i (z.0, w) ≡ insert_entry R es k w) here
      (subst (λ zs. slice_set zs i (e.0, w) ≡ insert_entry R zs k w) (sym is) (subst (λ j. slice_set (xs ++ e ∷ ys) j (e.0, w) ≡ insert_entry R (xs ++ e ∷ ys) k w) at (set_here xs ys e (e.0, w) ∙ sym put)))

  pub lookup_at_place : (k : K) (es : List (K × X)) (i : ℕ) (x : K × X) → IsAt R k es i → slice_get es i ≡ Some x → lookup (is_at (R k)) es ≡ Some x.1
  lookup_at_place k es i x (xs, e, ys, is, at, past, equal) there =
      let here : e ≡ x = same_Some _ _ (sym (get_here xs ys e) ∙ ap (slice_get (xs ++ e ∷ ys)) at ∙ ap (λ zs. slice_get zs i) (sym is) ∙ there) in
      ap (lookup (is_at (R k))) is ∙ lookup_past k xs (e ∷ ys) past ∙ ap (λ r. cond (is_eq r) (Some e.1) (lookup (is_at (R k)) ys)) equal ∙ ap (λ (z : K × X). Some z.1) here
