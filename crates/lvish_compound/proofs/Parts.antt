-- The entries of a tree, as the list that they stand for.
use Rattle.std.proofs.Common.{◌≡◌, ◌↔◌, ℕ, ◌<◌, length, slice_get, IsSome, IfSome, MatchOption, arith, Bool, true, false, cond, not, List, [], ◌∷◌, ◌++◌, map, Option, Some, None, Result, IfOk, IfErr, option_map, option_and_then, unwrap_or, is_some, append_assoc, true≢false, refl, sym, ◌∙◌, ap, subst}
use Rattle.std.proofs.lemmas.Map.{lookup-none}
use Rattle.std.proofs.lemmas.Result.{IfErr-weaker, IfOk-weaker}
use Rattle.std.proofs.lemmas.Map.Entries.{none_below_head}
use Rattle.std.specs.Option.{UnwrapsOrElse}
use Rattle.std.specs.Map.{lookup, set_value}
use Rattle.std.specs.BTreeMap.{is_at, insert_entry}
use Rattle.lvish_compound.specs.Vocabulary.{Ordering, Less, Equal, Greater}
use Rattle.std.specs.Ordering.{eq_by_cmp, is_eq, ordering_reverse, match_ordering}
use Rattle.std.specs.Cmp.{IsTotalOrder, Equal-is}
use Rattle.std.specs.List.{AllByRecursion}
use Rattle.std.specs.List.Sorted.{IsStrictlySortedBy}
use Rattle.lvish_lattice.specs.Lattice.{IsJoin, IsOutcome, fresh_of}
use Rattle.lvish_lattice.specs.declared.brought.Brought.{Brought}
use Rattle.lvish_lattice.specs.declared.brought.Brought.TheVariants.{Nothing, One, Top, Listed}
use Rattle.lvish_compound.proofs.Outcomes.{outcome_as}
use Rattle.lvish_lattice.specs.Ascending.{and_left, and_right}
use Rattle.lvish_lattice.specs.Listed.{unless_some}
use Rattle.std.proofs.lemmas.List.{nil_from_length}
use Rattle.std.proofs.lemmas.Option.{same_Some}
use Rattle.std.specs.Map.Iter.{TakesFirst}
use Rattle.lvish_compound.specs.Keyed.{key, has_no, at, add, add_all}
use Rattle.lvish_compound.specs.laws.KeyedLaws.{at_below, at_first, all_joins, all_there}
use Rattle.lvish_compound.specs.laws.Embedded.{map_twice}
use Rattle.lvish_compound.specs.laws.Pointwise.{right_unit}

-- what was made where there was none
pub made_for_none : {T : Type 0} (o : Option T) (P : T → Type 0) (x : T) → o ≡ None → UnwrapsOrElse o P x → P x
made_for_none None P x e h = h
made_for_none (Some y) P x e h = absurd (cc e)

-- what a borrow leaves behind once it has ended, by the value e that was matched as d
pub left_behind : {A N X : Type 0} (name : A → N) (left : A → X) (e d : A) (n : N) (x : X) → name e ≡ n → e ≡ d → (n ≡ name d → x ≡ left d) → x ≡ left e
left_behind name left e d n x same is told = told (sym same ∙ ap name is) ∙ ap left (sym is)

-- the only entry, read as the first
pub only_by : {A K L : Type 0} (shows : A → K × L) (es : List (K × L)) (n : ℕ) (r : Option A) → n ≡ length es → n ≡ 1 → (IsSome r ↔ (0 < length es)) → IfSome r (λ p. slice_get es 0 ≡ Some (shows p))
    → MatchOption r (length es ≡ 1 → ⊥) (λ p. es ≡ shows p ∷ [])
only_by shows es n None e one has first = absurd (true≢false (sym (has.1 (omega arith))))
only_by shows [] n (Some p) e one has first = absurd (omega arith)
only_by shows (x ∷ []) n (Some p) e one has first = ap (λ z. z ∷ []) (same_Some _ _ first)
only_by shows (x ∷ y ∷ es) n (Some p) e one has first = absurd (omega arith)

-- the only entry, taken as the first
pub only_taken : {A X : Type 0} (shows : A → X) (s t : List X) (r : Option A) → length s ≡ 1 → TakesFirst shows s r t → MatchOption r (length s ≡ 1 → ⊥) (λ x. s ≡ shows x ∷ [])
only_taken shows s t None one taken = λ _. absurd (let none = ap length taken.0 in omega (arith, one))
only_taken shows s t (Some x) one taken = taken ∙ ap (λ xs. shows x ∷ xs) (nil_from_length t (let all = ap length taken in omega (arith, one)))

module _ {K L : Type 0} (R : K → K → Ordering) where
  abbrev S : List (K × L) → Type 0
  S es = IsStrictlySortedBy R (map key es)

  pub set_same : (k : K) (x : L) (es : List (K × L)) → lookup (is_at (R k)) es ≡ Some x → set_value (is_at (R k)) es x ≡ es
  set_same k x [] h = refl
  set_same k x (e ∷ es) h = elim (R k e.0) as (λ r. cond (is_eq r) (Some e.1) (lookup (is_at (R k)) es) ≡ Some x → cond (is_eq r) ((e.0, x) ∷ es) (e ∷ set_value (is_at (R k)) es x) ≡ e ∷ es) [
    | Less ↦ λ h. ap (λ fs. e ∷ fs) (set_same k x es h)
    | Equal ↦ λ h. ap (λ y. (e.0, y) ∷ es) (sym (same_Some _ _ h))
    | Greater ↦ λ h. ap (λ fs. e ∷ fs) (set_same k x es h)
  ] h

  module _ (o : IsTotalOrder R) where
    all_at : (k : K) (es rest : List (K × L)) (x : K × L) → AllByRecursion (λ y. R k y ≡ Less) (map key (es ++ x ∷ rest)) → R k x.0 ≡ Less
    all_at k [] rest x b = b.0
    all_at k (e ∷ es) rest x b = all_at k es rest x b.1

    -- an entry that is there gets another part where it stands
    pub insert_found : (k : K) (x w : L) (es : List (K × L)) → S es → lookup (is_at (R k)) es ≡ Some x → insert_entry R es k w ≡ set_value (is_at (R k)) es w
    unfolding IsStrictlySortedBy
    insert_found k x w [] s h = absurd (cc h)
    insert_found k x w (e ∷ es) s h = elim (R k e.0) as (λ r. R k e.0 ≡ r → cond (is_eq r) (Some e.1) (lookup (is_at (R k)) es) ≡ Some x → match_ordering r ((k, w) ∷ e ∷ es) ((e.0, w) ∷ es) (e ∷ insert_entry R es k w) ≡ cond (is_eq r) ((e.0, w) ∷ es) (e ∷ set_value (is_at (R k)) es w)) [
      | Less ↦ λ r h. absurd (cc (sym (lookup-none (is_at (R k)) es (none_below_head o k e es s r).1) ∙ h))
      | Equal ↦ λ r h. refl
      | Greater ↦ λ r h. ap (λ fs. e ∷ fs) (insert_found k x w es s.1 h)
    ] refl h

    -- an entry above all others is put at the end
    insert_last : (es rest : List (K × L)) (x : K × L) → S (es ++ x ∷ rest) → insert_entry R es x.0 x.1 ≡ es ++ x ∷ []
    unfolding IsStrictlySortedBy
    insert_last [] rest x s = refl
    insert_last (e ∷ es) rest x s =
        let above : R x.0 e.0 ≡ Greater = o.antisymm x.0 e.0 ∙ ap ordering_reverse (all_at e.0 es rest x s.0) in
        ap (λ r. match_ordering r (x ∷ e ∷ es) ((e.0, x.1) ∷ es) (e ∷ insert_entry R es x.0 x.1)) above ∙ ap (λ fs. e ∷ fs) (insert_last es rest x s.1)

    -- one entry of a copy more
    pub copied_more : (all es fs xs ys : List (K × L)) (k : K) (p v : L) → S all → es ++ xs ≡ all → xs ≡ (k, p) ∷ ys → v ≡ p → fs ≡ insert_entry R es k v → fs ++ ys ≡ all
    copied_more all es fs xs ys k p v s h e w new =
        let whole : es ++ (k, p) ∷ ys ≡ all = ap (λ zs. es ++ zs) (sym e) ∙ h in
        ap (λ zs. zs ++ ys) (new ∙ ap (insert_entry R es k) w ∙ insert_last es ys (k, p) (subst (λ zs. S zs) (sym whole) s)) ∙ append_assoc es ((k, p) ∷ []) ys ∙ whole

module _ {K L : Type 0} (R : K → K → Ordering) (least : L) (join : L → L → Option L) where
  -- what a look-up finds is what the key holds
  pub lookup_at : (k : K) (es : List (K × L)) → unwrap_or (lookup (is_at (R k)) es) least ≡ at R least join es k
  lookup_at k [] = refl
  lookup_at k (e ∷ es) = elim (R k e.0) as (λ r. unwrap_or (cond (is_eq r) (Some e.1) (lookup (is_at (R k)) es)) least ≡ cond (is_eq r) e.1 (at R least join es k)) [ Less ↦ lookup_at k es | Equal ↦ refl | Greater ↦ lookup_at k es ]

  add_new : (k : K) (v : L) (es : List (K × L)) → lookup (is_at (R k)) es ≡ None → add R least join k v es ≡ Some (insert_entry R es k v)
  add_new k v [] h = refl
  add_new k v (e ∷ es) h = elim (R k e.0) as (λ r. cond (is_eq r) (Some e.1) (lookup (is_at (R k)) es) ≡ None
      → match_ordering r (Some ((k, v) ∷ e ∷ es)) (option_map (λ w. (e.0, w) ∷ es) (join e.1 v)) (option_map (λ fs. e ∷ fs) (add R least join k v es)) ≡ Some (match_ordering r ((k, v) ∷ e ∷ es) ((e.0, v) ∷ es) (e ∷ insert_entry R es k v))) [
        | Less ↦ λ h. refl
        | Equal ↦ λ h. absurd (cc h)
        | Greater ↦ λ h. ap (option_map (λ fs. e ∷ fs)) (add_new k v es h)
      ] h

  module _ (o : IsTotalOrder R) where
    add_found : (k : K) (v x : L) (es : List (K × L)) → S R es → lookup (is_at (R k)) es ≡ Some x → add R least join k v es ≡ option_map (λ w. set_value (is_at (R k)) es w) (join x v)
    unfolding IsStrictlySortedBy
    add_found k v x [] s h = absurd (cc h)
    add_found k v x (e ∷ es) s h = elim (R k e.0) as (λ r. R k e.0 ≡ r → cond (is_eq r) (Some e.1) (lookup (is_at (R k)) es) ≡ Some x
        → match_ordering r (Some ((k, v) ∷ e ∷ es)) (option_map (λ w. (e.0, w) ∷ es) (join e.1 v)) (option_map (λ fs. e ∷ fs) (add R least join k v es)) ≡ option_map (λ w. cond (is_eq r) ((e.0, w) ∷ es) (e ∷ set_value (is_at (R k)) es w)) (join x v)) [
          | Less ↦ λ r h. absurd (cc (sym (lookup-none (is_at (R k)) es (none_below_head o k e es s r).1) ∙ h))
          | Equal ↦ λ r h. ap (λ y. option_map (λ w. (e.0, w) ∷ es) (join y v)) (same_Some _ _ h)
          | Greater ↦ λ r h. ap (option_map (λ fs. e ∷ fs)) (add_found k v x es s.1 h) ∙ map_twice (λ w. set_value (is_at (R k)) es w) (λ fs. e ∷ fs) (join x v)
        ] refl h

    -- a part that is joined where it stands, unless the join is top
    put_found : (k : K) (v x w : L) (es fs : List (K × L)) (b : Bool) → S R es → lookup (is_at (R k)) es ≡ Some x → fs ≡ set_value (is_at (R k)) es w → b ≡ is_some (join x v) → w ≡ unwrap_or (join x v) x
        → (b ≡ is_some (add R least join k v es)) × (fs ≡ unwrap_or (add R least join k v es) es)
    put_found k v x w es fs b s h new is part =
        subst (λ a. (b ≡ is_some a) × (fs ≡ unwrap_or a es)) (sym (add_found k v x es s h))
        (elim (join x v) as (λ j. b ≡ is_some j → fs ≡ set_value (is_at (R k)) es (unwrap_or j x) → (b ≡ is_some (option_map (λ u. set_value (is_at (R k)) es u) j)) × (fs ≡ unwrap_or (option_map (λ u. set_value (is_at (R k)) es u) j) es)) [
          | None ↦ λ is new. (is, new ∙ set_same R k x es h)
          | Some u ↦ λ is new. (is, new)
        ] is (new ∙ ap (set_value (is_at (R k)) es) part))

    put_by : {Refused : Type 0} (k : K) (v x w : L) (es fs : List (K × L)) (q : Result Bool Refused) → S R es → lookup (is_at (R k)) es ≡ Some x → fs ≡ set_value (is_at (R k)) es w
        → IfOk q (λ b. (b ≡ is_some (join x v)) × (w ≡ unwrap_or (join x v) x)) → IfOk q (λ b. (b ≡ is_some (add R least join k v es)) × (fs ≡ unwrap_or (add R least join k v es) es))
    put_by k v x w es fs q s h new m = IfOk-weaker q _ _ (λ b p. put_found k v x w es fs b s h new p.0 p.1) m

    kept_by : {T Refused : Type 0} (k : K) (x w : L) (es fs : List (K × L)) (q : Result T Refused) → lookup (is_at (R k)) es ≡ Some x → fs ≡ set_value (is_at (R k)) es w → IfErr q (λ _. w ≡ x) → IfErr q (λ _. fs ≡ es)
    kept_by k x w es fs q h new m = IfErr-weaker q _ _ (λ _ p. new ∙ ap (set_value (is_at (R k)) es) p ∙ set_same R k x es h) m

    -- the same of a part that is written at its key
    module _ {T Refused : Type 0} (k : K) (v x w : L) (es ns fs : List (K × L)) (q : Result T Refused) (s : S R es) (h : lookup (is_at (R k)) es ≡ Some x) (written : ns ≡ insert_entry R es k w) (new : fs ≡ ns) where
      pub kept_written : IfErr q (λ _. w ≡ x) → IfErr q (λ _. fs ≡ es)
      kept_written = kept_by k x w es fs q h (new ∙ written ∙ insert_found R o k x w es s h)

    pub put_written : {Refused : Type 0} (k : K) (v x w : L) (es ns fs : List (K × L)) (q : Result Bool Refused) → S R es → lookup (is_at (R k)) es ≡ Some x → ns ≡ insert_entry R es k w → fs ≡ ns
        → IfOk q (λ b. (b ≡ is_some (join x v)) × (w ≡ unwrap_or (join x v) x)) → IfOk q (λ b. (b ≡ is_some (add R least join k v es)) × (fs ≡ unwrap_or (add R least join k v es) es))
    put_written k v x w es ns fs q s h written new = put_by k v x w es fs q s h (new ∙ written ∙ insert_found R o k x w es s h)

    -- the same of a part that was joined in place, and of which it is told what it brought
    pub outcome_written : {E Refused : Type 0} (eq : E → E → Bool) (ev : L → List E) (k : K) (v x w : L) (es ns fs : List (K × L)) (q : Result (Brought E) Refused) → S R es → lookup (is_at (R k)) es ≡ Some x → ns ≡ insert_entry R es k w → fs ≡ ns
        → IfOk q (λ t. IsOutcome (join x v) (fresh_of join eq ev x v) x w t) → IfOk q (λ t. IsOutcome (add R least join k v es) (fresh_of join eq ev (at R least join es k) v) es fs t)
    outcome_written eq ev k v x w es ns fs q s h written new m =
        let stored : fs ≡ set_value (is_at (R k)) es w = new ∙ written ∙ insert_found R o k x w es s h in
        IfOk-weaker q _ _ (outcome_as (join x v) (add R least join k v es) (fresh_of join eq ev x v) (fresh_of join eq ev (at R least join es k) v) x w es fs
        (λ done p. put_found k v x w es fs done s h stored p.0 p.1)
        (λ same. stored ∙ ap (set_value (is_at (R k)) es) same ∙ set_same R k x es h)
        (ap (λ y. fresh_of join eq ev y v) (sym (lookup_at k es) ∙ ap (λ r. unwrap_or r least) h))) m

  -- the same where the key held none
  pub new_written : (k : K) (v w : L) (es ns fs : List (K × L)) → lookup (is_at (R k)) es ≡ None → ns ≡ insert_entry R es k w → w ≡ v → fs ≡ ns → (true ≡ is_some (add R least join k v es)) × (fs ≡ unwrap_or (add R least join k v es) es)
  new_written k v w es ns fs h written is new =
      let there : add R least join k v es ≡ Some (insert_entry R es k v) = add_new k v es h in
      (ap is_some (sym there), new ∙ written ∙ ap (insert_entry R es k) is ∙ ap (λ a. unwrap_or a es) (sym there))

  -- what a part brings to a key that holds none is what it brings to bottom
  module _ {E : Type 0} (eq : E → E → Bool) (ev : L → List E) (j : IsJoin least join) (k : K) (v w : L) (es ns fs : List (K × L)) (none : lookup (is_at (R k)) es ≡ None) (written : ns ≡ insert_entry R es k w) (new : fs ≡ ns) where
    pub outcome_new : (t : Brought E) → (t ≡ Listed → ⊥) → IsOutcome (join least v) (fresh_of join eq ev least v) least w t → IsOutcome (add R least join k v es) (fresh_of join eq ev (at R least join es k) v) es fs t
    outcome_new t listed m = by_outcome t listed m
      where
        put : w ≡ unwrap_or (join least v) least → (true ≡ is_some (add R least join k v es)) × (fs ≡ unwrap_or (add R least join k v es) es)
        put h = new_written k v w es ns fs none written (h ∙ ap (λ r. unwrap_or r least) (j.unit v)) new

        fresh : fresh_of join eq ev (at R least join es k) v ≡ fresh_of join eq ev least v
        fresh = ap (λ y. fresh_of join eq ev y v) (sym (lookup_at k es) ∙ ap (λ r. unwrap_or r least) none)

        by_outcome : (t : Brought E) → (t ≡ Listed → ⊥) → IsOutcome (join least v) (fresh_of join eq ev least v) least w t → IsOutcome (add R least join k v es) (fresh_of join eq ev (at R least join es k) v) es fs t
        by_outcome Nothing _ m = (put m.0.1, fresh ∙ m.1)
        by_outcome (One e) _ m = (put m.0.1, fresh ∙ m.1)
        by_outcome Top _ m = absurd (true≢false (sym (m.0 ∙ ap is_some (j.unit v))))
        by_outcome Listed n _ = absurd (n refl)

  -- one entry of the second list joined to the first
  pub joined_more : (all : Option (List (K × L))) (es fs xs ys : List (K × L)) (k : K) (p : L) (b : Bool) → add_all R least join es xs ≡ all → xs ≡ (k, p) ∷ ys → b ≡ true
      → (b ≡ is_some (add R least join k p es)) × (fs ≡ unwrap_or (add R least join k p es) es) → add_all R least join fs ys ≡ all
  joined_more all es fs xs ys k p b h e t m = by_add (add R least join k p es) refl (sym t ∙ m.0) m.1
    where
      by_add : (a : Option (List (K × L))) → add R least join k p es ≡ a → true ≡ is_some a → fs ≡ unwrap_or a es → add_all R least join fs ys ≡ all
      by_add None is some new = absurd (true≢false some)
      by_add (Some gs) is some new = ap (λ zs. add_all R least join zs ys) new ∙ ap (option_and_then (λ zs. add_all R least join zs ys)) (sym is) ∙ ap (add_all R least join es) (sym e) ∙ h

  pub joined_top : (all : Option (List (K × L))) (es fs xs ys : List (K × L)) (k : K) (p : L) (b : Bool) → add_all R least join es xs ≡ all → xs ≡ (k, p) ∷ ys → b ≡ false
      → (b ≡ is_some (add R least join k p es)) × (fs ≡ unwrap_or (add R least join k p es) es) → None ≡ all
  joined_top all es fs xs ys k p b h e t m = by_add (add R least join k p es) refl (sym t ∙ m.0)
    where
      by_add : (a : Option (List (K × L))) → add R least join k p es ≡ a → false ≡ is_some a → None ≡ all
      by_add None is none = ap (option_and_then (λ zs. add_all R least join zs ys)) (sym is) ∙ ap (add_all R least join es) (sym e) ∙ h
      by_add (Some gs) is none = absurd (true≢false (sym none))

  module _ (o : IsTotalOrder R) (j : IsJoin least join) where
    abbrev At : List (K × L) → K → L
    At es q = at R least join es q

    -- what each key holds is at or below what it holds in the other list
    abbrev pub AllBelow : List (K × L) → List (K × L) → Type 0
    AllBelow xs ys = (q : K) → join (at R least join xs q) (at R least join ys q) ≡ Some (at R least join ys q)

    pub rest_rises : (e : K × L) (xs es : List (K × L)) → xs ≡ e ∷ es → S R xs → S R es
    unfolding IsStrictlySortedBy
    rest_rises e xs es h s = (subst (λ zs. S R zs) h s).1

    head_below : (e : K × L) (es ys : List (K × L)) → AllBelow (e ∷ es) ys → join e.1 (At ys e.0) ≡ Some (At ys e.0)
    head_below e es ys h = ap (λ x. join x (At ys e.0)) (sym (at_first R least join o e es)) ∙ h e.0

    tail_below : (e : K × L) (es ys : List (K × L)) → S R (e ∷ es) → AllBelow (e ∷ es) ys → AllBelow es ys
    unfolding IsStrictlySortedBy
    tail_below e es ys s h q = elim (eq_by_cmp R q e.0) as (λ b. eq_by_cmp R q e.0 ≡ b → join (cond b e.1 (At es q)) (At ys q) ≡ Some (At ys q) → join (At es q) (At ys q) ≡ Some (At ys q)) [
      | true ↦ λ t _. ap (λ x. join x (At ys q)) (at_below R least join o e.0 q es s.0 t) ∙ j.unit (At ys q)
      | false ↦ λ _ h. h
    ] refl (h q)

    module _ (same_key : (x y : K) → R x y ≡ Equal → x ≡ y) where
      both_below : (e : K × L) (es ys : List (K × L)) → join e.1 (At ys e.0) ≡ Some (At ys e.0) → AllBelow es ys → AllBelow (e ∷ es) ys
      both_below e es ys h rest q = elim (eq_by_cmp R q e.0) as (λ b. eq_by_cmp R q e.0 ≡ b → join (cond b e.1 (At es q)) (At ys q) ≡ Some (At ys q)) [
        | true ↦ λ t. subst (λ z. join e.1 (At ys z) ≡ Some (At ys z)) (sym (same_key q e.0 ((Equal-is (R q e.0)).0 t))) h
        | false ↦ λ _. rest q
      ] refl

      -- one entry that is below
      pub below_more : (all xs es ys : List (K × L)) (k : K) (p held : L) → S R xs → (AllBelow xs ys ↔ AllBelow all ys) → xs ≡ (k, p) ∷ es → held ≡ At ys k → join p held ≡ Some held → (AllBelow es ys ↔ AllBelow all ys)
      below_more all xs es ys k p held s h e f b = (
        λ r. h.0 (subst (λ zs. AllBelow zs ys) (sym e) (both_below (k, p) es ys (subst (λ z. join p z ≡ Some z) f b) r)),
        λ r. tail_below (k, p) es ys (subst (λ zs. S R zs) e s) (subst (λ zs. AllBelow zs ys) e (h.1 r)),
      )

    -- one that is not
    pub not_below : (all xs es ys : List (K × L)) (k : K) (p held : L) → (AllBelow xs ys ↔ AllBelow all ys) → xs ≡ (k, p) ∷ es → held ≡ At ys k → (join p held ≡ Some held → ⊥) → AllBelow all ys → ⊥
    not_below all xs es ys k p held h e f n r = n (subst (λ z. join p z ≡ Some z) (sym f) (head_below (k, p) es ys (subst (λ zs. AllBelow zs ys) e (h.1 r))))

    -- one whose key holds bottom
    pub none_below : (eq : L → L → Bool) → ((x : L) → eq x x ≡ true) → (all xs es ys : List (K × L)) (k : K) (p : L) → has_no eq least xs ≡ true → (AllBelow xs ys ↔ AllBelow all ys) → xs ≡ (k, p) ∷ es → least ≡ At ys k → AllBelow all ys → ⊥
    none_below eq itself all xs es ys k p n h e f r = not_below all xs es ys k p least h e f (λ b.
        let bottom : p ≡ least = same_Some _ _ (sym (right_unit j p) ∙ b) in
        true≢false (sym (and_left _ _ (ap (has_no eq least) (sym e) ∙ n)) ∙ ap (λ z. not (eq z least)) bottom ∙ ap not (itself least))) r

    pub rest_above : (eq : L → L → Bool) (e : K × L) (xs es : List (K × L)) → xs ≡ e ∷ es → has_no eq least xs ≡ true → has_no eq least es ≡ true
    rest_above eq e xs es h n = and_right (not (eq e.1 least)) _ (ap (has_no eq least) (sym h) ∙ n)

    pub all_below : (all xs ys : List (K × L)) → (AllBelow xs ys ↔ AllBelow all ys) → xs ≡ [] → AllBelow all ys
    all_below all xs ys h e = h.0 (subst (λ zs. AllBelow zs ys) (sym e) (λ q. j.unit (At ys q)))

    -- each entry of the second list has a join with what the first holds
    abbrev pub Each : List (K × L) → List (K × L) → Type 0
    Each es fs = AllByRecursion (λ f. is_some (join (at R least join es f.0) f.1) ≡ true) fs

    pub each_same : (es xs ys : List (K × L)) → xs ≡ ys → (Each es xs ↔ Each es ys)
    each_same es xs ys e = (subst (λ zs. Each es zs) e, subst (λ zs. Each es zs) (sym e))

    -- one entry more
    pub each_more : (es all xs ys : List (K × L)) (k : K) (p : L) → (Each es xs ↔ Each es all) → xs ≡ (k, p) ∷ ys → is_some (join (At es k) p) ≡ true → (Each es ys ↔ Each es all)
    each_more es all xs ys k p h e there = (
      λ r. h.0 (subst (λ zs. Each es zs) (sym e) (there, r)),
      λ r. (subst (λ zs. Each es zs) e (h.1 r)).1,
    )

    each_from : (es fs : List (K × L)) → S R fs → ((q : K) → is_some (join (At es q) (At fs q)) ≡ true) → Each es fs
    unfolding IsStrictlySortedBy
    each_from es [] s h = tt
    each_from es (f ∷ fs) s h = (
      ap (λ x. is_some (join (At es f.0) x)) (sym (at_first R least join o f fs)) ∙ h f.0,
      each_from es fs s.1 (λ q. elim (eq_by_cmp R q f.0) as (λ b. eq_by_cmp R q f.0 ≡ b → is_some (join (At es q) (cond b f.1 (At fs q))) ≡ true → is_some (join (At es q) (At fs q)) ≡ true) [
        | true ↦ λ t _. ap is_some (ap (join (At es q)) (at_below R least join o f.0 q fs s.0 t) ∙ right_unit j (At es q))
        | false ↦ λ _ h. h
      ] refl (h q)),
    )

    known : (x : Option L) → is_some x ≡ true → (w : L) × (x ≡ Some w)
    known None h = absurd (true≢false (sym h))
    known (Some w) h = (w, refl)

    -- where one has none, nor have the lists
    pub top : (es all xs fs : List (K × L)) (k : K) (p : L) → S R es → S R all → (Each es xs ↔ Each es all) → xs ≡ (k, p) ∷ fs → join (At es k) p ≡ None → add_all R least join es all ≡ None
    top es all xs fs k p s t h e n = unless_some _ (λ gs is.
        let each : Each es ((k, p) ∷ fs) = subst (λ zs. Each es zs) e (h.1 (each_from es all t (λ q. ap is_some (all_joins R least join o j es all gs s t is q)))) in
        true≢false (sym each.0 ∙ ap is_some n))

    module _ (same_key : (x y : K) → R x y ≡ Equal → x ≡ y) where
      each_all : (es fs : List (K × L)) → Each es fs → (q : K) → (w : L) × (join (At es q) (At fs q) ≡ Some w)
      each_all es [] h q = (At es q, right_unit j _)
      each_all es (f ∷ fs) h q =
          let rest : (w : L) × (join (At es q) (At fs q) ≡ Some w) = each_all es fs h.1 q in
          elim (eq_by_cmp R q f.0) as (λ b. eq_by_cmp R q f.0 ≡ b → (w : L) × (join (At es q) (cond b f.1 (At fs q)) ≡ Some w)) [
            | true ↦ λ t. subst (λ (z : K). (w : L) × (join (At es z) f.1 ≡ Some w)) (sym (same_key q f.0 ((Equal-is (R q f.0)).0 t))) (known _ h.0)
            | false ↦ λ _. rest
          ] refl

      -- where each has one, so have the lists
      pub there : (es all xs : List (K × L)) → S R es → S R all → (Each es xs ↔ Each es all) → xs ≡ [] → (gs : List (K × L)) × (add_all R least join es all ≡ Some gs)
      there es all xs s t h e = all_there R least join o j es all s t (each_all es all (h.0 (subst (λ zs. Each es zs) (sym e) tt)))
