-- Finite functions into a lattice are joined at each key, and their events are those of what the keys hold.
use Rattle.std.specs.Prelude.{◌≡◌, Bool, true, false, cond, not, List, [], ◌∷◌, map, Option, Some, option_and_then, option_map, refl, ◌&&◌, ◌||◌, ◌++◌}
use Rattle.std.proofs.Common.{sym, ◌∙◌, ap, subst, true≢false}
use Rattle.lvish_compound.specs.Vocabulary.{Ordering, Less, Equal, Greater}
use Rattle.std.specs.Ordering.{eq_by_cmp, is_eq, match_ordering, ordering_then}
use Rattle.std.specs.Cmp.{IsTotalOrder, Equal-is, tied_itself, alike_right}
use Rattle.std.specs.List.{AllByRecursion}
use Rattle.std.specs.List.Sorted.{IsStrictlySortedBy}
use Rattle.lvish_lattice.specs.Lattice.{IsJoin, IsIdentity}
use Rattle.lvish_lattice.specs.Ascending.{above, below_all, and_left, and_right, and_both}
use Rattle.std.proofs.lemmas.Option.{same_Some}
use Rattle.lvish_compound.specs.laws.Pointwise.{bound, right_unit, least_below, right_below}
use Rattle.lvish_lattice.specs.Listed.{mapped}
use Rattle.lvish_compound.specs.Keyed as keyed
use Rattle.lvish_compound.specs.Keyed.{key, has_no, of_key, events_by, by_both, both_tie}
use Rattle.std.proofs.Math.Bool.{or_assoc, or-false}
use Rattle.std.specs.Set.{is_member}

module _ {K L : Type 0} (R : K → K → Ordering) (least : L) (join : L → L → Option L) where
  abbrev at : List (K × L) → K → L
  at = keyed.at R least join

  abbrev add : K → L → List (K × L) → Option (List (K × L))
  add = keyed.add R least join

  abbrev add_all : List (K × L) → List (K × L) → Option (List (K × L))
  add_all = keyed.add_all R least join

  abbrev S : List (K × L) → Type 0
  S es = IsStrictlySortedBy R (map key es)

  abbrev Below : K → List (K × L) → Type 0
  Below k es = AllByRecursion (λ y. R k y ≡ Less) (map key es)

  module _ (o : IsTotalOrder R) where
    -- a key below the others holds nothing among them
    pub at_below : (k q : K) (es : List (K × L)) → Below k es → eq_by_cmp R q k ≡ true → at es q ≡ least
    at_below k q [] b t = refl
    at_below k q (e ∷ es) b t = ap (λ r. cond (is_eq r) e.1 (at es q)) (o.congr q k e.0 ((Equal-is (R q k)).0 t) ∙ b.0) ∙ at_below k q es b.1 t

    pub at_first : (e : K × L) (es : List (K × L)) → at (e ∷ es) e.0 ≡ e.1
    at_first e es = ap (λ c. cond (is_eq c) e.1 (at es e.0)) (tied_itself o e.0)

  -- an addition to entries puts the value before them, joins it to that of the first, or adds it to the others
  pub added : (k : K) (v : L) (e : K × L) (es gs : List (K × L)) (P : List (K × L) → Type 0) → add k v (e ∷ es) ≡ Some gs → (R k e.0 ≡ Less → P ((k, v) ∷ e ∷ es))
      → (R k e.0 ≡ Equal → (w : L) → join e.1 v ≡ Some w → P ((e.0, w) ∷ es)) → (R k e.0 ≡ Greater → (fs : List (K × L)) → add k v es ≡ Some fs → P (e ∷ fs)) → P gs
  added k v e es gs P h before here later = by_rank (R k e.0) refl h
    where
      by_rank : (r : Ordering) → R k e.0 ≡ r → match_ordering r (Some ((k, v) ∷ e ∷ es)) (option_map (λ w. (e.0, w) ∷ es) (join e.1 v)) (option_map (λ fs. e ∷ fs) (add k v es)) ≡ Some gs → P gs
      by_rank Less r h = subst P (same_Some _ _ h) (before r)
      by_rank Equal r h = let m = mapped (λ w. (e.0, w) ∷ es) (join e.1 v) gs h in subst P m.2 (here r m.0 m.1)
      by_rank Greater r h = let m = mapped (λ fs. e ∷ fs) (add k v es) gs h in subst P m.2 (later r m.0 m.1)

  module _ (o : IsTotalOrder R) (j : IsJoin least join) where
    abbrev Joins : List (K × L) → List (K × L) → List (K × L) → K → Type 0
    Joins es fs gs q = join (at es q) (at fs q) ≡ Some (at gs q)

    pub add_joins : (k : K) (v : L) (es gs : List (K × L)) → S es → add k v es ≡ Some gs → (q : K) → Joins es ((k, v) ∷ []) gs q
    unfolding IsStrictlySortedBy
    add_joins k v [] gs s h q = subst (λ zs. Joins [] ((k, v) ∷ []) zs q) (same_Some ((k, v) ∷ []) gs h) (j.unit _)
    add_joins k v (e ∷ es) gs s h q = added k v e es gs (λ zs. Joins (e ∷ es) ((k, v) ∷ []) zs q) h
        (λ r. elim (eq_by_cmp R q k) as (λ b. eq_by_cmp R q k ≡ b → join (at (e ∷ es) q) (cond b v least) ≡ Some (cond b v (at (e ∷ es) q))) [
          | true ↦ λ t. ap (λ x. join x v) (at_below o k q (e ∷ es) (r, below_all o k e.0 (map key es) r s.0) t) ∙ j.unit v
          | false ↦ λ t. right_unit j _
        ] refl)
        (λ r w is. subst (λ b. join (cond (eq_by_cmp R q e.0) e.1 (at es q)) (cond b v least) ≡ Some (cond (eq_by_cmp R q e.0) w (at es q))) (ap is_eq (sym (alike_right o k e.0 q r)))
        (elim (eq_by_cmp R q e.0) as (λ b. join (cond b e.1 (at es q)) (cond b v least) ≡ Some (cond b w (at es q))) [ true ↦ is | false ↦ right_unit j _ ]))
        (λ r fs is. elim (eq_by_cmp R q e.0) as (λ b. eq_by_cmp R q e.0 ≡ b → join (cond b e.1 (at es q)) (cond (eq_by_cmp R q k) v least) ≡ Some (cond b e.1 (at fs q))) [
          | true ↦ λ t. ap (λ c. join e.1 (cond (is_eq c) v least)) (o.congr q e.0 k ((Equal-is (R q e.0)).0 t) ∙ above o k e.0 r) ∙ right_unit j _
          | false ↦ λ t. add_joins k v es fs s.1 is q
        ] refl)

    pub add_there : (k : K) (v : L) (es : List (K × L)) (w : L) → join (at es k) v ≡ Some w → (gs : List (K × L)) × (add k v es ≡ Some gs)
    add_there k v [] w h = ((k, v) ∷ [], refl)
    add_there k v (e ∷ es) w h = elim (R k e.0) as (λ r. join (cond (is_eq r) e.1 (at es k)) v ≡ Some w → (gs : List (K × L)) × (match_ordering r (Some ((k, v) ∷ e ∷ es)) (option_map (λ w. (e.0, w) ∷ es) (join e.1 v)) (option_map (λ fs. e ∷ fs) (add k v es)) ≡ Some gs)) [
      | Less ↦ λ h. ((k, v) ∷ e ∷ es, refl)
      | Equal ↦ λ h. ((e.0, w) ∷ es, ap (option_map (λ u. (e.0, u) ∷ es)) h)
      | Greater ↦ λ h. let m : (gs : List (K × L)) × (add k v es ≡ Some gs) = add_there k v es w h in (e ∷ m.0, ap (option_map (λ fs. e ∷ fs)) m.1)
    ] h

    add_below : (x k : K) (v : L) (es gs : List (K × L)) → R x k ≡ Less → Below x es → add k v es ≡ Some gs → Below x gs
    add_below x k v [] gs p b h = subst (Below x) (same_Some _ _ h) (p, tt)
    add_below x k v (e ∷ es) gs p b h = added k v e es gs (Below x) h (λ r. (p, b)) (λ r w is. b) (λ r fs is. (b.0, add_below x k v es fs p b.1 is))

    pub add_rises : (k : K) (v : L) (es gs : List (K × L)) → S es → add k v es ≡ Some gs → S gs
    unfolding IsStrictlySortedBy
    add_rises k v [] gs s h = subst S (same_Some _ _ h) (tt, tt)
    add_rises k v (e ∷ es) gs s h = added k v e es gs S h
        (λ r. ((r, below_all o k e.0 (map key es) r s.0), s)) (λ r w is. s) (λ r fs is. (add_below e.0 k v es fs (above o k e.0 r) s.0 is, add_rises k v es fs s.1 is))

    pub all_rises : (es fs gs : List (K × L)) → S es → add_all es fs ≡ Some gs → S gs
    all_rises es [] gs s h = subst (λ zs. S zs) (same_Some _ _ h) s
    all_rises es (f ∷ fs) gs s h =
        let m : (hs : List (K × L)) × (add f.0 f.1 es ≡ Some hs) × (add_all hs fs ≡ Some gs) = bound _ _ _ h in
        all_rises m.0 fs gs (add_rises f.0 f.1 es m.0 s m.1) m.2

    pub all_joins : (es fs gs : List (K × L)) → S es → S fs → add_all es fs ≡ Some gs → (q : K) → Joins es fs gs q
    unfolding IsStrictlySortedBy
    all_joins es [] gs s t h q = subst (λ zs. Joins es [] zs q) (same_Some _ _ h) (right_unit j _)
    all_joins es (f ∷ fs) gs s t h q =
        let m : (hs : List (K × L)) × (add f.0 f.1 es ≡ Some hs) × (add_all hs fs ≡ Some gs) = bound _ _ _ h in
        let one : Joins es (f ∷ []) m.0 q = add_joins f.0 f.1 es m.0 s m.1 q in
        let rest : Joins m.0 fs gs q = all_joins m.0 fs gs (add_rises f.0 f.1 es m.0 s m.1) t.1 m.2 q in
        elim (eq_by_cmp R q f.0) as (λ b. eq_by_cmp R q f.0 ≡ b → join (at es q) (cond b f.1 least) ≡ Some (at m.0 q) → join (at es q) (cond b f.1 (at fs q)) ≡ Some (at gs q)) [
          | true ↦ λ is one. one ∙ sym (right_unit j (at m.0 q)) ∙ ap (join (at m.0 q)) (sym (at_below o f.0 q fs t.0 is)) ∙ rest
          | false ↦ λ is one. ap (λ x. join x (at fs q)) (same_Some _ _ (sym (right_unit j (at es q)) ∙ one)) ∙ rest
        ] refl one

    pub all_there : (es fs : List (K × L)) → S es → S fs → ((q : K) → (w : L) × (join (at es q) (at fs q) ≡ Some w)) → (gs : List (K × L)) × (add_all es fs ≡ Some gs)
    unfolding IsStrictlySortedBy
    all_there es [] s t h = (es, refl)
    all_there es (f ∷ fs) s t h =
        let first : (w : L) × (join (at es f.0) (at (f ∷ fs) f.0) ≡ Some w) = h f.0 in
        let m : (gs : List (K × L)) × (add f.0 f.1 es ≡ Some gs) = add_there f.0 f.1 es first.0 (ap (λ c. join (at es f.0) (cond (is_eq c) f.1 (at fs f.0))) (sym (tied_itself o f.0)) ∙ first.1) in
        let rest : (gs : List (K × L)) × (add_all m.0 fs ≡ Some gs) = all_there m.0 fs (add_rises f.0 f.1 es m.0 s m.1) t.1 (λ q.
        elim (eq_by_cmp R q f.0) as (λ b. eq_by_cmp R q f.0 ≡ b → join (at es q) (cond b f.1 least) ≡ Some (at m.0 q) → ((w : L) × (join (at es q) (cond b f.1 (at fs q)) ≡ Some w)) → (w : L) × (join (at m.0 q) (at fs q) ≡ Some w)) [
          | true ↦ λ is one two. (at m.0 q, ap (join (at m.0 q)) (at_below o f.0 q fs t.0 is) ∙ right_unit j _)
          | false ↦ λ is one two. (two.0, ap (λ x. join x (at fs q)) (sym (same_Some _ _ (sym (right_unit j (at es q)) ∙ one))) ∙ two.1)
        ] refl (add_joins f.0 f.1 es m.0 s m.1 q) (h q)) in
        (rest.0, ap (option_and_then (λ gs. add_all gs fs)) m.1 ∙ rest.1)

    module _ (eq : L → L → Bool) (itself : (x : L) → eq x x ≡ true) (same : IsIdentity eq) where
      abbrev N : List (K × L) → Type 0
      N es = has_no eq least es ≡ true

      never : (x : L) → not (eq x least) ≡ true → x ≡ least → ⊥
      never x h e = true≢false (sym h ∙ ap not (ap (λ y. eq y least) e ∙ itself least))

      stays_above : (a b w : L) → join a b ≡ Some w → not (eq b least) ≡ true → not (eq w least) ≡ true
      stays_above a b w h n = elim (eq w least) as (λ c. eq w least ≡ c → not c ≡ true) [
        | true ↦ λ t. absurd (never b n (least_below j b (right_below j a b least (h ∙ ap Some (same w least t)))))
        | false ↦ λ t. refl
      ] refl

      pub add_above : (k : K) (v : L) (es gs : List (K × L)) → not (eq v least) ≡ true → N es → add k v es ≡ Some gs → N gs
      add_above k v [] gs p n h = subst N (same_Some _ _ h) (and_both p refl)
      add_above k v (e ∷ es) gs p n h = added k v e es gs N h
          (λ r. and_both p n)
          (λ r w is. and_both (stays_above e.1 v w is p) (and_right (not (eq e.1 least)) _ n))
          (λ r fs is. and_both (and_left _ _ n) (add_above k v es fs p (and_right (not (eq e.1 least)) _ n) is))

      pub all_above : (es fs gs : List (K × L)) → N es → N fs → add_all es fs ≡ Some gs → N gs
      all_above es [] gs n k h = subst (λ zs. N zs) (same_Some _ _ h) n
      all_above es (f ∷ fs) gs n k h =
          let m : (hs : List (K × L)) × (add f.0 f.1 es ≡ Some hs) × (add_all hs fs ≡ Some gs) = bound _ _ _ h in
          all_above m.0 fs gs (add_above f.0 f.1 es m.0 (and_left _ _ k) n m.1) (and_right (not (eq f.1 least)) _ k) m.2

      missing : (e f : K × L) (fs : List (K × L)) → R e.0 f.0 ≡ Less → Below f.0 fs → at (f ∷ fs) e.0 ≡ least
      missing e f fs r b = at_below o e.0 e.0 (f ∷ fs) (r, below_all o e.0 f.0 (map key fs) r b) (ap is_eq (tied_itself o e.0))

      module _ (same_key : (x y : K) → R x y ≡ Equal → x ≡ y) where
        -- entries above the least are decided by what each key holds
        pub same_at : (es fs : List (K × L)) → S es → S fs → N es → N fs → ((q : K) → at es q ≡ at fs q) → es ≡ fs
        unfolding IsStrictlySortedBy
        same_at [] [] s t n k h = refl
        same_at [] (f ∷ fs) s t n k h = absurd (never f.1 (and_left _ _ k) (sym (h f.0 ∙ at_first o f fs)))
        same_at (e ∷ es) [] s t n k h = absurd (never e.1 (and_left _ _ n) (sym (at_first o e es) ∙ h e.0))
        same_at (e ∷ es) (f ∷ fs) s t n k h =
            elim (R e.0 f.0) as (λ r. R e.0 f.0 ≡ r → e ∷ es ≡ f ∷ fs) [
              | Less ↦ λ r. absurd (never e.1 (and_left _ _ n) (sym (at_first o e es) ∙ h e.0 ∙ missing e f fs r t.0))
              | Greater ↦ λ r. absurd (never f.1 (and_left _ _ k) (sym (at_first o f fs) ∙ sym (h f.0) ∙ missing f e es (above o e.0 f.0 r) s.0))
              | Equal ↦ λ r.
                  let keys : e.0 ≡ f.0 = same_key e.0 f.0 r in
                  let values : e.1 ≡ f.1 = sym (at_first o e es) ∙ h e.0 ∙ ap (λ c. cond (is_eq c) f.1 (at fs e.0)) r in
                  let rest : es ≡ fs = same_at es fs s.1 t.1 (and_right (not (eq e.1 least)) _ n) (and_right (not (eq f.1 least)) _ k) (λ q.
                  elim (eq_by_cmp R q e.0) as (λ b. eq_by_cmp R q e.0 ≡ b → cond b e.1 (at es q) ≡ cond b f.1 (at fs q) → at es q ≡ at fs q) [
                    | true ↦ λ is _. at_below o e.0 q es s.0 is ∙ sym (at_below o f.0 q fs t.0 (ap (λ x. eq_by_cmp R q x) (sym keys) ∙ is))
                    | false ↦ λ is g. g
                  ] refl (h q ∙ ap (λ x. cond (eq_by_cmp R q x) f.1 (at fs q)) (sym keys))) in
                  λ i. (keys i, values i) ∷ rest i
            ] refl

module _ {K L E : Type 0} (R : K → K → Ordering) (C : E → E → Ordering) (least : L) (join : L → L → Option L) (ev : K → L → List E) (o : IsTotalOrder R) where
  abbrev has : List (K × E) → K × E → Bool
  has = is_member (both_tie R C)

  abbrev BelowBoth : K × E → List (K × E) → Type 0
  BelowBoth p ps = AllByRecursion (λ q. by_both R C p q ≡ Less) ps

  has_block : (k : K) (xs : List E) (rest : List (K × E)) (q : K) (y : E) → has (of_key k xs ++ rest) (q, y) ≡ (cond (eq_by_cmp R q k) (is_member (eq_by_cmp C) xs y) false || has rest (q, y))
  has_block k [] rest q y = elim (eq_by_cmp R q k) as (λ b. has rest (q, y) ≡ (cond b false false || has rest (q, y))) [ true ↦ refl | false ↦ refl ]
  has_block k (x ∷ xs) rest q y = ap (λ b. (eq_by_cmp R q k && eq_by_cmp C y x) || b) (has_block k xs rest q y)
      ∙ elim (eq_by_cmp R q k) as (λ b. ((b && eq_by_cmp C y x) || (cond b (is_member (eq_by_cmp C) xs y) false || has rest (q, y))) ≡ (cond b (eq_by_cmp C y x || is_member (eq_by_cmp C) xs y) false || has rest (q, y))) [
        | true ↦ sym (or_assoc (eq_by_cmp C y x) _ _)
        | false ↦ refl
      ]

  module _ (same_key : (x y : K) → R x y ≡ Equal → x ≡ y) (none : (k : K) → ev k least ≡ []) where
    pub events_have : (es : List (K × L)) → IsStrictlySortedBy R (map key es) → (q : K) (y : E) → has (events_by ev es) (q, y) ≡ is_member (eq_by_cmp C) (ev q (at R least join es q)) y
    unfolding IsStrictlySortedBy
    events_have [] s q y = ap (λ xs. is_member (eq_by_cmp C) xs y) (sym (none q))
    events_have (e ∷ es) s q y = has_block e.0 (ev e.0 e.1) (events_by ev es) q y
        ∙ elim (eq_by_cmp R q e.0) as (λ b. eq_by_cmp R q e.0 ≡ b → (cond b (is_member (eq_by_cmp C) (ev e.0 e.1) y) false || has (events_by ev es) (q, y)) ≡ is_member (eq_by_cmp C) (ev q (cond b e.1 (at R least join es q))) y) [
          | true ↦ λ t. ap (λ b. is_member (eq_by_cmp C) (ev e.0 e.1) y || b) (events_have es s.1 q y ∙ ap (λ v. is_member (eq_by_cmp C) (ev q v) y) (at_below R least join o e.0 q es s.0 t) ∙ ap (λ xs. is_member (eq_by_cmp C) xs y) (none q)) ∙ or-false _
              ∙ ap (λ k. is_member (eq_by_cmp C) (ev k e.1) y) (sym (same_key q e.0 ((Equal-is (R q e.0)).0 t)))
          | false ↦ λ t. events_have es s.1 q y
        ] refl

  below_block : (p : K × E) (k : K) (xs : List E) (rest : List (K × E)) → R p.0 k ≡ Less → BelowBoth p rest → BelowBoth p (of_key k xs ++ rest)
  below_block p k [] rest r b = b
  below_block p k (x ∷ xs) rest r b = (ap (λ c. ordering_then c (C p.1 x)) r, below_block p k xs rest r b)

  below_events : (k : K) (x : E) (es : List (K × L)) → AllByRecursion (λ y. R k y ≡ Less) (map key es) → BelowBoth (k, x) (events_by ev es)
  below_events k x [] b = tt
  below_events k x (e ∷ es) b = below_block (k, x) e.0 (ev e.0 e.1) (events_by ev es) b.0 (below_events k x es b.1)

  below_own : (k : K) (x : E) (xs : List E) (rest : List (K × E)) → AllByRecursion (λ y. C x y ≡ Less) xs → BelowBoth (k, x) rest → BelowBoth (k, x) (of_key k xs ++ rest)
  below_own k x [] rest a b = b
  below_own k x (y ∷ ys) rest a b = (ap (λ c. ordering_then c (C x y)) (tied_itself o k) ∙ a.0, below_own k x ys rest a.1 b)

  block_rises : (k : K) (xs : List E) (rest : List (K × E)) → IsStrictlySortedBy C xs → ((x : E) → BelowBoth (k, x) rest) → IsStrictlySortedBy (by_both R C) rest → IsStrictlySortedBy (by_both R C) (of_key k xs ++ rest)
  unfolding IsStrictlySortedBy
  block_rises k [] rest s b t = t
  block_rises k (x ∷ xs) rest s b t = (below_own k x xs rest s.0 (b x), block_rises k xs rest s.1 b t)

  module _ (rise : (k : K) (v : L) → IsStrictlySortedBy C (ev k v)) where
    pub events_rise : (es : List (K × L)) → IsStrictlySortedBy R (map key es) → IsStrictlySortedBy (by_both R C) (events_by ev es)
    unfolding IsStrictlySortedBy
    events_rise [] s = tt
    events_rise (e ∷ es) s = block_rises e.0 (ev e.0 e.1) (events_by ev es) (rise e.0 e.1) (λ x. below_events e.0 x es s.0) (events_rise es s.1)
