-- Entries that stand in blocks, each of the keys with one high part: what is put into a block is put into the entries.
use Rattle.std.proofs.Common.{◌≡◌, ◌⊎◌, inl, inr, suc, ◌+◌, List, [], ◌∷◌, ◌++◌, map, length, Option, Some, None, option_map, unwrap_or, refl, ap, subst, sym, ◌∙◌, arith}
use Rattle.std.proofs.lemmas.List.{length-append}
use Rattle.std.proofs.lemmas.Option.{same_Some}
use Rattle.std.specs.List.{AllByRecursion}
use Rattle.std.specs.List.Sorted.{IsStrictlySortedBy}
use Rattle.std.specs.Bool.{⊤}
use Rattle.std.specs.Prelude.{cond}
use Rattle.std.specs.Cmp.{IsTotalOrder}
use Rattle.std.specs.Map.{lookup}
use Rattle.std.specs.Ordering.{match_ordering, is_eq, ordering_reverse}
use Rattle.std.specs.BTreeMap.{insert_entry, is_at}
use Rattle.lvish_compound.specs.Vocabulary.{Ordering, Less, Equal, Greater}
use Rattle.lvish_compound.specs.Blocks.{IsFull, flat, AllFull, Before, Past, block_at, AreOf, Sound}
use Rattle.lvish_compound.specs.Keys.{IsRising}
use Rattle.lvish_compound.specs.Keyed.{key, add, at}

-- what holds of an entry put before, at or behind another
by_order : {K X : Type 0} (P : List (K × X) → Type 0) (r : Ordering) {xs ys zs : List (K × X)} → (r ≡ Less → P xs) → (r ≡ Equal → P ys) → (r ≡ Greater → P zs) → P (match_ordering r xs ys zs)
by_order P Less a b c = a refl
by_order P Equal a b c = b refl
by_order P Greater a b c = c refl

module _ {K : Type 0} (R : K → K → Ordering) (o : IsTotalOrder R) where
  pub flip : (x y : K) → R x y ≡ Greater → R y x ≡ Less
  flip x y e = o.antisymm y x ∙ ap ordering_reverse e

  pub flop : (x y : K) → R x y ≡ Less → R y x ≡ Greater
  flop x y e = o.antisymm y x ∙ ap ordering_reverse e

  above : (high : K → K) → IsRising R high → (x y : K) → R (high x) (high y) ≡ Greater → R x y ≡ Greater
  above high rises x y e = flop y x (rises y x (flip (high x) (high y) e))

module _ {K X : Type 0} (R : K → K → Ordering) (high : K → K) (o : IsTotalOrder R) (same : (x y : K) → R x y ≡ Equal → x ≡ y) (rises : IsRising R high) where
  pub insert_past : (k : K) (v : X) (xs ys : List (K × X)) → Past R k xs → insert_entry R (xs ++ ys) k v ≡ xs ++ insert_entry R ys k v
  insert_past k v [] ys h = refl
  insert_past k v (x ∷ xs) ys h = cc (h.0, insert_past k v xs ys h.1)

  pub insert_first : (k : K) (v : X) (ys : List (K × X)) → Before R k ys → insert_entry R ys k v ≡ (k, v) ∷ ys
  insert_first k v [] h = refl
  insert_first k v (y ∷ ys) h = cc h

  insert_step : (k : K) (v : X) (x : K × X) (xs ys : List (K × X)) → insert_entry R (xs ++ ys) k v ≡ insert_entry R xs k v ++ ys → (o : Ordering) → R k x.0 ≡ o → insert_entry R ((x ∷ xs) ++ ys) k v ≡ insert_entry R (x ∷ xs) k v ++ ys
  insert_step k v x xs ys h Less e = cc e
  insert_step k v x xs ys h Equal e = cc e
  insert_step k v x xs ys h Greater e = cc (e, h)

  insert_before : (k : K) (v : X) (xs ys : List (K × X)) → Before R k ys → insert_entry R (xs ++ ys) k v ≡ insert_entry R xs k v ++ ys
  insert_before k v [] ys h = insert_first k v ys h
  insert_before k v (x ∷ xs) ys h = insert_step k v x xs ys (insert_before k v xs ys h) (R k x.0) refl

  -- what is equal to the head is below what the head is below
  head_equal : (h g : K) (bs : List (K × List (K × X))) → R h g ≡ Equal → Before R g bs → Before R h bs
  head_equal h g [] e r = tt
  head_equal h g (b ∷ bs) e r = cc (same h g e, r)

  head_below : (h g : K) (bs : List (K × List (K × X))) → R h g ≡ Less → Before R g bs → Before R h bs
  head_below h g [] e r = tt
  head_below h g (b ∷ bs) e r = o.trans h g b.0 e r

  all_past : (k : K) (h : K) (es : List (K × X)) → AreOf R high h es → R (high k) h ≡ Greater → Past R k es
  all_past k h [] of t = tt
  all_past k h (e ∷ es) of t = (above R o high rises k e.0 (cc (of.0, t)), all_past k h es of.1 t)

  starts : (k : K) (h : K) (es fs : List (K × X)) → IsFull es → AreOf R high h es → R (high k) h ≡ Less → Before R k (es ++ fs)
  starts k h [] fs full of t = absurd full
  starts k h (e ∷ es) fs full of t = rises k e.0 (cc (of.0, t))

  flat_before : (k : K) (bs : List (K × List (K × X))) → Sound R high bs → Before R (high k) bs → Before R k (flat bs)
  flat_before k [] s h = tt
  flat_before k (b ∷ bs) s h = starts k b.0 b.1 (flat bs) s.0 s.1 h

  -- no block has a high part that is below the first
  gone : (h : K) (bs : List (K × List (K × X))) → Sound R high bs → Before R h bs → lookup (is_at (R h)) bs ≡ None
  gone h [] s t = refl
  gone h (b ∷ bs) s t = ap (λ r. cond (is_eq r) (Some b.1) (lookup (is_at (R h)) bs)) t ∙ gone h bs s.3 (head_below h b.0 bs t s.2)

  -- the block at the high part, by where it stands to the first
  at_less : (h : K) (b : K × List (K × X)) (bs : List (K × List (K × X))) → Sound R high (b ∷ bs) → R h b.0 ≡ Less → block_at R h (b ∷ bs) ≡ []
  at_less h b bs s t = ap (λ r. unwrap_or r []) (gone h (b ∷ bs) s t)

  at_equal : (h : K) (b : K × List (K × X)) (bs : List (K × List (K × X))) → R h b.0 ≡ Equal → block_at R h (b ∷ bs) ≡ b.1
  at_equal h b bs t = ap (λ r. unwrap_or (cond (is_eq r) (Some b.1) (lookup (is_at (R h)) bs)) []) t

  at_greater : (h : K) (b : K × List (K × X)) (bs : List (K × List (K × X))) → R h b.0 ≡ Greater → block_at R h (b ∷ bs) ≡ block_at R h bs
  at_greater h b bs t = ap (λ r. unwrap_or (cond (is_eq r) (Some b.1) (lookup (is_at (R h)) bs)) []) t

  flat_step : (k : K) (v : X) (b : K × List (K × X)) (bs : List (K × List (K × X))) → Sound R high (b ∷ bs)
      → insert_entry R (flat bs) k v ≡ flat (insert_entry R bs (high k) (insert_entry R (block_at R (high k) bs) k v))
      → (o : Ordering) → R (high k) b.0 ≡ o
      → insert_entry R (flat (b ∷ bs)) k v ≡ flat (insert_entry R (b ∷ bs) (high k) (insert_entry R (block_at R (high k) (b ∷ bs)) k v))
  flat_step k v b bs s h Less e = cc (insert_first k v (flat (b ∷ bs)) (starts k b.0 b.1 (flat bs) s.0 s.1 e), e, at_less (high k) b bs s e)
  flat_step k v b bs s h Equal e = cc (insert_before k v b.1 (flat bs) (flat_before k bs s.3 (head_equal (high k) b.0 bs e s.2)), e, at_equal (high k) b bs e)
  flat_step k v b bs s h Greater e = cc (insert_past k v b.1 (flat bs) (all_past k b.0 b.1 s.1 e), e, h, at_greater (high k) b bs e)

  -- an entry is put into the entries as it is put into its block
  pub insert_flat : (k : K) (v : X) (bs : List (K × List (K × X))) → Sound R high bs → insert_entry R (flat bs) k v ≡ flat (insert_entry R bs (high k) (insert_entry R (block_at R (high k) bs) k v))
  insert_flat k v [] s = refl
  insert_flat k v (b ∷ bs) s = flat_step k v b bs s (insert_flat k v bs s.3) (R (high k) b.0) refl

  -- an entry put into a list is there
  pub full_insert : (k : K) (v : X) (es : List (K × X)) → IsFull (insert_entry R es k v)
  full_insert k v [] = tt
  full_insert k v (e ∷ es) = by_order IsFull (R k e.0) (λ _. tt) (λ _. tt) (λ _. tt)

  pub of_insert : (h k : K) (v : X) (es : List (K × X)) → high k ≡ h → AreOf R high h es → AreOf R high h (insert_entry R es k v)
  of_insert h k v [] is of = (is, tt)
  of_insert h k v (e ∷ es) is of = by_order (AreOf R high h) (R k e.0) (λ _. (is, of)) (λ _. of) (λ _. (of.0, of_insert h k v es is of.1))

  -- the entries of a block that is found
  pub block_of : (h : K) (bs : List (K × List (K × X))) → Sound R high bs → AreOf R high h (block_at R h bs)
  block_of h [] s = tt
  block_of h (b ∷ bs) s = by_rank (R h b.0) refl (block_of h bs s.3)
    where
      by_rank : (r : Ordering) → R h b.0 ≡ r → AreOf R high h (block_at R h bs) → AreOf R high h (unwrap_or (cond (is_eq r) (Some b.1) (lookup (is_at (R h)) bs)) [])
      by_rank Less e rest = rest
      by_rank Equal e rest = subst (λ g. AreOf R high g b.1) (sym (same h b.0 e)) s.1
      by_rank Greater e rest = rest

  pub block_full : (h : K) (bs : List (K × List (K × X))) (es : List (K × X)) → Sound R high bs → lookup (is_at (R h)) bs ≡ Some es → IsFull es
  block_full h [] es s e = absurd (cc e)
  block_full h (b ∷ bs) es s e = by_rank (R h b.0) e (block_full h bs es s.3)
    where
      by_rank : (r : Ordering) → cond (is_eq r) (Some b.1) (lookup (is_at (R h)) bs) ≡ Some es → (lookup (is_at (R h)) bs ≡ Some es → IsFull es) → IsFull es
      by_rank Less t rest = rest t
      by_rank Equal t rest = subst IsFull (same_Some b.1 es t) s.0
      by_rank Greater t rest = rest t

  pub sound_full : (bs : List (K × List (K × X))) → Sound R high bs → AllFull bs
  sound_full [] s = tt
  sound_full (b ∷ bs) s = (s.0, sound_full bs s.3)

  pub insert_grows : (k : K) (v : X) (es : List (K × X)) → (length (insert_entry R es k v) ≡ length es) ⊎ (length (insert_entry R es k v) ≡ suc (length es))
  insert_grows k v [] = inr refl
  insert_grows k v (e ∷ es) = by_order (λ fs. (length fs ≡ length (e ∷ es)) ⊎ (length fs ≡ suc (length (e ∷ es)))) (R k e.0) (λ _. inr refl) (λ _. inl refl) (λ _. grown (insert_grows k v es))
    where
      grown : (length (insert_entry R es k v) ≡ length es) ⊎ (length (insert_entry R es k v) ≡ suc (length es)) → (length (e ∷ insert_entry R es k v) ≡ length (e ∷ es)) ⊎ (length (e ∷ insert_entry R es k v) ≡ suc (length (e ∷ es)))
      grown (inl h) = inl (ap suc h)
      grown (inr h) = inr (ap suc h)

  insert_all : (P : K → Type 0) (k : K) (v : X) (es : List (K × X)) → P k → AllByRecursion P (map key es) → AllByRecursion P (map key (insert_entry R es k v))
  insert_all P k v [] p h = (p, tt)
  insert_all P k v (e ∷ es) p h = by_order (λ fs. AllByRecursion P (map key fs)) (R k e.0) (λ _. (p, h)) (λ _. h) (λ _. (h.0, insert_all P k v es p h.1))

  all_above : (k g : K) (es : List (K × X)) → R k g ≡ Less → AllByRecursion (λ y. R g y ≡ Less) (map key es) → AllByRecursion (λ y. R k y ≡ Less) (map key es)
  all_above k g [] t h = tt
  all_above k g (e ∷ es) t h = (o.trans k g e.0 t h.0, all_above k g es t h.1)

  -- keys that ascend do so with another in its place
  pub insert_rises : (k : K) (v : X) (es : List (K × X)) → IsStrictlySortedBy R (map key es) → IsStrictlySortedBy R (map key (insert_entry R es k v))
  unfolding IsStrictlySortedBy
  insert_rises k v [] s = (tt, tt)
  insert_rises k v (e ∷ es) s = by_order (λ fs. IsStrictlySortedBy R (map key fs)) (R k e.0)
      (λ t. ((t, all_above k e.0 es t s.0), s))
      (λ _. s)
      (λ t. (insert_all (λ y. R e.0 y ≡ Less) k v es (flip R o k e.0 t) s.0, insert_rises k v es s.1))

  all_right : (P : K → Type 0) (xs ys : List (K × X)) → AllByRecursion P (map key (xs ++ ys)) → AllByRecursion P (map key ys)
  all_right P [] ys h = h
  all_right P (x ∷ xs) ys h = all_right P xs ys h.1

  all_left : (P : K → Type 0) (xs ys : List (K × X)) → AllByRecursion P (map key (xs ++ ys)) → AllByRecursion P (map key xs)
  all_left P [] ys h = tt
  all_left P (x ∷ xs) ys h = (h.0, all_left P xs ys h.1)

  pub right_rises : (xs ys : List (K × X)) → IsStrictlySortedBy R (map key (xs ++ ys)) → IsStrictlySortedBy R (map key ys)
  unfolding IsStrictlySortedBy
  right_rises [] ys s = s
  right_rises (x ∷ xs) ys s = right_rises xs ys s.1

  left_rises : (xs ys : List (K × X)) → IsStrictlySortedBy R (map key (xs ++ ys)) → IsStrictlySortedBy R (map key xs)
  unfolding IsStrictlySortedBy
  left_rises [] ys s = tt
  left_rises (x ∷ xs) ys s = (all_left (λ y. R x.0 y ≡ Less) xs ys s.0, left_rises xs ys s.1)

  -- the keys of each block ascend
  pub block_rises : (h : K) (bs : List (K × List (K × X))) → IsStrictlySortedBy R (map key (flat bs)) → IsStrictlySortedBy R (map key (block_at R h bs))
  unfolding IsStrictlySortedBy
  block_rises h [] s = tt
  block_rises h (b ∷ bs) s = by_rank (R h b.0) (block_rises h bs (right_rises b.1 (flat bs) s))
    where
      by_rank : (r : Ordering) → IsStrictlySortedBy R (map key (block_at R h bs)) → IsStrictlySortedBy R (map key (unwrap_or (cond (is_eq r) (Some b.1) (lookup (is_at (R h)) bs)) []))
      by_rank Less rest = rest
      by_rank Equal rest = left_rises b.1 (flat bs) s
      by_rank Greater rest = rest

  before_put : (g h : K) (es : List (K × X)) (bs : List (K × List (K × X))) → R g h ≡ Less → Before R g bs → Before R g (insert_entry R bs h es)
  before_put g h es [] t b = t
  before_put g h es (b ∷ bs) t s = by_order (Before R g) (R h b.0) (λ _. t) (λ _. s) (λ _. s)

  -- blocks stay sound where one is put that isn't empty and has keys of its high part alone
  pub sound_put : (h : K) (es : List (K × X)) → IsFull es → AreOf R high h es → (bs : List (K × List (K × X))) → Sound R high bs → Sound R high (insert_entry R bs h es)
  sound_put h es full of [] s = (full, of, tt, tt)
  sound_put h es full of (b ∷ bs) s = by_order (Sound R high) (R h b.0)
      (λ t. (full, of, t, s))
      (λ t. (full, subst (λ g. AreOf R high g es) (same h b.0 t) of, s.2, s.3))
      (λ t. (s.0, s.1, before_put b.0 h es bs (flip R o h b.0 t) s.2, sound_put h es full of bs s.3))

  -- the count of all entries where a block is put
  pub count_put : (h : K) (es : List (K × X)) (bs : List (K × List (K × X))) → Sound R high bs → length (flat (insert_entry R bs h es)) + length (block_at R h bs) ≡ length (flat bs) + length es
  count_put h es [] s = ap (λ n. n + 0) (length-append es []) ∙ omega arith
  count_put h es (b ∷ bs) s = by_rank (R h b.0) refl (count_put h es bs s.3)
    where
      by_rank : (r : Ordering) → R h b.0 ≡ r → length (flat (insert_entry R bs h es)) + length (block_at R h bs) ≡ length (flat bs) + length es
          → length (flat (insert_entry R (b ∷ bs) h es)) + length (block_at R h (b ∷ bs)) ≡ length (flat (b ∷ bs)) + length es
      by_rank Less t rest =
          let new : length (flat (insert_entry R (b ∷ bs) h es)) ≡ length (es ++ flat (b ∷ bs)) = ap (λ r. length (flat (match_ordering r ((h, es) ∷ b ∷ bs) ((b.0, es) ∷ bs) (b ∷ insert_entry R bs h es)))) t in
          let none : length (block_at R h (b ∷ bs)) ≡ 0 = ap length (at_less h b bs s t) in
          let both : length (es ++ flat (b ∷ bs)) ≡ length es + length (flat (b ∷ bs)) = length-append es (flat (b ∷ bs)) in
          omega (arith, new, none, both)
      by_rank Equal t rest =
          let new : length (flat (insert_entry R (b ∷ bs) h es)) ≡ length (es ++ flat bs) = ap (λ r. length (flat (match_ordering r ((h, es) ∷ b ∷ bs) ((b.0, es) ∷ bs) (b ∷ insert_entry R bs h es)))) t in
          let old : length (block_at R h (b ∷ bs)) ≡ length b.1 = ap length (at_equal h b bs t) in
          omega (arith, new, old, length-append es (flat bs), length-append b.1 (flat bs))
      by_rank Greater t rest =
          let new : length (flat (insert_entry R (b ∷ bs) h es)) ≡ length (b.1 ++ flat (insert_entry R bs h es)) = ap (λ r. length (flat (match_ordering r ((h, es) ∷ b ∷ bs) ((b.0, es) ∷ bs) (b ∷ insert_entry R bs h es)))) t in
          let old : length (block_at R h (b ∷ bs)) ≡ length (block_at R h bs) = ap length (at_greater h b bs t) in
          omega (arith, new, old, rest, length-append b.1 (flat (insert_entry R bs h es)), length-append b.1 (flat bs))

  module _ (least : X) (join : X → X → Option X) where
    none_more : (r : Option (List (K × X))) → r ≡ option_map (λ fs. [] ++ fs) r
    none_more None = refl
    none_more (Some fs) = refl

    one_more : (x : K × X) (xs : List (K × X)) (r : Option (List (K × X))) → option_map (λ fs. x ∷ fs) (option_map (λ fs. xs ++ fs) r) ≡ option_map (λ fs. (x ∷ xs) ++ fs) r
    one_more x xs None = refl
    one_more x xs (Some fs) = refl

    more_behind : (x : K × X) (ys : List (K × X)) (r : Option (List (K × X))) → option_map (λ fs. x ∷ fs) (option_map (λ fs. fs ++ ys) r) ≡ option_map (λ fs. fs ++ ys) (option_map (λ fs. x ∷ fs) r)
    more_behind x ys None = refl
    more_behind x ys (Some fs) = refl

    joined_behind : (k : K) (xs ys : List (K × X)) (r : Option X) → option_map (λ w. (k, w) ∷ (xs ++ ys)) r ≡ option_map (λ fs. fs ++ ys) (option_map (λ w. (k, w) ∷ xs) r)
    joined_behind k xs ys None = refl
    joined_behind k xs ys (Some w) = refl

    add_past : (k : K) (v : X) (xs ys : List (K × X)) → Past R k xs → add R least join k v (xs ++ ys) ≡ option_map (λ fs. xs ++ fs) (add R least join k v ys)
    add_past k v [] ys h = none_more (add R least join k v ys)
    add_past k v (x ∷ xs) ys h = cc (h.0, add_past k v xs ys h.1, one_more x xs (add R least join k v ys))

    add_first : (k : K) (v : X) (ys : List (K × X)) → Before R k ys → add R least join k v ys ≡ Some ((k, v) ∷ ys)
    add_first k v [] h = refl
    add_first k v (y ∷ ys) h = cc h

    add_step : (k : K) (v : X) (x : K × X) (xs ys : List (K × X)) → add R least join k v (xs ++ ys) ≡ option_map (λ fs. fs ++ ys) (add R least join k v xs) → (r : Ordering) → R k x.0 ≡ r → add R least join k v ((x ∷ xs) ++ ys) ≡ option_map (λ fs. fs ++ ys) (add R least join k v (x ∷ xs))
    add_step k v x xs ys h Less e = cc e
    add_step k v x xs ys h Equal e = cc (e, joined_behind x.0 xs ys (join x.1 v))
    add_step k v x xs ys h Greater e = cc (e, h, more_behind x ys (add R least join k v xs))

    add_before : (k : K) (v : X) (xs ys : List (K × X)) → Before R k ys → add R least join k v (xs ++ ys) ≡ option_map (λ fs. fs ++ ys) (add R least join k v xs)
    add_before k v [] ys h = add_first k v ys h
    add_before k v (x ∷ xs) ys h = add_step k v x xs ys (add_before k v xs ys h) (R k x.0) refl

    same_map : {A B : Type 0} (f g : A → B) → ((x : A) → f x ≡ g x) → (r : Option A) → option_map f r ≡ option_map g r
    same_map f g h None = refl
    same_map f g h (Some x) = ap Some (h x)

    maps_as : {A B C : Type 0} (f : A → B) (g : B → C) (m : A → C) → ((x : A) → g (f x) ≡ m x) → (r : Option A) → option_map g (option_map f r) ≡ option_map m r
    maps_as f g m h None = refl
    maps_as f g m h (Some x) = ap Some (h x)

    -- the entries where the list stands at the high part of k
    abbrev put_block : K → List (K × List (K × X)) → List (K × X) → List (K × X)
    put_block k bs es = flat (insert_entry R bs (high k) es)

    add_flat_step : (k : K) (v : X) (b : K × List (K × X)) (bs : List (K × List (K × X))) → Sound R high (b ∷ bs)
        → add R least join k v (flat bs) ≡ option_map (put_block k bs) (add R least join k v (block_at R (high k) bs))
        → (r : Ordering) → R (high k) b.0 ≡ r
        → add R least join k v (flat (b ∷ bs)) ≡ option_map (put_block k (b ∷ bs)) (add R least join k v (block_at R (high k) (b ∷ bs)))
    add_flat_step k v b bs s h Less e = cc (add_first k v (flat (b ∷ bs)) (starts k b.0 b.1 (flat bs) s.0 s.1 e), e, at_less (high k) b bs s e)
    add_flat_step k v b bs s h Equal e =
        let there : (es : List (K × X)) → es ++ flat bs ≡ put_block k (b ∷ bs) es = λ es. cc e in
        cc (add_before k v b.1 (flat bs) (flat_before k bs s.3 (head_equal (high k) b.0 bs e s.2)), at_equal (high k) b bs e, same_map (λ es. es ++ flat bs) (put_block k (b ∷ bs)) there (add R least join k v b.1))
    add_flat_step k v b bs s h Greater e =
        let there : (es : List (K × X)) → b.1 ++ put_block k bs es ≡ put_block k (b ∷ bs) es = λ es. cc e in
        cc (add_past k v b.1 (flat bs) (all_past k b.0 b.1 s.1 e), at_greater (high k) b bs e, h, maps_as (put_block k bs) (λ fs. b.1 ++ fs) (put_block k (b ∷ bs)) there (add R least join k v (block_at R (high k) bs)))

    -- what is added to the entries is added to its block
    pub add_flat : (k : K) (v : X) (bs : List (K × List (K × X))) → Sound R high bs → add R least join k v (flat bs) ≡ option_map (λ es. flat (insert_entry R bs (high k) es)) (add R least join k v (block_at R (high k) bs))
    add_flat k v [] s = refl
    add_flat k v (b ∷ bs) s = add_flat_step k v b bs s (add_flat k v bs s.3) (R (high k) b.0) refl

    at_past : (q : K) (xs ys : List (K × X)) → Past R q xs → at R least join (xs ++ ys) q ≡ at R least join ys q
    at_past q [] ys h = refl
    at_past q (x ∷ xs) ys h = cc (h.0, at_past q xs ys h.1)

    -- the key is below each of the entries
    abbrev Ahead : K → List (K × X) → Type 0
    Ahead q [] = ⊤
    Ahead q (e ∷ es) = (R q e.0 ≡ Less) × Ahead q es

    at_ahead : (q : K) (ys : List (K × X)) → Ahead q ys → at R least join ys q ≡ least
    at_ahead q [] h = refl
    at_ahead q (y ∷ ys) h = cc (h.0, at_ahead q ys h.1)

    at_before : (q : K) (xs ys : List (K × X)) → Ahead q ys → at R least join (xs ++ ys) q ≡ at R least join xs q
    at_before q [] ys h = at_ahead q ys h
    at_before q (x ∷ xs) ys h = cc (at_before q xs ys h)

    both_ahead : (q : K) (xs ys : List (K × X)) → Ahead q xs → Ahead q ys → Ahead q (xs ++ ys)
    both_ahead q [] ys h t = t
    both_ahead q (x ∷ xs) ys h t = (h.0, both_ahead q xs ys h.1 t)

    all_ahead : (q h : K) (es : List (K × X)) → AreOf R high h es → R (high q) h ≡ Less → Ahead q es
    all_ahead q h [] of t = tt
    all_ahead q h (e ∷ es) of t = (rises q e.0 (cc (of.0, t)), all_ahead q h es of.1 t)

    flat_ahead : (q : K) (bs : List (K × List (K × X))) → Sound R high bs → Before R (high q) bs → Ahead q (flat bs)
    flat_ahead q [] s h = tt
    flat_ahead q (b ∷ bs) s h = both_ahead q b.1 (flat bs) (all_ahead q b.0 b.1 s.1 h) (flat_ahead q bs s.3 (head_below (high q) b.0 bs h s.2))

    at_flat_step : (q : K) (b : K × List (K × X)) (bs : List (K × List (K × X))) → Sound R high (b ∷ bs)
        → at R least join (flat bs) q ≡ at R least join (block_at R (high q) bs) q
        → (r : Ordering) → R (high q) b.0 ≡ r
        → at R least join (flat (b ∷ bs)) q ≡ at R least join (block_at R (high q) (b ∷ bs)) q
    at_flat_step q b bs s h Less e = cc (at_ahead q (flat (b ∷ bs)) (flat_ahead q (b ∷ bs) s e), at_less (high q) b bs s e)
    at_flat_step q b bs s h Equal e = cc (at_before q b.1 (flat bs) (flat_ahead q bs s.3 (head_equal (high q) b.0 bs e s.2)), at_equal (high q) b bs e)
    at_flat_step q b bs s h Greater e = cc (at_past q b.1 (flat bs) (all_past q b.0 b.1 s.1 e), h, at_greater (high q) b bs e)

    -- a key holds what it holds in its block
    pub at_flat : (q : K) (bs : List (K × List (K × X))) → Sound R high bs → at R least join (flat bs) q ≡ at R least join (block_at R (high q) bs) q
    at_flat q [] s = refl
    at_flat q (b ∷ bs) s = at_flat_step q b bs s (at_flat q bs s.3) (R (high q) b.0) refl

    -- what holds of each list that may come of it holds of what is added
    by_add : (P : List (K × X) → Type 0) (k : K) (v : X) (e : K × X) (es gs : List (K × X)) → P ((k, v) ∷ e ∷ es) → ((w : X) → P ((e.0, w) ∷ es)) → ((fs : List (K × X)) → add R least join k v es ≡ Some fs → P (e ∷ fs)) → add R least join k v (e ∷ es) ≡ Some gs → P gs
    by_add P k v e es gs first at more = by_rank (R k e.0)
      where
        put : (r : Option X) → ((w : X) → P ((e.0, w) ∷ es)) → option_map (λ w. (e.0, w) ∷ es) r ≡ Some gs → P gs
        put None at is = absurd (cc is)
        put (Some w) at is = subst P (same_Some _ _ is) (at w)

        behind : (r : Option (List (K × X))) → ((fs : List (K × X)) → r ≡ Some fs → P (e ∷ fs)) → option_map (λ fs. e ∷ fs) r ≡ Some gs → P gs
        behind None more is = absurd (cc is)
        behind (Some fs) more is = subst P (same_Some _ _ is) (more fs refl)

        by_rank : (r : Ordering) → match_ordering r (Some ((k, v) ∷ e ∷ es)) (option_map (λ w. (e.0, w) ∷ es) (join e.1 v)) (option_map (λ fs. e ∷ fs) (add R least join k v es)) ≡ Some gs → P gs
        by_rank Less is = subst P (same_Some _ _ is) first
        by_rank Equal is = put (join e.1 v) at is
        by_rank Greater is = behind (add R least join k v es) more is

    pub of_add : (h k : K) (v : X) (es gs : List (K × X)) → high k ≡ h → AreOf R high h es → add R least join k v es ≡ Some gs → AreOf R high h gs
    of_add h k v [] gs is of e = subst (AreOf R high h) (same_Some _ _ e) (is, tt)
    of_add h k v (x ∷ es) gs is of e = by_add (AreOf R high h) k v x es gs (is, of) (λ w. of) (λ fs t. (of.0, of_add h k v es fs is of.1 t)) e

    pub full_add : (k : K) (v : X) (es gs : List (K × X)) → add R least join k v es ≡ Some gs → IsFull gs
    full_add k v [] gs e = subst IsFull (same_Some _ _ e) tt
    full_add k v (x ∷ es) gs e = by_add IsFull k v x es gs tt (λ w. tt) (λ fs t. tt) e

    pub add_grows : (k : K) (v : X) (es gs : List (K × X)) → add R least join k v es ≡ Some gs → (length gs ≡ length es) ⊎ (length gs ≡ suc (length es))
    add_grows k v [] gs e = subst (λ fs. (length fs ≡ 0) ⊎ (length fs ≡ 1)) (same_Some _ _ e) (inr refl)
    add_grows k v (x ∷ es) gs e = by_add (λ fs. (length fs ≡ length (x ∷ es)) ⊎ (length fs ≡ suc (length (x ∷ es)))) k v x es gs (inr refl) (λ w. inl refl) (λ fs t. grown fs (add_grows k v es fs t)) e
      where
        grown : (fs : List (K × X)) → (length fs ≡ length es) ⊎ (length fs ≡ suc (length es)) → (length (x ∷ fs) ≡ length (x ∷ es)) ⊎ (length (x ∷ fs) ≡ suc (length (x ∷ es)))
        grown fs (inl h) = inl (ap suc h)
        grown fs (inr h) = inr (ap suc h)
