-- What is put into a block of a tree is put into the entries of the tree.
use Rattle.std.proofs.Common.{◌≡◌, ◌⊎◌, inl, inr, ℕ, suc, length, ◌+◌, arith, Bool, true, List, [], ◌∷◌, map, Option, Some, None, Result, Ok, Err, IfOk, IfErr, option_map, unwrap_or, is_some, refl, sym, ◌∙◌, ap, subst}
use Rattle.std.proofs.lemmas.Result.{IfErr-weaker, IfOk-weaker}
use Rattle.std.specs.Map.{lookup}
use Rattle.std.specs.Cmp.{IsTotalOrder}
use Rattle.std.specs.BTreeMap.{is_at, insert_entry}
use Rattle.std.specs.List.Sorted.{IsStrictlySortedBy}
use Rattle.lvish_compound.specs.Vocabulary.{Ordering, Equal}
use Rattle.lvish_lattice.specs.Lattice.{IsJoin, IsMerged, IsOutcome, fresh_of}
use Rattle.lvish_lattice.specs.declared.brought.Brought.{Brought}
use Rattle.lvish_lattice.specs.declared.brought.Brought.TheVariants.{Listed}
use Rattle.lvish_compound.specs.Keyed.{key, add, at}
use Rattle.lvish_compound.specs.laws.KeyedLaws.{add_rises}
use Rattle.lvish_compound.specs.Keys.{IsRising}
use Rattle.lvish_compound.specs.Blocks.{flat, IsFull, AreOf, Sound, AreBlocks, block_at}
use Rattle.lvish_compound.proofs.Outcomes.{outcome_as, result_either}
use Rattle.lvish_compound.proofs.Parts.{insert_found, set_same, outcome_new}
use Rattle.lvish_compound.proofs.Blocks.{insert_flat, add_flat, at_flat, sound_put, of_insert, of_add, full_insert, full_add, block_of, block_full, block_rises, count_put, insert_grows, add_grows, insert_rises}

module _ {K L : Type 0} (R : K → K → Ordering) (high : K → K) (o : IsTotalOrder R) (same : (x y : K) → R x y ≡ Equal → x ≡ y) (rises : IsRising R high) where
  -- what a key of a block holds
  pub found_at : (least : L) (join : L → L → Option L) (q : K) (bs : List (K × List (K × L))) (count : ℕ) (es : List (K × L)) → AreBlocks R high bs count → lookup (is_at (R (high q))) bs ≡ Some es → at R least join es q ≡ at R least join (flat bs) q
  found_at least join q bs count es blocks held = ap (λ r. at R least join (unwrap_or r []) q) (sym held) ∙ sym (at_flat R high o same rises least join q bs blocks.0)

  pub none_at : (least : L) (join : L → L → Option L) (q : K) (bs : List (K × List (K × L))) (count : ℕ) → AreBlocks R high bs count → lookup (is_at (R (high q))) bs ≡ None → least ≡ at R least join (flat bs) q
  none_at least join q bs count blocks none = ap (λ r. at R least join (unwrap_or r []) q) (sym none) ∙ sym (at_flat R high o same rises least join q bs blocks.0)

  pub held_rises : (h : K) (bs : List (K × List (K × L))) (count : ℕ) (es : List (K × L)) → AreBlocks R high bs count → lookup (is_at (R h)) bs ≡ Some es → IsStrictlySortedBy R (map key es)
  held_rises h bs count es blocks held = subst (λ xs. IsStrictlySortedBy R (map key xs)) (ap (λ r. unwrap_or r []) held) (block_rises R high o same rises h bs blocks.1)

  -- a list that took the place of a block
  module _ (k : K) (bs ms ns : List (K × List (K × L))) (es gs : List (K × L)) (count : ℕ) (blocks : AreBlocks R high bs count) (there : block_at R (high k) bs ≡ es) (written : ms ≡ insert_entry R bs (high k) gs) (new : ns ≡ ms) where
    wrote : ns ≡ insert_entry R bs (high k) gs
    wrote = new ∙ written

    here_of : AreOf R high (high k) es
    here_of = subst (AreOf R high (high k)) there (block_of R high o same rises (high k) bs blocks.0)

    counted : length (flat ns) + length es ≡ length (flat bs) + length gs
    counted = ap (λ xs. length (flat xs) + length es) wrote ∙ ap (λ xs. length (flat (insert_entry R bs (high k) gs)) + length xs) (sym there) ∙ count_put R high o same rises (high k) gs bs blocks.0

    abbrev Grows : Type 0
    Grows = (length gs ≡ length es) ⊎ (length gs ≡ suc (length es))

    stay : IsFull gs → AreOf R high (high k) gs → IsStrictlySortedBy R (map key (flat ns)) → (c : ℕ) → c + length es ≡ count + length gs → AreBlocks R high ns c
    stay full of s c e = (subst (Sound R high) (sym wrote) (sound_put R high o same rises (high k) gs full of bs blocks.0), s, (let a = counted in let b = blocks.2 in omega arith))

    -- of an entry that is put
    module _ (v : L) (put : gs ≡ insert_entry R es k v) where
      put_flat : flat ns ≡ insert_entry R (flat bs) k v
      put_flat = ap flat (wrote ∙ ap (insert_entry R bs (high k)) (put ∙ ap (λ xs. insert_entry R xs k v) (sym there))) ∙ sym (insert_flat R high o same rises k v bs blocks.0)

      put_blocks : (c : ℕ) → c + length es ≡ count + length gs → AreBlocks R high ns c
      put_blocks = stay (subst IsFull (sym put) (full_insert R high o same rises k v es)) (subst (AreOf R high (high k)) (sym put) (of_insert R high o same rises (high k) k v es refl here_of))
          (subst (λ xs. IsStrictlySortedBy R (map key xs)) (sym put_flat) (insert_rises R high o same rises k v (flat bs) blocks.1))

      put_grows : Grows
      put_grows = subst (λ xs. (length xs ≡ length es) ⊎ (length xs ≡ suc (length es))) (sym put) (insert_grows R high o same rises k v es)

    -- of a part that is joined
    module _ (least : L) (join : L → L → Option L) (v : L) where
      abbrev joined : Option (List (K × L))
      joined = add R least join k v es

      abbrev all_joined : Option (List (K × L))
      all_joined = add R least join k v (flat bs)

      through : all_joined ≡ option_map (λ xs. flat (insert_entry R bs (high k) xs)) joined
      through = add_flat R high o same rises least join k v bs blocks.0 ∙ ap (λ xs. option_map (λ ys. flat (insert_entry R bs (high k) ys)) (add R least join k v xs)) there

      at_there : at R least join (flat bs) k ≡ at R least join es k
      at_there = at_flat R high o same rises least join k bs blocks.0 ∙ ap (λ xs. at R least join xs k) there

      some_joined : (fs : List (K × L)) → joined ≡ Some fs → all_joined ≡ Some (flat (insert_entry R bs (high k) fs))
      some_joined fs is = through ∙ ap (option_map (λ xs. flat (insert_entry R bs (high k) xs))) is

      joined_blocks : IsJoin least join → joined ≡ Some gs → (c : ℕ) → c + length es ≡ count + length gs → AreBlocks R high ns c
      joined_blocks j is = stay (full_add R high o same rises least join k v es gs is) (of_add R high o same rises least join (high k) k v es gs refl here_of is)
          (add_rises R least join o j k v (flat bs) (flat ns) blocks.1 (some_joined gs is ∙ ap (λ xs. Some (flat xs)) (sym wrote)))

      module _ (kept : gs ≡ es → flat ns ≡ flat bs) where
        merged_flat : (b : Bool) → IsMerged joined es gs b → IsMerged all_joined (flat bs) (flat ns) b
        merged_flat b m = by_join joined refl m.0 m.1
          where
            by_join : (r : Option (List (K × L))) → joined ≡ r → b ≡ is_some r → gs ≡ unwrap_or r es → IsMerged all_joined (flat bs) (flat ns) b
            by_join None is t e = let none : all_joined ≡ None = through ∙ ap (option_map (λ xs. flat (insert_entry R bs (high k) xs))) is in (t ∙ ap is_some (sym none), kept e ∙ ap (λ r. unwrap_or r (flat bs)) (sym none))
            by_join (Some fs) is t e = let some = some_joined fs is in (t ∙ ap is_some (sym some), ap flat (wrote ∙ ap (insert_entry R bs (high k)) e) ∙ ap (λ r. unwrap_or r (flat bs)) (sym some))

        outcome_all : {E : Type 0} (eq : E → E → Bool) (ev : L → List E) (t : Brought E) → IsOutcome joined (fresh_of join eq ev (at R least join es k) v) es gs t → IsOutcome all_joined (fresh_of join eq ev (at R least join (flat bs) k) v) (flat bs) (flat ns) t
        outcome_all eq ev t m = outcome_as joined all_joined (fresh_of join eq ev (at R least join es k) v) (fresh_of join eq ev (at R least join (flat bs) k) v) es gs (flat bs) (flat ns) merged_flat kept
            (ap (λ x. fresh_of join eq ev x v) at_there) t m

  -- a block that was there
  module _ (k : K) (bs ms ns : List (K × List (K × L))) (es gs : List (K × L)) (count : ℕ) (blocks : AreBlocks R high bs count) (held : lookup (is_at (R (high k))) bs ≡ Some es) (written : ms ≡ insert_entry R bs (high k) gs) (new : ns ≡ ms) where
    present : block_at R (high k) bs ≡ es
    present = ap (λ r. unwrap_or r []) held

    module _ (ordered : IsStrictlySortedBy R (map key bs)) where
      kept_flat : gs ≡ es → flat ns ≡ flat bs
      kept_flat e = ap flat (new ∙ written ∙ ap (insert_entry R bs (high k)) e ∙ insert_found R o (high k) es es bs ordered held ∙ set_same R (high k) es bs held)

      -- the blocks after a call, and their count
      module _ (more c before after : ℕ) (m : more ≡ count + 1) (b : before ≡ length es) (a : after ≡ length gs) (stays : before ≡ after → c ≡ count) (grows : (before ≡ after → ⊥) → c ≡ more) where
        told : (length gs ≡ length es) ⊎ (length gs ≡ suc (length es)) → c + length es ≡ count + length gs
        told (inl e) = let q = stays (b ∙ sym e ∙ sym a) in omega arith
        told (inr e) = let q = grows (λ n. absurd (omega arith)) in omega arith

        kept_blocks : gs ≡ es → AreBlocks R high ns c
        kept_blocks e = stay k bs ms ns es gs count blocks present written new (subst IsFull (sym e) (block_full R high o same rises (high k) bs es blocks.0 held)) (subst (AreOf R high (high k)) (sym e) (here_of k bs ms ns es gs count blocks present written new))
            (subst (λ xs. IsStrictlySortedBy R (map key xs)) (sym (kept_flat e)) blocks.1) c (told (inl (ap length e)))

        pub inserted_blocks : {T Refused : Type 0} (v : L) (q : Result T Refused) → IfOk q (λ _. gs ≡ insert_entry R es k v) → IfErr q (λ _. gs ≡ es) → AreBlocks R high ns c
        inserted_blocks v (Ok x) ok err = put_blocks k bs ms ns es gs count blocks present written new v ok c (told (put_grows k bs ms ns es gs count blocks present written new v ok))
        inserted_blocks v (Err x) ok err = kept_blocks err

        module _ (least : L) (join : L → L → Option L) (j : IsJoin least join) (v : L) where
          some_blocks : add R least join k v es ≡ Some gs → AreBlocks R high ns c
          some_blocks is = joined_blocks k bs ms ns es gs count blocks present written new least join v j is c (told (add_grows R high o same rises least join k v es gs is))

          pub join_blocks : {Refused : Type 0} (q : Result Bool Refused) → IfOk q (λ b. IsMerged (add R least join k v es) es gs b) → IfErr q (λ _. gs ≡ es) → AreBlocks R high ns c
          join_blocks (Ok b) ok err = by_join (add R least join k v es) refl ok.1
            where
              by_join : (r : Option (List (K × L))) → add R least join k v es ≡ r → gs ≡ unwrap_or r es → AreBlocks R high ns c
              by_join None is e = kept_blocks e
              by_join (Some fs) is e = some_blocks (is ∙ ap Some (sym e))
          join_blocks (Err e) ok err = kept_blocks err

          pub outcome_blocks : {E Refused : Type 0} (xs : List E) (q : Result (Brought E) Refused) → IfOk q (λ t. IsOutcome (add R least join k v es) xs es gs t) → IfErr q (λ _. gs ≡ es) → AreBlocks R high ns c
          outcome_blocks xs q ok err = elim either [ inl e ↦ kept_blocks e | inr is ↦ some_blocks is ]
            where
              either : (gs ≡ es) ⊎ (add R least join k v es ≡ Some gs)
              either = result_either (λ ys. (ys ≡ es) ⊎ (add R least join k v es ≡ Some ys)) (add R least join k v es) xs es gs (inl refl) (λ ys is. inr is) q ok err

  -- the entries after a call on a block that was there
  module _ (k : K) (bs ms : List (K × List (K × L))) (es gs : List (K × L)) (count : ℕ) (blocks : AreBlocks R high bs count) (held : lookup (is_at (R (high k))) bs ≡ Some es) (written : ms ≡ insert_entry R bs (high k) gs) (ordered : IsStrictlySortedBy R (map key bs))
      (zs : List (K × L)) (shown : zs ≡ flat ms) where
    kept_there : gs ≡ es → flat ms ≡ flat bs
    kept_there e = kept_flat k bs ms ms es gs count blocks held written refl ordered e

    pub refused_flat : {T Refused : Type 0} (q : Result T Refused) → IfErr q (λ _. gs ≡ es) → IfErr q (λ _. zs ≡ flat bs)
    refused_flat q err = IfErr-weaker q _ _ (λ _ e. shown ∙ kept_there e) err

    pub inserted_flat : {T Refused : Type 0} (v : L) (q : Result T Refused) → IfOk q (λ _. gs ≡ insert_entry R es k v) → IfOk q (λ _. zs ≡ insert_entry R (flat bs) k v)
    inserted_flat v q ok = IfOk-weaker q _ _ (λ _ e. shown ∙ put_flat k bs ms ms es gs count blocks (ap (λ r. unwrap_or r []) held) written refl v e) ok

    pub join_flat : {Refused : Type 0} (least : L) (join : L → L → Option L) (v : L) (q : Result Bool Refused) → IfOk q (λ b. IsMerged (add R least join k v es) es gs b) → IfOk q (λ b. IsMerged (add R least join k v (flat bs)) (flat bs) zs b)
    join_flat least join v q ok = IfOk-weaker q _ _ (λ b m. subst (λ ys. IsMerged (add R least join k v (flat bs)) (flat bs) ys b) (sym shown) (merged_flat k bs ms ms es gs count blocks (ap (λ r. unwrap_or r []) held) written refl least join v kept_there b m)) ok

    pub outcome_flat : {E Refused : Type 0} (least : L) (join : L → L → Option L) (v : L) (eq : E → E → Bool) (ev : L → List E) (q : Result (Brought E) Refused)
        → IfOk q (λ t. IsOutcome (add R least join k v es) (fresh_of join eq ev (at R least join es k) v) es gs t)
        → IfOk q (λ t. IsOutcome (add R least join k v (flat bs)) (fresh_of join eq ev (at R least join (flat bs) k) v) (flat bs) zs t)
    outcome_flat least join v eq ev q ok = IfOk-weaker q _ _ (λ t m. subst (λ ys. IsOutcome (add R least join k v (flat bs)) (fresh_of join eq ev (at R least join (flat bs) k) v) (flat bs) ys t) (sym shown)
        (outcome_all k bs ms ms es gs count blocks (ap (λ r. unwrap_or r []) held) written refl least join v kept_there eq ev t m)) ok

  -- a block of the entry's own, where there was none of its key
  module _ (k : K) (w : L) (bs ms ns : List (K × List (K × L))) (count more : ℕ) (blocks : AreBlocks R high bs count) (none : lookup (is_at (R (high k))) bs ≡ None) (written : ms ≡ insert_entry R bs (high k) ((k, w) ∷ [])) (new : ns ≡ ms) where
    vacant : block_at R (high k) bs ≡ []
    vacant = ap (λ r. unwrap_or r []) none

    pub new_blocks : more ≡ count + 1 → AreBlocks R high ns more
    new_blocks m = put_blocks k bs ms ns [] ((k, w) ∷ []) count blocks vacant written new w refl more (let e = m in omega arith)

  -- the entries after that
  module _ (k : K) (w : L) (bs ms : List (K × List (K × L))) (count : ℕ) (blocks : AreBlocks R high bs count) (none : lookup (is_at (R (high k))) bs ≡ None) (written : ms ≡ insert_entry R bs (high k) ((k, w) ∷ [])) (zs : List (K × L)) (shown : zs ≡ flat ms) where
    unlike : ◌≡◌ {A = List (K × L)} ((k, w) ∷ []) [] → flat ms ≡ flat bs
    unlike e = absurd (cc e)

    pub new_put : zs ≡ insert_entry R (flat bs) k w
    new_put = shown ∙ put_flat k bs ms ms [] ((k, w) ∷ []) count blocks (ap (λ r. unwrap_or r []) none) written refl w refl

    module _ (least : L) (join : L → L → Option L) (v : L) where
      pub new_joined : w ≡ v → IsMerged (add R least join k v (flat bs)) (flat bs) zs true
      new_joined e = subst (λ ys. IsMerged (add R least join k v (flat bs)) (flat bs) ys true) (sym shown)
          (merged_flat k bs ms ms [] ((k, w) ∷ []) count blocks (ap (λ r. unwrap_or r []) none) written refl least join v unlike true (refl, ap (λ x. (k, x) ∷ []) e))

      pub new_outcome : {E : Type 0} (eq : E → E → Bool) (ev : L → List E) → IsJoin least join → (t : Brought E) → (t ≡ Listed → ⊥) → IsOutcome (join least v) (fresh_of join eq ev least v) least w t
          → IsOutcome (add R least join k v (flat bs)) (fresh_of join eq ev (at R least join (flat bs) k) v) (flat bs) zs t
      new_outcome eq ev j t n m = subst (λ ys. IsOutcome (add R least join k v (flat bs)) (fresh_of join eq ev (at R least join (flat bs) k) v) (flat bs) ys t) (sym shown)
          (outcome_all k bs ms ms [] ((k, w) ∷ []) count blocks (ap (λ r. unwrap_or r []) none) written refl least join v unlike eq ev t (outcome_new R least join eq ev j k v w [] ((k, w) ∷ []) ((k, w) ∷ []) refl refl refl t n m))
