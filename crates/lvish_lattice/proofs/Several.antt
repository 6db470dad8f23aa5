-- Several elements put into an ascending list: behind the others, one by one, and taken out again.
use Rattle.std.specs.Prelude.{◌≡◌, Bool, true, false, not, cond, ◌||◌, ◌&&◌, List, [], ◌∷◌, ◌++◌, filter, take, drop, refl}
use Rattle.std.proofs.Common.{sym, ◌∙◌, ap, subst, true≢false, ℕ}
use Rattle.std.specs.declared.cmp.Ordering.{Ordering}
use Rattle.std.specs.declared.cmp.Ordering.TheVariants.{Less, Equal, Greater}
use Rattle.std.specs.Ordering.{eq_by_cmp, is_eq, ordering_reverse}
use Rattle.std.specs.Cmp.{IsTotalOrder, Equal-is, eq_by_cmp_equiv}
use Rattle.std.specs.Set.{is_member, sorted_merge}
use Rattle.std.specs.List.Sorted.{IsStrictlySortedBy}
use Rattle.std.proofs.lemmas.List.{append_assoc, take-append-drop}
use Rattle.std.proofs.lemmas.List.Folds.{list_any-append}
use Rattle.std.proofs.lemmas.List.Kept.{IsStrictlySortedBy-filter}
use Rattle.std.proofs.lemmas.Map.Made.{is_member-filter}
use Rattle.lvish_lattice.specs.Ascending.{same_members, merge_has, merge_rises, one_rises}
use Rattle.lvish_lattice.specs.Elements.{has, AreApart, GoesOn}
use Rattle.lvish_lattice.proofs.Puts.{put_first, tail_rises}
use Rattle.lvish_lattice.proofs.Rows.{AllBelow, all_below, behind_all}

either_way : (a b c : Bool) → ((a || false) || (b || c)) ≡ ((b || (a || false)) || c)
either_way true true c = refl
either_way true false c = refl
either_way false true c = refl
either_way false false c = refl

goes : (a s v : Bool) → cond a false (s && not v) ≡ (s && not (v || (a || false)))
goes true true true = refl
goes true true false = refl
goes true false v = refl
goes false true true = refl
goes false true false = refl
goes false false v = refl

and_all : (s : Bool) → s ≡ (s && not false)
and_all true = refl
and_all false = refl

as_before : (a b m : Bool) → (a ≡ true → m ≡ true) → (m ≡ true → b ≡ false) → ((a || b) && not m) ≡ b
as_before true true true t apart = sym (apart refl)
as_before true true false t apart = absurd (true≢false (sym (t refl)))
as_before true false true t apart = refl
as_before true false false t apart = absurd (true≢false (sym (t refl)))
as_before false true true t apart = sym (apart refl)
as_before false true false t apart = refl
as_before false false m t apart = refl

only_missing : (a b : Bool) → ((a && not b) || b) ≡ (a || b)
only_missing true true = refl
only_missing true false = refl
only_missing false b = refl

or_true : (a b : Bool) → a ≡ true → (a || b) ≡ true
or_true true b h = refl
or_true false b h = absurd (true≢false (sym h))

kept_lacks : (a b : Bool) → (a && not b) ≡ true → b ≡ false
kept_lacks true true h = absurd (true≢false (sym h))
kept_lacks true false h = refl
kept_lacks false b h = absurd (true≢false (sym h))

tie_back : (r : Ordering) → is_eq (ordering_reverse r) ≡ is_eq r
tie_back Less = refl
tie_back Equal = refl
tie_back Greater = refl

module _ {K : Type 0} (R : K → K → Ordering) where
  -- those that came so far, and those that were there
  abbrev pub IsWith : List K → List K → List K → Type 0
  IsWith came start held = (q : K) → has R held q ≡ (has R came q || has R start q)

  -- those that were there, without those that went so far
  abbrev pub IsWithout : List K → List K → List K → Type 0
  IsWithout went start held = (q : K) → has R held q ≡ (has R start q && not (has R went q))

-- where no value is missing, nothing is put
pub none_missing : {K : Type 0} (R : K → K → Ordering) (missing xs : List K) → missing ≡ [] → xs ≡ sorted_merge R true missing xs
none_missing R missing xs h = sym (ap (λ zs. sorted_merge R true zs xs) h)

-- what is put where nothing is
pub put_first_row : {K : Type 0} (R : K → K → Ordering) (xs : List K) → xs ≡ sorted_merge R true xs []
put_first_row R [] = refl
put_first_row R (x ∷ xs) = refl

module _ {K : Type 0} {R : K → K → Ordering} (o : IsTotalOrder R) where
  pub one_comes : (x : K) (came more start held now : List K) → more ≡ came ++ x ∷ [] → now ≡ sorted_merge R true (x ∷ []) held → IsWith R came start held → IsWith R more start now
  one_comes x came more start held now is put h q =
      ap (λ xs. has R xs q) put ∙ merge_has o q (x ∷ []) held ∙ ap (λ b. (eq_by_cmp R q x || false) || b) (h q) ∙ either_way (eq_by_cmp R q x) (has R came q) (has R start q)
      ∙ ap (λ b. b || has R start q) (sym (ap (λ xs. has R xs q) is ∙ list_any-append (eq_by_cmp R q) came (x ∷ [])))

  pub one_goes : (x : K) (went more start held now : List K) → more ≡ went ++ x ∷ [] → ((q : K) → has R now q ≡ cond (is_eq (R x q)) false (has R held q)) → IsWithout R went start held → IsWithout R more start now
  one_goes x went more start held now is taken h q =
      taken q ∙ ap (λ r. cond (is_eq r) false (has R held q)) (o.antisymm x q) ∙ ap (λ b. cond b false (has R held q)) (tie_back (R q x))
      ∙ ap (cond (eq_by_cmp R q x) false) (h q) ∙ goes (eq_by_cmp R q x) (has R start q) (has R went q)
      ∙ ap (λ b. has R start q && not b) (sym (ap (λ xs. has R xs q) is ∙ list_any-append (eq_by_cmp R q) went (x ∷ [])))

  pub none_goes : (start : List K) → IsWithout R [] start start
  none_goes start q = and_all (has R start q)

  front_has : (i : ℕ) (xs : List K) (q : K) → has R (take i xs) q ≡ true → has R xs q ≡ true
  front_has i xs q h = sym (ap (λ ys. has R ys q) (take-append-drop i xs)) ∙ list_any-append (eq_by_cmp R q) (take i xs) (drop i xs) ∙ or_true (has R (take i xs) q) (has R (drop i xs) q) h

  module _ (same : (x y : K) → R x y ≡ Equal → x ≡ y) where
    -- all came
    pub all_came : (came values start held : List K) → came ≡ values → IsStrictlySortedBy R values → IsStrictlySortedBy R start → IsStrictlySortedBy R held → IsWith R came start held → held ≡ sorted_merge R true values start
    all_came came values start held is s t u h =
        same_members o same held _ u (merge_rises o values start s t) (λ q. h q ∙ ap (λ xs. has R xs q || has R start q) is ∙ sym (merge_has o q values start))

    -- where the first of the values came and all of them are taken out, what was there is left
    pub taken_back : (i : ℕ) (values start held left : List K) → IsStrictlySortedBy R start → IsStrictlySortedBy R left → AreApart R start values → IsWith R (take i values) start held → IsWithout R values held left → left ≡ start
    taken_back i values start held left s t apart h went =
        same_members o same left start t s (λ q. went q ∙ ap (λ b. b && not (has R values q)) (h q) ∙ as_before (has R (take i values) q) (has R start q) (has R values q) (front_has i values q) (apart q))

    -- the values that a list lacks, and the list under another name
    module _ (eq : K → K → Bool) (ties : (x y : K) → eq x y ≡ is_eq (R x y)) (xs ys missing held : List K) (is : missing ≡ filter (λ e. not (is_member eq xs e)) ys) (view : held ≡ xs) where
      has_by : (q : K) → is_member eq xs q ≡ has R held q
      has_by q = ap (λ (e : K → K → Bool). is_member e xs q) (λ i a b. ties a b i) ∙ ap (λ zs. has R zs q) (sym view)

      has_missing : (q : K) → has R missing q ≡ (has R ys q && not (has R held q))
      has_missing q =
          ap (λ zs. has R zs q) is ∙ is_member-filter (eq_by_cmp_equiv o) (λ e. not (is_member eq xs e)) q (λ x h. ap (λ e. not (is_member eq xs e)) (same q x ((Equal-is (R q x)).0 h))) ys
          ∙ ap (λ b. has R ys q && not b) (has_by q)

      pub missing_rises : IsStrictlySortedBy R ys → IsStrictlySortedBy R missing
      missing_rises t = subst (IsStrictlySortedBy R) (sym is) (IsStrictlySortedBy-filter R (λ e. not (is_member eq xs e)) ys t)

      pub missing_apart : AreApart R held missing
      missing_apart q h = kept_lacks (has R ys q) (has R held q) (sym (has_missing q) ∙ h)

      -- they are what a merge brings
      pub missing_merge : IsStrictlySortedBy R xs → IsStrictlySortedBy R ys → (now : List K) → now ≡ sorted_merge R true missing held → now ≡ sorted_merge R true ys xs
      missing_merge s t now put =
          let u = subst (IsStrictlySortedBy R) (sym view) s in
          put ∙ same_members o same _ _ (merge_rises o missing held (missing_rises t) u) (merge_rises o ys xs t s) (λ q.
          merge_has o q missing held ∙ ap (λ b. b || has R held q) (has_missing q) ∙ only_missing (has R ys q) (has R held q) ∙ ap (λ zs. has R ys q || has R zs q) view ∙ sym (merge_has o q ys xs))

    -- ascending values behind all others
    all_next : (y z : K) (xs : List K) → R y z ≡ Less → AllBelow o y xs → AllBelow o z (xs ++ y ∷ [])
    all_next y z [] h b = (h, tt)
    all_next y z (x ∷ xs) h b = (o.trans x y z b.0 h, all_next y z xs h b.1)

    first_below : (y z : K) (zs : List K) → IsStrictlySortedBy R (y ∷ z ∷ zs) → R y z ≡ Less
    unfolding IsStrictlySortedBy
    first_below y z zs s = s.0.0

    behind : (y : K) (ys xs : List K) → IsStrictlySortedBy R (y ∷ ys) → IsStrictlySortedBy R xs → AllBelow o y xs → sorted_merge R true (y ∷ ys) xs ≡ xs ++ y ∷ ys
    behind y [] xs s t b = behind_all o y xs b
    behind y (z ∷ zs) xs s t b =
        let one = behind_all o y xs b in
        sym (put_first o same y (z ∷ zs) xs s t) ∙ ap (sorted_merge R true (z ∷ zs)) one
        ∙ behind z zs (xs ++ y ∷ []) (tail_rises R y (z ∷ zs) s) (subst (IsStrictlySortedBy R) one (merge_rises o (y ∷ []) xs (one_rises R y) t)) (all_next y z xs (first_below y z zs s) b)
        ∙ append_assoc xs (y ∷ []) (z ∷ zs)

    nothing_behind : (xs : List K) → xs ≡ xs ++ []
    nothing_behind [] = refl
    nothing_behind (x ∷ xs) = ap (λ ys. x ∷ ys) (nothing_behind xs)

    go_on : (values xs : List K) → IsStrictlySortedBy R values → IsStrictlySortedBy R xs → GoesOn R values xs → sorted_merge R true values xs ≡ xs ++ values
    go_on [] xs s t g = nothing_behind xs
    go_on (y ∷ ys) xs s t g = behind y ys xs s t (all_below o y xs t g)

    -- a row of which ascending values are put behind all others
    pub all_pushed : (values inside held now : List K) → inside ≡ held → now ≡ inside ++ values → IsStrictlySortedBy R inside → IsStrictlySortedBy R values → GoesOn R values held → IsStrictlySortedBy R now × (now ≡ sorted_merge R true values held)
    all_pushed values inside held now view push s t g =
        let rises = subst (IsStrictlySortedBy R) view s in
        let merged : now ≡ sorted_merge R true values held = push ∙ ap (λ xs. xs ++ values) view ∙ sym (go_on values held t rises g) in
        (subst (IsStrictlySortedBy R) (sym merged) (merge_rises o values held t rises), merged)
