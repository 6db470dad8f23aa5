-- Those elements of a list that something holds of, and lists that are filled with them.
use Rattle.std.proofs.Common.{◌≡◌, ◌↔◌, inl, inr, List, [], ◌∷◌, ◌++◌, Ordering, sym, ap, subst, ◌∙◌, append_assoc, append-nil, reverse, Less}
use Rattle.std.specs.List.{AllByRecursion}
use Rattle.std.proofs.lemmas.List.{reverse-append}
use Rattle.std.specs.List.Sorted.{IsStrictlySortedBy}
use Rattle.lvish_calculus.specs.Handing.{IsAmong}
use Rattle.lvish_core.specs.laws.Lists.{all_always}
use Rattle.lvish_core.proofs.Listing.{all_at}
use Rattle.lvish_board.specs.Left.{AreThose}

module _ {X : Type 0} (P : X → Type 0) where
  -- just those that P holds of
  pub those_are : (xs those : List X) → AreThose P xs those → (x : X) → IsAmong x those ↔ (P x × IsAmong x xs)
  those_are [] those none x = (λ i. (absurd (subst (λ ys. IsAmong x ys) none i), subst (λ ys. IsAmong x ys) none i), λ h. absurd h.1)
  those_are (y ∷ ys) those (inl z) x =
      let rest = those_are ys z.0 z.3 x in (
        λ i. elim (subst (λ zs. IsAmong x zs) z.1 i) [
          | inl e ↦ (subst P (sym e) z.2, inl e)
          | inr j ↦ ((rest.0 j).0, inr (rest.0 j).1)
        ],
        λ h. subst (λ zs. IsAmong x zs) (sym z.1) (elim h.1 [
          | inl e ↦ inl e
          | inr j ↦ inr (rest.1 (h.0, j))
        ]),
      )
  those_are (y ∷ ys) those (inr z) x =
      let rest = those_are ys those z.1 x in (
        λ i. ((rest.0 i).0, inr (rest.0 i).1),
        λ h. elim h.1 [
          | inl e ↦ absurd (z.0 (subst P e h.0))
          | inr j ↦ rest.1 (h.0, j)
        ],
      )

  -- in the order of the list
  pub those_sorted : (cmp : X → X → Ordering) (xs those : List X) → AreThose P xs those → IsStrictlySortedBy cmp xs → IsStrictlySortedBy cmp those
  unfolding IsStrictlySortedBy
  those_sorted cmp [] those none s = subst (λ ys. IsStrictlySortedBy cmp ys) (sym none) tt
  those_sorted cmp (y ∷ ys) those (inl z) s =
      let first : AllByRecursion (λ w. cmp y w ≡ Less) z.0 = all_always (λ w. cmp y w ≡ Less) z.0 (λ w i. all_at (λ v. cmp y v ≡ Less) ys s.0 w ((those_are ys z.0 z.3 w).0 i).1) in
      subst (λ zs. IsStrictlySortedBy cmp zs) (sym z.1) (first, those_sorted cmp ys z.0 z.3 s.1)
  those_sorted cmp (y ∷ ys) those (inr z) s = those_sorted cmp ys those z.1 s.1

pub nothing_sorted : {X : Type 0} (cmp : X → X → Ordering) → IsStrictlySortedBy cmp []
unfolding IsStrictlySortedBy
nothing_sorted cmp = tt

pub one_sorted : {X : Type 0} (cmp : X → X → Ordering) (x : X) → IsStrictlySortedBy cmp (x ∷ [])
unfolding IsStrictlySortedBy
one_sorted cmp x = (tt, tt)

module _ {X : Type 0} (Has : X → Type 0) (all : List X) where
  -- the elements after those on the left were looked at, from the last one on, and these are on the list
  pub record IsListing (left list : List X) : Type 0 where
    pub seen : List X
    pub is : left ++ seen ≡ all
    pub those : AreThose Has seen (reverse list)

  pub list_begun : (list : List X) → list ≡ [] → IsListing all list
  list_begun list none = record { seen = []; is = append-nil all; those = ap (λ xs. reverse xs) none }

  pub list_more : (x : X) (before left list after : List X) → before ≡ left ++ x ∷ [] → IsListing before list → Has x → after ≡ list ++ x ∷ [] → IsListing left after
  list_more x before left list after e k has more = record {
    seen = x ∷ k.seen;
    is = sym (append_assoc left (x ∷ []) k.seen) ∙ ap (λ xs. xs ++ k.seen) (sym e) ∙ k.is;
    those = inl (reverse list, ap (λ xs. reverse xs) more ∙ reverse-append list (x ∷ []), has, k.those);
  }

  pub list_passed : (x : X) (before left list : List X) → before ≡ left ++ x ∷ [] → IsListing before list → (Has x → ⊥) → IsListing left list
  list_passed x before left list e k none = record {
    seen = x ∷ k.seen;
    is = sym (append_assoc left (x ∷ []) k.seen) ∙ ap (λ xs. xs ++ k.seen) (sym e) ∙ k.is;
    those = inr (none, k.those);
  }

  pub list_ended : (left list after : List X) → left ≡ [] → IsListing left list → after ≡ reverse list → AreThose Has all after
  list_ended left list after none k e = subst (λ ys. AreThose Has all ys) (sym e) (subst (λ xs. AreThose Has xs (reverse list)) (sym (ap (λ xs. xs ++ k.seen) none) ∙ k.is) k.those)
