-- Reads of a set by a list of elements: when they are checked, and what they answer.
use Rattle.std.proofs.Common.{◌≡◌, ◌↔◌, Bool, true, [], ◌∷◌, None, All, Contains, refl, sym, ◌∙◌, ap, subst, inl, ⊎_elim, arith}
use Rattle.std.specs.Cmp.{IsTotalOrder}
use Rattle.std.specs.Set.{is_member}
use Rattle.std.specs.Ordering.{is_eq}
use Rattle.std.proofs.lemmas.List.Elements.{All-cons, All-nil}
use Rattle.std.specs.declared.cmp.Ord as ord
use Rattle.std.specs.declared.cmp.PartialEq as partial_eq
use Rattle.std.specs.declared.cmp.PartialOrd as partial_ord
use Rattle.lvish_lattice.specs.declared.grow_set.GrowSet.{GrowSet}
use Rattle.lvish_lattice.specs.declared.grow_set.Members.{Members}
use Rattle.lvish_lattice.specs.Lattice.{IsIdentity, IsAtOrBelow, IsChecked, IsAnswered, IsWatched}
use Rattle.lvish_lattice.specs.Ascending.{ties_are_same, one_rises, within_by}
use Rattle.lvish_lattice.specs.GrowSet.{joined, joined-union, below_from, items_of, set_with}
use Rattle.lvish_lattice.specs.Listed.{found, found_one, some_is_not_none, one_is_each, missed}
use Rattle.lvish_lattice.specs.Members.{listed, Member, answer_of, spot_of, watched}

module _ {V : Type 0} {o : ord.Ghosts V} {e : partial_eq.Ghosts V} {p : partial_ord.Ghosts V} (total : IsTotalOrder o.cmp) where
  abbrev single : V → GrowSet V o e p
  single x = set_with (x ∷ []) (one_rises o.cmp x)

  pub never_top : (a b : GrowSet V o e p) → joined a b ≡ None → ⊥
  never_top a b h = some_is_not_none (joined a b) _ (joined-union total a b) h

  -- a read is checked exactly where any two listed elements are the same
  checked_is_one : (r : Members V) → IsChecked joined (Member {o = o} {e = e} {p = p} r) → (x y : V) → Contains (listed r) x → Contains (listed r) y → x ≡ y
  checked_is_one r checked x y s t = ⊎_elim (λ h. h) (λ h. absurd (never_top (single x) (single y) h)) (checked (single x) (single y) x y (s, refl) (t, refl))

  pub sets_checked : (r : Members V) → ((x y : V) → Contains (listed r) x → Contains (listed r) y → x ≡ y) ↔ IsChecked joined (Member {o = o} {e = e} {p = p} r)
  sets_checked r = ((λ one m n a b s t. inl (one a b s.0 t.0)), checked_is_one r)

  module _ (eq : V → V → Bool) (ties : (x y : V) → eq x y ≡ is_eq (o.cmp x y)) (same : IsIdentity eq) where
    -- a set of one element is at or below those that have it
    pub has_below : (m s : GrowSet V o e p) (a : V) → items_of m ≡ a ∷ [] → IsAtOrBelow joined m s → is_member eq (items_of s) a ≡ true
    has_below m s a is below =
        let all : All (λ x. is_member eq s.items x ≡ true) m.items = (within_by total (ties_are_same o.cmp same ties) eq ties m.items s.items m.ascending s.ascending).1 ((below_from total m s).1 below) in
        let one : All (λ x. is_member eq s.items x ≡ true) (a ∷ []) = subst (All (λ x. is_member eq s.items x ≡ true)) is all in
        one 0 a (omega arith)

    pub below_has : (m s : GrowSet V o e p) (a : V) → items_of m ≡ a ∷ [] → is_member eq (items_of s) a ≡ true → IsAtOrBelow joined m s
    below_has m s a is h =
        let one : All (λ x. is_member eq s.items x ≡ true) (a ∷ []) = All-cons (λ x. is_member eq s.items x ≡ true) a [] h (All-nil (λ x. is_member eq s.items x ≡ true)) in
        let all : All (λ x. is_member eq s.items x ≡ true) m.items = subst (All (λ x. is_member eq s.items x ≡ true)) (sym is) one in
        (below_from total m s).0 ((within_by total (ties_are_same o.cmp same ties) eq ties m.items s.items m.ascending s.ascending).0 all)

    pub sets_answer : (r : Members V) → IsChecked joined (Member {o = o} {e = e} {p = p} r) → IsAnswered joined (Member {o = o} {e = e} {p = p} r) (answer_of {o = o} {e = e} {p = p} eq r)
    sets_answer r checked s a = (
      (λ h. let f = found (is_member eq s.items) (listed r) a h in (single a, (f.0, refl), below_has (single a) s a refl f.1)),
      λ m. found_one (is_member eq s.items) (listed r) a m.1.0 (λ y c. checked_is_one r checked y a c m.1.0) (has_below m.0 s a m.1.1 m.2),
    )

    pub sets_wait : IsWatched eq (items_of {o = o} {e = e} {p = p}) spot_of (watched eq) (answer_of {o = o} {e = e} {p = p} eq)
    sets_wait r w is old new a none some =
        let one = one_is_each eq same (listed r) w is in
        let f = found (is_member eq new.items) (listed r) a some in
        record { event = w; there = ap (is_member eq new.items) (one.1 a f.0) ∙ f.1; missing = missed (is_member eq old.items) (listed r) w none one.0; at = refl }
