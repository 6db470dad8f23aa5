-- Marks at the numbers that instructions give.
use Rattle.std.proofs.Common.{◌≡◌, ◌⊎◌, ◌↔◌, inl, inr, ℕ, ◌+◌, ◌<◌, ◌≤◌, Bool, true, false, List, [], ◌∷◌, ◌++◌, Option, Some, length, get_or, set, take, drop, replicate, refl, sym, ap, subst, ◌∙◌, arith}
use Rattle.std.specs.List.{slice_get, filter_map, cons_option}
use Rattle.std.proofs.lemmas.List.{length-set, length-replicate, take_more, take_all, take-append-le}
use Rattle.std.proofs.lemmas.Option.{slice_get_within}
use Rattle.std.proofs.lemmas.List.Elements.{filter_map-append}
use Rattle.lvish_calculus.specs.Handing.{IsAmong}
use Rattle.lvish_code.specs.declared.instruction.Instruction.{Instruction}
use Rattle.lvish_code.specs.declared.routine.Routine.{Routine}
use Rattle.lvish_alike.specs.Sought.{given_by, AreAdded, AreGiven}
use Rattle.lvish_alike.proofs.Marks.{below_or_at, marked_after, marked_still, marked_new, none_marked}

-- ---- marks that are added

pub added_none : (old : List Bool) → AreAdded old [] old
added_none old = record { count = refl; each = λ k. ((λ h. inl h), (λ z. elim z [ inl h ↦ h | inr n ↦ absurd n.1 ])) }

pub added_one : (old : List Bool) (place : ℕ) → place < length old → AreAdded old (place ∷ []) (set old place true)
added_one old place lt = record {
  count = length-set old place true;
  each = λ k. (
    (λ h. elim (marked_after old place k h) [ inl same ↦ inr (subst (λ j. j < length old) (sym same) lt, inl same) | inr was ↦ inl was ]),
    (λ z. elim z [
      | inl h ↦ marked_still old place k h
      | inr n ↦ elim n.1 [
        | inl same ↦ subst (λ j. slice_get (set old place true) j ≡ Some true) (sym same) (marked_new old place (length old) refl lt)
        | inr none ↦ absurd none
      ]
    ]),
  );
}

-- past the last mark there is none to set
pub added_past : (old : List Bool) (place : ℕ) → length old ≤ place → AreAdded old (place ∷ []) old
added_past old place le = record {
  count = refl;
  each = λ k. ((λ h. inl h), (λ z. elim z [ inl h ↦ h | inr n ↦ elim n.1 [ inl same ↦ let lt = n.0 in absurd (omega (arith, lt, same, le)) | inr none ↦ absurd none ] ]));
}

-- a number is among two lists where it is among one
among_either : (k : ℕ) (xs ys : List ℕ) → IsAmong k (xs ++ ys) → IsAmong k xs ⊎ IsAmong k ys
among_either k [] ys a = inr a
among_either k (x ∷ xs) ys (inl same) = inl (inl same)
among_either k (x ∷ xs) ys (inr a) = elim (among_either k xs ys a) [ inl z ↦ inl (inr z) | inr z ↦ inr z ]

among_left : (k : ℕ) (xs ys : List ℕ) → IsAmong k xs → IsAmong k (xs ++ ys)
among_left k [] ys a = absurd a
among_left k (x ∷ xs) ys (inl same) = inl same
among_left k (x ∷ xs) ys (inr a) = inr (among_left k xs ys a)

among_right : (k : ℕ) (xs ys : List ℕ) → IsAmong k ys → IsAmong k (xs ++ ys)
among_right k [] ys a = a
among_right k (x ∷ xs) ys a = inr (among_right k xs ys a)

pub added_more : (a b d : List Bool) (xs ys : List ℕ) → AreAdded a xs b → AreAdded b ys d → AreAdded a (xs ++ ys) d
added_more a b d xs ys p q = record {
  count = q.count ∙ p.count;
  each = λ k. (
    (λ h. elim ((q.each k).0 h) [
      | inl was ↦ elim ((p.each k).0 was) [ inl old ↦ inl old | inr n ↦ inr (n.0, among_left k xs ys n.1) ]
      | inr n ↦ inr (subst (λ m. k < m) p.count n.0, among_right k xs ys n.1)
    ]),
    (λ z. elim z [
      | inl old ↦ (q.each k).1 (inl ((p.each k).1 (inl old)))
      | inr n ↦ elim (among_either k xs ys n.1) [
        | inl x ↦ (q.each k).1 (inl ((p.each k).1 (inr (n.0, x))))
        | inr y ↦ (q.each k).1 (inr (subst (λ m. k < m) (sym p.count) n.0, y))
      ]
    ]),
  );
}

-- what a vector holds once its items were written
pub written_back : (n : ℕ) (new old : List Bool) → length new ≡ n → take n (new ++ drop (length new) old) ≡ new
written_back n new old e = take-append-le n new (drop (length new) old) (omega (arith, e)) ∙ take_all n new (omega (arith, e))

-- ---- the instructions of one routine

module _ (f : Instruction → Option ℕ) (is : List Instruction) (old : List Bool) where
  -- after so many instructions
  abbrev pub AddedFrom : ℕ → List Bool → Type 0
  AddedFrom count new = AreAdded old (filter_map f (take count is)) new

  pub added_next : (i : ℕ) (x : Instruction) (o : Option ℕ) (b d : List Bool) → i < length is → x ≡ get_or is i x → o ≡ f x → AddedFrom i b → AreAdded b (cons_option o []) d → AddedFrom (i + 1) d
  added_next i x o b d lt at gives h more =
      let behind : AreAdded b (filter_map f (get_or is i x ∷ [])) d = subst (λ y. AreAdded b (filter_map f (y ∷ [])) d) at (subst (λ o. AreAdded b (cons_option o []) d) gives more) in
      let same : filter_map f (take (i + 1) is) ≡ filter_map f (take i is) ++ filter_map f (get_or is i x ∷ []) = ap (filter_map f) (take_more is i x lt) ∙ filter_map-append f (take i is) (get_or is i x ∷ []) in
      subst (λ ks. AreAdded old ks d) (sym same) (added_more old b d (filter_map f (take i is)) (filter_map f (get_or is i x ∷ [])) h behind)

  pub added_begins : AddedFrom 0 old
  added_begins = added_none old

  pub added_all : (i : ℕ) (new : List Bool) → length is ≤ i → AddedFrom i new → AreAdded old (filter_map f is) new
  added_all i new le h = subst (λ js. AreAdded old (filter_map f js) new) (take_all i is le) h

-- ---- the instructions of all marked routines

module _ (f : Instruction → Option ℕ) (routines : List Routine) (marks : List Bool) (count : ℕ) where
  -- the same of the routines before this one
  pub record AreGivenBefore (place : ℕ) (given : List Bool) : Type 0 where
    pub count_is : length given ≡ count
    pub each : (k : ℕ) → (slice_get given k ≡ Some true) ↔ ((j : ℕ) × (k < count) × (j < place) × (slice_get marks j ≡ Some true) × IsAmong k (given_by f routines j))

  pub given_begins : (given : List Bool) → given ≡ replicate count false → AreGivenBefore 0 given
  given_begins given e = record {
    count_is = ap length e ∙ length-replicate count false;
    each = λ k. ((λ h. absurd (none_marked count k (subst (λ l. slice_get l k ≡ Some true) e h))), (λ z. let lt = z.2 in absurd (omega (arith, lt))));
  }

  -- a marked routine gives its numbers
  pub given_goes : (place : ℕ) (given new : List Bool) → slice_get marks place ≡ Some true → AreGivenBefore place given → AreAdded given (given_by f routines place) new → AreGivenBefore (place + 1) new
  given_goes place given new there g added = record {
    count_is = added.count ∙ g.count_is;
    each = λ k. (
      (λ h. elim ((added.each k).0 h) [
        | inl was ↦ let z = (g.each k).0 was in let lt = z.2 in (z.0, z.1, omega (arith, lt), z.3, z.4)
        | inr n ↦ (place, subst (λ m. k < m) g.count_is n.0, omega arith, there, n.1)
      ]),
      (λ z. elim (below_or_at z.0 place z.2) [
        | inl same ↦ (added.each k).1 (inr (subst (λ m. k < m) (sym g.count_is) z.1, subst (λ j. IsAmong k (given_by f routines j)) same z.4))
        | inr less ↦ (added.each k).1 (inl ((g.each k).1 (z.0, z.1, less, z.3, z.4)))
      ]),
    );
  }

  -- one that isn't marked gives none
  pub given_stays : (place : ℕ) (given : List Bool) → (slice_get marks place ≡ Some true → ⊥) → AreGivenBefore place given → AreGivenBefore (place + 1) given
  given_stays place given not g = record {
    count_is = g.count_is;
    each = λ k. (
      (λ h. let z = (g.each k).0 h in let lt = z.2 in (z.0, z.1, omega (arith, lt), z.3, z.4)),
      (λ z. elim (below_or_at z.0 place z.2) [
        | inl same ↦ absurd (not (subst (λ j. slice_get marks j ≡ Some true) same z.3))
        | inr less ↦ (g.each k).1 (z.0, z.1, less, z.3, z.4)
      ]),
    );
  }

  pub given_all : (place : ℕ) (given : List Bool) → length marks ≤ place → AreGivenBefore place given → AreGiven f routines marks count given
  given_all place given le g = record {
    count_is = g.count_is;
    each = λ k. (
      (λ h. let z = (g.each k).0 h in (z.0, z.1, z.3, z.4)),
      (λ z. let lt = slice_get_within marks z.0 true z.2 in (g.each k).1 (z.0, z.1, omega (arith, lt, le), z.2, z.3)),
    );
  }
