-- The order of names is total, and it tells all names apart where that of the events does.
use Rattle.std.specs.Prelude.{◌≡◌, ℕ, Bool, true, false, ◌&&◌, List, [], ◌∷◌, ◌++◌, reverse, nat_eq, refl}
use Rattle.std.proofs.Common.{sym, ◌∙◌, ap, subst}
use Rattle.std.proofs.Math.Bool.{and-false, and_assoc, and_comm}
use Rattle.std.proofs.lemmas.Bool.{false≢true, and_from, and_right}
use Rattle.std.proofs.lemmas.List.{reverse-append}
use Rattle.std.specs.declared.cmp.Ordering.{Ordering}
use Rattle.std.specs.declared.cmp.Ordering.TheVariants.{Less, Equal}
use Rattle.std.specs.Ordering.{nat_cmp, ordering_reverse, is_eq, is_lt, on, then_cmp, eq_of_both, eq_by_cmp}
use Rattle.std.specs.Cmp.{IsPartialEquivalence, IsEquivalence, IsTotalOrder, equiv, partial_equiv_from_equiv, on_per, on_total, and_per, then_total, both_tied, nat_eq_equiv, nat_cmp_total, unsigned_ties}
use Rattle.std.specs.Cmp.Lexicographic.{pointwise, lists_per, lists_total, lists_ties}
use Rattle.lvish_names.specs.declared.name_part.NamePart.{NamePart}
use Rattle.lvish_names.specs.declared.name_part.NamePart.TheVariants.{Fork, Hand}
use Rattle.lvish_names.specs.Names.{Name, Handler, main, forked, handed, same_name, same_handler}
use Rattle.lvish_names.specs.NameOrder.{part_eq, part_cmp, name_cmp, handler_cmp}

-- ---- equality

-- two names are the same where their parts are
pub same_name-pointwise : {E : Type 0} (eq : E → E → Bool) (t u : Name E) → same_name eq t u ≡ pointwise (part_eq eq) t u
same_name-pointwise eq main main = refl
same_name-pointwise eq (forked t i) (forked u k) = ap (λ b. nat_eq i k && b) (same_name-pointwise eq t u)
same_name-pointwise eq (handed t i e) (handed u k f) =
    ap (λ b. nat_eq i k && (eq e f && b)) (same_name-pointwise eq t u) ∙ sym (and_assoc (nat_eq i k) (eq e f) (pointwise (part_eq eq) t u))
same_name-pointwise eq t u = refl

module _ {E : Type 0} (eq : E → E → Bool) (own : (e : E) → eq e e ≡ true) where
  pub same_name-refl : (t : Name E) → same_name eq t t ≡ true
  same_name-refl main = refl
  same_name-refl (forked t i) = and_from _ _ (nat_eq_equiv.refl i) (same_name-refl t)
  same_name-refl (handed t i e) = and_from _ _ (nat_eq_equiv.refl i) (and_from _ _ (own e) (same_name-refl t))

  pub same_handler-refl : (h : Handler E) → same_handler eq h h ≡ true
  same_handler-refl h = and_from _ _ (nat_eq_equiv.refl h.number) (same_name-refl h.adder)

module _ {E : Type 0} {eq : E → E → Bool} where
  -- the two numbers of a Hand part, compared one after the other
  both_per : IsPartialEquivalence eq → IsPartialEquivalence (eq_of_both (on (λ (p : ℕ × E). p.0) nat_eq) (on (λ (p : ℕ × E). p.1) eq))
  both_per p = and_per (on_per (λ (q : ℕ × E). q.0) (partial_equiv_from_equiv nat_eq_equiv)) (on_per (λ (q : ℕ × E). q.1) p)

  part_symm : IsPartialEquivalence eq → (x y : NamePart E) → part_eq eq x y ≡ part_eq eq y x
  part_symm p (Fork i) (Fork k) = nat_eq_equiv.symm i k
  part_symm p (Hand i e) (Hand k f) = (both_per p).symm (i, e) (k, f)
  part_symm p x y = refl

  part_trans : IsPartialEquivalence eq → (x y z : NamePart E) → part_eq eq x y ≡ true → part_eq eq y z ≡ true → part_eq eq x z ≡ true
  part_trans p (Fork i) (Fork k) (Fork m) g h = (partial_equiv_from_equiv nat_eq_equiv).trans i k m g h
  part_trans p (Fork i) (Fork k) (Hand m d) g h = h
  part_trans p (Fork i) (Hand k f) z g h = absurd (false≢true g)
  part_trans p (Hand i e) (Fork k) z g h = absurd (false≢true g)
  part_trans p (Hand i e) (Hand k f) (Fork m) g h = h
  part_trans p (Hand i e) (Hand k f) (Hand m d) g h = (both_per p).trans (i, e) (k, f) (m, d) g h

  pub part_per : IsPartialEquivalence eq → IsPartialEquivalence (part_eq eq)
  part_per p = record { symm = part_symm p; trans = part_trans p }

  part_itself : IsEquivalence eq → (x : NamePart E) → part_eq eq x x ≡ true
  part_itself e (Fork i) = nat_eq_equiv.refl i
  part_itself e (Hand i f) = and_from _ _ (nat_eq_equiv.refl i) (e.refl f)

  pub part_equiv : IsEquivalence eq → IsEquivalence (part_eq eq)
  part_equiv e = equiv (part_per (partial_equiv_from_equiv e)) (part_itself e)

  pub name_per : IsPartialEquivalence eq → IsPartialEquivalence (same_name eq)
  name_per p = subst (λ (R : Name E → Name E → Bool). IsPartialEquivalence R) (λ i t u. sym (same_name-pointwise eq t u) i) (lists_per (part_per p))

  pub name_equiv : IsEquivalence eq → IsEquivalence (same_name eq)
  name_equiv e = equiv (name_per (partial_equiv_from_equiv e)) (same_name-refl eq e.refl)

  pub handler_per : IsPartialEquivalence eq → IsPartialEquivalence (same_handler eq)
  handler_per p = and_per (on_per (λ (h : Handler E). h.number) (partial_equiv_from_equiv nat_eq_equiv)) (on_per (λ (h : Handler E). h.adder) (name_per p))

  pub handler_equiv : IsEquivalence eq → IsEquivalence (same_handler eq)
  handler_equiv e = equiv (handler_per (partial_equiv_from_equiv e)) (same_handler-refl eq e.refl)

-- ---- two lists turned round

module _ {K : Type 0} (test : K → K → Bool) where
  snoc_apart : (xs : List K) (x : K) → pointwise test [] (xs ++ x ∷ []) ≡ false
  snoc_apart [] x = refl
  snoc_apart (y ∷ ys) x = refl

  snoc_apart_left : (xs : List K) (x : K) → pointwise test (xs ++ x ∷ []) [] ≡ false
  snoc_apart_left [] x = refl
  snoc_apart_left (y ∷ ys) x = refl

  and_turn : (a b c : Bool) → (a && (b && c)) ≡ (b && (a && c))
  and_turn a b c = sym (and_assoc a b c) ∙ ap (λ x. x && c) (and_comm a b) ∙ and_assoc b a c

  -- the last of each, and then the others
  pointwise-snoc : (xs ys : List K) (x y : K) → pointwise test (xs ++ x ∷ []) (ys ++ y ∷ []) ≡ (test x y && pointwise test xs ys)
  pointwise-snoc [] [] x y = refl
  pointwise-snoc [] (b ∷ ys) x y = and_right (test x b) _ (snoc_apart ys y) ∙ sym (and-false (test x y))
  pointwise-snoc (a ∷ xs) [] x y = and_right (test a y) _ (snoc_apart_left xs x) ∙ sym (and-false (test x y))
  pointwise-snoc (a ∷ xs) (b ∷ ys) x y = ap (λ c. test a b && c) (pointwise-snoc xs ys x y) ∙ and_turn (test a b) (test x y) (pointwise test xs ys)

  reverse_cons : (x : K) (xs : List K) → reverse (x ∷ xs) ≡ reverse xs ++ x ∷ []
  reverse_cons x xs = reverse-append (x ∷ []) xs

  pub pointwise-reverse : (xs ys : List K) → pointwise test (reverse xs) (reverse ys) ≡ pointwise test xs ys
  pointwise-reverse [] [] = refl
  pointwise-reverse [] (y ∷ ys) = ap (λ l. pointwise test [] l) (reverse_cons y ys) ∙ snoc_apart (reverse ys) y
  pointwise-reverse (x ∷ xs) [] = ap (λ l. pointwise test l []) (reverse_cons x xs) ∙ snoc_apart_left (reverse xs) x
  pointwise-reverse (x ∷ xs) (y ∷ ys) =
      ap (λ l. pointwise test l (reverse (y ∷ ys))) (reverse_cons x xs)
      ∙ ap (λ l. pointwise test (reverse xs ++ x ∷ []) l) (reverse_cons y ys)
      ∙ pointwise-snoc (reverse xs) (reverse ys) x y
      ∙ ap (λ b. test x y && b) (pointwise-reverse xs ys)

-- ---- order

module _ {E : Type 0} {cmp : E → E → Ordering} where
  both_total : IsTotalOrder cmp → IsTotalOrder (then_cmp (on (λ (p : ℕ × E). p.0) nat_cmp) (on (λ (p : ℕ × E). p.1) cmp))
  both_total o = then_total (on_total (λ (q : ℕ × E). q.0) nat_cmp_total) (on_total (λ (q : ℕ × E). q.1) o)

  part_antisymm : IsTotalOrder cmp → (x y : NamePart E) → part_cmp cmp x y ≡ ordering_reverse (part_cmp cmp y x)
  part_antisymm o (Fork i) (Fork k) = nat_cmp_total.antisymm i k
  part_antisymm o (Hand i e) (Hand k f) = (both_total o).antisymm (i, e) (k, f)
  part_antisymm o x y = refl

  part_chain : IsTotalOrder cmp → (x y z : NamePart E) → part_cmp cmp x y ≡ Less → part_cmp cmp y z ≡ Less → part_cmp cmp x z ≡ Less
  part_chain o (Fork i) (Fork k) (Fork m) g h = nat_cmp_total.trans i k m g h
  part_chain o (Fork i) y (Hand m d) g h = refl
  part_chain o (Fork i) (Hand k f) (Fork m) g h = absurd (false≢true (ap is_lt h))
  part_chain o (Hand i e) (Fork k) z g h = absurd (false≢true (ap is_lt g))
  part_chain o (Hand i e) (Hand k f) (Fork m) g h = h
  part_chain o (Hand i e) (Hand k f) (Hand m d) g h = (both_total o).trans (i, e) (k, f) (m, d) g h

  part_alike : IsTotalOrder cmp → (x y z : NamePart E) → part_cmp cmp x y ≡ Equal → part_cmp cmp x z ≡ part_cmp cmp y z
  part_alike o (Fork i) (Fork k) (Fork m) g = nat_cmp_total.congr i k m g
  part_alike o (Fork i) (Fork k) (Hand m d) g = refl
  part_alike o (Fork i) (Hand k f) z g = absurd (false≢true (ap is_eq g))
  part_alike o (Hand i e) (Fork k) z g = absurd (false≢true (ap is_eq g))
  part_alike o (Hand i e) (Hand k f) (Fork m) g = refl
  part_alike o (Hand i e) (Hand k f) (Hand m d) g = (both_total o).congr (i, e) (k, f) (m, d) g

  pub part_total : IsTotalOrder cmp → IsTotalOrder (part_cmp cmp)
  part_total o = record { antisymm = part_antisymm o; trans = part_chain o; congr = part_alike o }

  pub name_total : IsTotalOrder cmp → IsTotalOrder (name_cmp cmp)
  name_total o = on_total (λ (t : Name E). reverse t) (lists_total (part_total o))

  pub handler_total : IsTotalOrder cmp → IsTotalOrder (handler_cmp cmp)
  handler_total o = then_total (on_total (λ (h : Handler E). h.adder) (name_total o)) (on_total (λ (h : Handler E). h.number) nat_cmp_total)

-- `==` holds of what the order does not tell apart
module _ {E : Type 0} {eq : E → E → Bool} (cmp : E → E → Ordering) (ties : (x y : E) → eq x y ≡ eq_by_cmp cmp x y) where
  pub part_ties : (x y : NamePart E) → part_eq eq x y ≡ eq_by_cmp (part_cmp cmp) x y
  part_ties (Fork i) (Fork k) = unsigned_ties i k
  part_ties (Hand i e) (Hand k f) = both_tied _ _ (nat_cmp i k) (cmp e f) (unsigned_ties i k) (ties e f)
  part_ties x y = refl

  pub name_ties : (t u : Name E) → same_name eq t u ≡ eq_by_cmp (name_cmp cmp) t u
  name_ties t u = same_name-pointwise eq t u ∙ sym (pointwise-reverse (part_eq eq) t u) ∙ lists_ties (part_cmp cmp) part_ties (reverse t) (reverse u)

  pub handler_ties : (h k : Handler E) → same_handler eq h k ≡ eq_by_cmp (handler_cmp cmp) h k
  handler_ties h k =
      and_comm (nat_eq h.number k.number) (same_name eq h.adder k.adder)
      ∙ both_tied _ _ (name_cmp cmp h.adder k.adder) (nat_cmp h.number k.number) (name_ties h.adder k.adder) (unsigned_ties h.number k.number)
