-- What follows from the definitions of names.
use Rattle.std.proofs.Common.{◌≡◌, ◌⊎◌, ◌↔◌, inl, inr, suc, ◌<◌, Bool, true, false, length, nat_le, refl, sym, ◌∙◌, ap, subst, Option, Some, IsTrue}
use Rattle.std.proofs.lemmas.Bool.{and_parts, cases_Bool, both_ways, false_from_ne_true, false≢true, eqb-true, leb-false, lt-leb}
use Rattle.std.proofs.lemmas.Option.{same_Some}
use Rattle.std.proofs.lemmas.Map.Lookups.{CmpEqualImpliesEq}
use Rattle.std.specs.declared.cmp.Ordering.{Ordering}
use Rattle.std.specs.declared.cmp.Ordering.TheVariants.{Equal}
use Rattle.std.specs.Ordering.{eq_by_cmp, is_eq}
use Rattle.std.specs.Cmp.{IsTotalOrder}
use Rattle.std.proofs.lemmas.Cmp.{tied_itself}
use Rattle.lvish_lattice.specs.Lattice.{IsIdentity}
use Rattle.lvish_names.specs.Names.{Name, Handler, main, forked, handed, part_count, is_deep, same_name, same_handler}
use Rattle.lvish_names.specs.NameOrder.{name_cmp, handler_cmp}
pub use Rattle.lvish_names.specs.laws.OrderLaws.{same_name-refl, same_handler-refl}
use Rattle.lvish_names.specs.laws.OrderLaws.{name_total, handler_total, name_ties, handler_ties}
use Rattle.lvish_names.specs.declared.limits.TheConstants.{MOST_PARTS}

-- ---- how many parts a name has

-- the number of parts is the length of the list
pub parts-length : {E : Type 0} (t : Name E) → part_count t ≡ length t
parts-length main = refl
parts-length (forked t i) = ap suc (parts-length t)
parts-length (handed t j e) = ap suc (parts-length t)

pub is_deep-length : {E : Type 0} (t : Name E) → is_deep t ≡ nat_le MOST_PARTS (length t)
is_deep-length t = ap (λ n. nat_le MOST_PARTS n) (parts-length t)

-- a name that isn't deep has room for one more part
pub lt-from_not_deep : {E : Type 0} (t : Name E) → is_deep t ≡ false → length t < MOST_PARTS
lt-from_not_deep t h = leb-false MOST_PARTS (length t) (sym (is_deep-length t) ∙ h)

pub not_deep-from_lt : {E : Type 0} (t : Name E) → length t < MOST_PARTS → is_deep t ≡ false
not_deep-from_lt t h = is_deep-length t ∙ lt-leb MOST_PARTS (length t) h

-- ---- `==` holds of one name alone

module _ {E : Type 0} {eq : E → E → Bool} (same : IsIdentity eq) where
  pub same_name-true : (t u : Name E) → same_name eq t u ≡ true → t ≡ u
  same_name-true main main e = refl
  same_name-true (forked t i) (forked u k) e =
      let p = and_parts _ _ e in
      let q : t ≡ u = same_name-true t u p.1 in
      let r : i ≡ k = eqb-true i k p.0 in cc
  same_name-true (handed t i x) (handed u k f) e =
      let p = and_parts _ _ e in
      let p2 = and_parts _ _ p.1 in
      let q : t ≡ u = same_name-true t u p2.1 in
      let s : x ≡ f = same x f p2.0 in
      let r : i ≡ k = eqb-true i k p.0 in cc
  same_name-true t u e = absurd (false≢true e)

  pub same_handler-true : (h k : Handler E) → same_handler eq h k ≡ true → h ≡ k
  same_handler-true h k e =
      let p = and_parts _ _ e in
      let q : h.adder ≡ k.adder = same_name-true _ _ p.1 in
      let r : h.number ≡ k.number = eqb-true _ _ p.0 in
      λ i. record { adder = q i; number = r i }

  pub same_name-other : (t u : Name E) → (t ≡ u → ⊥) → same_name eq t u ≡ false
  same_name-other t u ne = false_from_ne_true _ (λ e. ne (same_name-true t u e))

  pub same_handler-other : (h k : Handler E) → (h ≡ k → ⊥) → same_handler eq h k ≡ false
  same_handler-other h k ne = false_from_ne_true _ (λ e. ne (same_handler-true h k e))

  module _ (own : (e : E) → eq e e ≡ true) where
    pub same_name-iff : (t u : Name E) → (same_name eq t u ≡ true) ↔ (t ≡ u)
    same_name-iff t u = (same_name-true t u, λ e. subst (λ x. same_name eq t x ≡ true) e (same_name-refl eq own t))

    pub same_handler-iff : (h k : Handler E) → (same_handler eq h k ≡ true) ↔ (h ≡ k)
    same_handler-iff h k = (same_handler-true h k, λ e. subst (λ x. same_handler eq h x ≡ true) e (same_handler-refl eq own h))

    -- a test of names, decided
    pub cases_name : (t u : Name E) → (t ≡ u) ⊎ (t ≡ u → ⊥)
    cases_name t u = elim (cases_Bool (same_name eq t u)) [ inl e ↦ inl (same_name-true t u e) | inr e ↦ inr (λ q. both_ways _ e ((same_name-iff t u).1 q)) ]

    pub cases_handler : (h k : Handler E) → (h ≡ k) ⊎ (h ≡ k → ⊥)
    cases_handler h k = elim (cases_Bool (same_handler eq h k)) [ inl e ↦ inl (same_handler-true h k e) | inr e ↦ inr (λ q. both_ways _ e ((same_handler-iff h k).1 q)) ]

    -- a task runs in the pool of the handler that has the number and the adder of its own
    pub runs_in-iff : (h k : Handler E) (pool : Option (Handler E)) → Some h ≡ pool → h.number ≡ k.number → (b : Bool) → b ≡ same_name eq k.adder h.adder → IsTrue b ↔ (pool ≡ Some k)
    runs_in-iff h k pool is number b told = (
      λ t.
          let adder : k.adder ≡ h.adder = same_name-true _ _ (sym told ∙ t) in
          sym is ∙ (λ i. Some (record { adder = sym adder i; number = number i })),
      λ e.
          let same : h ≡ k = same_Some _ _ (is ∙ e) in
          told ∙ ap (λ (x : Handler E). same_name eq k.adder x.adder) same ∙ same_name-refl eq own k.adder,
    )

-- ---- the order tells all names apart

module _ {E : Type 0} {eq : E → E → Bool} (cmp : E → E → Ordering) (same : IsIdentity eq) (ties : (x y : E) → eq x y ≡ eq_by_cmp cmp x y) where
  pub name_exact : CmpEqualImpliesEq (name_cmp cmp)
  name_exact t u e = same_name-true same t u (name_ties cmp ties t u ∙ ap is_eq e)

  pub handler_exact : CmpEqualImpliesEq (handler_cmp cmp)
  handler_exact h k e = same_handler-true same h k (handler_ties cmp ties h k ∙ ap is_eq e)

  -- as a map's look-up tests its keys
  pub name_at-other : (t u : Name E) → (t ≡ u → ⊥) → is_eq (name_cmp cmp t u) ≡ false
  name_at-other t u ne = sym (name_ties cmp ties t u) ∙ same_name-other same t u ne

  pub handler_at-other : (h k : Handler E) → (h ≡ k → ⊥) → is_eq (handler_cmp cmp h k) ≡ false
  handler_at-other h k ne = sym (handler_ties cmp ties h k) ∙ same_handler-other same h k ne

  module _ (total : IsTotalOrder cmp) where
    pub name_cmp-iff : (t u : Name E) → (name_cmp cmp t u ≡ Equal) ↔ (t ≡ u)
    name_cmp-iff t u = (name_exact t u, λ e. subst (λ x. name_cmp cmp t x ≡ Equal) e (tied_itself (name_total total) t))

    pub handler_cmp-iff : (h k : Handler E) → (handler_cmp cmp h k ≡ Equal) ↔ (h ≡ k)
    handler_cmp-iff h k = (handler_exact h k, λ e. subst (λ x. handler_cmp cmp h x ≡ Equal) e (tied_itself (handler_total total) h))
