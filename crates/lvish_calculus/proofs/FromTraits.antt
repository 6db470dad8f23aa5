-- The traits' laws are those of the machine, and the worked examples' sets have them.
use Rattle.std.proofs.Common.{◌≡◌, ◌↔◌, ◌⊎◌, inl, inr, Bool, true, List, Option, Some, Contains, Ordering, subst, sym, ap, ◌∙◌, arith, option_and_then, ℕ, false, ◌&&◌, ◌||◌, ◌++◌, nat_eq, refl}
use Rattle.std.proofs.lemmas.Bool.{or_cases, or_left, or_right, and_parts, and_from, false≢true}
use Rattle.std.proofs.lemmas.Map.Views.{Contains-from_any, list_any-from_Contains}
use Rattle.std.proofs.Math.Bool.{or_comm, or_assoc, or_self, or-false, or-true, and-or_distrib_right}
use Rattle.std.proofs.lemmas.Map.Made.{is_member-Decides}
use Rattle.std.specs.Cmp.{IsEquivalence, IsTotalOrder, tied_itself, nat_cmp_total}
use Rattle.std.specs.Ordering.{is_le}
use Rattle.std.specs.Set.{IsUnion, is_member}
use Rattle.lvish_lattice.specs.Lattice.{IsIdentity, IsJoin, HasEvents, IsAnswered, IsChecked}
use Rattle.lvish_calculus.specs.Machine.{IsLawful, Freeze, Add}
use Rattle.lvish_calculus.specs.Program.{Functions, IsProgram, machine_of}
use Rattle.lvish_calculus.specs.Examples.{Set, union, same, agree, if_has, numbers, over_sets}
use Rattle.lvish_calculus.proofs.Sound.{some_is}
use Rattle.lvish_calculus.proofs.WorkedRuns.{nat_same}

-- a test that holds of identical values alone decides whether they are identical
decided : {S : Type 0} {eq : S → S → Bool} → IsIdentity eq → IsEquivalence eq → (x y : S) → (eq x y ≡ true) ↔ (x ≡ y)
decided {eq = eq} same laws x y = (same x y, λ e. subst (λ z. eq x z ≡ true) e (laws.refl x))

-- a union in words of membership
united : {E : Type 0} {eq : E → E → Bool} → IsIdentity eq → IsEquivalence eq → (xs ys zs : List E) → IsUnion eq xs ys zs → (e : E) → Contains zs e ↔ (Contains xs e ⊎ Contains ys e)
united {eq = eq} same laws xs ys zs is e = (into, back)
  where
    into : Contains zs e → Contains xs e ⊎ Contains ys e
    into z = elim (or_cases _ _ (sym (is e) ∙ list_any-from_Contains laws e zs z)) [
      | inl h ↦ inl (Contains-from_any same e xs h)
      | inr h ↦ inr (Contains-from_any same e ys h)
    ]

    back : Contains xs e ⊎ Contains ys e → Contains zs e
    back (inl h) = Contains-from_any same e zs (is e ∙ or_left _ _ (list_any-from_Contains laws e xs h))
    back (inr h) = Contains-from_any same e zs (is e ∙ or_right _ _ (list_any-from_Contains laws e ys h))

pub lawful : {S E R A L : Type 0} (same : S → S → Bool) (event_same : E → E → Bool) (cmp : E → E → Ordering) (bottom : S) (join : S → S → Option S) (events : S → List E) (member : R → S → A → Type 0) (answer : R → S → Option A) (p : Functions S E R A L)
    → IsIdentity same → IsEquivalence same → IsIdentity event_same → IsEquivalence event_same → IsTotalOrder cmp
    → IsJoin bottom join → HasEvents bottom join event_same cmp events → ((r : R) → IsChecked join (member r) → IsAnswered join (member r) (answer r)) → IsProgram join member p
    → IsLawful (machine_of same event_same cmp bottom join events answer p)
lawful {E = E} same event_same cmp bottom join events member answer p same_is same_laws event_is event_laws total lat ev answers pr = record {
  join_comm = lat.commutative;
  join_assoc = lat.associative;
  join_idem = lat.idempotent;
  join_bottom = lat.unit;
  events_bottom = λ e z. absurd (omega (arith, (subst (λ (q : List E). Contains q e) ev.none z).1));
  events_join = λ a b c q. united event_is event_laws (events a) (events b) (events c) (ev.union a b c q);
  same_is = decided same_is same_laws;
  event_same_is = decided event_is event_laws;
  event_le_itself = λ e. ap is_le (tied_itself total e);
  answer_stays = λ l v r q a b x le h.
      let checked = (pr.gets l v r q).1 in
      let g = (answers r checked a x).0 h in
      let up : join (g.0) b ≡ Some b =
      sym (ap (λ o. option_and_then (λ y. join (g.0) y) o) le) ∙ sym (lat.associative g.0 a b) ∙ ap (λ o. option_and_then (λ y. join y b) o) g.2 ∙ le in
      (answers r checked b x).1 (g.0, g.1, up);
  freeze_own = λ l v pools q. (pr.freezes l v pools q).1;
  add_known = pr.adds;
}

-- three pairs of tests, the first ones before the second ones
three_pairs : (a b c d e f : Bool) → ((a || b) || ((c || d) || (e || f))) ≡ ((a || (c || e)) || (b || (d || f)))
three_pairs true b c d e f = refl
three_pairs false true true d e f = refl
three_pairs false true false d true f = refl
three_pairs false true false d false f = refl
three_pairs false false true d e f = refl
three_pairs false false false true true f = refl
three_pairs false false false true false f = refl
three_pairs false false false false e f = refl

-- whether a set has a number
abbrev has : Bool → Bool → Bool → ℕ → Bool
has z o t e = (z && nat_eq e 0) || ((o && nat_eq e 1) || (t && nat_eq e 3))

has_is : (z o t : Bool) (e : ℕ) → is_member nat_eq (if_has z 0 ++ (if_has o 1 ++ if_has t 3)) e ≡ has z o t e
has_is true true true e = ap (λ b. nat_eq e 0 || (nat_eq e 1 || b)) (or-false (nat_eq e 3))
has_is true true false e = refl
has_is true false true e = ap (λ b. nat_eq e 0 || b) (or-false (nat_eq e 3))
has_is true false false e = refl
has_is false true true e = ap (λ b. nat_eq e 1 || b) (or-false (nat_eq e 3))
has_is false true false e = refl
has_is false false true e = or-false (nat_eq e 3)
has_is false false false e = refl

has_union : (a b : Set) (e : ℕ) → is_member nat_eq (numbers (union a b)) e ≡ (is_member nat_eq (numbers a) e || is_member nat_eq (numbers b) e)
has_union a b e =
    has_is (a.has_zero || b.has_zero) (a.has_one || b.has_one) (a.has_three || b.has_three) e
    ∙ ap (λ q. q || (((a.has_one || b.has_one) && nat_eq e 1) || ((a.has_three || b.has_three) && nat_eq e 3))) (and-or_distrib_right a.has_zero b.has_zero (nat_eq e 0))
    ∙ ap (λ q. ((a.has_zero && nat_eq e 0) || (b.has_zero && nat_eq e 0)) || (q || ((a.has_three || b.has_three) && nat_eq e 3))) (and-or_distrib_right a.has_one b.has_one (nat_eq e 1))
    ∙ ap (λ q. ((a.has_zero && nat_eq e 0) || (b.has_zero && nat_eq e 0)) || (((a.has_one && nat_eq e 1) || (b.has_one && nat_eq e 1)) || q)) (and-or_distrib_right a.has_three b.has_three (nat_eq e 3))
    ∙ three_pairs (a.has_zero && nat_eq e 0) (b.has_zero && nat_eq e 0) (a.has_one && nat_eq e 1) (b.has_one && nat_eq e 1) (a.has_three && nat_eq e 3) (b.has_three && nat_eq e 3)
    ∙ ap (λ q. q || has b.has_zero b.has_one b.has_three e) (sym (has_is a.has_zero a.has_one a.has_three e))
    ∙ ap (λ q. is_member nat_eq (numbers a) e || q) (sym (has_is b.has_zero b.has_one b.has_three e))

agree_is : (a b : Bool) → agree a b ≡ true → a ≡ b
agree_is true b e = sym e
agree_is false true e = absurd (false≢true e)
agree_is false false e = refl

agree_itself : (a : Bool) → agree a a ≡ true
agree_itself true = refl
agree_itself false = refl

same_is : (a b : Set) → (same a b ≡ true) ↔ (a ≡ b)
same_is a b = (
  λ e.
      let p = and_parts _ _ e in
      let q = and_parts _ _ p.1 in
      let z : a.has_zero ≡ b.has_zero = agree_is a.has_zero b.has_zero p.0 in
      let o : a.has_one ≡ b.has_one = agree_is a.has_one b.has_one q.0 in
      let t : a.has_three ≡ b.has_three = agree_is a.has_three b.has_three q.1 in
      λ i. record { has_zero = z i; has_one = o i; has_three = t i },
  λ e. subst (λ q. same a q ≡ true) e (and_from _ _ (agree_itself a.has_zero) (and_from _ _ (agree_itself a.has_one) (agree_itself a.has_three))),
)

module _ {L : Type 0} (f : Functions Set ℕ ℕ ℕ L) (own : (l : L) (v : ℕ) (pools : List ℕ) → f.request l ≡ Freeze v pools → (p : ℕ) → Contains pools p → f.pool_variable p ≡ Some v)
    (known : (l : L) (p proc : ℕ) → f.request l ≡ Add p proc → (v : ℕ) × (f.pool_variable p ≡ Some v)) where
  pub sets_lawful : IsLawful (over_sets f)
  sets_lawful = record {
    join_comm = λ a b i. Some (record { has_zero = or_comm a.has_zero b.has_zero i; has_one = or_comm a.has_one b.has_one i; has_three = or_comm a.has_three b.has_three i });
    join_assoc = λ a b c i. Some (record {
      has_zero = or_assoc a.has_zero b.has_zero c.has_zero i;
      has_one = or_assoc a.has_one b.has_one c.has_one i;
      has_three = or_assoc a.has_three b.has_three c.has_three i;
    });
    join_idem = λ a i. Some (record { has_zero = or_self a.has_zero i; has_one = or_self a.has_one i; has_three = or_self a.has_three i });
    join_bottom = λ a. refl;
    events_bottom = λ e z. absurd (omega (arith, z.1));
    events_join = λ a b c j e.
        let is : union a b ≡ c = some_is j in
        let member : (s : Set) → (is_member nat_eq (numbers s) e ≡ true → Contains (numbers s) e) × (Contains (numbers s) e → is_member nat_eq (numbers s) e ≡ true) = (λ s. is_member-Decides nat_same (numbers s) e) in (
          λ z. elim (or_cases _ _ (sym (has_union a b e) ∙ ap (λ s. is_member nat_eq (numbers s) e) is ∙ (member c).1 z)) [ inl x ↦ inl ((member a).0 x) | inr x ↦ inr ((member b).0 x) ],
          λ z. (member c).0 (sym (ap (λ s. is_member nat_eq (numbers s) e) is) ∙ has_union a b e ∙ elim z [
            | inl x ↦ ap (λ q. q || is_member nat_eq (numbers b) e) ((member a).1 x)
            | inr x ↦ ap (λ q. is_member nat_eq (numbers a) e || q) ((member b).1 x) ∙ or-true (is_member nat_eq (numbers a) e)
          ]),
        );
    same_is = same_is;
    event_same_is = nat_same;
    event_le_itself = λ e. ap is_le (tied_itself nat_cmp_total e);
    answer_stays = λ l v r q a b x le h. absurd (cc h);
    freeze_own = own;
    add_known = known;
  }
