-- States with a part at each place: a partial join that joins at each place, and that any two states below a third have.
use Rattle.std.proofs.Common.{◌≡◌, ◌||◌, Bool, List, [], Option, Some, None, option_and_then, refl, sym, ◌∙◌, ap, subst}
use Rattle.std.proofs.lemmas.Option.{same_Some}
use Rattle.std.specs.Set.{is_member}
use Rattle.std.specs.List.Sorted.{IsStrictlySortedBy}
use Rattle.std.specs.declared.cmp.Ordering.{Ordering}
use Rattle.lvish_lattice.specs.Lattice.{IsJoin, IsAtOrBelow, HasEvents}

pub bound : {A B : Type 0} (f : A → Option B) (x : Option A) (d : B) → option_and_then f x ≡ Some d → (w : A) × (x ≡ Some w) × (f w ≡ Some d)
bound f (Some w) d e = (w, refl, e)
bound f None d e = absurd cc

same_option : {A : Type 0} (x y : Option A) → ((c : A) → x ≡ Some c → y ≡ Some c) → ((c : A) → y ≡ Some c → x ≡ Some c) → x ≡ y
same_option None None f g = refl
same_option None (Some c) f g = g c refl
same_option (Some c) y f g = sym (f c refl)

module _ {L : Type 0} {least : L} {join : L → L → Option L} (j : IsJoin least join) where
  pub right_unit : (a : L) → join a least ≡ Some a
  right_unit a = j.commutative a least ∙ j.unit a

  -- what is at or below bottom is bottom
  pub least_below : (a : L) → IsAtOrBelow join a least → a ≡ least
  least_below a h = same_Some a least (sym (right_unit a) ∙ h)

  pub left_below : (a b c : L) → join a b ≡ Some c → IsAtOrBelow join a c
  left_below a b c e = sym (ap (option_and_then (λ x. join a x)) e) ∙ sym (j.associative a a b) ∙ ap (option_and_then (λ x. join x b)) (j.idempotent a) ∙ e

  pub right_below : (a b c : L) → join a b ≡ Some c → IsAtOrBelow join b c
  right_below a b c e = left_below b a c (j.commutative b a ∙ e)

  below_trans : (a b c : L) → IsAtOrBelow join a b → IsAtOrBelow join b c → IsAtOrBelow join a c
  below_trans a b c e f = sym (ap (option_and_then (λ x. join a x)) f) ∙ sym (j.associative a b c) ∙ ap (option_and_then (λ x. join x c)) e ∙ f

  -- two states below a third have a join, which is below it
  pub joins_below : (a b d : L) → IsAtOrBelow join a d → IsAtOrBelow join b d → (c : L) × (join a b ≡ Some c) × IsAtOrBelow join c d
  joins_below a b d e f = bound (λ x. join x d) (join a b) d (j.associative a b d ∙ ap (option_and_then (λ x. join a x)) f ∙ e)

pub record IsPointwise {S K : Type 0} {L : K → Type 0} (least : (k : K) → L k) (join : (k : K) → L k → L k → Option (L k)) (at : (k : K) → S → L k) (bottom : S) (joined : S → S → Option S) : Type 0 where
  pub parts : (k : K) → IsJoin (least k) (join k)
  pub same : (a b : S) → ((k : K) → at k a ≡ at k b) → a ≡ b
  pub nothing : (k : K) → at k bottom ≡ least k
  pub forth : (a b c : S) → joined a b ≡ Some c → (k : K) → join k (at k a) (at k b) ≡ Some (at k c)
  pub there : (a b d : S) → ((k : K) → IsAtOrBelow (join k) (at k a) (at k d)) → ((k : K) → IsAtOrBelow (join k) (at k b) (at k d)) → (c : S) × (joined a b ≡ Some c)

module _ {S K : Type 0} {L : K → Type 0} {least : (k : K) → L k} {join : (k : K) → L k → L k → Option (L k)} {at : (k : K) → S → L k} {bottom : S} {joined : S → S → Option S} (p : IsPointwise least join at bottom joined) where
  pub back : (a b c : S) → ((k : K) → join k (at k a) (at k b) ≡ Some (at k c)) → joined a b ≡ Some c
  back a b c h =
      let d : (d : S) × (joined a b ≡ Some d) = p.there a b c (λ k. left_below (p.parts k) _ _ _ (h k)) (λ k. right_below (p.parts k) _ _ _ (h k)) in
      d.1 ∙ ap Some (p.same d.0 c (λ k. same_Some _ _ (sym (p.forth a b d.0 d.1 k) ∙ h k)))

  swapped : (a b c : S) → joined a b ≡ Some c → joined b a ≡ Some c
  swapped a b c e = back b a c (λ k. (p.parts k).commutative _ _ ∙ p.forth a b c e k)

  swaps : (a b : S) → joined a b ≡ joined b a
  swaps a b = same_option _ _ (swapped a b) (swapped b a)

  regroups : (a b c d : S) → option_and_then (λ x. joined x c) (joined a b) ≡ Some d → option_and_then (λ y. joined a y) (joined b c) ≡ Some d
  regroups a b c d h =
      let x : (x : S) × (joined a b ≡ Some x) × (joined x c ≡ Some d) = bound _ _ _ h in
      let first : (k : K) → join k (at k a) (at k b) ≡ Some (at k x.0) = p.forth a b x.0 x.1 in
      let whole : (k : K) → join k (at k x.0) (at k c) ≡ Some (at k d) = p.forth x.0 c d x.2 in
      let y : (y : S) × (joined b c ≡ Some y) = p.there b c d (λ k. below_trans (p.parts k) _ _ _ (right_below (p.parts k) _ _ _ (first k)) (left_below (p.parts k) _ _ _ (whole k))) (λ k. right_below (p.parts k) _ _ _ (whole k)) in
      ap (option_and_then (λ y. joined a y)) y.1 ∙ back a y.0 d (λ k. ap (option_and_then (λ w. join k (at k a) w)) (sym (p.forth b c y.0 y.1 k)) ∙ sym ((p.parts k).associative (at k a) (at k b) (at k c)) ∙ ap (option_and_then (λ w. join k w (at k c))) (first k) ∙ whole k)

  regroups_back : (a b c d : S) → option_and_then (λ y. joined a y) (joined b c) ≡ Some d → option_and_then (λ x. joined x c) (joined a b) ≡ Some d
  regroups_back a b c d h = (λ i. option_and_then (λ x. swaps x c i) (swaps a b i)) ∙ regroups c b a d ((λ i. option_and_then (λ y. swaps y a i) (swaps c b i)) ∙ h)

  pub pointwise_is_join : IsJoin bottom joined
  pointwise_is_join = record {
    unit = λ a. back bottom a a (λ k. ap (λ x. join k x (at k a)) (p.nothing k) ∙ (p.parts k).unit (at k a));
    idempotent = λ a. back a a a (λ k. (p.parts k).idempotent (at k a));
    commutative = swaps;
    associative = λ a b c. same_option _ _ (regroups a b c) (regroups_back a b c);
  }

  -- events that are those of the parts, under names
  pub pointwise_has_events : {E : K → Type 0} {N : Type 0} {eqs : (k : K) → E k → E k → Bool} {cmps : (k : K) → E k → E k → Ordering} {inner : (k : K) → L k → List (E k)} {eq : N → N → Bool} {cmp : N → N → Ordering} {events : S → List N}
      → ((k : K) → HasEvents (least k) (join k) (eqs k) (cmps k) (inner k)) → (name : (k : K) → E k → N) → ((n : N) → (k : K) × (e : E k) × (name k e ≡ n))
      → ((s : S) (k : K) (e : E k) → is_member eq (events s) (name k e) ≡ is_member (eqs k) (inner k (at k s)) e)
      → ((k : K) (x y : L k) → ((e : E k) → is_member (eqs k) (inner k x) e ≡ is_member (eqs k) (inner k y) e) → x ≡ y)
      → events bottom ≡ [] → ((s : S) → IsStrictlySortedBy cmp (events s)) → HasEvents bottom joined eq cmp events
  pointwise_has_events {N = N} {eqs = eqs} {inner = inner} {eq = eq} {events = events} h name named has determine none ascending = record {
    none = none;
    ascending = ascending;
    union = λ a b c e n. let v : (k : K) × (x : _) × (name k x ≡ n) = named n in
        ap (is_member eq (events c)) (sym v.2) ∙ has c v.0 v.1 ∙ (h v.0).union _ _ _ (p.forth a b c e v.0) v.1
        ∙ (λ i. sym (has a v.0 v.1) i || sym (has b v.0 v.1) i) ∙ (λ i. is_member eq (events a) (v.2 i) || is_member eq (events b) (v.2 i));
    determine = λ a b e. p.same a b (λ k. determine k _ _ (λ x. sym (has a k x) ∙ ap (λ es. is_member eq es (name k x)) e ∙ has b k x));
  }

-- the events of states seen as those of another lattice
pub viewed_has_events : {S P E : Type 0} {least : P} {join : P → P → Option P} {eq : E → E → Bool} {cmp : E → E → Ordering} {events : P → List E} {view : S → P} {bottom : S} {joined : S → S → Option S}
    → HasEvents least join eq cmp events → view bottom ≡ least → ((a b c : S) → joined a b ≡ Some c → join (view a) (view b) ≡ Some (view c)) → ((a b : S) → view a ≡ view b → a ≡ b)
    → (here : S → List E) → ((s : S) → events (view s) ≡ here s) → HasEvents bottom joined eq cmp here
viewed_has_events {eq = eq} {cmp = cmp} {events = events} {view = view} {bottom = bottom} {joined = joined} h nothing forth same here is = subst (λ (v : _ → List _). HasEvents bottom joined eq cmp v) (λ i s. is s i) (record {
  none = ap events nothing ∙ h.none;
  ascending = λ a. h.ascending (view a);
  union = λ a b c e. h.union (view a) (view b) (view c) (forth a b c e);
  determine = λ a b e. same a b (h.determine (view a) (view b) e);
})
