-- One of several lattices, or nothing: two states above bottom that are of different ones join to top.
use Rattle.std.proofs.Common.{◌≡◌, ◌⊎◌, Option, Some, None, option_map, sym, ◌∙◌, ap, subst, inl, inr, ⊎_elim}
use Rattle.std.proofs.lemmas.Option.{none-some, same_Some}
use Rattle.lvish_lattice.specs.Lattice.{IsJoin, IsAtOrBelow}
use Rattle.lvish_compound.specs.laws.Pointwise.{least_below, joins_below, IsPointwise, back}
use Rattle.lvish_lattice.specs.Listed.{mapped}

-- A state is of one kind: what it holds of that kind makes it, and of each other kind it holds bottom.
pub record IsOneOf {S K : Type 0} {L : K → Type 0} (least : (k : K) → L k) (join : (k : K) → L k → L k → Option (L k)) (part : (k : K) → S → L k) (of : (k : K) → L k → S) (kind : S → K) (nothing : S) (joined : S → S → Option S) : Type 0 where
  pub parts : (k : K) → IsJoin (least k) (join k)
  pub discrete : (k l : K) → (k ≡ l) ⊎ (k ≡ l → ⊥)
  pub whole : (s : S) → of (kind s) (part (kind s) s) ≡ s
  pub inside : (k : K) (x : L k) → part k (of k x) ≡ x
  pub outside : (s : S) (k : K) → (kind s ≡ k → ⊥) → part k s ≡ least k
  pub none : (k : K) → of k (least k) ≡ nothing
  pub unit : (s : S) → joined nothing s ≡ Some s
  pub unit_right : (s : S) → joined s nothing ≡ Some s
  pub alike : (a b : S) → kind a ≡ kind b → joined a b ≡ option_map (of (kind a)) (join (kind a) (part (kind a) a) (part (kind a) b))
  pub apart : (a b : S) → (kind a ≡ kind b → ⊥) → (a ≡ nothing) ⊎ ((b ≡ nothing) ⊎ (joined a b ≡ None))

module _ {S K : Type 0} {L : K → Type 0} {least : (k : K) → L k} {join : (k : K) → L k → L k → Option (L k)} {part : (k : K) → S → L k} {of : (k : K) → L k → S} {kind : S → K} {nothing : S} {joined : S → S → Option S} (o : IsOneOf least join part of kind nothing joined) where
  held_none : (k : K) → part k nothing ≡ least k
  held_none k = ap (part k) (sym (o.none k)) ∙ o.inside k (least k)

  is_nothing : (s : S) → part (kind s) s ≡ least (kind s) → s ≡ nothing
  is_nothing s e = sym (o.whole s) ∙ ap (of (kind s)) e ∙ o.none (kind s)

  pub away : (k l : K) (x : L k) → (k ≡ l → ⊥) → part l (of k x) ≡ least l
  away k l x n = ⊎_elim
      (λ e.
      let none : part k (of k x) ≡ least k = o.outside (of k x) k (λ f. n (sym f ∙ e)) in
      ap (part l) (ap (of k) (sym (o.inside k x) ∙ none) ∙ o.none k) ∙ held_none l)
      (λ m. o.outside (of k x) l m)
      (o.discrete (kind (of k x)) l)

  same : (a b : S) → ((k : K) → part k a ≡ part k b) → a ≡ b
  same a b h = ⊎_elim
      (λ e. sym (o.whole a) ∙ ap (of (kind a)) (h (kind a)) ∙ (λ i. of (e i) (part (e i) b)) ∙ o.whole b)
      (λ n. is_nothing a (h (kind a) ∙ o.outside b (kind a) (λ e. n (sym e))) ∙ sym (is_nothing b (sym (h (kind b)) ∙ o.outside a (kind b) n)))
      (o.discrete (kind a) (kind b))

  abbrev Joins : S → S → S → K → Type 0
  Joins a b c k = join k (part k a) (part k b) ≡ Some (part k c)

  least_joins : (a b c : S) (k : K) → part k a ≡ least k → part k b ≡ part k c → Joins a b c k
  least_joins a b c k e f = (λ i. join k (e i) (f i)) ∙ (o.parts k).unit (part k c)

  of_one : (a b c : S) → kind a ≡ kind b → joined a b ≡ Some c → (k : K) → Joins a b c k
  of_one a b c e h k =
      let w : (w : L (kind a)) × (join (kind a) (part (kind a) a) (part (kind a) b) ≡ Some w) × (of (kind a) w ≡ c) = mapped _ _ _ (sym (o.alike a b e) ∙ h) in
      ⊎_elim
      (λ is. subst (Joins a b c) is (w.1 ∙ ap Some (sym (o.inside (kind a) w.0) ∙ ap (part (kind a)) w.2)))
      (λ n. least_joins a b c k (o.outside a k n) (o.outside b k (λ f. n (e ∙ f)) ∙ sym (ap (part k) (sym w.2) ∙ away (kind a) k w.0 n)))
      (o.discrete (kind a) k)

  of_two : (a b c : S) → (a ≡ nothing) ⊎ ((b ≡ nothing) ⊎ (joined a b ≡ None)) → joined a b ≡ Some c → (k : K) → Joins a b c k
  of_two a b c (inl e) h k = least_joins a b c k (ap (part k) e ∙ held_none k) (ap (part k) (same_Some b c (sym (ap (λ x. joined x b) e ∙ o.unit b) ∙ h)))
  of_two a b c (inr (inl e)) h k = (o.parts k).commutative _ _ ∙ (λ i. join k ((ap (part k) e ∙ held_none k) i) (part k (same_Some a c (sym (ap (joined a) e ∙ o.unit_right a) ∙ h) i))) ∙ (o.parts k).unit (part k c)
  of_two a b c (inr (inr e)) h k = absurd (none-some c (sym e ∙ h))

  -- a state below one of another kind is nothing
  below_another : (a d : S) → (kind a ≡ kind d → ⊥) → IsAtOrBelow (join (kind a)) (part (kind a) a) (part (kind a) d) → a ≡ nothing
  below_another a d n h = is_nothing a (least_below (o.parts (kind a)) _ (subst (IsAtOrBelow (join (kind a)) (part (kind a) a)) (o.outside d (kind a) (λ e. n (sym e))) h))

  there : (a b d : S) → ((k : K) → IsAtOrBelow (join k) (part k a) (part k d)) → ((k : K) → IsAtOrBelow (join k) (part k b) (part k d)) → (c : S) × (joined a b ≡ Some c)
  there a b d h l = ⊎_elim
      (λ e. ⊎_elim
      (λ f. let w = joins_below (o.parts (kind a)) _ _ _ (h (kind a)) (l (kind a)) in (of (kind a) w.0, o.alike a b (e ∙ sym f) ∙ ap (option_map (of (kind a))) w.1))
      (λ n. (a, ap (joined a) (below_another b d n (l (kind b))) ∙ o.unit_right a))
      (o.discrete (kind b) (kind d)))
      (λ n. (b, ap (λ x. joined x b) (below_another a d n (h (kind a))) ∙ o.unit b))
      (o.discrete (kind a) (kind d))

  pub one_of_pointwise : IsPointwise least join part nothing joined
  one_of_pointwise = record {
    parts = o.parts;
    same = same;
    nothing = held_none;
    forth = λ a b c h. ⊎_elim (λ e. of_one a b c e h) (λ n. of_two a b c (o.apart a b n) h) (o.discrete (kind a) (kind b));
    there = there;
  }

  -- with what one kind makes, a state joins within that kind
  pub joins_of : (k : K) (x : L k) (s t : S) → join k x (part k s) ≡ Some (part k t) → ((l : K) → (k ≡ l → ⊥) → part l s ≡ part l t) → joined (of k x) s ≡ Some t
  joins_of k x s t h others = back one_of_pointwise (of k x) s t (λ l. ⊎_elim
      (λ e. subst (Joins (of k x) s t) e (ap (λ y. join k y (part k s)) (o.inside k x) ∙ h))
      (λ n. least_joins (of k x) s t l (away k l x n) (others l n))
      (o.discrete k l))
