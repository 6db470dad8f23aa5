-- What a put brings to a pair.
use Rattle.std.proofs.Common.{◌≡◌, Bool, true, false, cond, not, ◌||◌, List, [], ◌∷◌, Option, Some, None, filter, is_some, refl, sym, ◌∙◌, ap}
use Rattle.std.proofs.lemmas.Bool.{or_right}
use Rattle.std.specs.Set.{is_member}
use Rattle.std.specs.Cmp.{IsEquivalence}
use Rattle.lvish_lattice.specs.Lattice.{IsJoin, IsAtOrBelow, events_beyond, fresh_of}
use Rattle.lvish_compound.specs.Vocabulary.{Pair, SideOf, One, Two}
use Rattle.lvish_compound.specs.Pair.{both, joined, events_of, sides}
use Rattle.lvish_compound.specs.laws.PairLaws.{sides_beyond}

module _ {E : Type 0} (eq : E → E → Bool) (itself : (x : E) → eq x x ≡ true) where
  none_beyond : (ys zs : List E) → ((y : E) → is_member eq zs y ≡ true → is_member eq ys y ≡ true) → filter (λ y. not (is_member eq ys y)) zs ≡ []
  none_beyond ys [] h = refl
  none_beyond ys (z ∷ zs) h =
      let there : is_member eq ys z ≡ true = h z (ap (λ b. b || is_member eq zs z) (itself z)) in
      ap (λ b. cond (not b) (z ∷ filter (λ y. not (is_member eq ys y)) zs) (filter (λ y. not (is_member eq ys y)) zs)) there
      ∙ none_beyond ys zs (λ y m. h y (or_right (eq y z) (is_member eq zs y) m))

  -- a list has nothing that it hasn't
  pub nothing_beyond : (ys : List E) → filter (λ y. not (is_member eq ys y)) ys ≡ []
  nothing_beyond ys = none_beyond ys ys (λ y m. m)

module _ {A B E F : Type 0} {la : A} {lb : B} {f : A → A → Option A} {g : B → B → Option B} (ja : IsJoin la f) (jb : IsJoin lb g) {ee : E → E → Bool} {ef : F → F → Bool} (le : IsEquivalence ee) (lf : IsEquivalence ef)
    (va : A → List E) (vb : B → List F) (eq : SideOf E F → SideOf E F → Bool) (xx : (x z : E) → eq (One x) (One z) ≡ ee x z) (yy : (y w : F) → eq (Two y) (Two w) ≡ ef y w)
    (xy : (x : E) (y : F) → eq (One x) (Two y) ≡ false) (yx : (x : E) (y : F) → eq (Two y) (One x) ≡ false) where
  abbrev beyond : Pair A B → Option (Pair A B) → List (SideOf E F)
  beyond = events_beyond eq (events_of va vb)

  there : (p : Pair A B) (a : A) (b : B) → sides (events_beyond ee va p.one (Some a)) (events_beyond ef vb p.two (Some b)) ≡ beyond p (both (Some a) (Some b))
  there p a b = sym (sides_beyond ee ef eq xx yy xy yx (va p.one) (va a) (vb p.two) (vb b))

  one_by : (p : Pair A B) (u : Option A) → sides (events_beyond ee va p.one u) [] ≡ beyond p (both u (Some p.two))
  one_by p (Some a) = ap (sides (events_beyond ee va p.one (Some a))) (sym (nothing_beyond ef lf.refl (vb p.two))) ∙ there p a p.two
  one_by p None = refl

  two_by : (p : Pair A B) (v : Option B) → sides [] (events_beyond ef vb p.two v) ≡ beyond p (both (Some p.one) v)
  two_by p (Some b) = ap (λ xs. sides xs (events_beyond ef vb p.two (Some b))) (sym (nothing_beyond ee le.refl (va p.one))) ∙ there p p.one b
  two_by p None = refl

  -- where one side doesn't rise the other's events are all
  pub one_rises : (p q : Pair A B) (xs : List E) → xs ≡ fresh_of f ee va p.one q.one → IsAtOrBelow g q.two p.two → sides xs [] ≡ fresh_of (joined f g) eq (events_of va vb) p q
  one_rises p q xs e below = ap (λ zs. sides {Y = F} zs []) e ∙ one_by p (f p.one q.one) ∙ ap (λ v. beyond p (both (f p.one q.one) v)) (sym (jb.commutative p.two q.two ∙ below))

  pub two_rises : (p q : Pair A B) (ys : List F) → ys ≡ fresh_of g ef vb p.two q.two → IsAtOrBelow f q.one p.one → sides [] ys ≡ fresh_of (joined f g) eq (events_of va vb) p q
  two_rises p q ys e below = ap (λ zs. sides {X = E} [] zs) e ∙ two_by p (g p.two q.two) ∙ ap (λ u. beyond p (both u (g p.two q.two))) (sym (ja.commutative p.one q.one ∙ below))

  by_join : (p : Pair A B) (u : Option A) (v : Option B) → is_some (both u v) ≡ true → sides (events_beyond ee va p.one u) (events_beyond ef vb p.two v) ≡ beyond p (both u v)
  by_join p (Some a) (Some b) t = there p a b
  by_join p (Some a) None t = absurd cc
  by_join p None v t = absurd cc

  pub both_rise : (p q : Pair A B) (xs : List E) (ys : List F) → xs ≡ fresh_of f ee va p.one q.one → ys ≡ fresh_of g ef vb p.two q.two → is_some (joined f g p q) ≡ true
      → sides xs ys ≡ fresh_of (joined f g) eq (events_of va vb) p q
  both_rise p q xs ys e h t = (λ i. sides (e i) (h i)) ∙ by_join p (f p.one q.one) (g p.two q.two) t

  is_top : (p : Pair A B) (r : Option (Pair A B)) → is_some r ≡ false → [] ≡ beyond p r
  is_top p (Some r) t = absurd cc
  is_top p None t = refl

  pub top_brings_nothing : (p q : Pair A B) → is_some (joined f g p q) ≡ false → [] ≡ fresh_of (joined f g) eq (events_of va vb) p q
  top_brings_nothing p q t = is_top p (joined f g p q) t
