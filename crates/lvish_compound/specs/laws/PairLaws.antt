-- Pairs of lattices are a lattice, by the laws of the parts alone; their events are those of one side, and then those of the other.
use Rattle.std.specs.Prelude.{◌≡◌, Bool, true, false, ◌&&◌, List, Option, Some, None, option_and_then, option_map, refl, cond, not, ◌||◌, [], ◌∷◌, map, filter}
use Rattle.std.proofs.Common.{sym, ◌∙◌, ap}
use Rattle.std.proofs.lemmas.Bool.{and_parts}
use Rattle.lvish_compound.specs.Vocabulary.{Ordering, Less, Pair, SideOf, One, Two}
use Rattle.lvish_lattice.specs.Lattice.{IsIdentity, IsJoin, HasEvents}
use Rattle.lvish_compound.specs.Pair.{both, joined, events_of, of_one, of_two, sides}
use Rattle.std.specs.Set.{is_member, IsUnion}
use Rattle.std.specs.List.{AllByRecursion}
use Rattle.std.specs.List.Sorted.{IsStrictlySortedBy}

module _ {X Y : Type 0} where
  abbrev ones : List (SideOf X Y) → List X
  ones [] = []
  ones (One x ∷ ss) = x ∷ ones ss
  ones (Two y ∷ ss) = ones ss

  abbrev twos : List (SideOf X Y) → List Y
  twos [] = []
  twos (One x ∷ ss) = twos ss
  twos (Two y ∷ ss) = y ∷ twos ss

  pub ones_of_sides : (xs : List X) (ys : List Y) → ones (sides xs ys) ≡ xs
  ones_of_sides [] [] = refl
  ones_of_sides [] (y ∷ ys) = ones_of_sides [] ys
  ones_of_sides (x ∷ xs) ys = ap (λ l. x ∷ l) (ones_of_sides xs ys)

  pub twos_of_sides : (xs : List X) (ys : List Y) → twos (sides xs ys) ≡ ys
  twos_of_sides [] [] = refl
  twos_of_sides [] (y ∷ ys) = ap (λ l. y ∷ l) (twos_of_sides [] ys)
  twos_of_sides (x ∷ xs) ys = twos_of_sides xs ys

  pub same_ones : (xs zs : List X) (ys ws : List Y) → sides xs ys ≡ sides zs ws → xs ≡ zs
  same_ones xs zs ys ws e = sym (ones_of_sides xs ys) ∙ ap ones e ∙ ones_of_sides zs ws

  pub same_twos : (xs zs : List X) (ys ws : List Y) → sides xs ys ≡ sides zs ws → ys ≡ ws
  same_twos xs zs ys ws e = sym (twos_of_sides xs ys) ∙ ap twos e ∙ twos_of_sides zs ws

module _ {X Y : Type 0} (ex : X → X → Bool) (ey : Y → Y → Bool) where
  pub sides_identical : IsIdentity ex → IsIdentity ey → (eq : SideOf X Y → SideOf X Y → Bool) → ((x z : X) → eq (One x) (One z) ≡ ex x z) → ((y w : Y) → eq (Two y) (Two w) ≡ ey y w)
      → ((x : X) (y : Y) → eq (One x) (Two y) ≡ false) → ((x : X) (y : Y) → eq (Two y) (One x) ≡ false) → IsIdentity eq
  sides_identical same_x same_y eq xx yy xy yx (One x) (One z) e = ap (λ (v : X). One v) (same_x x z (sym (xx x z) ∙ e))
  sides_identical same_x same_y eq xx yy xy yx (One x) (Two w) e = absurd (cc (xy x w))
  sides_identical same_x same_y eq xx yy xy yx (Two y) (One z) e = absurd (cc (yx z y))
  sides_identical same_x same_y eq xx yy xy yx (Two y) (Two w) e = ap (λ (v : Y). Two v) (same_y y w (sym (yy y w) ∙ e))

  module _ (eq : SideOf X Y → SideOf X Y → Bool) (xx : (x z : X) → eq (One x) (One z) ≡ ex x z) (yy : (y w : Y) → eq (Two y) (Two w) ≡ ey y w)
      (xy : (x : X) (y : Y) → eq (One x) (Two y) ≡ false) (yx : (x : X) (y : Y) → eq (Two y) (One x) ≡ false) where
    pub has_one : (xs : List X) (ys : List Y) (q : X) → is_member eq (sides xs ys) (One q) ≡ is_member ex xs q
    has_one [] [] q = refl
    has_one [] (y ∷ ys) q = ap (λ b. b || is_member eq (sides [] ys) (One q)) (xy q y) ∙ has_one [] ys q
    has_one (x ∷ xs) ys q = (λ i. xx q x i || has_one xs ys q i)

    pub has_two : (xs : List X) (ys : List Y) (q : Y) → is_member eq (sides xs ys) (Two q) ≡ is_member ey ys q
    has_two [] [] q = refl
    has_two [] (y ∷ ys) q = (λ i. yy q y i || has_two [] ys q i)
    has_two (x ∷ xs) ys q = ap (λ b. b || is_member eq (sides xs ys) (Two q)) (yx x q) ∙ has_two xs ys q

    pub sides_unite : (a b c : List X) (d e f : List Y) → IsUnion ex a b c → IsUnion ey d e f → IsUnion eq (sides a d) (sides b e) (sides c f)
    sides_unite a b c d e f u v (One q) = has_one c f q ∙ u q ∙ (λ i. sym (has_one a d q) i || sym (has_one b e q) i)
    sides_unite a b c d e f u v (Two q) = has_two c f q ∙ v q ∙ (λ i. sym (has_two a d q) i || sym (has_two b e q) i)

    keep_two : (b : Bool) (w : Y) (ws : List Y) → cond b (of_two {X = X} w ∷ sides [] ws) (sides [] ws) ≡ sides [] (cond b (w ∷ ws) ws)
    keep_two true w ws = refl
    keep_two false w ws = refl

    keep_one : (b : Bool) (z : X) (zs : List X) (ws : List Y) → cond b (of_one z ∷ sides zs ws) (sides zs ws) ≡ sides (cond b (z ∷ zs) zs) ws
    keep_one true z zs ws = refl
    keep_one false z zs ws = refl

    -- what a list of both sides does not have is what its sides do not have
    pub sides_beyond : (xs zs : List X) (ys ws : List Y)
        → filter (λ s. not (is_member eq (sides xs ys) s)) (sides zs ws) ≡ sides (filter (λ x. not (is_member ex xs x)) zs) (filter (λ y. not (is_member ey ys y)) ws)
    sides_beyond xs [] ys [] = refl
    sides_beyond xs [] ys (w ∷ ws) =
        (λ i. cond {A = List (SideOf X Y)} (not (has_two xs ys w i)) (Two w ∷ sides_beyond xs [] ys ws i) (sides_beyond xs [] ys ws i))
        ∙ keep_two (not (is_member ey ys w)) w (filter (λ y. not (is_member ey ys y)) ws)
    sides_beyond xs (z ∷ zs) ys ws =
        (λ i. cond {A = List (SideOf X Y)} (not (has_one xs ys z i)) (One z ∷ sides_beyond xs zs ys ws i) (sides_beyond xs zs ys ws i))
        ∙ keep_one (not (is_member ex xs z)) z (filter (λ x. not (is_member ex xs x)) zs) (filter (λ y. not (is_member ey ys y)) ws)

module _ {X Y : Type 0} (cx : X → X → Ordering) (cy : Y → Y → Ordering) (cmp : SideOf X Y → SideOf X Y → Ordering) (xx : (x z : X) → cmp (One x) (One z) ≡ cx x z) (yy : (y w : Y) → cmp (Two y) (Two w) ≡ cy y w)
    (xy : (x : X) (y : Y) → cmp (One x) (Two y) ≡ Less) where
  below_twos : (x : X) (ys : List Y) → AllByRecursion (λ s. cmp (One x) s ≡ Less) (map of_two ys)
  below_twos x [] = tt
  below_twos x (y ∷ ys) = (xy x y, below_twos x ys)

  below_both : (x : X) (xs : List X) (ys : List Y) → AllByRecursion (λ z. cx x z ≡ Less) xs → AllByRecursion (λ s. cmp (One x) s ≡ Less) (sides xs ys)
  below_both x [] ys b = below_twos x ys
  below_both x (z ∷ zs) ys b = (xx x z ∙ b.0, below_both x zs ys b.1)

  two_below : (y : Y) (ys : List Y) → AllByRecursion (λ w. cy y w ≡ Less) ys → AllByRecursion (λ s. cmp (Two y) s ≡ Less) (map (of_two {X = X}) ys)
  two_below y [] b = tt
  two_below y (w ∷ ws) b = (yy y w ∙ b.0, two_below y ws b.1)

  pub sides_rise : (xs : List X) (ys : List Y) → IsStrictlySortedBy cx xs → IsStrictlySortedBy cy ys → IsStrictlySortedBy cmp (sides xs ys)
  unfolding IsStrictlySortedBy
  sides_rise [] [] r s = tt
  sides_rise [] (y ∷ ys) r s = (two_below y ys s.0, sides_rise [] ys r s.1)
  sides_rise (x ∷ xs) ys r s = (below_both x xs ys r.0, sides_rise xs ys r.1 s)

module _ {A B : Type 0} where
  pub same_pair : (p q : Pair A B) → p.one ≡ q.one → p.two ≡ q.two → p ≡ q
  same_pair p q e f = λ i. record { one = e i; two = f i }

  pub pairs_identical : (ea : A → A → Bool) (eb : B → B → Bool) → IsIdentity ea → IsIdentity eb → (eq : Pair A B → Pair A B → Bool) → ((p q : Pair A B) → eq p q ≡ (ea p.one q.one && eb p.two q.two)) → IsIdentity eq
  pairs_identical ea eb same_a same_b eq is p q e =
      let t = and_parts (ea p.one q.one) (eb p.two q.two) (sym (is p q) ∙ e) in
      same_pair p q (same_a _ _ t.0) (same_b _ _ t.1)

  -- a pair that is there has both sides
  pub both_there : (a : Option A) (b : Option B) (p : Pair A B) → both a b ≡ Some p → (a ≡ Some p.one) × (b ≡ Some p.two)
  both_there (Some a) (Some b) p e = (ap (option_map (λ (q : Pair A B). q.one)) e, ap (option_map (λ (q : Pair A B). q.two)) e)
  both_there (Some a) None p e = absurd cc
  both_there None b p e = absurd cc

  pub both_none : (a : Option A) → both {A = A} {B = B} a None ≡ None
  both_none (Some a) = refl
  both_none None = refl

  pub both_from : (a : Option A) (b : Option B) (p : Pair A B) → a ≡ Some p.one → b ≡ Some p.two → both a b ≡ Some p
  both_from a b p e f = λ i. both (e i) (f i)

  module _ {la : A} {lb : B} {f : A → A → Option A} {g : B → B → Option B} (ja : IsJoin la f) (jb : IsJoin lb g) where
    right_of : (c : Pair A B) (u : Option A) (v : Option B) → option_and_then (λ p. joined f g p c) (both u v) ≡ both (option_and_then (λ x. f x c.one) u) (option_and_then (λ y. g y c.two) v)
    right_of c (Some x) (Some y) = refl
    right_of c (Some x) None = sym (both_none (f x c.one))
    right_of c None v = refl

    left_of : (a : Pair A B) (u : Option A) (v : Option B) → option_and_then (λ p. joined f g a p) (both u v) ≡ both (option_and_then (λ x. f a.one x) u) (option_and_then (λ y. g a.two y) v)
    left_of a (Some x) (Some y) = refl
    left_of a (Some x) None = sym (both_none (f a.one x))
    left_of a None v = refl

    pub pair_is_join : IsJoin (record { one = la; two = lb }) (joined f g)
    pair_is_join = record {
      unit = λ p. both_from _ _ p (ja.unit p.one) (jb.unit p.two);
      idempotent = λ p. both_from _ _ p (ja.idempotent p.one) (jb.idempotent p.two);
      commutative = λ p q i. both (ja.commutative p.one q.one i) (jb.commutative p.two q.two i);
      associative = λ p q r. right_of r (f p.one q.one) (g p.two q.two) ∙ (λ i. both (ja.associative p.one q.one r.one i) (jb.associative p.two q.two r.two i)) ∙ sym (left_of p (f q.one r.one) (g q.two r.two));
    }

  module _ {E F : Type 0} {la : A} {lb : B} {f : A → A → Option A} {g : B → B → Option B} {ee : E → E → Bool} {ef : F → F → Bool} {ce : E → E → Ordering} {cf : F → F → Ordering} {va : A → List E} {vb : B → List F}
      (ha : HasEvents la f ee ce va) (hb : HasEvents lb g ef cf vb) where
    pub pair_has_events : (eq : SideOf E F → SideOf E F → Bool) → ((x z : E) → eq (One x) (One z) ≡ ee x z) → ((y w : F) → eq (Two y) (Two w) ≡ ef y w)
        → ((x : E) (y : F) → eq (One x) (Two y) ≡ false) → ((x : E) (y : F) → eq (Two y) (One x) ≡ false)
        → (cmp : SideOf E F → SideOf E F → Ordering) → ((x z : E) → cmp (One x) (One z) ≡ ce x z) → ((y w : F) → cmp (Two y) (Two w) ≡ cf y w) → ((x : E) (y : F) → cmp (One x) (Two y) ≡ Less)
        → HasEvents (record { one = la; two = lb }) (joined f g) eq cmp (events_of va vb)
    pair_has_events eq xx yy xy yx cmp cxx cyy cxy = record {
      none = (λ i. events_of {E = E} {F = F} (λ _. ha.none i) (λ _. hb.none i) (record { one = la; two = lb }));
      ascending = λ p. sides_rise ce cf cmp cxx cyy cxy (va p.one) (vb p.two) (ha.ascending p.one) (hb.ascending p.two);
      union = λ p q r e. let t = both_there (f p.one q.one) (g p.two q.two) r e in
          sides_unite ee ef eq xx yy xy yx (va p.one) (va q.one) (va r.one) (vb p.two) (vb q.two) (vb r.two) (ha.union _ _ _ t.0) (hb.union _ _ _ t.1);
      determine = λ p q e. same_pair p q (ha.determine _ _ (same_ones (va p.one) (va q.one) (vb p.two) (vb q.two) e)) (hb.determine _ _ (same_twos (va p.one) (va q.one) (vb p.two) (vb q.two) e));
    }
