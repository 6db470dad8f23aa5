-- A lattice as a part of another: an embedding that keeps joins, and reads of the part as reads of the whole, as of a side of a pair.
use Rattle.std.proofs.Common.{◌≡◌, ◌↔◌, ℤ, Option, Some, None, option_map, refl, Bool, List, false, IsTrue, sym, ◌∙◌, ap, subst, inl, inr, ⊎_elim}
use Rattle.std.proofs.lemmas.Iterator.Adapters.{option_map_id}
use Rattle.std.proofs.lemmas.Option.{none-some}
use Rattle.lvish_lattice.specs.Lattice.{IsJoin, IsAtOrBelow, IsChecked, IsAnswered, BringsAt, IsWatched}
use Rattle.lvish_compound.specs.Vocabulary.{Test, Pair, SideOf, One, Two}
use Rattle.lvish_compound.specs.Numbers.{StandsFor, ByNumber}
use Rattle.lvish_compound.specs.Pair as pair
use Rattle.lvish_compound.specs.Pair.{both, joined, events_of, Member, answer_of, of_one, of_two, spot_of, watched}
use Rattle.lvish_compound.specs.laws.PairLaws.{both_there, both_from, same_pair, has_one, has_two}
use Rattle.lvish_compound.specs.laws.OneOf.{IsOneOf, away, joins_of, one_of_pointwise}
use Rattle.lvish_lattice.specs.Listed.{mapped, unmapped}
use Rattle.std.specs.Set.{is_member}

pub record IsEmbedded {L S : Type 0} (join : L → L → Option L) (joined : S → S → Option S) (put : L → S) (part : S → L) : Type 0 where
  pub back : (a : L) → part (put a) ≡ a
  pub joins : (a b : L) → joined (put a) (put b) ≡ option_map put (join a b)
  pub below : (a : L) (s : S) → IsAtOrBelow joined (put a) s ↔ IsAtOrBelow join a (part s)

pub map_twice : {A B C : Type 0} (f : A → B) (g : B → C) (o : Option A) → option_map g (option_map f o) ≡ option_map (λ x. g (f x)) o
map_twice f g (Some x) = refl
map_twice f g None = refl

-- two embeddings, one after the other
pub composed : {L M S : Type 0} {join : L → L → Option L} {middle : M → M → Option M} {joined : S → S → Option S} {put : L → M} {part : M → L} {put_on : M → S} {part_on : S → M}
    → IsEmbedded join middle put part → IsEmbedded middle joined put_on part_on → IsEmbedded join joined (λ a. put_on (put a)) (λ s. part (part_on s))
composed {join = join} {put = put} {part = part} {put_on = put_on} {part_on = part_on} e f = record {
  back = λ a. ap part (f.back (put a)) ∙ e.back a;
  joins = λ a b. f.joins (put a) (put b) ∙ ap (option_map put_on) (e.joins a b) ∙ map_twice put put_on (join a b);
  below = λ a s. (λ h. (e.below a (part_on s)).0 ((f.below (put a) s).0 h), λ h. (f.below (put a) s).1 ((e.below a (part_on s)).1 h));
}

-- a side of a pair, with bottom on the other
module _ {A B : Type 0} {la : A} {lb : B} {f : A → A → Option A} {g : B → B → Option B} (ja : IsJoin la f) (jb : IsJoin lb g) where
  one_by : (u : Option A) → both u (Some lb) ≡ option_map (λ (a : A). record { one = a; two = lb }) u
  one_by (Some a) = refl
  one_by None = refl

  two_by : (v : Option B) → both (Some la) v ≡ option_map (λ (b : B). record { one = la; two = b }) v
  two_by (Some b) = refl
  two_by None = refl

  pub one_embedded : IsEmbedded f (pair.joined f g) (λ a. record { one = a; two = lb }) (λ p. p.one)
  one_embedded = record {
    back = λ a. refl;
    joins = λ a b. ap (both (f a b)) (jb.unit lb) ∙ one_by (f a b);
    below = λ a p. (λ h. (both_there _ _ p h).0, λ h. both_from _ _ p h (jb.unit p.two));
  }

  pub two_embedded : IsEmbedded g (pair.joined f g) (λ b. record { one = la; two = b }) (λ p. p.two)
  two_embedded = record {
    back = λ b. refl;
    joins = λ a b. ap (λ u. both u (g a b)) (ja.unit la) ∙ two_by (g a b);
    below = λ b p. (λ h. (both_there _ _ p h).1, λ h. both_from _ _ p (ja.unit p.one) h);
  }

-- each kind within the states that are of one
module _ {S K : Type 0} {L : K → Type 0} {least : (k : K) → L k} {join : (k : K) → L k → L k → Option (L k)} {part : (k : K) → S → L k} {of : (k : K) → L k → S} {kind : S → K} {nothing : S} {joined : S → S → Option S} (o : IsOneOf least join part of kind nothing joined) where
  joins_by : (k : K) (a b : L k) (u : Option (L k)) (v : Option S) → join k a b ≡ u → joined (of k a) (of k b) ≡ v → v ≡ option_map (of k) u
  joins_by k a b (Some c) v e f = sym f ∙ joins_of o k a (of k b) (of k c) (ap (join k a) (o.inside k b) ∙ e ∙ ap Some (sym (o.inside k c))) (λ l n. away o k l b n ∙ sym (away o k l c n))
  joins_by k a b None (Some t) e f = absurd (none-some _ (sym e ∙ (λ i. join k (sym (o.inside k a) i) (sym (o.inside k b) i)) ∙ (one_of_pointwise o).forth _ _ t f k))
  joins_by k a b None None e f = refl

  pub kind_embedded : (k : K) → IsEmbedded (join k) joined (of k) (part k)
  kind_embedded k = record {
    back = o.inside k;
    joins = λ a b. joins_by k a b (join k a b) (joined (of k a) (of k b)) refl refl;
    below = λ a s. (λ h. subst (λ x. IsAtOrBelow (join k) x (part k s)) (o.inside k a) ((one_of_pointwise o).forth _ _ _ h k), λ h. joins_of o k a s s h (λ l n. refl));
  }

-- the members of the groups of the whole are the images of those of the part, whose answers have other names there
pub record IsImage {L S A B : Type 0} (put : L → S) (name : A → B) (inner : L → A → Type 0) (outer : S → B → Type 0) : Type 0 where
  pub source : (s : S) (b : B) → outer s b → (x : L) × (a : A) × inner x a × (put x ≡ s) × (name a ≡ b)
  pub image : (x : L) (a : A) → inner x a → outer (put x) (name a)
  pub apart : (a c : A) → name a ≡ name c → a ≡ c

-- a read of the part, as a read of the whole
module _ {L S A B : Type 0} {join : L → L → Option L} {joined : S → S → Option S} {put : L → S} {part : S → L} (e : IsEmbedded join joined put part) {name : A → B} {inner : L → A → Type 0} {outer : S → B → Type 0} (image : IsImage put name inner outer) where
  checked_outer : IsChecked join inner → IsChecked joined outer
  checked_outer h p q m n u v =
      let x = image.source p m u in
      let y = image.source q n v in
      ⊎_elim (λ s. inl (sym x.4 ∙ ap name s ∙ y.4)) (λ s. inr ((λ i. joined (sym x.3 i) (sym y.3 i)) ∙ e.joins x.0 y.0 ∙ ap (option_map put) s)) (h x.0 y.0 x.1 y.1 x.2 y.2)

  checked_inner : IsChecked joined outer → IsChecked join inner
  checked_inner h x y a c u v = ⊎_elim (λ s. inl (image.apart a c s)) (λ s. inr (unmapped put (join x y) (sym (e.joins x y) ∙ s))) (h (put x) (put y) (name a) (name c) (image.image x a u) (image.image y c v))

  pub checked_there : IsChecked join inner ↔ IsChecked joined outer
  checked_there = (checked_outer, checked_inner)

  pub answered_there : (answer : L → Option A) → (IsChecked join inner → IsAnswered join inner answer) → IsChecked joined outer → IsAnswered joined outer (λ s. option_map name (answer (part s)))
  answered_there answer law checked s b =
      let by_part = law (checked_inner checked) (part s) in (
        λ h.
            let w = mapped name (answer (part s)) b h in
            let m = (by_part w.0).0 w.1 in
            (put m.0, subst (outer (put m.0)) w.2 (image.image m.0 w.0 m.1), (e.below m.0 s).1 m.2),
        λ m.
            let x = image.source m.0 b m.1 in
            ap (option_map name) ((by_part x.1).1 (x.0, x.2, (e.below x.0 s).0 (subst (λ p. IsAtOrBelow joined p s) (sym x.3) m.2))) ∙ ap Some x.4,
      )

-- the same where the answers keep their names
pub answered_same : {L S A : Type 0} {join : L → L → Option L} {joined : S → S → Option S} {put : L → S} {part : S → L} (e : IsEmbedded join joined put part) {inner : L → A → Type 0} {outer : S → A → Type 0} (image : IsImage put (λ a. a) inner outer)
    (answer : L → Option A) → (IsChecked join inner → IsAnswered join inner answer) → IsChecked joined outer → IsAnswered joined outer (λ s. answer (part s))
answered_same {joined = joined} {part = part} e {outer = outer} image answer law checked = subst (IsAnswered joined outer) (λ i s. option_map_id (answer (part s)) i) (answered_there e image answer law checked)

-- members that stand for the numbers which a test waits for
pub number_image : {L S : Type 0} {put : L → S} (t : Test) {inner : ℤ → L → Type 0} {outer : ℤ → S → Type 0} → ((n : ℤ) (s : S) → outer n s → (x : L) × inner n x × (put x ≡ s)) → ((n : ℤ) (x : L) → inner n x → outer n (put x))
    → IsImage put (λ n. n) (ByNumber t inner) (ByNumber t outer)
number_image t source image = record { source = λ s n w. let x = source n s w.1 in (x.0, n, (w.0, x.1), x.2, refl); image = λ x n w. (w.0, image n x w.1); apart = λ m n e. e }

-- where a number stands for one state at most, and for the image of that one
pub image_of_one : {L S : Type 0} {put : L → S} (t : Test) (inner : ℤ → Option L) (outer : ℤ → Option S) → ((n : ℤ) → outer n ≡ option_map put (inner n)) → IsImage put (λ n. n) (ByNumber t (StandsFor inner)) (ByNumber t (StandsFor outer))
image_of_one {put = put} t inner outer same = number_image t (λ n s h. mapped put (inner n) s (sym (same n) ∙ h)) (λ n x h. same n ∙ ap (option_map put) h)

-- an event of the part, as an event of the whole
module _ {S L E F W V : Type 0} {eq : E → E → Bool} {events : S → List E} {spot_of : E → W} {inner : F → F → Bool} {inner_events : L → List F} {inner_spot : F → V} (part : S → L) (f : F → E) (g : V → W)
    (has : (s : S) (y : F) → is_member eq (events s) (f y) ≡ is_member inner (inner_events (part s)) y) (at : (y : F) → spot_of (f y) ≡ g (inner_spot y)) (old new : S) where
  pub brings_there : (v : V) → BringsAt inner inner_events inner_spot (part old) (part new) v → BringsAt eq events spot_of old new (g v)
  brings_there v b = record { event = f b.event; there = has new b.event ∙ b.there; missing = has old b.event ∙ b.missing; at = at b.event ∙ ap g b.at }

  -- the same at the one spot of a read of the part
  pub waits_there : (o : Option V) (w : W) → option_map g o ≡ Some w → ((v : V) → o ≡ Some v → BringsAt inner inner_events inner_spot (part old) (part new) v) → BringsAt eq events spot_of old new w
  waits_there o w is b = let v = mapped g o w is in subst (BringsAt eq events spot_of old new) v.2 (brings_there v.0 (b v.0 v.1))

module _ {A B R T X Y : Type 0} {la : A} {lb : B} {f : A → A → Option A} {g : B → B → Option B} (ja : IsJoin la f) (jb : IsJoin lb g) (ma : R → A → X → Type 0) (mb : T → B → Y → Type 0) where
  abbrev Members : SideOf R T → Pair A B → SideOf X Y → Type 0
  Members = Member la lb ma mb

  one_image : (r : R) → IsImage (λ (a : A). record { one = a; two = lb }) of_one (ma r) (Members (One r))
  one_image r = record { source = source; image = λ a x h. (refl, h); apart = λ x z e. cc }
    where
      source : (p : Pair A B) (b : SideOf X Y) → Members (One r) p b → (a : A) × (x : X) × ma r a x × (◌≡◌ {A = Pair A B} (record { one = a; two = lb }) p) × (of_one x ≡ b)
      source p (One x) h = (p.one, x, h.1, same_pair _ p refl (sym h.0), refl)
      source p (Two y) h = absurd h

  two_image : (r : T) → IsImage (λ (b : B). record { one = la; two = b }) of_two (mb r) (Members (Two r))
  two_image r = record { source = source; image = λ b y h. (refl, h); apart = λ y w e. cc }
    where
      source : (p : Pair A B) (b : SideOf X Y) → Members (Two r) p b → (c : B) × (y : Y) × mb r c y × (◌≡◌ {A = Pair A B} (record { one = la; two = c }) p) × (of_two y ≡ b)
      source p (Two y) h = (p.two, y, h.1, same_pair _ p (sym h.0) refl, refl)
      source p (One x) h = absurd h

  -- a read of a side is checked exactly where it is checked there
  pub checks_one : (t : Bool) (r : R) (s : SideOf R T) → s ≡ One r → IsTrue t ↔ IsChecked f (ma r) → IsTrue t ↔ IsChecked (joined f g) (Members s)
  checks_one t r s is h = let w = checked_there (one_embedded ja jb) (one_image r) in subst (λ (q : SideOf R T). IsTrue t ↔ IsChecked (joined f g) (Members q)) (sym is) (λ b. w.0 (h.0 b), λ k. h.1 (w.1 k))

  pub checks_two : (t : Bool) (r : T) (s : SideOf R T) → s ≡ Two r → IsTrue t ↔ IsChecked g (mb r) → IsTrue t ↔ IsChecked (joined f g) (Members s)
  checks_two t r s is h = let w = checked_there (two_embedded ja jb) (two_image r) in subst (λ (q : SideOf R T). IsTrue t ↔ IsChecked (joined f g) (Members q)) (sym is) (λ b. w.0 (h.0 b), λ k. h.1 (w.1 k))

  pub pair_answers : (aa : R → A → Option X) (ab : T → B → Option Y) (answers_a : (r : R) → IsChecked f (ma r) → IsAnswered f (ma r) (aa r)) (answers_b : (r : T) → IsChecked g (mb r) → IsAnswered g (mb r) (ab r))
      (r : SideOf R T) → IsChecked (joined f g) (Members r) → IsAnswered (joined f g) (Members r) (answer_of aa ab r)
  pair_answers aa ab answers_a answers_b (One r) = answered_there (one_embedded ja jb) (one_image r) (aa r) (answers_a r)
  pair_answers aa ab answers_a answers_b (Two r) = answered_there (two_embedded ja jb) (two_image r) (ab r) (answers_b r)

module _ {A B E F V W R T X Y : Type 0} (ee : E → E → Bool) (ef : F → F → Bool) (va : A → List E) (vb : B → List F) (sa : E → V) (sb : F → W) (wa : R → Option V) (wb : T → Option W) (aa : R → A → Option X) (ab : T → B → Option Y)
    (eq : SideOf E F → SideOf E F → Bool) (xx : (x z : E) → eq (One x) (One z) ≡ ee x z) (yy : (y w : F) → eq (Two y) (Two w) ≡ ef y w) (xy : (x : E) (y : F) → eq (One x) (Two y) ≡ false) (yx : (x : E) (y : F) → eq (Two y) (One x) ≡ false) where
  pub pair_waits : IsWatched ee va sa wa aa → IsWatched ef vb sb wb ab → IsWatched eq (events_of va vb) (spot_of sa sb) (watched wa wb) (answer_of aa ab)
  pair_waits la lb (One r) w is old new a none some =
      let x = mapped of_one (aa r new.one) a some in
      waits_there (λ (p : Pair A B). p.one) of_one of_one (λ p y. has_one ee ef eq xx yy xy yx (va p.one) (vb p.two) y) (λ y. refl) old new (wa r) w is (λ v e. la r v e old.one new.one x.0 (unmapped of_one (aa r old.one) none) x.1)
  pair_waits la lb (Two r) w is old new a none some =
      let x = mapped of_two (ab r new.two) a some in
      waits_there (λ (p : Pair A B). p.two) of_two of_two (λ p y. has_two ee ef eq xx yy xy yx (va p.one) (vb p.two) y) (λ y. refl) old new (wb r) w is (λ v e. lb r v e old.two new.two x.0 (unmapped of_two (ab r old.two) none) x.1)
