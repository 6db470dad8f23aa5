-- Two states side by side.
use Rattle.std.specs.Prelude.{◌≡◌, List, ◌++◌, map, Option, Some, None, option_map}
use Rattle.lvish_compound.specs.Vocabulary.{Pair, SideOf, One, Two}

abbrev pub of_one : {X Y : Type 0} → X → SideOf X Y
of_one x = One x

abbrev pub of_two : {X Y : Type 0} → Y → SideOf X Y
of_two y = Two y

-- the list of both sides
abbrev pub sides : {X Y : Type 0} → List X → List Y → List (SideOf X Y)
sides xs ys = map of_one xs ++ map of_two ys

module _ {A B : Type 0} where
  -- a pair, where both sides are there
  abbrev pub both : Option A → Option B → Option (Pair A B)
  both (Some a) (Some b) = Some (record { one = a; two = b })
  both (Some a) None = None
  both None b = None

  -- both sides join, and top in one side is top
  abbrev pub joined : (A → A → Option A) → (B → B → Option B) → Pair A B → Pair A B → Option (Pair A B)
  joined f g p q = both (f p.one q.one) (g p.two q.two)

  -- the events of the first side, and then those of the second
  abbrev pub events_of : {E F : Type 0} → (A → List E) → (B → List F) → Pair A B → List (SideOf E F)
  events_of f g p = map of_one (f p.one) ++ map of_two (g p.two)

  -- a member is a member of one side, with bottom on the other
  abbrev pub Member : {R T X Y : Type 0} → A → B → (R → A → X → Type 0) → (T → B → Y → Type 0) → SideOf R T → Pair A B → SideOf X Y → Type 0
  Member a b f g (One r) p (One x) = (p.two ≡ b) × f r p.one x
  Member a b f g (One r) p (Two y) = ⊥
  Member a b f g (Two r) p (One x) = ⊥
  Member a b f g (Two r) p (Two y) = (p.one ≡ a) × g r p.two y

  -- the answer of the side that is read
  abbrev pub answer_of : {R T X Y : Type 0} → (R → A → Option X) → (T → B → Option Y) → SideOf R T → Pair A B → Option (SideOf X Y)
  answer_of f g (One r) p = option_map of_one (f r p.one)
  answer_of f g (Two r) p = option_map of_two (g r p.two)

-- the spot of a side's event
abbrev pub spot_of : {E F V W : Type 0} → (E → V) → (F → W) → SideOf E F → SideOf V W
spot_of f g (One e) = One (f e)
spot_of f g (Two e) = Two (g e)

abbrev pub watched : {R T V W : Type 0} → (R → Option V) → (T → Option W) → SideOf R T → Option (SideOf V W)
watched f g (One r) = option_map of_one (f r)
watched f g (Two r) = option_map of_two (g r)
