-- Where two states clash: where their join is top, by what the states hold.
use Rattle.std.specs.Prelude.{◌≡◌, ◌≢◌, ◌⊎◌, Option, None}
use Rattle.lvish_lattice.specs.Top.{TwoValues}
use Rattle.lvish_compound.specs.Vocabulary.{KeyGhosts, OrdGhosts, PartialEqGhosts, PartialOrdGhosts, HashGhosts, LatticeGhosts, Pair, Empty, Cell, Set, Max}
use Rattle.lvish_compound.specs.declared.part.Part as part
use Rattle.lvish_compound.specs.MapOf.{MapOf, at}
use Rattle.lvish_compound.specs.States.{Part, Map, Sides, Tally, Any, nothing}
use Rattle.lvish_compound.specs.Tally.{IsPastTotal}

-- two states join to top
abbrev pub JoinToTop : {S : Type 0} → (S → S → Option S) → S → S → Type 0
JoinToTop join s t = join s t ≡ None

module _ {K L E : Type 0} {kk : KeyGhosts K} {ko : OrdGhosts K} {ke : PartialEqGhosts K} {kp : PartialOrdGhosts K} {l : LatticeGhosts L E} {le : PartialEqGhosts L} {eo : OrdGhosts E} {ee : PartialEqGhosts E} {ep : PartialOrdGhosts E} {eh : HashGhosts E} where
  -- the parts of two maps at some key clash
  abbrev pub AtSomeKey : (L → L → Type 0) → MapOf K L E kk ko ke kp l le eo ee ep eh → MapOf K L E kk ko ke kp l le eo ee ep eh → Type 0
  AtSomeKey ClashThere a b = (k : K) × ClashThere (at a k) (at b k)

-- the first sides of two pairs clash, or the second
abbrev pub AtSomeSide : {A B : Type 0} → (A → A → Type 0) → (B → B → Type 0) → Pair A B → Pair A B → Type 0
AtSomeSide ClashOne ClashTwo p q = ClashOne p.one q.one ⊎ ClashTwo p.two q.two

-- Two parts clash: two cells with values that differ, no two sets, no two counters, and any two of different kinds that aren't empty.
abbrev pub PartsClash : part.Part → part.Part → Type 0
PartsClash (Cell m) (Cell n) = m ≢ n
PartsClash (Set x) (Set y) = ⊥
PartsClash (Max x) (Max y) = ⊥
PartsClash s t = (s ≢ Empty) × (t ≢ Empty)

-- Two states clash: two parts that do, two maps with values that differ at some key, two pairs of parts that clash at some side, two tallies whose greater amounts add up to more than 10,000, and any two of different kinds that aren't bottom.
abbrev pub Clash : Any → Any → Type 0
Clash (Part s) (Part t) = PartsClash s t
Clash (Map x) (Map y) = AtSomeKey TwoValues x.state y.state
Clash (Sides x) (Sides y) = AtSomeSide PartsClash PartsClash x.pair y.pair
Clash (Tally x) (Tally y) = IsPastTotal x.state y.state
Clash s t = (s ≢ nothing) × (t ≢ nothing)
