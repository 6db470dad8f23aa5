-- Rules, and what follows from them.
use Rattle.std.specs.Prelude.{◌≡◌, ◌⊎◌, ◌<◌, ℕ, List, Option, Some, None, Contains}
use Rattle.lvish_lattice.specs.Lattice.{IsAtOrBelow}
use Rattle.lvish_calculus.specs.declared.request.ErrorKind.{ErrorKind}
use Rattle.lvish_calculus.specs.declared.request.ErrorKind.TheVariants.{Conflict, Deep}
pub use Rattle.lvish_rules.specs.declared.moves.Move.{Move}
pub use Rattle.lvish_rules.specs.declared.moves.Move.TheVariants.{Put, Watch}

-- how many relations there are, the moves that are made at first, and those that follow where a watch is handed an event
pub record RuleSet (S E : Type 0) : Type 0 where
  pub relations : ℕ
  pub first : List (Move S)
  pub fired : ℕ → E → List (Move S)

-- the relation that a move names
abbrev pub relation_of : {S : Type 0} → Move S → ℕ
relation_of (Put relation state) = relation
relation_of (Watch relation watch) = relation

-- moves name relations that exist
pub record NamesRelations {S E : Type 0} (rules : RuleSet S E) : Type 0 where
  pub first : (m : Move S) → Contains rules.first m → relation_of m < rules.relations
  pub fired : (watch : ℕ) (e : E) (m : Move S) → Contains (rules.fired watch e) m → relation_of m < rules.relations

-- the moves that follow from the rules: those at first, and those of a watch that follows, on an event of a put that follows
pub data Follows {S E : Type 0} (events : S → List E) (rules : RuleSet S E) : Move S → Type 0 where
  at_first : {m : Move S} → Contains rules.first m → Follows events rules m
  fires : {m : Move S} (relation watch : ℕ) (d : S) (e : E) → Follows events rules (Watch relation watch) → Follows events rules (Put relation d) → Contains (events d) e → Contains (rules.fired watch e) m
      → Follows events rules m

-- the event of the relation follows from the rules
abbrev pub Holds : {S E : Type 0} → (S → List E) → RuleSet S E → ℕ → E → Type 0
Holds {S = S} events rules relation e = (d : S) × Follows events rules (Put relation d) × Contains (events d) e

-- the moves that the rules want of these contents: those at first, and those of a watch that is wanted, on an event that is below
pub data IsWanted {S E : Type 0} (events : S → List E) (rules : RuleSet S E) (X : ℕ → S) : Move S → Type 0 where
  first_wanted : {m : Move S} → Contains rules.first m → IsWanted events rules X m
  then_wanted : {m : Move S} (relation watch : ℕ) (e : E) → IsWanted events rules X (Watch relation watch) → Contains (events (X relation)) e → Contains (rules.fired watch e) m → IsWanted events rules X m

-- the contents are closed under the rules: what is wanted of them is below them
abbrev pub IsClosedUnder : {S E : Type 0} → (S → S → Option S) → (S → List E) → RuleSet S E → (ℕ → S) → Type 0
IsClosedUnder {S = S} join events rules X = (relation : ℕ) (d : S) → IsWanted events rules X (Put relation d) → IsAtOrBelow join d (X relation)

-- the state is a join of puts into the relation that follow from the rules
pub data IsJoined {S E : Type 0} (join : S → S → Option S) (bottom : S) (events : S → List E) (rules : RuleSet S E) : ℕ → S → Type 0 where
  of_none : {relation : ℕ} → IsJoined join bottom events rules relation bottom
  with_put : {relation : ℕ} {s u : S} (d : S) → IsJoined join bottom events rules relation s → Follows events rules (Put relation d) → join s d ≡ Some u → IsJoined join bottom events rules relation u

-- puts into the relation that follow from the rules join to top
pub record JoinsToTop {S E : Type 0} (join : S → S → Option S) (bottom : S) (events : S → List E) (rules : RuleSet S E) (relation : ℕ) : Type 0 where
  pub state : S
  pub joined : IsJoined join bottom events rules relation state
  pub put : S
  pub follows : Follows events rules (Put relation put)
  pub top : join state put ≡ None

-- what an error of an analysis says: puts into some relation join to top, or watches make one another too deep
abbrev pub Errs : {S E : Type 0} → (S → S → Option S) → S → (S → List E) → RuleSet S E → ErrorKind → Type 0
Errs join bottom events rules kind = ((kind ≡ Conflict) × (relation : ℕ) × JoinsToTop join bottom events rules relation) ⊎ (kind ≡ Deep)
