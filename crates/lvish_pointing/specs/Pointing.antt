-- The rules of the analysis.
use Rattle.std.specs.Prelude.{◌+◌, ◌-◌, ℕ, nat_lt, List, [], ◌∷◌, map, Option, Some, None, if◌then◌else◌}
use Rattle.lvish_rules.specs.declared.moves.Move.{Move}
use Rattle.lvish_rules.specs.declared.moves.Move.TheVariants.{Put, Watch}
use Rattle.lvish_rules.specs.Rules.{RuleSet}
use Rattle.lvish_facts.specs.declared.node.Node.{Node}
use Rattle.lvish_pointing.specs.declared.fact.Kind.{Kind}
use Rattle.lvish_pointing.specs.declared.fact.Kind.TheVariants.{Address, Copy, Load, Store}
use Rattle.lvish_pointing.specs.declared.fact.Fact.{Fact}
use Rattle.lvish_pointing.specs.declared.watching.Watching.{Watching}
use Rattle.lvish_pointing.specs.declared.watching.Watching.TheVariants.{Into, Loading, Storing}

-- the number of a watch, among so many names
abbrev pub number_of : ℕ → Watching → ℕ
number_of count (Into p) = p.number
number_of count (Loading p) = count + p.number
number_of count (Storing q) = count + count + q.number

-- the watch of a number
abbrev pub watching_of : ℕ → ℕ → Option Watching
watching_of count number =
    if nat_lt number count then Some (Into (record { number = number })) else
    if nat_lt number (count + count) then Some (Loading (record { number = number - count })) else
    if nat_lt number (count + count + count) then Some (Storing (record { number = number - (count + count) })) else None

module _ {S : Type 0} (only : Node → S) (count : ℕ) where
  -- all that the first points to flows into the second
  abbrev pub flow : Node → Node → Move S
  flow from to = Watch from.number (number_of count (Into to))

  -- what a fact makes at first: where it is p = &x, p points to x; else a watch on the pointer that the fact looks through
  abbrev pub first_as : Kind → Node → Node → Move S
  first_as Address p x = Put p.number (only x)
  first_as Copy p q = flow q p
  first_as Load p q = Watch q.number (number_of count (Loading p))
  first_as Store p q = Watch p.number (number_of count (Storing q))

  abbrev pub first_of : Fact Node → Move S
  first_of f = first_as f.kind f.left f.right

  -- what follows where a watch is handed a node that its pointer points to
  abbrev pub then_of : Option Watching → Node → List (Move S)
  then_of None x = []
  then_of (Some (Into p)) x = Put p.number (only x) ∷ []
  then_of (Some (Loading p)) x = flow x p ∷ []
  then_of (Some (Storing q)) x = flow q x ∷ []

-- a relation for each name: what it points to
abbrev pub pointing : {S : Type 0} → (Node → S) → ℕ → List (Fact Node) → RuleSet S Node
pointing only count facts = record {
  relations = count;
  first = map (first_of only count) facts;
  fired = λ watch x. if nat_lt x.number count then then_of only count (watching_of count watch) x else [];
}
