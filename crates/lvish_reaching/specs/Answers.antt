-- What is reached, as a text.
use Rattle.std.specs.Prelude.{◌≡◌, ◌↔◌, ℕ, Bool, true, List, length, Contains}
use Rattle.std.specs.List.Sorted.{IsStrictlySortedBy}
use Rattle.std.specs.Ordering.{nat_cmp}
use Rattle.std.specs.Cmp.Lexicographic.{slice_cmp}
use Rattle.lvish_facts.specs.declared.node.Node.{Node}
use Rattle.lvish_facts.specs.Names.{Word, IsNamed, lines_with}
use Rattle.lvish_reaching.specs.declared.fault.ReachFault.{ReachFault}
use Rattle.lvish_reaching.specs.declared.fault.ReachFault.TheVariants.{Alone, Empty, Erring, Memory, NoThread}
use Rattle.lvish_reaching.specs.Edges.{edges_of, IsAccepted, IsEmpty, IsFirstAlone, IsReachable}
use Rattle.lvish_reaching.specs.Graphs.{GraphView}

-- the text has the names of the nodes, this many, sorted by their bytes, each once
pub record IsListing (g : GraphView) (nodes : List Node) (text : List ℕ) (count : ℕ) : Type 0 where
  pub names : List Word
  pub spelled : text ≡ lines_with names
  pub counted : count ≡ length names
  pub rising : IsStrictlySortedBy (slice_cmp nat_cmp) names
  pub of_nodes : (name : Word) → Contains names name ↔ ((n : Node) × Contains nodes n × IsNamed g.names n name)

-- the text has names that the edges of the input reach from the root, this many, sorted by their bytes, each once; and all of these, where it is whole
pub record IsAnswer (input : List ℕ) (root : Word) (is_whole : Bool) (text : List ℕ) (count : ℕ) : Type 0 where
  pub names : List Word
  pub spelled : text ≡ lines_with names
  pub counted : count ≡ length names
  pub rising : IsStrictlySortedBy (slice_cmp nat_cmp) names
  pub sound : (name : Word) → Contains names name → IsReachable (edges_of input) root name
  pub exact : is_whole ≡ true → (name : Word) → IsReachable (edges_of input) root name → Contains names name

-- why there is no answer: the first line of one word alone, no edge, or nothing that is said of the input
abbrev pub IsRefused : List ℕ → ReachFault → Type 0
IsRefused input (Alone number) = IsFirstAlone input number
IsRefused input Empty = IsEmpty input
IsRefused input (Erring kind) = IsAccepted input
IsRefused input Memory = Unit {0}
IsRefused input NoThread = IsAccepted input
