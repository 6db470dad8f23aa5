-- Nodes by their numbers, and the edges that they stand for.
use Rattle.std.specs.Prelude.{◌≡◌, ◌⊎◌, ℕ, List, [], ◌++◌, map, slice_get, unwrap_or, Contains}
use Rattle.std.specs.Global.{Vec}
use Rattle.lvish_facts.specs.declared.node.Node.{Node}
use Rattle.lvish_facts.specs.Names.{Word, IsNamed, IsEachOnce}
use Rattle.lvish_reaching.specs.Edges.{Edge}

-- the lists that vectors hold
abbrev pub lists_in : List (Vec Node) → List (List Node)
lists_in vectors = map (λ vector. vector.items) vectors

-- what contracts see of a graph: the names of its nodes by their numbers, and the successors of each node
pub record GraphView : Type 0 where
  pub names : List Word
  pub next : List (List Node)

-- the node of the root
abbrev pub root_node : Node
root_node = record { number = 0 }

-- the list at a place, empty where there is none
abbrev pub list_at : List (List Node) → ℕ → List Node
list_at lists place = unwrap_or (slice_get lists place) []

-- the successors of a node, none where there is no such node
abbrev pub successors : GraphView → Node → List Node
successors g n = list_at g.next n.number

-- the nodes that the edge leads from and to, and that it stands in the graph
pub record Stands (g : GraphView) (e : Edge) : Type 0 where
  pub from : Node
  pub to : Node
  pub from_named : IsNamed g.names from e.0
  pub to_named : IsNamed g.names to e.1
  pub there : Contains (successors g from) to

-- the edge that a successor stands for
pub record StandsFor (g : GraphView) (edges : List Edge) (from to : Node) : Type 0 where
  pub edge : Edge
  pub listed : Contains edges edge
  pub from_named : IsNamed g.names from edge.0
  pub to_named : IsNamed g.names to edge.1

-- the graph of these edges, with the root as its first node
pub record IsGraphOf (g : GraphView) (root : Word) (edges : List Edge) : Type 0 where
  pub root_first : IsNamed g.names root_node root
  pub once : IsEachOnce g.names
  pub sound : (from to : Node) → Contains (successors g from) to → StandsFor g edges from to
  pub complete : (e : Edge) → Contains edges e → Stands g e

-- the list at the place has the node as well, and no list has another one more
pub record IsPushed (old new : List (List Node)) (place : ℕ) (to : Node) : Type 0 where
  pub kept : (k : ℕ) (n : Node) → Contains (list_at old k) n → Contains (list_at new k) n
  pub there : Contains (list_at new place) to
  pub only : (k : ℕ) (n : Node) → Contains (list_at new k) n → Contains (list_at old k) n ⊎ ((k ≡ place) × (to ≡ n))

-- the new graph has the old one's nodes, and more edges
pub record HasEdges (old new : GraphView) (more : List Edge) : Type 0 where
  pub kept : (m : Node) (w : Word) → IsNamed old.names m w → IsNamed new.names m w
  pub added : (root : Word) (edges : List Edge) → IsGraphOf old root edges → IsGraphOf new root (edges ++ more)

-- the nodes to which successors lead from the root's
pub data IsReached (g : GraphView) : Node → Type 0 where
  at_root : IsReached g root_node
  onward : {from to : Node} → IsReached g from → Contains (successors g from) to → IsReached g to
