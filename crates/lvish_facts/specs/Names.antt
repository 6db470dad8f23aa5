-- Names by number.
use Rattle.std.specs.Prelude.{◌≡◌, ◌++◌, ℕ, List, [], ◌∷◌, map, slice_get, Some, if◌then◌else◌}
use Rattle.std.specs.Borrow.{Bor}
use Rattle.std.specs.declared.cmp.Ordering.{Ordering}
use Rattle.std.specs.Ordering.{nat_cmp}
use Rattle.std.specs.Cmp.Lexicographic.{slice_cmp}
use Rattle.std.specs.List.{flat_map}
use Rattle.std.specs.Set.{is_member}
use Rattle.std.specs.Str.{bytes_eq}
use Rattle.lvish_facts.specs.declared.node.Node.{Node}

-- a name, by its bytes
abbrev pub Word : Type 0
Word = List ℕ

-- the names that are referred to
abbrev pub names_in : List (Bor (List ℕ)) → List Word
names_in refs = map (λ ref. ref.now) refs

-- names by their bytes
abbrev pub by_bytes : Bor (List ℕ) → Bor (List ℕ) → Ordering
by_bytes a b = slice_cmp nat_cmp a.now b.now

-- the name has this node's number
abbrev pub IsNamed : List Word → Node → Word → Type 0
IsNamed names n name = slice_get names n.number ≡ Some name

-- no two nodes have one name
abbrev pub IsEachOnce : List Word → Type 0
IsEachOnce names = (i j : ℕ) (name : Word) → slice_get names i ≡ Some name → slice_get names j ≡ Some name → i ≡ j

-- with the name behind the others, unless it is among them
abbrev pub with_name : List Word → Word → List Word
with_name names name = if is_member bytes_eq names name then names else names ++ name ∷ []

-- the name is there or comes last, and the node has its number
pub record IsNumbered (old new : List Word) (name : Word) (n : Node) : Type 0 where
  pub grown : new ≡ with_name old name
  pub named : IsNamed new n name
  pub kept : (m : Node) (w : Word) → IsNamed old m w → IsNamed new m w
  pub once : IsEachOnce new

-- the names, each on a line of its own
abbrev pub lines_with : List Word → List ℕ
lines_with names = flat_map (λ name. name ++ 10 ∷ []) names
