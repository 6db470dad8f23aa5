-- What is stored of entries, and what their iterator has left: at most one entry, or those of a tree.
use Rattle.std.specs.Prelude.{List, [], ◌∷◌, Option, Some, None, option_map}
use Rattle.std.specs.Map.Iter.{deref_pair}
use Rattle.lvish_compound.specs.declared.entries.Stored.{Stored}
use Rattle.lvish_compound.specs.declared.entries.Stored.TheVariants as stored
use Rattle.lvish_compound.specs.declared.entry_iter.Rest.{Rest}
use Rattle.lvish_compound.specs.declared.entry_iter.Rest.TheVariants as rest

-- at most one item
abbrev pub few : {X : Type 0} → Option X → List X
few None = []
few (Some x) = x ∷ []

module _ {K L : Type 0} where
  -- the entries in the order of their keys
  abbrev pub entries : Stored K L → List (K × L)
  entries (stored.Few held) = few held
  entries (stored.Tree tree) = tree

  -- those that are left
  abbrev pub left : Rest K L → List (K × L)
  left (rest.Few held) = few (option_map deref_pair held)
  left (rest.Tree entries) = entries
