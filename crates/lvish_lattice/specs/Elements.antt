-- What is stored of a set, and what its iterator has left: at most one element, or those of a row or of a tree.
use Rattle.std.specs.Prelude.{◌≡◌, ◌-◌, Bool, true, false, List, [], ◌∷◌, Option, Some, None, MatchOption, ⊤, length, slice_get}
use Rattle.std.specs.declared.cmp.Ordering.{Ordering}
use Rattle.std.specs.declared.cmp.Ordering.TheVariants.{Less}
use Rattle.std.specs.Option.{option_copied}
use Rattle.std.specs.Ordering.{eq_by_cmp}
use Rattle.std.specs.Set.{is_member}
use Rattle.std.specs.Slice.Iter.{iter_rest}
use Rattle.lvish_lattice.specs.declared.elements.Stored.{Stored}
use Rattle.lvish_lattice.specs.declared.elements.Stored.TheVariants as stored
use Rattle.lvish_lattice.specs.declared.set_iter.Rest.{Rest}
use Rattle.lvish_lattice.specs.declared.set_iter.Rest.TheVariants as rest

module _ {V : Type 0} where
  -- at most one element
  abbrev pub few : Option V → List V
  few None = []
  few (Some x) = x ∷ []

  -- the elements in their order
  abbrev pub elements : Stored V → List V
  elements stored.Nothing = []
  elements (stored.One x) = x ∷ []
  elements (stored.Row row) = row
  elements (stored.Tree tree) = tree.value.keys

  -- those that are left
  abbrev pub left : Rest V → List V
  left (rest.Few held) = few (option_copied held)
  left (rest.Row items) = iter_rest items
  left (rest.Tree keys) = keys

  -- the last element, if there is one, is below x
  abbrev pub EndsBelow : (V → V → Ordering) → V → List V → Type 0
  EndsBelow cmp x xs = MatchOption (slice_get xs (length xs - 1)) ⊤ (λ last. cmp last x ≡ Less)

  -- all elements are below the first of these values
  abbrev pub GoesOn : (V → V → Ordering) → List V → List V → Type 0
  GoesOn cmp values xs = MatchOption (slice_get values 0) ⊤ (λ first. EndsBelow cmp first xs)

  -- whether an element ties with x
  abbrev pub has : (V → V → Ordering) → List V → V → Bool
  has cmp = is_member (eq_by_cmp cmp)

  -- no element is in both lists
  abbrev pub AreApart : (V → V → Ordering) → List V → List V → Type 0
  AreApart cmp xs ys = (q : V) → has cmp ys q ≡ true → has cmp xs q ≡ false
