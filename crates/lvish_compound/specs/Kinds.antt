-- The kinds of a script's variables: their `==` and their order, by laws of all enums without fields.
use Rattle.std.specs.Prelude.{ℕ, Bool}
use Rattle.std.specs.Cmp.Derive.{of_values, points}
use Rattle.lvish_compound.specs.Vocabulary.{Ordering, Less, Equal, Greater, Kind}
use denote.Enum.Bare.{sameb}
use Rattle.lvish_compound.specs.contracts.kind.Kind.{the_type, enum}
use Rattle.lvish_compound.specs.declared.kind.Kind.TheVariants.{Cell, Set, Max, Map, Tally}

-- the place of a kind in the order of kinds
abbrev pub rank : Kind → ℕ
rank Cell = 0
rank Set = 1
rank Max = 2
rank Map = 3
rank Tally = 4

-- `==` of kinds
abbrev pub same_kind : Kind → Kind → Bool
same_kind = sameb the_type

-- `cmp` of kinds
abbrev pub kind_cmp : Kind → Kind → Ordering
kind_cmp = of_values enum Less Greater (points Equal enum.parts)
