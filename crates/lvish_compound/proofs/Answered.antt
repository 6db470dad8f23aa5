-- The answers of a read where the state is of another kind.
use Rattle.std.proofs.Common.{◌≡◌, ℤ, List, [], ◌∷◌, None, find, refl}
use Rattle.std.specs.Ordering.{int_eq}
use Rattle.std.specs.Set.{is_member}
use Rattle.lvish_compound.specs.declared.kind.Kind.TheVariants as kind
use Rattle.lvish_compound.specs.Vocabulary.{Test, Part, Empty, Cell, Set, Max}
use Rattle.lvish_compound.specs.declared.number_test.Test.TheVariants.{Any, In, At}
use Rattle.lvish_compound.specs.Numbers.{first_that}
use Rattle.lvish_compound.specs.StateReads.{part_answer}

none_found : (xs : List ℤ) → None ≡ find (is_member int_eq []) xs
none_found [] = refl
none_found (x ∷ xs) = none_found xs

none_held : (t : Test) → None ≡ first_that (is_member int_eq []) t
none_held Any = refl
none_held (In xs) = none_found xs
none_held (At n) = refl

-- no element is in what isn't a set
pub none_in : (t : Test) (s : Part) → ((x : _) → s ≡ Set x → ⊥) → None ≡ part_answer kind.Set t s
none_in t Empty h = none_held t
none_in t (Cell n) h = none_held t
none_in t (Set x) h = absurd (h x refl)
none_in t (Max x) h = none_held t
