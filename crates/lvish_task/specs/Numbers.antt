-- The numbers that values are kept as.
use Rattle.std.specs.Prelude.{ℤ, List}
use Rattle.lvish_task.specs.declared.values.Numbers.{Numbers}
use Rattle.lvish_task.specs.declared.values.Numbers.TheVariants as numbers

-- the numbers in order
abbrev pub numbers_in : Numbers → List ℤ
numbers_in (numbers.Few ns) = ns
numbers_in (numbers.Many ns) = ns.items
numbers_in (numbers.Shared ns) = ns
