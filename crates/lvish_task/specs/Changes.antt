-- Numbers of which a few have other values than in the list that copies share.
use Rattle.std.specs.Prelude.{ℤ, List, [], ◌∷◌}
use Rattle.std.specs.List.{slice_set}
use Rattle.lvish_task.specs.declared.shared_numbers.Change.{Change}

-- the numbers after changes, one after the other
abbrev pub changed : List ℤ → List Change → List ℤ
changed numbers [] = numbers
changed numbers (c ∷ more) = changed (slice_set numbers c.local c.value) more
