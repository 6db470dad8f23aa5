-- A table, and what it stands for.
use Rattle.std.specs.Prelude.{ℕ, false, List, [], ◌∷◌}
use Rattle.lvish_calculus.specs.declared.label.Label.{Label}
use Rattle.lvish_calculus.specs.declared.label.Label.TheVariants.{Act, Hand}
use Rattle.lvish_calculus.specs.Calculus.{Live, State}
use Rattle.lvish_names.specs.Names.{main, handed}
use Rattle.lvish_calculus.specs.Examples.{Set, HandingAt, freezing, copying, over_sets, handing, copier, set_of_one, union}
use Rattle.lvish_picture.specs.Picture.{Table, table_picture}

-- main added the handler that copies from s to out, and put 3 and then 1 into s; the handler was handed 3
abbrev pub halfway : Table Set ℕ HandingAt
halfway = record {
  variables =
      record { state = union (set_of_one 3) (set_of_one 1); frozen = false; log = record { event = 3; task = main; number = 1 } ∷ record { event = 1; task = main; number = 2 } ∷ [] }
      ∷ record { state = record { has_zero = false; has_one = false; has_three = false }; frozen = false; log = [] }
      ∷ [];
  handlers =
      record { held = record { name = copier; pool = 0; procedure = 0; handed = 1 } ∷ []; running = 1 ∷ [] }
      ∷ record { held = []; running = 0 ∷ [] }
      ∷ [];
  tasks = (main, Live freezing 0 1 2) ∷ (handed main 1 3, Live (copying 3) 0 0 0) ∷ [];
}

abbrev pub halfway_picture : State Set ℕ HandingAt
halfway_picture = table_picture (over_sets handing) halfway

-- main adds, puts and puts, and the handler is handed 3
abbrev pub halfway_run : List (Label ℕ)
halfway_run = Act main ∷ Act main ∷ Act main ∷ Hand copier 3 ∷ []
