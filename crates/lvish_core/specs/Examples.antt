-- A core, and what its log says of the run that led to it.
use Rattle.std.specs.Prelude.{ℕ, List, [], ◌∷◌, None}
use Rattle.lvish_core.specs.Vocabulary.{Entry}
use Rattle.lvish_calculus.specs.Examples.{Set, HandingAt}
use Rattle.lvish_names.specs.Names.{main}
use Rattle.lvish_picture.specs.Examples.{halfway}
use Rattle.lvish_core.specs.Core.{CoreView}

-- main added the handler that copies from s to out, and put 3 and then 1 into s; the handler was handed 3
abbrev pub halfway_core : CoreView (Unit {0}) Set ℕ HandingAt
halfway_core = record { program = tt; table = halfway; steps = 4; fault = None; touched = None; freezes = [] }

-- main's first put brought 3
abbrev pub three : Entry ℕ
three = record { event = 3; task = main; number = 1 }

-- and its second 1
abbrev pub one : Entry ℕ
one = record { event = 1; task = main; number = 2 }

-- the log of s
abbrev pub both : List (Entry ℕ)
both = three ∷ one ∷ []
