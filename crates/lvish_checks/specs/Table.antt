-- The value that a table has at a name.
use Rattle.std.specs.Prelude.{List, [], ◌∷◌, Option, None, Some, if◌then◌else◌}
use Rattle.std.specs.Str.{bytes_eq}
use Rattle.lvish_syntax.specs.Words.{Word}

abbrev pub value_at : {V : Type 0} → Word → List (Word × V) → Option V
value_at q [] = None
value_at q (e ∷ es) = if bytes_eq e.0 q then Some e.1 else value_at q es
