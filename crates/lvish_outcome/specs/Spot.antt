-- How the variable is called of which something is told.
use Rattle.std.specs.Prelude.{ℕ, ℤ, List, [], ◌++◌, codes, Option, Some, None}
use Rattle.std.specs.Fmt.{signed_decimal}
use Rattle.lvish_syntax.specs.declared.kind.SimpleKind.TheVariants.{Cell, Set, Max}
use Rattle.lvish_syntax.specs.declared.kind.VariableKind.{VariableKind}
use Rattle.lvish_syntax.specs.declared.kind.VariableKind.TheVariants.{Simple, Map, Pair, Tally}
use Rattle.lvish_outcome.specs.declared.spot.Spot.{Spot}

-- what a variable of a kind is called
abbrev pub kind_word : VariableKind → List ℕ
kind_word (Simple Cell) = codes "cell"
kind_word (Simple Set) = codes "set"
kind_word (Simple Max) = codes "counter"
kind_word Map = codes "map"
kind_word (Pair a b) = codes "pair"
kind_word Tally = codes "tally"

-- the key, or the side
abbrev pub at_text : VariableKind → Option ℤ → List ℕ
at_text k None = []
at_text (Pair a b) (Some n) = codes " on side " ++ signed_decimal n
at_text k (Some n) = codes " at key " ++ signed_decimal n

abbrev pub spot_text : Spot → List ℕ
spot_text s = codes "the " ++ (kind_word s.kind ++ (codes " `" ++ (s.variable.now ++ (codes "`" ++ at_text s.kind s.at))))
