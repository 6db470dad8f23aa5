-- Picks, as texts have them.
use Rattle.std.specs.Prelude.{ℕ, List, ◌++◌, codes, flat_map}
use Rattle.std.specs.Fmt.{decimal}

-- a pick behind a space
abbrev pub pick_text : ℕ → List ℕ
pick_text n = codes " " ++ decimal n

-- picks, each behind a space
abbrev pub picks_text : List ℕ → List ℕ
picks_text picks = flat_map pick_text picks
