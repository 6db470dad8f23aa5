-- Names and their numbers.
use Rattle.std.specs.Prelude.{ℕ, List, [], ◌∷◌, ◌++◌, if◌then◌else◌}
use Rattle.std.specs.List.{fold, position_or_len}
use Rattle.std.specs.Str.{bytes_eq}
use Rattle.lvish_syntax.specs.Words.{Word}
use Rattle.lvish_syntax.specs.Name.{has_name}

-- the number of a name among names, from 0: where it stands first, and the length where it doesn't stand
abbrev pub name_number : List Word → Word → ℕ
name_number names x = position_or_len (λ y. bytes_eq y x) names

-- names, and one more where it isn't among them
abbrev pub with_name : List Word → Word → List Word
with_name names x = if has_name x names then names else names ++ x ∷ []

-- names in order, each only where it stands first
abbrev pub each_once : List Word → List Word
each_once names = fold with_name [] names
