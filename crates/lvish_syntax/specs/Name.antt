-- Names among names, and terms among locals.
use Rattle.std.specs.Prelude.{Bool, true, false, ◌||◌, List, [], ◌∷◌}
use Rattle.std.specs.List.{list_any}
use Rattle.std.specs.Str.{bytes_eq}
use Rattle.lvish_syntax.specs.Syntax.{Word, Term, Local, Number}

-- whether a name is among names
abbrev pub has_name : Word → List Word → Bool
has_name x names = list_any (λ y. bytes_eq y x) names

-- whether a name stands twice
abbrev pub has_repeat : List Word → Bool
has_repeat [] = false
has_repeat (x ∷ xs) = has_name x xs || has_repeat xs

-- whether a term is a number, or one of these locals
abbrev pub is_known : List Word → Term → Bool
is_known locals (Local x) = has_name x locals
is_known locals (Number z) = true
