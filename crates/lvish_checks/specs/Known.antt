-- What sets of names and tables know of lines.
use Rattle.std.specs.Prelude.{◌≡◌, ℕ, List, length}
use Rattle.std.specs.Borrow.{Bor}
use Rattle.std.specs.Option.{option_map}
use Rattle.lvish_checks.specs.Vocabulary.{Word, VariableKind, Declaration, Line}
use Rattle.lvish_syntax.specs.Name.{has_name}
use Rattle.lvish_syntax.specs.Sound.{kind_of, variable_of}
use Rattle.lvish_checks.specs.Table.{value_at}
use Rattle.lvish_checks.specs.Checks.{has_variable, has_pool, has_procedure, parameters_of}

-- both have the same names
abbrev pub HaveSameNames : List Word → List Word → Type 0
HaveSameNames xs ys = (q : Word) → has_name q xs ≡ has_name q ys

-- the names are those of the variables, the pools or the procedures that the lines declare
abbrev pub AreVariables : List Word → List Line → Type 0
AreVariables names lines = (q : Word) → has_name q names ≡ has_variable q lines

abbrev pub ArePools : List Word → List Line → Type 0
ArePools names lines = (q : Word) → has_name q names ≡ has_pool q lines

abbrev pub AreProcedures : List Word → List Line → Type 0
AreProcedures names lines = (q : Word) → has_name q names ≡ has_procedure q lines

-- the counts are those of the parameters of the procedures that the lines declare
abbrev pub AreArities : List (Word × ℕ) → List Line → Type 0
AreArities counts lines = (q : Word) → value_at q counts ≡ option_map length (parameters_of q lines)

-- the kinds are those of the variables that are declared
abbrev pub AreKinds : List (Word × VariableKind) → List Declaration → Type 0
AreKinds kinds ds = (q : Word) → value_at q kinds ≡ kind_of q ds

-- the variables are those of the pools that are declared
abbrev pub AreOfPools : List (Word × Bor Word) → List Declaration → Type 0
AreOfPools variables ds = (q : Word) → option_map (λ v. v.now) (value_at q variables) ≡ variable_of q ds
