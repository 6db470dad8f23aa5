-- The kinds of a script's variables, as its code has them.
use Rattle.std.proofs.Common.{◌≡◌, suc, List, [], ◌∷◌, length, refl, ap}
use Rattle.lvish_syntax.specs.declared.declaration.Declaration.{Declaration}
use Rattle.lvish_syntax.specs.declared.declaration.Declaration.TheVariants.{Variable, Pool}
use Rattle.lvish_code.specs.Compile.{variable_kinds}
use Rattle.lvish_report.specs.Text.{variables_of}

-- as many kinds as variables
pub kinds_count : (ds : List Declaration) → length (variable_kinds ds) ≡ length (variables_of ds)
kinds_count [] = refl
kinds_count (Variable n k ∷ ds) = ap suc (kinds_count ds)
kinds_count (Pool p v ∷ ds) = kinds_count ds
