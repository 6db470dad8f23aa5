-- An earlier step on which an error rests, in words.
use Rattle.std.specs.Prelude.{ℕ, List, [], ◌∷◌, ◌++◌, codes}
use Rattle.std.specs.Fmt.{decimal}
use Rattle.lvish_outcome.specs.declared.earlier.Earlier.{Earlier}
use Rattle.lvish_outcome.specs.declared.earlier.Earlier.TheVariants.{Nothing, Put, Froze}
use Rattle.lvish_outcome.specs.Standing.{task_text}

-- its line, if there is one
abbrev pub earlier_text : Earlier → List ℕ
earlier_text Nothing = []
earlier_text (Put t line step) = codes "there: " ++ (task_text t.now ++ (codes " put it at line " ++ (decimal line ++ (codes ", in step " ++ (decimal step ++ 10 ∷ [])))))
earlier_text (Froze t line step) = codes "frozen: " ++ (task_text t.now ++ (codes " did it at line " ++ (decimal line ++ (codes ", in step " ++ (decimal step ++ 10 ∷ [])))))
