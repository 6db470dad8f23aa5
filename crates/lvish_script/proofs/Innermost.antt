-- The innermost of the open blocks.
use Rattle.std.proofs.Common.{◌≡◌, true, List, [], ◌∷◌, ◌++◌, map, reverse, refl, ap, ◌∙◌}
use Rattle.std.proofs.lemmas.List.{map-append, reverse-append}
use Rattle.lvish_script.specs.Vocabulary.{Opener, InProcedure, InIf}
use Rattle.lvish_checks.specs.Checks.{takes_else}
use Rattle.lvish_script.specs.declared.open.OpenBlock.{OpenBlock}
use Rattle.lvish_script.specs.Nested.{opener}

-- its opener comes before the others
pub innermost_first : (bs : List OpenBlock) (b : OpenBlock) → reverse (map opener (bs ++ b ∷ [])) ++ InProcedure ∷ [] ≡ opener b ∷ (reverse (map opener bs) ++ InProcedure ∷ [])
innermost_first bs b = ap (λ os. reverse os ++ InProcedure ∷ []) (map-append opener bs (b ∷ [])) ∙ ap (λ os. os ++ InProcedure ∷ []) (reverse-append (map opener bs) (opener b ∷ []))

-- only an `if` before its `else` takes one
pub takes_else_if : (o : Opener) (os : List Opener) → takes_else (o ∷ os) ≡ true → o ≡ InIf
takes_else_if InIf os e = refl
takes_else_if o os e = absurd cc
