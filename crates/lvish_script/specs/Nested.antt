-- A script that is being put together from its lines.
use Rattle.std.specs.Prelude.{◌≡◌, false, List, [], ◌∷◌, ◌++◌, map, reverse, Option, Some, None}
use Rattle.std.specs.List.{flat_map}
use Rattle.lvish_script.specs.Vocabulary.{Procedure, Line, Opener, InProcedure, InIf, InElse, InWhile}
use Rattle.lvish_syntax.specs.Nested.{statements}
use Rattle.lvish_checks.specs.declared.line.Line.TheVariants as line
use Rattle.lvish_script.specs.declared.open.OpenBlock.{OpenBlock}
use Rattle.lvish_script.specs.declared.open.OpenBlock.TheVariants.{If, Else, While}
use Rattle.lvish_script.specs.declared.nest.OpenProcedure.{OpenProcedure}
use Rattle.lvish_script.specs.declared.nest.Draft.{Draft}
use Rattle.lvish_checks.specs.Checks.{is_misplaced}
use Rattle.lvish_script.specs.Spells.{body_lines, procedure_lines}

-- the lines of an open block as far as they were read
abbrev pub block_lines : OpenBlock → List Line
block_lines (If t a) = line.If t ∷ body_lines (statements a)
block_lines (Else t a b) = line.If t ∷ (body_lines (statements a) ++ line.Else ∷ body_lines (statements b))
block_lines (While t a) = line.While t ∷ body_lines (statements a)

-- the lines of a procedure with its open blocks, the innermost last
abbrev pub opened_lines : OpenProcedure → List Line
opened_lines o = (line.Proc o.procedure.name o.procedure.parameters ∷ body_lines (statements o.procedure.body)) ++ flat_map block_lines o.blocks.items

abbrev pub open_lines : Option OpenProcedure → List Line
open_lines None = []
open_lines (Some o) = opened_lines o

-- the lines of a draft
abbrev pub draft_lines : Draft → List Line
draft_lines d = map (λ e. line.Declare e) d.declarations.items ++ (flat_map procedure_lines d.procedures.items ++ open_lines d.opened)

abbrev pub opener : OpenBlock → Opener
opener (If t a) = InIf
opener (Else t a b) = InElse
opener (While t a) = InWhile

-- what is open in a draft, the innermost first
abbrev pub openers : Option OpenProcedure → List Opener
openers None = []
openers (Some o) = reverse (map opener o.blocks.items) ++ InProcedure ∷ []

-- no procedure was begun
abbrev pub HasNone : List Procedure → Option OpenProcedure → Type 0
HasNone ps o = (ps ≡ []) × (o ≡ None)

-- what a line gives the lines of a draft
abbrev pub what_is_said : Line → List Line
what_is_said line.Blank = []
what_is_said line.Version = []
what_is_said l = l ∷ []

-- whether a draft can take the line next
abbrev pub TakesLine : List Procedure → Option OpenProcedure → Line → Type 0
TakesLine ps o line.Bad = ⊥
TakesLine ps o (line.Declare e) = HasNone ps o
TakesLine ps o l = is_misplaced (openers o) l ≡ false
